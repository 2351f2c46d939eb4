-- Each call of a snapshot keeps its pairs counted.
use Rattle.std.proofs.Common.{◌≡◌, ℕ, ◌+◌, ◌*◌, ◌<◌, ◌≤◌, Bool, true, false, List, [], ◌∷◌, ◌++◌, length, map, take, drop, set, Option, refl, sym, ◌∙◌, ap, subst, arith, inl, inr, eq-eqb}
use Rattle.std.specs.Prelude.{◌==◌, ◌-◌}
use Rattle.std.proofs.lemmas.Bool.{cases_eq, false≢true}
use Rattle.std.proofs.lemmas.List.{length-append, length-map, length-take-le}
use Rattle.sector.specs.declared.pair.Pair.{Pair}
use Rattle.device.specs.Layers.{Layer}
use Rattle.cow_format.specs.NextPlace.{stepped}
use Rattle.in_flight.specs.Copies.{pair_of}
use Rattle.in_flight.proofs.Batches.{batch_few}
use Rattle.in_flight.specs.declared.copies.ChunkCopy.{ChunkCopy}
use Rattle.in_flight.specs.declared.copies.Mark.{Mark}
use Rattle.store.specs.Stored.{after_commit}
use Rattle.store.specs.declared.state.State.{State}
use Rattle.volume_laws.specs.Steps.{mark_of}
use Rattle.snapshot.specs.Calls.{StartsAt}
use Rattle.snapshot.specs.Kept.{Kept, batch_of, spare_after}
use Rattle.volume.specs.Whole.{IsCounted}
use Rattle.volume.proofs.MovedLists.{if_true, if_false}
use Rattle.volume.proofs.MovedDue.{unequal}
use Rattle.volume.proofs.MovedSnaps.{spoilt}

-- a snapshot whose store is in the same state
pub counted_same : {B : Type 0} (s s' : Kept B) → IsCounted s → s'.state ≡ s.state → s'.pairs ≡ s.pairs → s'.live ≡ s.live → (s.copies ≡ [] → s'.copies ≡ []) → IsCounted s'
counted_same s s' c state pairs live idle = record {
  some = subst (λ (x : State). 0 < x.chunk) (sym state) c.some;
  count = ap length pairs ∙ c.count ∙ ap (λ (x : State). x.current * (32 * x.chunk) + x.filled) (sym state);
  fits = λ is. subst (λ (x : State). x.filled < 32 * x.chunk) (sym state) (c.fits (sym live ∙ is));
  idle = λ is. idle (c.idle (sym live ∙ is));
}

set_none : (xs : List ChunkCopy) (j : ℕ) (q : ChunkCopy) → xs ≡ [] → set xs j q ≡ []
set_none xs j q e = ap (λ ys. set ys j q) e

next_full : (a n f k count : ℕ) → f + count ≡ n → k ≡ a * n + f → k + count ≡ (a + 1) * n + 0
next_full a n f k count full is = omega (arith, is, full)

next_part : (a n f k count : ℕ) → k ≡ a * n + f → k + count ≡ a * n + (f + count)
next_part a n f k count is = omega (arith, is)

module _ {B : Type 0} (s : Kept B) (c : IsCounted s) where
  pub counted_device : (d : B) → IsCounted (record s { device = d })
  counted_device d = counted_same s (record s { device = d }) c refl refl refl (λ e. e)

  pub counted_copies : (d : B) (j : ℕ) (q : ChunkCopy) → IsCounted (record s { device = d; copies = set s.copies j q })
  counted_copies d j q = counted_same s (record s { device = d; copies = set s.copies j q }) c refl refl refl (set_none s.copies j q)

  pub counted_zeroed : (d : B) → IsCounted (record s { device = d; state = record s.state { zeroed = true; firm = false } })
  counted_zeroed d = record { some = c.some; count = c.count; fits = c.fits; idle = c.idle }

  pub counted_marks : (ms : List Mark) (merging : Option ℕ) → IsCounted (record s { marks = ms; merging = merging })
  counted_marks ms merging = counted_same s (record s { marks = ms; merging = merging }) c refl refl refl (λ e. e)

  -- its mark is written, and tried
  pub counted_marked : (d : B) → IsCounted (record s { device = d; marked = true; state = record s.state { valid = false } })
  counted_marked d = record { some = c.some; count = c.count; fits = c.fits; idle = c.idle }

  pub counted_tried : (d : B) (stale : Bool) → IsCounted (record s { device = d; untried = false; stale = stale })
  counted_tried d stale = counted_same s (record s { device = d; untried = false; stale = stale }) c refl refl refl (λ e. e)

  -- its store is flushed
  pub counted_flushed : (d : B) (firm : Bool) (sure : ℕ) (copies : List ChunkCopy) (marks : List Mark) → (s.copies ≡ [] → copies ≡ []) → IsCounted (record s { device = d; state = record s.state { firm = firm; sure = sure }; copies = copies; marks = marks })
  counted_flushed d firm sure copies marks idle = record { some = c.some; count = c.count; fits = c.fits; idle = λ e. idle (c.idle e) }

  pub counted_spoilt : IsCounted (spoilt s)
  counted_spoilt = record { some = c.some; count = c.count; fits = λ e. absurd (false≢true e); idle = λ e. refl }

  -- a copy starts in a live one
  pub counted_started : s.live ≡ true → (next room : ℕ) (begun : List Pair) (copies : List ChunkCopy) → IsCounted (record s { next = next; begun = begun; copies = copies; room = room })
  counted_started live next room begun copies = record { some = c.some; count = c.count; fits = c.fits; idle = λ e. absurd (false≢true (sym e ∙ live)) }

  -- so many pairs are committed in a live one
  pub counted_committed : s.live ≡ true → (d : B) (begun : List Pair) (copies : List ChunkCopy) (marks : List Mark) (spare : Bool) (count : ℕ) (pairs : List Pair) → length pairs ≡ count → s.state.filled + count ≤ 32 * s.state.chunk
      → IsCounted (record s { device = d; state = after_commit s.state count; pairs = s.pairs ++ pairs; begun = begun; copies = copies; marks = marks; spare = spare })
  counted_committed live d begun copies marks spare count pairs many room =
      let len : length (s.pairs ++ pairs) ≡ length s.pairs + count = length-append s.pairs pairs ∙ ap (λ n. length s.pairs + n) many in
      let gone : s.live ≡ false → copies ≡ [] = λ e. absurd (false≢true (sym e ∙ live)) in
      elim (cases_eq (s.state.filled + count) (32 * s.state.chunk)) [
        | inl full ↦
            (let t : State = record s.state { current = s.state.current + 1; filled = 0; zeroed = false; firm = false } in
            let at : after_commit s.state count ≡ t = if_true (s.state.filled + count == 32 * s.state.chunk) t (record s.state { filled = s.state.filled + count }) (eq-eqb (s.state.filled + count) (32 * s.state.chunk) full) in
            subst (λ (x : State). IsCounted (record s { device = d; state = x; pairs = s.pairs ++ pairs; begun = begun; copies = copies; marks = marks; spare = spare })) (sym at)
            (record { some = c.some; count = len ∙ next_full s.state.current (32 * s.state.chunk) s.state.filled (length s.pairs) count full c.count; fits = λ e. omega (arith, c.some); idle = gone }))
        | inr other ↦
            (let t : State = record s.state { filled = s.state.filled + count } in
            let at : after_commit s.state count ≡ t = if_false (s.state.filled + count == 32 * s.state.chunk) (record s.state { current = s.state.current + 1; filled = 0; zeroed = false; firm = false }) t (unequal (s.state.filled + count) (32 * s.state.chunk) other) in
            subst (λ (x : State). IsCounted (record s { device = d; state = x; pairs = s.pairs ++ pairs; begun = begun; copies = copies; marks = marks; spare = spare })) (sym at)
            (record { some = c.some; count = len ∙ next_part s.state.current (32 * s.state.chunk) s.state.filled (length s.pairs) count c.count; fits = λ e. omega (arith, room, other); idle = gone }))
      ]

  -- of its first copies
  pub counted_first : s.live ≡ true → (d : B) (count : ℕ) → count ≡ batch_of s.state s.copies → s.begun ≡ map pair_of s.copies
      → IsCounted (record s { device = d; state = after_commit s.state count; pairs = s.pairs ++ take count s.begun; begun = drop count s.begun; copies = drop count s.copies; marks = s.marks ++ map mark_of (take count s.copies); spare = spare_after count s })
  counted_first live d count is begun =
      let few = batch_few (32 * s.state.chunk - s.state.filled) s.copies in
      let below = c.fits live in
      let within : count ≤ length s.begun = omega (arith, is, few, ap length begun, length-map s.copies pair_of) in
      counted_committed live d (drop count s.begun) (drop count s.copies) (s.marks ++ map mark_of (take count s.copies)) (spare_after count s) count (take count s.begun) (length-take-le count s.begun within) (omega (arith, is, below))

-- a copy was started in a live one
pub counted_begun : {B : Type 0} (contents : B → List ℕ) (layers : B → List Layer) (s t : Kept B) (p : ChunkCopy) → s.live ≡ true → StartsAt contents layers p s t → IsCounted s → IsCounted t
counted_begun contents layers s t p live at counts = subst IsCounted (sym at.fields) (counted_started s counts live (stepped s.state.chunk (s.next + 1)) (s.room - 1) (s.begun ++ p.pair ∷ []) (s.copies ++ p ∷ []))
