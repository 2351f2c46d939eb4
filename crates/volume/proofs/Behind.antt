-- A mark is taken away: what a merge waits for then in its snapshot, where that lacks it, is not before the chunk that was published.
use Rattle.std.proofs.Common.{◌≡◌, ◌≢◌, inl, inr, ℕ, ◌+◌, ◌*◌, ◌/◌, ◌<◌, ◌≤◌, Bool, true, false, List, length, get_or, set, Option, Some, None, refl, sym, ◌∙◌, ap, subst, arith, nat_eq}
use Rattle.std.specs.Prelude.{◌&&◌, not}
use Rattle.std.specs.List.{remove, list_any}
use Rattle.std.specs.Option.{is_some, unwrap_or}
use Rattle.std.proofs.lemmas.Bool.{cases_eq, cases_lt, eqb-true, false≢true}
use Rattle.std.proofs.lemmas.List.{length-set, get_or-set_same}
use Rattle.std.proofs.lemmas.List.Folds.{Any-from_list_any, list_any-from_Any}
use Rattle.cow_format.specs.Picture.{place_of}
use Rattle.chunk.specs.Pieces.{touched, chunks_over}
use Rattle.device.specs.Layers.{Layer}
use Rattle.in_flight.specs.Copies.{count_of}
use Rattle.in_flight.specs.declared.copies.Mark.{Mark}
use Rattle.in_flight.specs.declared.flights.Flight.{Flight}
use Rattle.sector.specs.declared.pair.Pair.{Pair}
use Rattle.volume_laws.specs.Published.{is_published, unpublished_in}
use Rattle.volume_laws.proofs.Due.{first_none}
use Rattle.volume_laws.proofs.Lists.{Any-remove}
use Rattle.volume_laws.proofs.Nexts.{next_unpublished, span, touched_one}
use Rattle.snapshot.specs.Kept.{Kept, books_of as snap_books, unpublished}
use Rattle.snapshot_list.specs.Starting.{lacks_chunk, next_chunk_of}
use Rattle.snapshot_list.specs.MergeStarting.{GoesOnBehind, LacksBehind, next_for}
use Rattle.snapshot_list.proofs.Sought.{first_of_run}
use Rattle.merge.specs.Lists.{next_of_group}
use Rattle.merge.specs.Merging.{Merging}
use Rattle.volume.specs.Volumed.{Volumed}
use Rattle.volume.specs.Whole.{IsWhole}
use Rattle.volume.proofs.AgainEvents.{IsUnmarked}
use Rattle.volume.proofs.Filled.{has_next, others_have}
use Rattle.volume.proofs.NextPublished.{room}

-- a chunk that is lacking has no place
no_place : (live placed copied : Bool) → ((live && not placed) && not copied) ≡ true → placed ≡ false
no_place live false copied e = refl
no_place true true copied e = absurd (false≢true e)
no_place false true copied e = absurd (false≢true e)

unplaced : (placed marked : Bool) → placed ≡ false → (placed && not marked) ≡ false
unplaced placed marked e = ap (λ b. b && not marked) e

-- of two lists of marks, one without a mark that the other has: where they tell otherwise of a chunk, the mark is that chunk's
mark_of_chunk : (pairs : List Pair) (marks : List Mark) (j : ℕ) (m : Mark) (c : ℕ) → j < length marks → m ≡ get_or marks j m → is_published pairs marks c ≡ false → is_published pairs (remove marks j) c ≡ true → m.chunk ≡ c
mark_of_chunk pairs marks j m c within is before after = elim (cases_eq m.chunk c) [
  | inl same ↦ same
  | inr other ↦ absurd (both (is_some (place_of pairs c)) (list_any (λ x. nat_eq x.chunk c) marks) (list_any (λ x. nat_eq x.chunk c) (remove marks j)) (stays other) before after)
]
  where
    stays : m.chunk ≢ c → list_any (λ (x : Mark). nat_eq x.chunk c) marks ≡ true → list_any (λ (x : Mark). nat_eq x.chunk c) (remove marks j) ≡ true
    stays other some =
        list_any-from_Any (λ (x : Mark). nat_eq x.chunk c) (remove marks j) (Any-remove (λ (x : Mark). nat_eq x.chunk c ≡ true) marks j m within is (λ e. other (eqb-true m.chunk c e)) (Any-from_list_any (λ (x : Mark). nat_eq x.chunk c) marks some))

    both : (placed marked left : Bool) → (marked ≡ true → left ≡ true) → (placed && not marked) ≡ false → (placed && not left) ≡ true → ⊥
    both false marked left h before after = false≢true after
    both true false left h before after = false≢true (sym before)
    both true true left h before after = false≢true (sym (ap not (h refl)) ∙ after)

module _ {B : Type 0} (contents : B → List ℕ) (layers : B → List Layer) (first count j : ℕ) (s : Kept B) (m : Mark) (merging : Option ℕ) (some : 0 < s.state.chunk) (full : 0 < count) (within : j < length s.marks) (is : m ≡ get_or s.marks j m)
    (has : lacks_chunk (next_chunk_of first count s) s ≡ false) where
  abbrev u : Kept B
  u = record s { marks = remove s.marks j; merging = merging }

  abbrev low : ℕ
  low = first / s.state.chunk

  abbrev many : ℕ
  many = touched s.state.chunk (span first count)

  abbrev before : ℕ → Bool
  before c = not (is_published s.pairs s.marks c)

  abbrev after : ℕ → Bool
  after c = not (is_published s.pairs (remove s.marks j) c)

  behind : LacksBehind m.chunk first count u
  behind lacking =
      let c : ℕ = next_chunk_of first count u in
      let missing = no_place s.live (is_some (place_of s.pairs (next_chunk_of first count u))) (list_any (λ p. nat_eq p.pair.old (next_chunk_of first count u)) s.copies) lacking in
      let now : is_published s.pairs (remove s.marks j) (next_chunk_of first count u) ≡ false = unplaced (is_some (place_of s.pairs (next_chunk_of first count u))) (list_any (λ x. nat_eq x.chunk (next_chunk_of first count u)) (remove s.marks j)) missing in
      let then : is_published s.pairs s.marks (next_chunk_of first count u) ≡ false = unplaced (is_some (place_of s.pairs (next_chunk_of first count u))) (list_any (λ x. nat_eq x.chunk (next_chunk_of first count u)) s.marks) missing in
      let found = next_unpublished first count (snap_books contents layers u) some full now in
      let next = first_of_run (λ x. not (is_published s.pairs (remove s.marks j) x)) (first / s.state.chunk) (touched s.state.chunk (span first count)) (next_chunk_of first count u) found in
      by (next_chunk_of first count u) lacking then next.from next.to next.fails (unpublished_in first count (snap_books contents layers s)) refl
    where
      by : (c : ℕ) → lacks_chunk c s ≡ true → is_published s.pairs s.marks c ≡ false → low ≤ c → c < low + many → ((x : ℕ) → low ≤ x → x < c → not (is_published s.pairs (remove s.marks j) x) ≡ false) → (o : Option ℕ) → unpublished_in first count (snap_books contents layers s) ≡ o
          → (low ≤ m.chunk) × (m.chunk ≤ c)
      by c lacking unpublished from to fails None e =
          let none : not (is_published s.pairs s.marks c) ≡ false = touched_one (λ x. not (is_published s.pairs s.marks x) ≡ false) s.state.chunk first count c (first_none (λ x. not (is_published s.pairs s.marks x)) (λ x. x) (chunks_over s.state.chunk first count) e) from to in
          absurd (false≢true (sym none ∙ ap not unpublished))
      by c lacking unpublished from to fails (Some d) e =
          let one = first_of_run (λ x. not (is_published s.pairs s.marks x)) (first / s.state.chunk) (touched s.state.chunk (span first count)) d e in
          let wanted : lacks_chunk d s ≡ false = subst (λ x. lacks_chunk x s ≡ false) (ap (λ o. unwrap_or o (first / s.state.chunk)) e) has in
          elim (cases_lt d c) [
            | inl less ↦
                (let same = mark_of_chunk s.pairs s.marks j m d within is (not_true _ one.passes) (not_false _ (fails d one.from less)) in
                (omega (arith, same, one.from), omega (arith, same, less)))
            | inr not_less ↦ elim (cases_eq d c) [
              | inl same ↦ absurd (false≢true (sym wanted ∙ ap (λ x. lacks_chunk x s) same ∙ lacking))
              | inr other ↦ absurd (false≢true (sym (one.fails c from (omega (arith, not_less, other))) ∙ ap not unpublished))
            ]
          ]
        where
          not_false : (b : Bool) → not b ≡ false → b ≡ true
          not_false true e = refl
          not_false false e = absurd (false≢true (sym e))

          not_true : (b : Bool) → not b ≡ true → b ≡ false
          not_true true e = absurd (false≢true e)
          not_true false e = refl

  pub unmarked_behind : (s' : Kept B) → s' ≡ record s { marks = remove s.marks j; merging = merging } → LacksBehind m.chunk first count s'
  unmarked_behind s' e = subst (LacksBehind m.chunk first count) (sym e) behind

-- so where a mark of a snapshot is taken away, the merge goes on behind its chunk
module _ {B : Type 0} (contents : B → List ℕ) (layers : B → List Layer) (size : B → ℕ) (v : Volumed B) (h : IsWhole contents layers size v) (k : ℕ) (s s' : Kept B) (within : k < length v.snaps) (is : s ≡ get_or v.snaps k s)
    (flights : List Flight) (p : IsUnmarked contents layers size v k s s' flights) (merge : Merging B) (was : v.merge ≡ Some merge) (q : Pair) (next : next_of_group merge.group ≡ Some q) where
  pub goes_behind : (j : ℕ) (m : Mark) → j < length s.marks → m ≡ get_or s.marks j m → s' ≡ record s { marks = remove s.marks j; merging = unpublished m.number s.merging } → GoesOnBehind k m.chunk merge.state.chunk merge.state.origin (set v.snaps k s') q
  goes_behind j m inside at fields =
      let some : 0 < s.state.chunk = subst (λ (x : Kept B). 0 < x.state.chunk) (sym is) (h.snaps k s within).some in
      let full = (room contents layers size v h k s s' within is flights p merge was q next).next.some in
      let has : lacks_chunk (next_for merge.state.chunk merge.state.origin q s) s ≡ false =
      subst (λ (x : Kept B). lacks_chunk (next_for merge.state.chunk merge.state.origin q x) x ≡ false) (sym is) (has_next contents layers size v h merge was q next k s within) in
      record {
        within = omega (arith, within, length-set v.snaps k s');
        others = others_have contents layers size v h merge was q next k s';
        behind = λ d. subst (LacksBehind m.chunk (merge.state.chunk * q.old) (count_of merge.state.chunk merge.state.origin q.old)) (sym (get_or-set_same v.snaps k s' d within))
            (unmarked_behind contents layers (merge.state.chunk * q.old) (count_of merge.state.chunk merge.state.origin q.old) j s m (unpublished m.number s.merging) some full inside at has s' fields);
      }
