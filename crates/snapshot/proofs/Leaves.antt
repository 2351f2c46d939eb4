-- What a load's operations may leave on a disk with a cache, one after the other.
use Rattle.std.proofs.Common.{◌≡◌, ◌⊎◌, inl, inr, ℕ, ◌<◌, List, [], sym, ap, ◌∙◌, subst, true, false}
use Rattle.std.specs.Prelude.{Result}
use Rattle.sector.specs.Bytes.{sector_at}
use Rattle.sector.specs.declared.pair.Pair.{Pair}
use Rattle.sector.specs.declared.refusal.Refusal.{Refusal}
use Rattle.cow_header.specs.HeaderText.{found_in}
use Rattle.cow_header.specs.declared.found.Found.{Found}
use Rattle.crash_laws.specs.Firm.{AddsNow}
use Rattle.store.specs.Loading.{after_write, is_left}
use Rattle.store.specs.Stopping.{LeavesPreparing, LoadsFirst, MayPrepare}
use Rattle.store.specs.declared.state.Left.{Left}
use Rattle.store.specs.declared.state.Left.TheVariants.{FirstArea, HeaderChunk, Tail, Nothing}
use Rattle.store.specs.declared.state.State.{State}
use Rattle.snapshot.specs.Opening.{IsOpenedAs}
use Rattle.snapshot.specs.StopsOpening.{Leaves, MayOpen, MayPrepareAll}

-- one operation
pub leaves_one : (old new : ℕ → List ℕ → Type 0) (left : Left) (chunk origin size : ℕ) (ps : List Pair) → LeavesPreparing old new left chunk origin size ps → Leaves old new size (MayPrepare left chunk origin size ps)
leaves_one old new left chunk origin size ps one = λ c held. one c (record { whole = held.whole; each = λ s lt. inr (held.each s lt) })

-- none, or one that changes no byte
pub leaves_same : (old new : ℕ → List ℕ → Type 0) (was now : List ℕ) (size : ℕ) (such : List ℕ → Type 0) → ((s : ℕ) → s < size → old s (sector_at was s)) → now ≡ was → AddsNow old new now → Leaves old new size such
leaves_same old new was now size such there same adds = λ c held. inl (record {
  whole = held.whole;
  each = λ s lt. elim (adds s (sector_at c s) (held.each s lt)) [
    | inl before ↦ before
    | inr is ↦ subst (λ (v : List ℕ). old s v) (sym (is ∙ ap (λ z. sector_at z s) same)) (there s lt)
  ];
})

pub leaves_then : (old mid new : ℕ → List ℕ → Type 0) (size : ℕ) (first then such : List ℕ → Type 0) → Leaves old mid size first → Leaves mid new size then → ((c : List ℕ) → first c → such c) → ((c : List ℕ) → then c → such c) → Leaves old new size such
leaves_then old mid new size first then such one two before after = λ c held. elim (two c held) [
  | inl kept ↦ elim (one c kept) [ inl was ↦ inl was | inr is ↦ inr (before c is) ]
  | inr is ↦ inr (after c is)
]

pub leaves_as : (old new : ℕ → List ℕ → Type 0) (size : ℕ) (one such : List ℕ → Type 0) → Leaves old new size one → ((c : List ℕ) → one c → such c) → Leaves old new size such
leaves_as old new size one such leaves more = λ c held. elim (leaves c held) [ inl was ↦ inl was | inr is ↦ inr (more c is) ]

-- the next one of a load, by what was left before the one before it
pub leaves_next : (old new : ℕ → List ℕ → Type 0) (s t : State) (n : ℕ) (ps qs : List Pair) → t ≡ record s { left = after_write s.left; sure = n; awaits = is_left s.left } → qs ≡ ps → Leaves old new t.size (MayPrepare t.left t.chunk t.origin t.size qs)
    → Leaves old new s.size (MayPrepare (after_write s.left) s.chunk s.origin s.size ps)
leaves_next old new s t n ps qs is same leaves =
    subst (λ (x : State). Leaves old new x.size (MayPrepare x.left x.chunk x.origin x.size ps)) is (subst (λ (xs : List Pair). Leaves old new t.size (MayPrepare t.left t.chunk t.origin t.size xs)) same leaves)

-- by what was left of the load before
pub all_first : (left : Left) (chunk origin size : ℕ) (ps : List Pair) (c : List ℕ) → MayPrepare left chunk origin size ps c → MayPrepareAll left chunk origin size ps c
all_first FirstArea chunk origin size ps c is = inl is
all_first HeaderChunk chunk origin size ps c is = is
all_first Tail chunk origin size ps c is = is
all_first Nothing chunk origin size ps c is = is

pub all_next : (left : Left) (chunk origin size : ℕ) (ps : List Pair) (c : List ℕ) → MayPrepare (after_write left) chunk origin size ps c → MayPrepareAll left chunk origin size ps c
all_next FirstArea chunk origin size ps c is = is
all_next HeaderChunk chunk origin size ps c is = inr is
all_next Tail chunk origin size ps c is = is
all_next Nothing chunk origin size ps c is = is

pub all_last : (left : Left) (chunk origin size : ℕ) (ps : List Pair) (c : List ℕ) → MayPrepare (after_write (after_write left)) chunk origin size ps c → MayPrepareAll left chunk origin size ps c
all_last FirstArea chunk origin size ps c is = inr is
all_last HeaderChunk chunk origin size ps c is = inr is
all_last Tail chunk origin size ps c is = is
all_last Nothing chunk origin size ps c is = is

-- by what the first sector said
loads_by : (left : Left) (chunk origin size : ℕ) (ps : List Pair) (c : List ℕ) → (left ≡ Tail) ⊎ (left ≡ Nothing) → MayPrepareAll left chunk origin size ps c → LoadsFirst chunk origin size ps [] c
loads_by FirstArea chunk origin size ps c (inl e) is = absurd (cc)
loads_by FirstArea chunk origin size ps c (inr e) is = absurd (cc)
loads_by HeaderChunk chunk origin size ps c (inl e) is = absurd (cc)
loads_by HeaderChunk chunk origin size ps c (inr e) is = absurd (cc)
loads_by Tail chunk origin size ps c at is = is
loads_by Nothing chunk origin size ps c at is = is

pub may_open : (line origin size : ℕ) (old : List ℕ) (s : State) (ps : List Pair) (c : List ℕ) → IsOpenedAs line origin size old s ps → MayPrepareAll s.left s.chunk s.origin s.size ps c → MayOpen line origin size old (found_in (sector_at old 0)) c
may_open line origin size old s ps c (inl f) is =
    let fresh : State = record { chunk = line; origin = origin; size = size; current = 0; filled = 0; zeroed = false; firm = false; sure = 0; left = FirstArea; awaits = true; copying = true; valid = true } in
    subst (λ (r : Result Found Refusal). MayOpen line origin size old r c) (sym f.found)
    (subst (λ (qs : List Pair). MayPrepareAll FirstArea line origin size qs c) f.none (subst (λ (t : State). MayPrepareAll t.left t.chunk t.origin t.size ps c) f.state is))
may_open line origin size old s ps c (inr w) is =
    let loads = loads_by s.left s.chunk s.origin s.size ps c (elim w.tail [ inl t ↦ inl t.0 | inr t ↦ inr t.0 ]) is in
    subst (λ (r : Result Found Refusal). MayOpen line origin size old r c) (sym w.found)
    (subst (λ (qs : List Pair). LoadsFirst s.chunk origin size qs [] c) (sym w.pairs)
    (subst (λ (n : ℕ). LoadsFirst s.chunk origin n ps [] c) w.rest.1 (subst (λ (n : ℕ). LoadsFirst s.chunk n s.size ps [] c) w.rest.0 loads)))
