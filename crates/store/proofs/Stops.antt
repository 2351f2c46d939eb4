-- A stop within an operation of a store, from what the store's type keeps before and after it.
use Rattle.std.proofs.Common.{◌≡◌, ◌≢◌, ◌⊎◌, inl, inr, ℕ, ◌+◌, ◌*◌, ◌<◌, List, [], ◌++◌, length, arith, ap, ◌∙◌, sym, subst, Ok, append-nil, true}
use Rattle.sector.specs.Bytes.{sector_at}
use Rattle.sector.specs.declared.pair.Pair.{Pair}
use Rattle.cow_format.specs.Places.{area_place, slot, ChangesOnly}
use Rattle.cow_format.specs.Pairs.{pairs_of, AreWellFormed}
use Rattle.cow_format.proofs.Slots.{pairs-outside}
use Rattle.cow_header.specs.HeaderText.{found_in}
use Rattle.cow_header.specs.declared.found.Found.TheVariants.{Header}
use Rattle.exception_arena.specs.Pending.{pairs}
use Rattle.crash_laws.specs.Stop.{IsTorn}
use Rattle.crash_laws.proofs.Between.{IsBetween}
use Rattle.crash_laws.proofs.Areas.{between_all, torn_pairs}
use Rattle.crash_laws.proofs.Loads.{torn_commit_loads}
use Rattle.crash_laws.proofs.Torn.{torn_only}
use Rattle.store.specs.Headed.{head_of, marked_as}
use Rattle.store.specs.Loading.{is_begun}
use Rattle.store.specs.Stored.{IsFront, IsStored, AreGiven}
use Rattle.store.specs.Stopping.{LoadsFirst, IsFreshAgain}
use Rattle.store.specs.declared.state.Left.TheVariants.{FirstArea, HeaderChunk, Tail}
use Rattle.store.specs.declared.state.State.{State}
use Rattle.store.proofs.Given.{given_formed}
use Rattle.store.proofs.Heads.{first_inside, head_kept}
use Rattle.store.proofs.Writes.{header_free}

-- bytes that lie between two lists are loaded again
pub loads_first : (chunk origin size n : ℕ) (old new torn : List ℕ) (ps qs : List Pair) → 0 < chunk → n ≢ 0 → IsTorn size old new torn → length old ≡ 512 * size → length new ≡ 512 * size → ChangesOnly chunk n old new → IsBetween (slot chunk old) (length ps) (ps ++ qs) → IsBetween (slot chunk new) (length ps) (ps ++ qs)
    → found_in (sector_at old 0) ≡ Ok (Header chunk) → AreWellFormed chunk origin size (ps ++ qs) → LoadsFirst chunk origin size ps qs torn
loads_first chunk origin size n old new torn ps qs pos ne is lo ln only x y head formed =
    let (m, le, listed) = torn_pairs size chunk old new torn ps qs pos is lo ln x y in
    record {
      again = torn_commit_loads size origin chunk n old new torn ps qs pos ne is lo ln only x y head formed;
      count = m;
      few = le;
      pairs = listed;
    }

-- an area is not the header's chunk
area_ne_head : (chunk a : ℕ) → area_place chunk a ≢ 0
area_ne_head chunk a e = absurd (omega arith)

-- the header after a write to another chunk, torn
head_torn : (chunk n size : ℕ) (old new torn : List ℕ) → 0 < chunk → n ≢ 0 → IsTorn size old new torn → length old ≡ 512 * size → ChangesOnly chunk n old new → found_in (sector_at torn 0) ≡ found_in (sector_at old 0)
head_torn chunk n size old new torn pos ne within whole only = head_kept chunk n old torn pos ne (torn_only size chunk n old new torn within whole only)

-- area 0 of a fresh store is zeroed
pub first_stops : (n : ℕ) (ps : List Pair) (s : State) (area old new torn : List ℕ) → 0 < s.chunk → n ≢ 0 → IsStored old ps s area → s.left ≡ FirstArea → length old ≡ 512 * s.size → ChangesOnly s.chunk n old new → IsTorn s.size old new torn → IsFreshAgain torn
first_stops n ps s area old new torn pos ne stored left whole only within = head_torn s.chunk n s.size old new torn pos ne within whole only ∙ stored.head ∙ ap (λ x. head_of x s.valid s.chunk) left

-- the header of a fresh store is written
pub header_stops : (place : ℕ) (ps qs : List Pair) (s : State) (area old new torn : List ℕ) → IsFront ps s area → IsStored old ps s area → found_in (sector_at new 0) ≡ Ok (Header s.chunk) → AreGiven s.chunk s.origin s.size place s.copying ps qs → s.left ≡ HeaderChunk → s.valid ≡ true → length old ≡ 512 * s.size → ChangesOnly s.chunk 0 old new → IsTorn s.size old new torn → IsFreshAgain torn ⊎ LoadsFirst s.chunk s.origin s.size ps [] torn
header_stops place ps qs s area old new torn is stored says given left valid whole only within =
    let some : 0 < s.size = (let h = first_inside s.chunk (area_place s.chunk s.current) s.size is.place in let p = is.some in omega arith) in
    let same : pairs_of s.chunk torn ≡ ps = pairs-outside s.chunk 0 old torn is.some (header_free s.chunk) (torn_only s.size s.chunk 0 old new torn within whole only) ∙ stored.listed (ap is_begun left) in
    elim (within.each 0 some) [
      | inl e ↦ inl (ap found_in e ∙ stored.head ∙ ap (λ x. head_of x s.valid s.chunk) left)
      | inr e ↦ inr (record {
        again = record { header = ap found_in e ∙ says; formed = subst (λ (z : List Pair). AreWellFormed s.chunk s.origin s.size z) (sym same) (given_formed s.chunk s.origin s.size place s.copying ps qs given) };
        count = 0;
        few = omega arith;
        pairs = same ∙ sym (append-nil ps);
      })
    ]

-- the current area of a written store is written with its tail zero
pub tail_stops : (place : ℕ) (ps qs : List Pair) (s : State) (area old new torn : List ℕ) → IsFront ps s area → IsStored old ps s area → pairs_of s.chunk new ≡ ps → AreGiven s.chunk s.origin s.size place s.copying ps qs → s.left ≡ Tail → s.valid ≡ true → length old ≡ 512 * s.size → ChangesOnly s.chunk (area_place s.chunk s.current) old new → IsTorn s.size old new torn → LoadsFirst s.chunk s.origin s.size ps [] torn
tail_stops place ps qs s area old new torn is stored listed given left valid whole only within =
    let nil : ps ≡ ps ++ [] = sym (append-nil ps) in
    loads_first s.chunk s.origin s.size (area_place s.chunk s.current) old new torn ps [] is.some (area_ne_head s.chunk s.current) within whole (only.len ∙ whole) only
    (between_all s.chunk old ps [] is.some (stored.listed (ap is_begun left) ∙ nil)) (between_all s.chunk new ps [] is.some (listed ∙ nil))
    (stored.head ∙ ap (λ x. head_of x s.valid s.chunk) left ∙ ap (λ b. marked_as b s.chunk) valid)
    (subst (λ (z : List Pair). AreWellFormed s.chunk s.origin s.size z) nil (given_formed s.chunk s.origin s.size place s.copying ps qs given))
