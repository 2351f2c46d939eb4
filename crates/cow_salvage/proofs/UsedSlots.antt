-- Slots that are taken one by one.
use Rattle.std.proofs.Common.{◌≡◌, ℕ, suc, ◌+◌, ◌*◌, ◌<◌, ◌≤◌, List, ◌++◌, arith, ap, ◌∙◌, sym, subst}
use Rattle.sector.specs.declared.pair.Pair.{Pair}
use Rattle.cow_format.specs.Slots.{pair_in}
use Rattle.cow_format.specs.Places.{area_place, chunk_at, slot}
use Rattle.cow_format.proofs.Slots.{slot-at}
use Rattle.cow_image.proofs.Loads.{areas_rise}
use Rattle.cow_salvage.specs.declared.using.Slot.{Slot}
use Rattle.cow_salvage.specs.Used.{AreWhole, AreUsedIn, used_below, used_if}

-- a slot more
pub used_more : (slot_at : ℕ → Pair) (n m : ℕ) (pair : Pair) (used used' : List Slot) → used ≡ used_below slot_at n → used' ≡ used ++ used_if n pair → slot_at n ≡ pair → m ≡ n + 1 → used' ≡ used_below slot_at m
used_more slot_at n m pair used used' before more here next =
    let e : suc n ≡ m = omega arith in
    more ∙ ap (λ xs. xs ++ used_if n pair) before ∙ ap (λ p. used_below slot_at n ++ used_if n p) (sym here) ∙ ap (used_below slot_at) e

-- areas that lie inside, one more
pub inside_more : (chunk size a : ℕ) → chunk * (area_place chunk a + 1) ≤ size → (k : ℕ) → k < a + 1 → chunk * (area_place chunk k + 1) ≤ size
inside_more chunk size a here k lt = let up = areas_rise chunk k a (omega arith) in omega arith

-- an area's slots are the store's
pub area_slots : (chunk a : ℕ) (b area : List ℕ) → area ≡ chunk_at chunk b (area_place chunk a) → (j : ℕ) → j < 32 * chunk → slot chunk b (a * (32 * chunk) + j) ≡ pair_in area j
area_slots chunk a b area at j lt = slot-at chunk b a j lt ∙ ap (λ x. pair_in x j) (sym at)

-- an area's slots more
pub used_area : (chunk a c0 c1 : ℕ) (b area : List ℕ) (used used' : List Slot) → c0 ≡ chunk → c1 ≡ chunk → area ≡ chunk_at c0 b (area_place chunk a) → used ≡ used_below (slot chunk b) (a * (32 * chunk)) → ((slot_at : ℕ → Pair) → ((j : ℕ) → j < 32 * c1 → slot_at (a * (32 * chunk) + j) ≡ pair_in area j) → used ≡ used_below slot_at (a * (32 * chunk)) → used' ≡ used_below slot_at (a * (32 * chunk) + 32 * c1)) → used' ≡ used_below (slot chunk b) ((a + 1) * (32 * chunk))
used_area chunk a c0 c1 b area used used' e0 e1 at before more =
    let here : area ≡ chunk_at chunk b (area_place chunk a) = at ∙ ap (λ c. chunk_at c b (area_place chunk a)) e0 in
    let next : a * (32 * chunk) + 32 * chunk ≡ (a + 1) * (32 * chunk) = grind arith in
    more (slot chunk b) (λ j lt. let h : j < 32 * chunk = omega arith in area_slots chunk a b area here j h) before
    ∙ ap (λ c. used_below (slot chunk b) (a * (32 * chunk) + 32 * c)) e1
    ∙ ap (used_below (slot chunk b)) next
