-- What is told of a store, from its pairs.
use Rattle.std.proofs.Common.{◌≡◌, ℕ, ◌+◌, ◌-◌, ◌*◌, ◌/◌, ◌<◌, ◌≤◌, List, length, get_or, arith, ap, ◌∙◌, sym, subst, Ok}
use Rattle.std.specs.Prelude.{AllPairs}
use Rattle.std.specs.List.{All}
use Rattle.std.specs.List.Sorted.{IsPermutation}
use Rattle.std.proofs.lemmas.List.Sorted.{All-permutation}
use Rattle.std.proofs.lemmas.Nat.{div-mul-add, mul-le}
use Rattle.sector.specs.declared.pair.Pair.{Pair}
use Rattle.sector.specs.Bytes.{sector_at}
use Rattle.cow_header.specs.HeaderText.{found_in}
use Rattle.cow_header.specs.declared.found.Found.TheVariants.{Header as GoodHeader}
use Rattle.cow_format.specs.Places.{area_place}
use Rattle.cow_format.specs.Pairs.{pairs_of, IsApart, IsInside, AreWellFormed}
use Rattle.cow_image.specs.declared.fault.Fault.{Fault}
use Rattle.cow_image.specs.declared.found.Reason.TheVariants.{NoArea, Pairs}
use Rattle.cow_image.specs.Judged.{IsFirstFault, IsLacking}
use Rattle.cow_image.specs.Loaded.{IsRead}
use Rattle.cow_image.specs.Maps.{IsReason}
use Rattle.cow_image.proofs.Loads.{areas_rise}

-- a list that goes on where no area is is not well formed
lacks_formed : (chunk origin size a : ℕ) (ps : List Pair) → a ≤ length ps / (32 * chunk) → size < chunk * (area_place chunk a + 1) → AreWellFormed chunk origin size ps → ⊥
lacks_formed chunk origin size a ps low past formed =
    let up = areas_rise chunk a (length ps / (32 * chunk)) low in
    let room = formed.room in
    absurd (omega arith)

pub told_lacks : (chunk origin size a : ℕ) (b : List ℕ) → length b ≡ 512 * size → 2 * chunk ≤ size → found_in (sector_at b 0) ≡ Ok (GoodHeader chunk) → IsLacking chunk size (pairs_of chunk b) a → IsReason origin b (NoArea a)
told_lacks chunk origin size a b whole large header fault =
    (chunk, size, record { whole = whole; header = header; large = large }, fault, lacks_formed chunk origin size a (pairs_of chunk b) fault.0 fault.1)

-- the first fault of pairs that are not well formed
pub told_fault : (chunk origin size : ℕ) (b : List ℕ) (ps : List Pair) (fault : Fault) → length b ≡ 512 * size → 2 * chunk ≤ size → found_in (sector_at b 0) ≡ Ok (GoodHeader chunk) → pairs_of chunk b ≡ ps → IsFirstFault chunk origin size (pairs_of chunk b) fault → (All (IsInside chunk origin size) ps → AllPairs IsApart ps → ⊥) → IsReason origin b (Pairs fault)
told_fault chunk origin size b ps fault whole large header all is not = (
  chunk,
  size,
  record { whole = whole; header = header; large = large },
  is,
  λ formed. not (subst (λ (xs : List Pair). All (IsInside chunk origin size) xs) all formed.inside) (subst (λ (xs : List Pair). AllPairs IsApart xs) all formed.apart),
)

-- the area of the first empty slot is the one that the number of the pairs says
pub current_is : (chunk size current : ℕ) (b area : List ℕ) (ps : List Pair) → IsRead chunk size b current ps area → current ≡ length (pairs_of chunk b) / (32 * chunk)
current_is chunk size current b area ps read =
    let low = read.low in
    let high = read.high in
    let more : length ps - current * (32 * chunk) < 32 * chunk = omega arith in
    let n : length ps ≡ current * (32 * chunk) + (length ps - current * (32 * chunk)) = omega arith in
    sym (ap (λ xs. length xs / (32 * chunk)) read.all ∙ ap (λ m. m / (32 * chunk)) n ∙ div-mul-add current (32 * chunk) (length ps - current * (32 * chunk)) more)

-- the pairs that were read are well formed
pub formed_read : (chunk origin size current : ℕ) (b area : List ℕ) (ps : List Pair) → IsRead chunk size b current ps area → All (IsInside chunk origin size) ps → AllPairs IsApart ps → AreWellFormed chunk origin size (pairs_of chunk b)
formed_read chunk origin size current b area ps read inside apart = record {
  inside = subst (λ (xs : List Pair). All (IsInside chunk origin size) xs) (sym read.all) inside;
  apart = subst (λ (xs : List Pair). AllPairs IsApart xs) (sym read.all) apart;
  room = subst (λ (n : ℕ). chunk * (area_place chunk n + 1) ≤ size) (current_is chunk size current b area ps read) read.inside;
}

-- a pair of a judged list has its copy among the store's chunks
pub copies_within : (chunk origin size : ℕ) (ps qs : List Pair) → 0 < chunk → IsPermutation ps qs → All (IsInside chunk origin size) ps → All (λ pair. pair.new < size) qs
copies_within chunk origin size ps qs pos moved inside = All-permutation (λ pair. pair.new < size) ps qs moved (λ k d lt. below (get_or ps k d) (inside k d lt))
  where
    below : (pair : Pair) → IsInside chunk origin size pair → pair.new < size
    below pair is =
        let end = is.new in
        let up : 1 * (pair.new + 1) ≤ chunk * (pair.new + 1) = mul-le 1 (pair.new + 1) chunk (pair.new + 1) pos (omega arith) in
        omega arith
