-- Why the pairs of a store are not well formed: this project's own rules, the kernel tests none of them.
use Rattle.std.specs.Prelude.{◌≡◌, ◌==◌, ℕ, ◌+◌, ◌*◌, ◌/◌, ◌<◌, ◌≤◌, ◌||◌, Bool, List, [], ◌∷◌, ◌++◌, length, nat_le, nat_lt, if◌then◌else◌}
use Rattle.std.specs.List.{list_any}
use Rattle.sector.specs.declared.pair.Pair.{Pair}
use Rattle.cow_format.specs.Places.{is_area_place, area_place}
use Rattle.cow_image.specs.declared.fault.Fault.{Fault}
use Rattle.cow_image.specs.declared.fault.Fault.TheVariants.{PastOrigin, OutsideStore, AtArea, OldTwice, NewTwice}
use Rattle.cow_image.specs.Sorted.{old_of, new_of}

-- a fault, where a test says so
abbrev pub told_if : Bool → Fault → List Fault
told_if told fault = if told then fault ∷ [] else []

-- whether a number stands in one of the pairs
abbrev pub stands_in : (Pair → ℕ) → List Pair → ℕ → Bool
stands_in number pairs n = list_any (λ pair. number pair == n) pairs

-- The faults of a slot's pair, for an origin and a store of so many sectors, after the pairs of the slots before it.
abbrev pub slot_faults : ℕ → ℕ → ℕ → List Pair → Pair → List Fault
slot_faults chunk origin size before pair =
    told_if (nat_le origin (chunk * pair.old)) (PastOrigin (length before) pair)
    ++ (told_if (pair.new == 0 || nat_lt size (chunk * (pair.new + 1))) (OutsideStore (length before) pair)
    ++ (told_if (is_area_place chunk pair.new) (AtArea (length before) pair)
    ++ (told_if (stands_in old_of before pair.old) (OldTwice (length before) pair)
    ++ told_if (stands_in new_of before pair.new) (NewTwice (length before) pair))))

-- the faults of the slots that come after some
abbrev pub faults_after : ℕ → ℕ → ℕ → List Pair → List Pair → List Fault
faults_after chunk origin size before [] = []
faults_after chunk origin size before (pair ∷ pairs) = slot_faults chunk origin size before pair ++ faults_after chunk origin size (before ++ pair ∷ []) pairs

-- All faults of a store's pairs, slot by slot.
abbrev pub faults_of : ℕ → ℕ → ℕ → List Pair → List Fault
faults_of chunk origin size pairs = faults_after chunk origin size [] pairs

-- An area that does not lie wholly inside the store, and all areas before it are full.
abbrev pub IsLacking : ℕ → ℕ → List Pair → ℕ → Type 0
IsLacking chunk size pairs area = (area ≤ length pairs / (32 * chunk)) × (size < chunk * (area_place chunk area + 1))

-- the first of all faults
abbrev pub IsFirstFault : ℕ → ℕ → ℕ → List Pair → Fault → Type 0
IsFirstFault chunk origin size pairs fault = (rest : List Fault) × (faults_of chunk origin size pairs ≡ fault ∷ rest)
