-- Slots after a change of an area's bytes.
use Rattle.std.proofs.Common.{◌≡◌, ◌⊎◌, inl, inr, ℕ, zero, suc, ◌+◌, ◌*◌, ◌-◌, ◌<◌, ◌≤◌, List, ◌++◌, length, replicate, get_or, arith, rules, refl, ap, ◌∙◌, sym}
use Rattle.std.proofs.lemmas.List.{places, same_lists, length-replicate, get_or-replicate, get_or_past}
use Rattle.std.proofs.lemmas.Bool.{cases_lt}
use Rattle.sector.specs.Bytes.{with_part}
use Rattle.sector.specs.Number.{number_at, number_bytes}
use Rattle.sector.specs.declared.pair.Pair.{Pair}
use Rattle.sector.proofs.Numbers.{same_number, length-number_bytes}
use Rattle.cow_format.specs.Slots.{pair_in, with_pair}
use Rattle.metadata_area.specs.Cleared.{zero_from, zero_slots, no_pair}

-- the same sixteen bytes are the same pair
pub same_pair : (a b : List ℕ) (k : ℕ) → ((i : ℕ) → 16 * k ≤ i → i < 16 * k + 16 → get_or a i 0 ≡ get_or b i 0) → pair_in a k ≡ pair_in b k
same_pair a b k same =
    let old : number_at a (16 * k) 8 ≡ number_at b (16 * k) 8 = same_number a b (16 * k) 8 (λ i lo hi. same i lo (omega arith)) in
    let new : number_at a (16 * k + 8) 8 ≡ number_at b (16 * k + 8) 8 = same_number a b (16 * k + 8) 8 (λ i lo hi. same i (omega arith) (omega arith)) in
    cc

-- zeros are the number 0
zero_number : (a : List ℕ) (at n : ℕ) → ((i : ℕ) → at ≤ i → i < at + n → get_or a i 0 ≡ 0) → number_at a at n ≡ 0
zero_number a at zero zeros = refl
zero_number a at (suc n) zeros =
    let here : get_or a at 0 ≡ 0 = zeros at (omega arith) (omega arith) in
    let rest : number_at a (at + 1) n ≡ 0 = zero_number a (at + 1) n (λ i lo hi. zeros i (omega arith) (omega arith)) in
    omega arith

-- sixteen zeros are no pair
pub zero_pair : (a : List ℕ) (k : ℕ) → ((i : ℕ) → 16 * k ≤ i → i < 16 * k + 16 → get_or a i 0 ≡ 0) → pair_in a k ≡ no_pair
zero_pair a k zeros =
    let old : number_at a (16 * k) 8 ≡ 0 = zero_number a (16 * k) 8 (λ i lo hi. zeros i lo (omega arith)) in
    let new : number_at a (16 * k + 8) 8 ≡ 0 = zero_number a (16 * k + 8) 8 (λ i lo hi. zeros i (omega arith) (omega arith)) in
    cc

zeros_at : (n i : ℕ) → get_or (replicate n zero) i zero ≡ zero
zeros_at n i = elim (cases_lt i n) [ inl lt ↦ get_or-replicate n i 0 0 lt | inr ge ↦ get_or_past (replicate n zero) i 0 (omega (arith, length-replicate n zero)) ]

-- a slot below those that are zeroed, to the area's end
pub before_zeros : (a : List ℕ) (slot k : ℕ) → 16 * slot ≤ length a → k < slot → pair_in (zero_from a slot) k ≡ pair_in a k
before_zeros a slot k fits lt = same_pair _ _ k (λ i lo hi. grind (arith, places))

-- a slot among them
pub in_zeros : (a : List ℕ) (slot k : ℕ) → 16 * slot ≤ length a → slot ≤ k → pair_in (zero_from a slot) k ≡ no_pair
in_zeros a slot k fits le = zero_pair _ k (λ i lo hi. let z = zeros_at (length a - 16 * slot) (i - 16 * slot) in grind (arith, places))

-- a slot outside those that are zeroed
pub beside_zeros : (a : List ℕ) (slot count k : ℕ) → 16 * (slot + count) ≤ length a → (k < slot) ⊎ (slot + count ≤ k) → pair_in (zero_slots a slot count) k ≡ pair_in a k
beside_zeros a slot count k fits (inl lt) = same_pair _ _ k (λ i lo hi. grind (arith, places))
beside_zeros a slot count k fits (inr ge) = same_pair _ _ k (λ i lo hi. grind (arith, places))

-- a slot among them
pub among_zeros : (a : List ℕ) (slot count k : ℕ) → 16 * (slot + count) ≤ length a → slot ≤ k → k < slot + count → pair_in (zero_slots a slot count) k ≡ no_pair
among_zeros a slot count k fits low high = zero_pair _ k (λ i lo hi. let z = zeros_at (16 * count) (i - 16 * slot) in grind (arith, places))

-- two parts that are written one after the other are one part
pub parts_joined : (a : List ℕ) (at : ℕ) (x y : List ℕ) → at + length x + length y ≤ length a → with_part (with_part a at x) (at + length x) y ≡ with_part a at (x ++ y)
parts_joined a at x y fits = same_lists _ _ (search (rules, places)) (λ k d h. grind (arith, places))

-- a pair's two numbers, written one after the other
pub pair_written : (a : List ℕ) (slot : ℕ) (pair : Pair) → 16 * slot + 16 ≤ length a → with_part (with_part a (16 * slot) (number_bytes 8 pair.old)) (16 * slot + 8) (number_bytes 8 pair.new) ≡ with_pair a slot pair
pair_written a slot pair fits =
    let old : length (number_bytes 8 pair.old) ≡ 8 = length-number_bytes 8 pair.old in
    let new : length (number_bytes 8 pair.new) ≡ 8 = length-number_bytes 8 pair.new in
    ap (λ n. with_part (with_part a (16 * slot) (number_bytes 8 pair.old)) n (number_bytes 8 pair.new)) (ap (λ n. 16 * slot + n) (sym old))
    ∙ parts_joined a (16 * slot) (number_bytes 8 pair.old) (number_bytes 8 pair.new) (omega arith)

-- zeros from a slot to the area's end
pub zeros_to_end : (a : List ℕ) (slot : ℕ) → 16 * slot ≤ length a → with_part a (16 * slot) (replicate (length a - 16 * slot) 0) ≡ zero_from a slot
zeros_to_end a slot fits = same_lists _ _ (search (rules, places)) (λ k d h. grind (arith, places))
