-- Pairs in the slots of an area.
use Rattle.std.proofs.Common.{◌≡◌, ◌≢◌, ◌⊎◌, inl, inr, ℕ, zero, suc, ◌+◌, ◌*◌, ◌^◌, ◌<◌, ◌≤◌, List, ◌++◌, length, get_or, arith, refl, ap, ◌∙◌, sym, length-append, append-nil}
use Rattle.std.proofs.lemmas.List.{get_or-replicate, get_or-append-add}
use Rattle.std.proofs.lemmas.Bool.{cases_lt}
use Rattle.std.specs.Prelude.{replicate}
use Rattle.byteorder.specs.Numbers.{little_number-reads_back}
use Rattle.sector.specs.Number.{number_at, number_bytes}
use Rattle.sector.specs.declared.pair.Pair.{Pair}
use Rattle.sector.proofs.Numbers.{length-number_bytes, same_number, moved_number}
use Rattle.sector.proofs.Endian.{number_read}
use Rattle.cow_format.specs.Slots.{pair_in, pair_bytes, with_pair}
use Rattle.whole_commands.proofs.Parts.{part_inside, part_outside}

-- a number is read as it was written
number_back : (n x : ℕ) (rest : List ℕ) → x < 256 ^ n → number_at (number_bytes n x ++ rest) 0 n ≡ x
unfolding number_bytes
number_back n x rest lt = sym (number_read (number_bytes n x ++ rest) 0 n) ∙ little_number-reads_back n x rest lt

-- a pair has sixteen bytes
pub length-pair_bytes : (pair : Pair) → length (pair_bytes pair) ≡ 16
length-pair_bytes pair = length-append (number_bytes 8 pair.old) (number_bytes 8 pair.new) ∙ omega (arith, length-number_bytes 8 pair.old, length-number_bytes 8 pair.new)

old_back : (pair : Pair) → pair.old < 256 ^ 8 → number_at (pair_bytes pair) 0 8 ≡ pair.old
old_back pair lt = number_back 8 pair.old (number_bytes 8 pair.new) lt

new_back : (pair : Pair) → pair.new < 256 ^ 8 → number_at (pair_bytes pair) 8 8 ≡ pair.new
new_back pair lt =
    let e : number_at (number_bytes 8 pair.new) 0 8 ≡ number_at (pair_bytes pair) (8 + 0) 8 =
    moved_number (number_bytes 8 pair.new) (pair_bytes pair) 0 8 8
    (λ i lo hi. sym (ap (λ n. get_or (pair_bytes pair) (n + i) 0) (sym (length-number_bytes 8 pair.old)) ∙ get_or-append-add (number_bytes 8 pair.old) (number_bytes 8 pair.new) i 0)) in
    sym e ∙ ap (λ x. number_at x 0 8) (sym (append-nil (number_bytes 8 pair.new))) ∙ number_back 8 pair.new _ lt

-- a pair by its two numbers
pair_of : (old new : ℕ) (pair : Pair) → old ≡ pair.old → new ≡ pair.new → (let p : Pair = record { old = old; new = new } in p) ≡ pair
pair_of old new pair a b =
    let mk : ℕ → ℕ → Pair = λ o n. record { old = o; new = n } in
    ap (λ o. mk o new) a ∙ ap (λ n. mk pair.old n) b

-- a pair is read where it was put
pub pair_here : (area : List ℕ) (j : ℕ) (pair : Pair) → 16 * j + 16 ≤ length area → pair.old < 256 ^ 8 → pair.new < 256 ^ 8 → pair_in (with_pair area j pair) j ≡ pair
pair_here area j pair fits old new =
    let len = length-pair_bytes pair in
    let one : number_at (pair_bytes pair) 0 8 ≡ number_at (with_pair area j pair) (16 * j + 0) 8 =
    moved_number (pair_bytes pair) (with_pair area j pair) 0 (16 * j) 8 (λ i lo hi. sym (part_inside area (pair_bytes pair) (16 * j) i (omega arith) (omega arith))) in
    let two : number_at (pair_bytes pair) 8 8 ≡ number_at (with_pair area j pair) (16 * j + 8) 8 =
    moved_number (pair_bytes pair) (with_pair area j pair) 8 (16 * j) 8 (λ i lo hi. sym (part_inside area (pair_bytes pair) (16 * j) i (omega arith) (omega arith))) in
    let first : number_at (with_pair area j pair) (16 * j) 8 ≡ pair.old = ap (λ n. number_at (with_pair area j pair) n 8) (omega arith) ∙ sym one ∙ old_back pair old in
    let second : number_at (with_pair area j pair) (16 * j + 8) 8 ≡ pair.new = sym two ∙ new_back pair new in
    pair_of _ _ pair first second

-- a pair is the same where its bytes are
pub pair_same : (a b : List ℕ) (i : ℕ) → ((k : ℕ) → 16 * i ≤ k → k < 16 * i + 16 → get_or a k 0 ≡ get_or b k 0) → pair_in a i ≡ pair_in b i
pair_same a b i same =
    let one : number_at a (16 * i) 8 ≡ number_at b (16 * i) 8 = same_number a b (16 * i) 8 (λ k lo hi. same k lo (omega arith)) in
    let two : number_at a (16 * i + 8) 8 ≡ number_at b (16 * i + 8) 8 = same_number a b (16 * i + 8) 8 (λ k lo hi. same k (omega arith) (omega arith)) in
    cc

-- the other slots are as they were
pub pair_others : (area : List ℕ) (j i : ℕ) (pair : Pair) → 16 * j + 16 ≤ length area → i ≢ j → pair_in (with_pair area j pair) i ≡ pair_in area i
pair_others area j i pair fits ne =
    let len = length-pair_bytes pair in
    let byte : (k : ℕ) → (k < 16 * j) ⊎ (16 * j + 16 ≤ k) → get_or (with_pair area j pair) k 0 ≡ get_or area k 0 =
    λ k out. part_outside area (pair_bytes pair) (16 * j) k (omega arith) (elim out [ inl lo ↦ inl lo | inr hi ↦ inr (omega arith) ]) in
    pair_same (with_pair area j pair) area i (λ k lo hi. byte k (elim (cases_lt i j) [ inl below ↦ inl (omega arith) | inr above ↦ inr (omega arith) ]))

-- a number of zeros is 0
zeros : (b : List ℕ) (at n : ℕ) → ((k : ℕ) → at ≤ k → k < at + n → get_or b k 0 ≡ 0) → number_at b at n ≡ 0
zeros b at zero none = refl
zeros b at (suc n) none =
    let h = none at (omega arith) (omega arith) in
    let t : number_at b (at + 1) n ≡ 0 = zeros b (at + 1) n (λ k lo hi. none k (omega arith) (omega arith)) in
    omega arith

-- a slot of zeros is empty
pub pair_of_zeros : (b : List ℕ) (i : ℕ) → ((k : ℕ) → 16 * i ≤ k → k < 16 * i + 16 → get_or b k 0 ≡ 0) → (pair_in b i).new ≡ 0
pair_of_zeros b i none = zeros b (16 * i + 8) 8 (λ k lo hi. none k (omega arith) (omega arith))

pub zero_byte : (n k : ℕ) → k < n → get_or (replicate n zero) k 0 ≡ 0
zero_byte n k lt = get_or-replicate n k zero 0 lt
