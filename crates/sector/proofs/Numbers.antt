-- Numbers of the same bytes.
use Rattle.std.proofs.Common.{◌≡◌, ℕ, zero, suc, ◌+◌, ◌*◌, ◌<◌, ◌≤◌, List, get_or, arith, refl, ap, ◌∙◌, length}
use Rattle.std.specs.Int.{bytes_low_first}
use Rattle.sector.specs.Number.{number_at, number_bytes}

length-low_first : (i n x : ℕ) → length (bytes_low_first i n x) ≡ n
length-low_first i zero x = refl
length-low_first i (suc n) x = ap suc (length-low_first (suc i) n x)

-- a number has so many bytes
pub length-number_bytes : (n x : ℕ) → length (number_bytes n x) ≡ n
unfolding number_bytes
length-number_bytes n x = length-low_first 0 n x

-- the same bytes are the same number
pub same_number : (a b : List ℕ) (at n : ℕ) → ((i : ℕ) → at ≤ i → i < at + n → get_or a i 0 ≡ get_or b i 0) → number_at a at n ≡ number_at b at n
same_number a b at zero same = refl
same_number a b at (suc n) same =
    ap (λ m. m + 256 * number_at a (at + 1) n) (same at (omega arith) (omega arith))
    ∙ ap (λ m. get_or b at 0 + 256 * m) (same_number a b (at + 1) n (λ i lo hi. same i (omega arith) (omega arith)))

-- the same bytes at two places are the same number
pub moved_number : (a b : List ℕ) (at by n : ℕ) → ((i : ℕ) → at ≤ i → i < at + n → get_or a i 0 ≡ get_or b (by + i) 0) → number_at a at n ≡ number_at b (by + at) n
moved_number a b at by zero same = refl
moved_number a b at by (suc n) same =
    let e : by + (at + 1) ≡ by + at + 1 = omega arith in
    ap (λ m. m + 256 * number_at a (at + 1) n) (same at (omega arith) (omega arith))
    ∙ ap (λ m. get_or b (by + at) 0 + 256 * m) (moved_number a b (at + 1) by n (λ i lo hi. same i (omega arith) (omega arith)) ∙ ap (λ m. number_at b m n) e)
