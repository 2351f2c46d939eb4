-- A number of which one bit is set is a power of two: 2 to the place of that bit.
use Rattle.std.proofs.Common.{◌≡◌, refl, ℕ, zero, suc, ◌/◌, ◌%◌, ◌^◌, ◌<◌, true, arith, pow-suc}
use Rattle.std.specs.Prelude.{count_ones}
use Rattle.std.specs.Int.{w32, is_power_of_two, trailing_zeros}
use Rattle.std.proofs.lemmas.Bool.{eqb-true}
use Rattle.std.proofs.lemmas.Nat.{ones_le_self, zero_from_ones}
use lib.Count.{count_trailing_zeros, ones_step, under}

-- Its lowest digit d is that bit, or the others are a power of two.
power_by : (n d t : ℕ) → n % 2 ≡ d → count_ones n ≡ 1 → (count_ones (n / 2) ≡ 1 → n / 2 ≡ 2 ^ t) → n ≡ 2 ^ under d t
power_by n zero t is one rest = let step = ones_step n in omega (arith, is, rest (omega (arith, step, is, one)), pow-suc 2 t)
power_by n (suc d) t is one rest =
    let step = ones_step n in
    let none = zero_from_ones (n / 2) (omega (arith, step, is, one)) in
    omega (arith, is, none)

power_among : (k n : ℕ) → n < 2 ^ k → count_ones n ≡ 1 → n ≡ 2 ^ count_trailing_zeros k n
unfolding count_trailing_zeros
power_among zero n fits one = absurd (omega (arith, fits, one, ones_le_self n))
power_among (suc k) n fits one = power_by n (n % 2) (count_trailing_zeros k (n / 2)) refl one (λ half. power_among k (n / 2) (omega (arith, fits, pow-suc 2 k)) half)

pub power_is : (n : ℕ) → n < 2 ^ 32 → is_power_of_two n ≡ true → n ≡ 2 ^ trailing_zeros w32 n
power_is n fits h = power_among 32 n fits (eqb-true (count_ones n) 1 h)
