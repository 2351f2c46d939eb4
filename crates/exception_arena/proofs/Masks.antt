-- The rest of a division by a power of two is what a mask leaves.
use Rattle.std.proofs.Common.{◌≡◌, inl, inr, ℕ, zero, suc, ◌+◌, ◌*◌, ◌-◌, ◌/◌, ◌%◌, ◌^◌, ◌≤◌, arith, ap, ◌∙◌, sym, subst, IsTrue}
use Rattle.std.specs.Prelude.{count_ones}
use Rattle.std.specs.Int.{is_power_of_two}
use Rattle.std.specs.Int.Bits.{bit_and}
use Rattle.std.proofs.lemmas.Bool.{cases_eq}
use Rattle.std.proofs.lemmas.Nat.{and_mask, zero_from_ones, ones_le_self, pow-add}
use borrow.Author.Tests.{tests}
use lib.Count.{ones_step}

-- a number with one digit 1 is a power of two
power_by : (d n : ℕ) → n ≤ d → count_ones n ≡ 1 → (k : ℕ) × (n ≡ 2 ^ k)
power_by zero n few one = absurd (let most = ones_le_self n in omega (arith, few, one, most))
power_by (suc d) n few one = elim (cases_eq (n % 2) 1) [
  | inl odd ↦ (let s = ones_step n in
      let half = zero_from_ones (n / 2) (omega (arith, s, one, odd)) in
      (0, omega (arith, half, odd)))
  | inr even ↦ (let s = ones_step n in
      let (k, is) = power_by d (n / 2) (omega (arith, few)) (omega (arith, s, one, even)) in (
        1 + k,
        (let twice : n ≡ 2 * (n / 2) = omega (arith, even) in twice ∙ ap (λ m. 2 * m) is ∙ sym (pow-add 2 1 k)),
      ))
]

is_one : (n : ℕ) → IsTrue (is_power_of_two n) → count_ones n ≡ 1
is_one n h = grind (arith, tests)

-- a power of two, less one, is a mask of the digits below it
pub rest-masked : (number n : ℕ) → IsTrue (is_power_of_two n) → bit_and number (n - 1) ≡ number % n
rest-masked number n is =
    let (k, power) = power_by n n (omega arith) (is_one n is) in
    subst (λ m. bit_and number (m - 1) ≡ number % m) (sym power) (and_mask number k)
