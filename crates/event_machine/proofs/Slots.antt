-- The slots of areas of so many, counted on: a pair that is committed alone fills its area where the slot after its own is
-- the first of the next area.
use Rattle.std.proofs.Common.{◌≡◌, ℕ, ◌+◌, ◌-◌, ◌*◌, ◌/◌, ◌%◌, ◌<◌, true, false, sym, ◌∙◌, ap, arith, inl, inr, eq-eqb}
use Rattle.std.specs.Prelude.{◌==◌, min}
use Rattle.std.proofs.lemmas.Bool.{cases_Bool, cases_eq, eqb-true}
use Rattle.std.proofs.lemmas.Nat.{mod-mul-add, mod_below}
use Rattle.std.proofs.Math.Nat.{add-mod_right, mul-mod_left, mul-div_cancel, mod-add-div'}

unequal : (a b : ℕ) → (a ≡ b → ⊥) → (a == b) ≡ false
unequal a b apart = elim (cases_Bool (a == b)) [
  | inl same ↦ absurd (apart (eqb-true a b same))
  | inr other ↦ other
]

slots_full : (a n f : ℕ) → f + 1 ≡ n → (a * n + f + 1) % n ≡ 0
slots_full a n f e =
    let at : a * n + f + 1 ≡ a * n + n = omega (arith, e) in
    ap (λ x. x % n) at ∙ add-mod_right (a * n) n ∙ mul-mod_left a n

slots_part : (a n f : ℕ) → f + 1 < n → (a * n + f + 1) % n ≡ f + 1
slots_part a n f lt =
    let at : a * n + f + 1 ≡ a * n + (f + 1) = omega arith in
    ap (λ x. x % n) at ∙ mod-mul-add a n (f + 1) lt

-- the slot after the last one in use is the last of its area
pub last_slot : (a n f k : ℕ) → f < n → k ≡ a * n + f → ((k + 1) % n == 0) ≡ (f + 1 == n)
last_slot a n f k lt is = elim (cases_eq (f + 1) n) [
  | inl full ↦
      (let at : (k + 1) % n ≡ 0 = ap (λ x. (x + 1) % n) is ∙ slots_full a n f full in
      eq-eqb ((k + 1) % n) 0 at ∙ sym (eq-eqb (f + 1) n full))
  | inr other ↦
      (let at : (k + 1) % n ≡ f + 1 = ap (λ x. (x + 1) % n) is ∙ slots_part a n f (omega (arith, lt, other)) in
      let no : ((k + 1) % n ≡ 0) → ⊥ = λ z. omega (arith, at, z) in
      unequal ((k + 1) % n) 0 no ∙ sym (unequal (f + 1) n other))
]

module _ (k n : ℕ) (some : 0 < n) where
  within : k % n < n
  within = mod_below k n some

  parts : k ≡ k / n * n + k % n
  parts = (let is = mod-add-div' k n in omega (arith, is))

  -- a batch of one
  pub one_batch : min (n - k % n) 1 ≡ 1
  one_batch = (let lt = within in omega (arith, lt))

  pub one_last : (k % n + 1 == n) ≡ ((k + 1) % n == 0)
  one_last = sym (last_slot (k / n) n (k % n) k within parts)

  pub one_fills : (k % n + min (n - k % n) 1 == n) ≡ ((k + 1) % n == 0)
  one_fills = ap (λ c. k % n + c == n) one_batch ∙ one_last

  -- the area after the one that it fills
  pub next_area : ((k + 1) % n == 0) ≡ true → k / n + 1 ≡ (k + 1) / n
  next_area fills =
      let full : k % n + 1 ≡ n = eqb-true (k % n + 1) n (one_last ∙ fills) in
      let is = parts in
      let at : k + 1 ≡ (k / n + 1) * n = omega (arith, is, full) in
      sym (ap (λ x. x / n) at ∙ mul-div_cancel (k / n + 1) some)
