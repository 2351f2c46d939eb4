-- Chunks of two sizes: the wider one is a multiple of the other, since both are powers of two. So what lies in one chunk of
-- the narrower lies in one of the wider, and a wider chunk touches so many narrower ones.
use Rattle.std.proofs.Common.{◌≡◌, inl, inr, ℕ, zero, suc, ◌+◌, ◌*◌, ◌/◌, ◌%◌, ◌<◌, ◌≤◌, true, arith, ap, sym, ◌∙◌, subst}
use Rattle.std.specs.Prelude.{count_ones}
use Rattle.std.proofs.lemmas.Bool.{cases_eq, cases_lt}
use Rattle.std.proofs.lemmas.Nat.{zero_from_ones, ones_le_self, mul-le}
use Rattle.std.proofs.Math.Nat.{mul-div-le, lt-mul-div-succ}
use borrow.Author.Tests.{tests}
use lib.Count.{ones_step}
use Rattle.chunk.specs.Sizes.{is_chunk}
use Rattle.chunk.proofs.Limits.{is_chunk-some}

-- of two numbers with one digit 1 the larger is a multiple of the smaller
multiple_by : (d a b : ℕ) → a ≤ d → count_ones a ≡ 1 → count_ones b ≡ 1 → a ≤ b → (k : ℕ) × (b ≡ a * k)
multiple_by zero a b few one other le = absurd (let most = ones_le_self a in omega (arith, few, one, most))
multiple_by (suc d) a b few one other le = elim (cases_eq (a % 2) 1) [
  | inl odd ↦ (let s = ones_step a in
      let none : count_ones (a / 2) ≡ 0 = omega (arith, s, one, odd) in
      let half = zero_from_ones (a / 2) none in
      let is : a ≡ 1 = omega (arith, half, odd) in
      (b, (let e : b ≡ 1 * b = omega arith in subst (λ n. b ≡ n * b) (sym is) e)))
  | inr even ↦ (let s = ones_step a in
      let half : count_ones (a / 2) ≡ 1 = omega (arith, s, one, even) in
      let t = ones_step b in
      elim (cases_eq (b % 2) 1) [
        | inl odd ↦ (let none : count_ones (b / 2) ≡ 0 = omega (arith, t, other, odd) in
            let zero_b = zero_from_ones (b / 2) none in
            let some = ones_le_self (a / 2) in
            absurd (omega (arith, zero_b, odd, le, half, some, even)))
        | inr even_b ↦ (let half_b : count_ones (b / 2) ≡ 1 = omega (arith, t, other, even_b) in
            let (k, is) = multiple_by d (a / 2) (b / 2) (omega (arith, few)) half half_b (omega (arith, le)) in (
              k,
              (let da : a ≡ 2 * (a / 2) = omega (arith, even) in
                  let db : b ≡ 2 * (b / 2) = omega (arith, even_b) in
                  let assoc : (x y : ℕ) → 2 * (x * y) ≡ 2 * x * y = λ x y. grind arith in
                  db ∙ ap (λ n. 2 * n) is ∙ assoc (a / 2) k ∙ ap (λ n. n * k) (sym da)),
            ))
      ])
]

is_one : (n : ℕ) → is_chunk n ≡ true → count_ones n ≡ 1
is_one n h = grind (arith, tests)

pub multiple : (a b : ℕ) → is_chunk a ≡ true → is_chunk b ≡ true → a ≤ b → (k : ℕ) × (b ≡ a * k)
multiple a b ha hb le = multiple_by a a b (omega arith) (is_one a ha) (is_one b hb) le

-- a sector at or behind one border and before another
pub by_border : (x m n s : ℕ) → x * m ≤ s → s < x * n → m < n
by_border x m n s lo hi = elim (cases_lt m n) [
  | inl lt ↦ lt
  | inr ge ↦ absurd (let up : x * n ≤ x * m = mul-le x n x m (omega arith) ge in omega (arith, lo, hi, up))
]

-- so many sectors that lie in one chunk lie in one wider chunk
pub wider_by : (a k first count : ℕ) → 0 < a * k → first + count ≤ a * (first / a) + a → first + count ≤ a * k * (first / (a * k)) + a * k
wider_by a k first count some one =
    let n : ℕ = first / (a * k) in
    let low : a * k * (first / (a * k)) ≤ first = mul-div-le first (a * k) in
    let high : first < a * k * (first / (a * k) + 1) = lt-mul-div-succ first some in
    let mine : a * (first / a) ≤ first = mul-div-le first a in
    let split : a * k * (first / (a * k) + 1) ≡ a * (k * (first / (a * k) + 1)) = grind arith in
    let all : a * k * (first / (a * k) + 1) ≡ a * k * (first / (a * k)) + a * k = grind arith in
    -- the narrower chunk's number is below the next border's
    let below : first / a < k * (first / (a * k) + 1) = by_border a (first / a) (k * (first / (a * k) + 1)) first mine (omega (arith, high, split)) in
    let up : a * (first / a) + a ≤ a * (k * (first / (a * k) + 1)) = step a (first / a) (k * (first / (a * k) + 1)) below in
    omega (arith, one, up, split, all)
  where
    step : (x m n : ℕ) → m < n → x * m + x ≤ x * n
    step x m n lt =
        let up : x * (m + 1) ≤ x * n = mul-le x (m + 1) x n (omega arith) (omega (arith, lt)) in
        let e : x * (m + 1) ≡ x * m + x = grind arith in
        omega (arith, up, e)

pub wider : (a b first count : ℕ) → is_chunk a ≡ true → is_chunk b ≡ true → a ≤ b → first + count ≤ a * (first / a) + a → first + count ≤ b * (first / b) + b
wider a b first count ha hb le one =
    let (k, is) = multiple a b ha hb le in
    let some : 0 < a * k = subst (λ n. 0 < n) is (is_chunk-some b hb) in
    subst (λ n. first + count ≤ n * (first / n) + n) (sym is) (wider_by a k first count some one)
