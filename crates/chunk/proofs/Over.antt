-- The chunks that a run of sectors touches, for chunks of another size than the run's own.
use Rattle.std.proofs.Common.{◌≡◌, inl, inr, ℕ, ◌+◌, ◌-◌, ◌*◌, ◌/◌, ◌<◌, ◌≤◌, true, arith, ap, sym, ◌∙◌, subst}
use Rattle.std.specs.Prelude.{max}
use Rattle.std.proofs.lemmas.Bool.{cases_lt}
use Rattle.std.proofs.lemmas.Nat.{mul-le}
use Rattle.std.proofs.Math.Nat.{mul-div-le, lt-mul-div-succ}
use borrow.Author.Tests.{tests}
use Rattle.chunk.specs.Sizes.{is_chunk}
use Rattle.chunk.specs.Pieces.{Span, touched}
use Rattle.chunk.proofs.Limits.{is_chunk-some}
use Rattle.chunk.proofs.Cuts.{touched_some}
use Rattle.chunk.proofs.Wider.{multiple, wider, by_border}

-- a number between two borders of chunks
pub within : (x n s : ℕ) → 0 < x → x * n ≤ s → s < x * n + x → s / x ≡ n
within x n s some lo hi =
    let low : x * (s / x) ≤ s = mul-div-le s x in
    let high : s < x * (s / x + 1) = lt-mul-div-succ s some in
    let e : x * (n + 1) ≡ x * n + x = grind arith in
    let below : s / x < n + 1 = by_border x (s / x) (n + 1) s low (omega (arith, hi, e)) in
    let above : n < s / x + 1 = by_border x n (s / x + 1) s lo high in
    omega (arith, below, above)

-- each sector of the run lies in one of the chunks that are touched
pub in_touched : (chunk : ℕ) (s : Span) (i : ℕ) → 0 < chunk → i < s.count
    → (s.first / chunk ≤ (s.first + i) / chunk) × ((s.first + i) / chunk < s.first / chunk + touched chunk s)
in_touched chunk s i some lt =
    let count : touched chunk s ≡ (s.first + s.count - 1) / chunk - s.first / chunk + 1 = touched_some chunk s (omega (arith, lt)) in
    let up = up_to s.first (s.first + i) (omega arith) in
    let all = up_to (s.first + i) (s.first + s.count - 1) (omega (arith, lt)) in
    (up, omega (arith, count, up, all))
  where
    up_to : (a b : ℕ) → a ≤ b → a / chunk ≤ b / chunk
    up_to a b le =
        let low : chunk * (a / chunk) ≤ a = mul-div-le a chunk in
        let high : b < chunk * (b / chunk + 1) = lt-mul-div-succ b some in
        let below : a / chunk < b / chunk + 1 = by_border chunk (a / chunk) (b / chunk + 1) a low (omega (arith, high, le)) in
        omega (arith, below)

-- and each chunk that is touched has a sector of the run
pub touches : (chunk : ℕ) (s : Span) (c : ℕ) → 0 < chunk → 0 < s.count → s.first / chunk ≤ c → c < s.first / chunk + touched chunk s
    → (i : ℕ) × (i < s.count) × ((s.first + i) / chunk ≡ c)
touches chunk s c some full from to = elim (cases_lt (s.first / chunk) c) [
  | inl lt ↦ (let last : ℕ = s.first + s.count - 1 in
      let count : touched chunk s ≡ last / chunk - s.first / chunk + 1 = touched_some chunk s full in
      let high : s.first < chunk * (s.first / chunk + 1) = lt-mul-div-succ s.first some in
      let up : chunk * (s.first / chunk + 1) ≤ chunk * c = mul-le chunk (s.first / chunk + 1) chunk c (omega arith) (omega (arith, lt)) in
      let most : chunk * c ≤ chunk * (last / chunk) = mul-le chunk c chunk (last / chunk) (omega arith) (omega (arith, to, count, from)) in
      let low : chunk * (last / chunk) ≤ last = mul-div-le last chunk in
      let is : s.first + (chunk * c - s.first) ≡ chunk * c = omega (arith, high, up) in (
        chunk * c - s.first,
        omega (arith, most, low, full, high, up),
        ap (λ n. n / chunk) is ∙ within chunk c (chunk * c) some (omega arith) (omega (arith, some)),
      ))
  | inr ge ↦ (0, full, (let is : s.first / chunk ≡ c = omega (arith, ge, from) in ap (λ n. n / chunk) (omega arith) ∙ is))
]

-- a merged chunk, or a part of it from its beginning, touches so many chunks of another size
pub few_over : (own m q count size : ℕ) → is_chunk own ≡ true → is_chunk m ≡ true → count ≤ m
    → touched own (record { first = m * q; count = count; size = size }) ≤ max 1 (m / own)
few_over own m q count size ho hm le = elim (cases_lt 0 count) [
  | inl full ↦ (let is = touched_some own (record { first = m * q; count = count; size = size }) full in
      elim (cases_lt m own) [
        | inl lt ↦ (let mine : m * q / m ≡ q = within m q (m * q) (is_chunk-some m hm) (omega arith) (omega (arith, is_chunk-some m hm)) in
            let one : m * q + count ≤ own * (m * q / own) + own = wider m own (m * q) count hm ho (omega (arith, lt)) (subst (λ n. m * q + count ≤ m * n + m) (sym mine) (omega (arith, le))) in
            let low : own * (m * q / own) ≤ m * q = mul-div-le (m * q) own in
            let last : (m * q + count - 1) / own ≡ m * q / own = within own (m * q / own) (m * q + count - 1) (is_chunk-some own ho) (omega (arith, low, full)) (omega (arith, one, full)) in
            grind (arith, is, last))
        | inr ge ↦ (let (k, e) = multiple own m ho hm (omega (arith, ge)) in
            let some = is_chunk-some own ho in
            let times : m / own ≡ k = within own k m some (omega (arith, e)) (omega (arith, e, some)) in
            let assoc : own * k * q ≡ own * (k * q) = grind arith in
            let at : m * q ≡ own * (k * q) = ap (λ n. n * q) e ∙ assoc in
            let first : m * q / own ≡ k * q = within own (k * q) (m * q) some (omega (arith, at)) (omega (arith, at, some)) in
            let low : own * ((m * q + count - 1) / own) ≤ m * q + count - 1 = mul-div-le (m * q + count - 1) own in
            let split : own * (k * q + k) ≡ own * (k * q) + own * k = grind arith in
            let last : (m * q + count - 1) / own < k * q + k = by_border own ((m * q + count - 1) / own) (k * q + k) (m * q + count - 1) low (omega (arith, at, split, le, e, full)) in
            grind (arith, is, first, last, times))
      ])
  | inr none ↦ (let zero_count : count ≡ 0 = omega (arith, none) in grind (arith, tests, zero_count))
]
