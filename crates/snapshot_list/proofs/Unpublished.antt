-- The first chunk that a snapshot has not published, of those that a run of sectors touches: they are looked at one by one.
use Rattle.std.proofs.Common.{◌≡◌, inl, inr, ℕ, zero, suc, ◌+◌, ◌-◌, ◌/◌, ◌<◌, ◌≤◌, Bool, true, false, refl, sym, ◌∙◌, ap, arith}
use Rattle.std.specs.Prelude.{Option, Some, None}
use Rattle.std.specs.List.{All, range_with_len}
use Rattle.std.proofs.lemmas.Bool.{cases_eq, cond-false}
use Rattle.std.proofs.lemmas.List.Elements.{All-head, All-tail}
use Rattle.in_flight.specs.Due.{first_by}
use Rattle.chunk.specs.Pieces.{touched, chunks_over}
use Rattle.chunk.proofs.Chunks.{chunk_order}
use Rattle.chunk.proofs.Cuts.{touched_some}

-- of the chunks from one to another, with the last one
abbrev pub first_until : (ℕ → Bool) → ℕ → ℕ → Option ℕ
first_until test last here = first_by test (λ c. c) (range_with_len here (last + 1 - here))

module _ (test : ℕ → Bool) (last here : ℕ) where
  one_more : here < last + 1 → first_until test last here ≡ first_by test (λ c. c) (range_with_len here (suc (last - here)))
  one_more lt = (let e : last + 1 - here ≡ suc (last - here) = omega (arith, lt) in ap (λ n. first_by test (λ c. c) (range_with_len here n)) e)

  -- one that passes is the first
  pub until_here : here < last + 1 → test here ≡ true → first_until test last here ≡ Some here
  until_here lt is = one_more lt ∙ rw is refl

  -- else it is sought behind it
  pub until_next : here < last + 1 → test here ≡ false → first_until test last here ≡ first_until test last (here + 1)
  until_next lt is =
      let e : last - here ≡ last + 1 - (here + 1) = omega (arith, lt) in
      let rest : first_by test (λ c. c) (range_with_len here (suc (last - here))) ≡ first_by test (λ c. c) (range_with_len (here + 1) (last - here)) = rw is refl in
      one_more lt ∙ rest ∙ ap (λ n. first_by test (λ c. c) (range_with_len (here + 1) n)) e

  -- and none is found past the last
  pub until_past : last + 1 ≤ here → first_until test last here ≡ None
  until_past le = (let e : last + 1 - here ≡ 0 = omega (arith, le) in ap (λ n. first_by test (λ c. c) (range_with_len here n)) e)

-- the chunks that so many sectors touch are those from the first one's to the last one's
touched_is : (chunk first count : ℕ) → 0 < chunk → 0 < count → touched chunk (record { first = first; count = count; size = first + count }) ≡ (first + (count - 1)) / chunk + 1 - first / chunk
touched_is chunk first count some full =
    let touches = touched_some chunk (record { first = first; count = count; size = first + count }) full in
    let place : first + count - 1 ≡ first + (count - 1) = omega (arith, full) in
    let last = ap (λ n. n / chunk) place in
    let order = chunk_order chunk first (first + (count - 1)) some (omega arith) in
    omega (arith, touches, last, order)

-- the same numbers from a later one on, where none before that passes
later : (test : ℕ → Bool) (a b n : ℕ) → a ≤ b → All (λ c. c < b → test c ≡ false) (range_with_len a n) → first_by test (λ c. c) (range_with_len a n) ≡ first_by test (λ c. c) (range_with_len b (a + n - b))
later test a b zero le all = (let e : a + 0 - b ≡ 0 = omega (arith, le) in ap (λ n. first_by test (λ c. c) (range_with_len b n)) (sym e))
later test a b (suc n) le all = elim (cases_eq a b) [
  | inl same ↦
      (let e : a + suc n - b ≡ suc n = omega (arith, same) in
      ap (λ k. first_by test (λ c. c) (range_with_len k (suc n))) same ∙ ap (λ k. first_by test (λ c. c) (range_with_len b k)) (sym e))
  | inr other ↦
      (let fails : test a ≡ false = All-head (λ c. c < b → test c ≡ false) a (range_with_len (a + 1) n) all (omega (arith, le, other)) in
      let e : a + 1 + n - b ≡ a + suc n - b = omega arith in
      cond-false _ _ _ fails ∙ later test (a + 1) b n (omega (arith, le, other)) (All-tail (λ c. c < b → test c ≡ false) a (range_with_len (a + 1) n) all) ∙ ap (λ k. first_by test (λ c. c) (range_with_len b k)) e)
]

-- so of the chunks that so many sectors touch
pub until_from : (test : ℕ → Bool) (chunk first count from : ℕ) → 0 < chunk → 0 < count → first / chunk ≤ from → All (λ c. c < from → test c ≡ false) (chunks_over chunk first count)
    → first_by test (λ c. c) (chunks_over chunk first count) ≡ first_until test ((first + (count - 1)) / chunk) from
until_from test chunk first count from some full le all =
    let n : ℕ = touched chunk (record { first = first; count = count; size = first + count }) in
    let order = chunk_order chunk first (first + (count - 1)) some (omega arith) in
    let e : first / chunk + n - from ≡ (first + (count - 1)) / chunk + 1 - from = omega (arith, touched_is chunk first count some full, order) in
    later test (first / chunk) from n le all ∙ ap (λ k. first_by test (λ c. c) (range_with_len from k)) e
