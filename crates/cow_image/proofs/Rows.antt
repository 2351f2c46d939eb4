-- Chunks in a row, by pairs in a row.
use Rattle.std.proofs.Common.{◌≡◌, ℕ, ◌+◌, ◌<◌, ◌≤◌, ◌⊎◌, inl, inr, List, length, get_or, arith, ap, ◌∙◌, sym}
use Rattle.std.specs.Prelude.{Some, None}
use Rattle.std.proofs.lemmas.Bool.{cases_lt}
use Rattle.std.proofs.lemmas.List.{get_or_default}
use Rattle.sector.specs.declared.pair.Pair.{Pair}
use Rattle.cow_image.specs.Sorted.{IsRisingBy, old_of}
use Rattle.cow_image.proofs.Sorts.{rising_far}
use Rattle.cow_image.proofs.Places.{place_past, place_between, place_here}
use Rattle.cow_image.specs.Runs.{IsRun, IsRow}

-- past all pairs
pub run_past : (ps : List Pair) (low number count : ℕ) → ((k : ℕ) (d : Pair) → k < low → (get_or ps k d).old < number) → length ps ≤ low → IsRun ps number None count
run_past ps low number count below end q lt = place_past ps low (number + q) (λ k d h. (let b = below k d h in omega arith)) end

-- before a pair
pub run_between : (ps : List Pair) (low number count : ℕ) (e : Pair) → IsRisingBy old_of ps → ((k : ℕ) (d : Pair) → k < low → (get_or ps k d).old < number) → low < length ps → number + count ≤ (get_or ps low e).old → IsRun ps number None count
run_between ps low number count e up below inside far q lt = place_between ps low (number + q) e up (λ k d h. (let b = below k d h in omega arith)) inside (omega arith) (λ same. omega arith)

-- at a row of pairs
pub run_here : (ps : List Pair) (low number count : ℕ) (e : Pair) → IsRisingBy old_of ps → low < length ps → (get_or ps low e).old ≡ number → IsRow ps low count → IsRun ps number (Some (get_or ps low e).new) count
run_here ps low number count e up inside here row q lt =
    let within : low + q < length ps = (let h = row.inside in omega arith) in
    let old : (get_or ps (low + q) e).old ≡ number + q = row.old q e lt ∙ ap (λ n. n + q) here in
    place_here ps (low + q) (number + q) e
    (λ k d h. (let far : (get_or ps k d).old < (get_or ps (low + q) d).old = rising_far old_of ps up k (low + q) d h within in let same : (get_or ps (low + q) d).old ≡ (get_or ps (low + q) e).old = ap (λ p. p.old) (get_or_default ps (low + q) d e within) in omega arith))
    within old ∙ ap Some (row.new q e lt)

-- a pair alone
pub row_one : (ps : List Pair) (low : ℕ) → low < length ps → IsRow ps low 1
row_one ps low inside = record {
  inside = omega arith;
  old = λ q d lt. (let none : q ≡ 0 = omega arith in let same : low + q ≡ low = omega arith in ap (λ n. (get_or ps n d).old) same ∙ (omega arith));
  new = λ q d lt. (let none : q ≡ 0 = omega arith in let same : low + q ≡ low = omega arith in ap (λ n. (get_or ps n d).new) same ∙ (omega arith));
}

-- a pair more
pub row_more : (ps : List Pair) (low count : ℕ) (first next : Pair) → IsRow ps low count → low + count < length ps → ((d : Pair) → get_or ps low d ≡ first) → ((d : Pair) → get_or ps (low + count) d ≡ next) → next.old ≡ first.old + count → next.new ≡ first.new + count → IsRow ps low (count + 1)
row_more ps low count first next row inside is is' old new = record {
  inside = omega arith;
  old = λ q d lt. by q d (cases_lt q count) lt;
  new = λ q d lt. by' q d (cases_lt q count) lt;
}
  where
    by : (q : ℕ) (d : Pair) → (q < count) ⊎ (count ≤ q) → q < count + 1 → (get_or ps (low + q) d).old ≡ (get_or ps low d).old + q
    by q d (inl lo) lt = row.old q d lo
    by q d (inr hi) lt =
        let same : q ≡ count = omega arith in
        ap (λ n. (get_or ps (low + n) d).old) same ∙ ap (λ p. p.old) (is' d) ∙ old ∙ ap (λ p. p.old + count) (sym (is d)) ∙ ap (λ n. (get_or ps low d).old + n) (sym same)

    by' : (q : ℕ) (d : Pair) → (q < count) ⊎ (count ≤ q) → q < count + 1 → (get_or ps (low + q) d).new ≡ (get_or ps low d).new + q
    by' q d (inl lo) lt = row.new q d lo
    by' q d (inr hi) lt =
        let same : q ≡ count = omega arith in
        ap (λ n. (get_or ps (low + n) d).new) same ∙ ap (λ p. p.new) (is' d) ∙ new ∙ ap (λ p. p.new + count) (sym (is d)) ∙ ap (λ n. (get_or ps low d).new + n) (sym same)
