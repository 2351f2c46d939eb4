-- A pair more is counted.
use Rattle.std.proofs.Common.{◌≡◌, inl, inr, ℕ, ◌+◌, ◌/◌, ◌<◌, ◌≤◌, List, [], length, map, get_or, set, take, replicate, refl, sym, ◌∙◌, ap, arith, zero-add}
use Rattle.std.specs.Prelude.{◌==◌, nat_lt}
use Rattle.std.specs.List.{range_with_len}
use Rattle.std.proofs.lemmas.Bool.{cases_eq, cases_Bool, eq-eqb, ne_eqb, ltb-true, ltb-false, cond-true, cond-false}
use Rattle.std.proofs.lemmas.List.{ext_get_or, get_or-set_same, get_or-set_other, length-set, length-replicate, get_or-replicate}
use Rattle.std.proofs.lemmas.List.FromFn.{length-map-range_with_len, get_or-map-range_with_len}
use Rattle.std.proofs.lemmas.List.Sums.{count_by_more_no, count_by_more_yes, count_by-le-length}
use Rattle.sector.specs.declared.pair.Pair.{Pair}
use Rattle.map_drawing.specs.Cells.{count_in, with_one}

abbrev counted : ℕ → List Pair → ℕ → List ℕ
counted part pairs n = map (count_in part pairs) (range_with_len 0 n)

counted_at : (part : ℕ) (pairs : List Pair) (n j : ℕ) → j < n → get_or (counted part pairs n) j 0 ≡ count_in part pairs j
counted_at part pairs n j lt = get_or-map-range_with_len (count_in part pairs) 0 n j j 0 lt (zero-add j)

counted_long : (part : ℕ) (pairs : List Pair) (n : ℕ) → length (counted part pairs n) ≡ n
counted_long part pairs n = length-map-range_with_len (count_in part pairs) 0 n

-- nothing is counted yet
pub none_counted : (part n : ℕ) → replicate n 0 ≡ map (count_in part []) (range_with_len 0 n)
none_counted part n = ext_get_or 0 (replicate n 0) (counted part [] n) (length-replicate {A = ℕ} n 0 ∙ sym (counted_long part [] n))
    (λ j lt. let low : j < n = rw (length-replicate {A = ℕ} n 0) at lt in get_or-replicate {A = ℕ} n j 0 0 low ∙ sym (counted_at part [] n j low))

pub none_counted_in : (part n : ℕ) (counts : List ℕ) → counts ≡ replicate n 0 → counts ≡ map (count_in part []) (range_with_len 0 (length counts))
none_counted_in part n counts is = is ∙ none_counted part n ∙ ap (λ (k : ℕ). map (count_in part []) (range_with_len 0 k)) (sym (ap length is ∙ length-replicate {A = ℕ} n 0))

-- a cell's count is no more than there are pairs
pub few_counted : (part : ℕ) (pairs : List Pair) (counts : List ℕ) (n j : ℕ) → counts ≡ map (count_in part pairs) (range_with_len 0 n) → j < n → get_or counts j 0 ≤ length pairs
few_counted part pairs counts n j is lt =
    let at : get_or counts j 0 ≡ count_in part pairs j = ap (λ cs. get_or cs j 0) is ∙ counted_at part pairs n j lt in
    let few = count_by-le-length (λ (pair : Pair). pair.old / part == j) pairs in
    omega arith

pub counted_here : (part : ℕ) (pairs : List Pair) (counts : List ℕ) (n k : ℕ) (d : Pair) → k < length pairs → (get_or pairs k d).old / part < n → counts ≡ map (count_in part (take k pairs)) (range_with_len 0 n) → set counts ((get_or pairs k d).old / part) (get_or counts ((get_or pairs k d).old / part) 0 + 1) ≡ map (count_in part (take (k + 1) pairs)) (range_with_len 0 n)
counted_here part pairs counts n k d lt inside is =
    ext_get_or 0 _ _ (length-set counts c (get_or counts c 0 + 1) ∙ long ∙ sym (counted_long part (take (k + 1) pairs) n))
    (λ j below.
    let low : j < n = rw (length-set counts c (get_or counts c 0 + 1) ∙ long) at below in
    elim (cases_eq c j) [
      | inl same ↦
          ap (λ i. get_or (set counts c (get_or counts c 0 + 1)) i 0) (sym same)
          ∙ get_or-set_same counts c (get_or counts c 0 + 1) 0 (omega (arith, long, inside))
          ∙ ap (λ v. v + 1) (before c inside)
          ∙ sym (count_by_more_yes (λ (pair : Pair). pair.old / part == c) pairs k d lt (eq-eqb c c refl))
          ∙ ap (count_in part (take (k + 1) pairs)) same
          ∙ sym (counted_at part (take (k + 1) pairs) n j low)
      | inr other ↦
          get_or-set_other counts c j (get_or counts c 0 + 1) 0 (λ e. other (sym e))
          ∙ before j low
          ∙ sym (count_by_more_no (λ (pair : Pair). pair.old / part == j) pairs k d lt (ne_eqb c j other))
          ∙ sym (counted_at part (take (k + 1) pairs) n j low)
    ])
  where
    c : ℕ
    c = (get_or pairs k d).old / part

    long : length counts ≡ n
    long = ap length is ∙ counted_long part (take k pairs) n

    before : (j : ℕ) → j < n → get_or counts j 0 ≡ count_in part (take k pairs) j
    before j low = ap (λ cs. get_or cs j 0) is ∙ counted_at part (take k pairs) n j low

pub counted_past : (part : ℕ) (pairs : List Pair) (counts : List ℕ) (n k : ℕ) (d : Pair) → k < length pairs → n ≤ (get_or pairs k d).old / part → counts ≡ map (count_in part (take k pairs)) (range_with_len 0 n) → counts ≡ map (count_in part (take (k + 1) pairs)) (range_with_len 0 n)
counted_past part pairs counts n k d lt past is =
    is ∙ ext_get_or 0 _ _ (counted_long part (take k pairs) n ∙ sym (counted_long part (take (k + 1) pairs) n))
    (λ j below.
    let low : j < n = rw (counted_long part (take k pairs) n) at below in
    counted_at part (take k pairs) n j low
    ∙ sym (count_by_more_no (λ (pair : Pair). pair.old / part == j) pairs k d lt (ne_eqb ((get_or pairs k d).old / part) j (omega arith)))
    ∙ sym (counted_at part (take (k + 1) pairs) n j low))

pub counted_one : (part : ℕ) (pairs : List Pair) (counts : List ℕ) (n k : ℕ) (d : Pair) → k < length pairs → counts ≡ map (count_in part (take k pairs)) (range_with_len 0 n) → with_one counts ((get_or pairs k d).old / part) ≡ map (count_in part (take (k + 1) pairs)) (range_with_len 0 n)
counted_one part pairs counts n k d lt is =
    let c : ℕ = (get_or pairs k d).old / part in
    let long : length counts ≡ n = ap length is ∙ counted_long part (take k pairs) n in
    elim (cases_Bool (nat_lt c (length counts))) [
      | inl inside ↦ cond-true _ _ _ inside ∙ counted_here part pairs counts n k d lt (let low = ltb-true c (length counts) inside in omega arith) is
      | inr past ↦ cond-false _ _ _ past ∙ counted_past part pairs counts n k d lt (let high = ltb-false c (length counts) past in omega arith) is
    ]
