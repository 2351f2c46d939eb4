-- The group of a merge by its first pair and its count: the longest run at the area's end is `last_run` of the area.
use Rattle.std.proofs.Common.{◌≡◌, ◌⊎◌, inl, inr, ℕ, zero, suc, ◌+◌, ◌-◌, ◌<◌, ◌≤◌, Bool, true, false, List, [], ◌∷◌, ◌++◌, length, take, drop, slice_index_or, arith, refl, ap, ◌∙◌, sym, eq-eqb}
use Rattle.std.specs.Prelude.{◌==◌, ◌&&◌}
use Rattle.std.proofs.lemmas.Bool.{cases_eq, ne_eqb, cond-true, cond-false}
use Rattle.std.proofs.lemmas.List.{length-take, length-drop, take-append-drop, drop-append-le}
use Rattle.sector.specs.declared.pair.Pair.{Pair}
use Rattle.whole_commands.specs.Merges.{follows, rise_from, last_run}

-- the last of some pairs, or another where there is none
abbrev last_or : Pair → List Pair → Pair
last_or d [] = d
last_or d (x ∷ xs) = last_or x xs

last_dropped : (k : ℕ) (d : Pair) (xs : List Pair) → k < length xs → last_or d (drop k xs) ≡ last_or d xs
last_dropped zero d xs low = refl
last_dropped (suc k) d [] low = absurd (omega (arith, low))
last_dropped (suc k) d (x ∷ []) low = absurd (omega (arith, low))
last_dropped (suc k) d (x ∷ y ∷ xs) low = last_dropped k d (y ∷ xs) (omega (arith, low))

last_index : (n : ℕ) (d : Pair) (xs ys : List Pair) → length xs ≡ suc n → slice_index_or (xs ++ ys) n d ≡ last_or d xs
last_index n d [] ys long = absurd (omega (arith, long))
last_index zero d (x ∷ []) ys long = refl
last_index (suc n) d (x ∷ []) ys long = absurd (omega (arith, long))
last_index zero d (x ∷ y ∷ xs) ys long = absurd (omega (arith, long))
last_index (suc n) d (x ∷ y ∷ xs) ys long = last_index n d (y ∷ xs) ys (omega (arith, long))

-- no run reaches over a pair that the next does not follow
broken : (b q : Pair) (before rest : List Pair) → follows (last_or b before) q ≡ false → rise_from b (before ++ q ∷ rest) ≡ false
broken b q [] rest apart = ap (λ x. x && rise_from q rest) apart
broken b q (x ∷ before) rest apart = ap (λ x'. follows b x && x') (broken x q before rest apart) ∙ and_false (follows b x)
  where
    and_false : (x : Bool) → (x && false) ≡ false
    and_false true = refl
    and_false false = refl

run_last : (q : Pair) (rest : List Pair) → rise_from q rest ≡ true → (before : List Pair) → ((0 < length before) → follows (last_or q before) q ≡ false) → last_run (before ++ q ∷ rest) ≡ q ∷ rest
run_last q rest rises [] apart = cond-true _ _ _ rises
run_last q rest rises (b ∷ []) apart = cond-false _ _ _ (broken b q [] rest (apart (omega arith))) ∙ cond-true _ _ _ rises
run_last q rest rises (b ∷ c ∷ before) apart = cond-false _ _ _ (broken b q (c ∷ before) rest (apart (omega arith))) ∙ run_last q rest rises (c ∷ before) (λ some. apart (omega arith))

-- a pair that does not follow another
not_after : (p q : Pair) → (q.old ≡ p.old + 1 → q.new ≡ p.new + 1 → ⊥) → follows p q ≡ false
not_after p q apart = elim (cases_eq q.old (p.old + 1)) [
  | inl old ↦ elim (cases_eq q.new (p.new + 1)) [
    | inl new ↦ absurd (apart old new)
    | inr new ↦ ap (λ b. (q.old == p.old + 1) && b) (ne_eqb _ _ new) ∙ ap (λ b. b && false) (eq-eqb _ _ old)
  ]
  | inr old ↦ ap (λ b. b && (q.new == p.new + 1)) (ne_eqb _ _ old)
]

-- runs: pair k of one that begins with a pair, and so many from it on
module _ (run : Pair → ℕ → ℕ → List Pair) (ends : (p : Pair) (k : ℕ) → run p k 0 ≡ []) (goes : (p : Pair) (k n : ℕ) → run p k (suc n) ≡ record { old = p.old + k; new = p.new + k } ∷ run p (k + 1) n) where
  abbrev shifted : Pair → ℕ → Pair
  shifted p k = record { old = p.old + k; new = p.new + k }

  rises : (p : Pair) (k n : ℕ) → rise_from (shifted p k) (run p (k + 1) n) ≡ true
  rises p k zero = ap (rise_from (shifted p k)) (ends p (k + 1))
  rises p k (suc n) =
      ap (rise_from (shifted p k)) (goes p (k + 1) n)
      ∙ ap (λ b. (b && (p.new + (k + 1) == p.new + k + 1)) && rise_from (shifted p (k + 1)) (run p (k + 1 + 1) n)) (eq-eqb (p.old + (k + 1)) (p.old + k + 1) (omega arith))
      ∙ ap (λ b. b && rise_from (shifted p (k + 1)) (run p (k + 1 + 1) n)) (eq-eqb (p.new + (k + 1)) (p.new + k + 1) (omega arith))
      ∙ rises p (k + 1) n

  pub group_is : (filled count : ℕ) (pairs : List Pair) (first : Pair) → 0 < count → count ≤ filled → filled ≤ length pairs → drop (length pairs - count) pairs ≡ run first 0 count
      → ((count ≡ filled) ⊎ ((d : Pair) → first.old ≡ (slice_index_or pairs (length pairs - (count + 1)) d).old + 1 → first.new ≡ (slice_index_or pairs (length pairs - (count + 1)) d).new + 1 → ⊥))
      → last_run (drop (length pairs - filled) pairs) ≡ run first 0 count
  group_is filled zero pairs first some fits room ends_with most = absurd (omega (arith, some))
  group_is filled (suc n) pairs first some fits room ends_with most =
      let before : List Pair = take (length pairs - suc n) pairs in
      let k : ℕ = length pairs - filled in
      let q : Pair = shifted first 0 in
      let rest : List Pair = run first (0 + 1) n in
      let all : pairs ≡ before ++ q ∷ rest = sym (take-append-drop (length pairs - suc n) pairs) ∙ ap (λ xs. before ++ xs) (ends_with ∙ goes first 0 n) in
      let long : length before ≡ length pairs - suc n = length-take (length pairs - suc n) pairs ∙ omega (arith, fits, room) in
      let area : drop k pairs ≡ drop k before ++ q ∷ rest = ap (drop k) all ∙ drop-append-le k before (q ∷ rest) (omega (arith, long, fits, room)) in
      let left : length (drop k before) ≡ filled - suc n = length-drop k before ∙ omega (arith, long, fits, room) in
      let same_old : first.old ≡ first.old + 0 = omega arith in
      let same_new : first.new ≡ first.new + 0 = omega arith in
      let apart : (0 < length (drop k before)) → follows (last_or q (drop k before)) q ≡ false = λ low. elim most [
        | inl all_of ↦ absurd (omega (arith, low, left, all_of))
        | inr most ↦ (
            let here : slice_index_or pairs (length pairs - (suc n + 1)) q ≡ last_or q (drop k before) =
            ap (λ xs. slice_index_or xs (length pairs - (suc n + 1)) q) all
            ∙ last_index (length pairs - (suc n + 1)) q before (q ∷ rest) (omega (arith, long, low, left))
            ∙ sym (last_dropped k q before (omega (arith, long, low, left))) in
            not_after (last_or q (drop k before)) q
            (λ old new. most q (same_old ∙ old ∙ ap (λ (x : Pair). x.old + 1) (sym here)) (same_new ∙ new ∙ ap (λ (x : Pair). x.new + 1) (sym here))))
      ] in
      ap last_run area ∙ run_last q rest (rises first 0 n) (drop k before) apart ∙ sym (goes first 0 n)
