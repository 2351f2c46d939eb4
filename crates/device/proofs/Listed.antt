-- Lists of sectors, and where a sector stands in one.
use Rattle.std.proofs.Common.{◌≡◌, ◌≢◌, ◌⊎◌, inl, inr, ℕ, zero, suc, ◌+◌, ◌-◌, ◌<◌, ◌≤◌, List, [], ◌∷◌, ◌++◌, length, get_or, true, eqb, refl, ap, ◌∙◌, sym, subst, arith, length-append}
use Rattle.std.specs.List.{range_with_len, list_any}
use Rattle.std.proofs.lemmas.Bool.{cases_eq, cases_lt}
use Rattle.std.proofs.lemmas.Bool.Decides.{nat_tests, Decides-eqb}
use Rattle.std.proofs.lemmas.List.{get_or_append_left, get_or-append-add, get_or_default}
use Rattle.std.proofs.lemmas.List.FromFn.{length-range_with_len, get_or-range_with_len}
use Rattle.std.proofs.lemmas.Map.Made.{IsDistinct-from_AllPairs}
use Rattle.std.proofs.lemmas.Map.Steps.{length-le_from_distinct_below}
use Rattle.device.specs.Listed.{place_in}

pub place_here : (x s : ℕ) (xs : List ℕ) → x ≡ s → place_in (x ∷ xs) s ≡ 0
place_here x s xs e = grind (arith, nat_tests)

pub place_later : (x s : ℕ) (xs : List ℕ) → x ≢ s → place_in (x ∷ xs) s ≡ suc (place_in xs s)
place_later x s xs ne = grind (arith, nat_tests)

pub place_few : (xs : List ℕ) (s : ℕ) → place_in xs s ≤ length xs
place_few [] s = omega arith
place_few (x ∷ xs) s = let rest = place_few xs s in elim (cases_eq x s) [ inl e ↦ omega (arith, place_here x s xs e) | inr ne ↦ omega (arith, place_later x s xs ne) ]

-- where a sector stands
pub place_at : (xs : List ℕ) (s : ℕ) → place_in xs s < length xs → get_or xs (place_in xs s) 0 ≡ s
place_at [] s lt = absurd (omega arith)
place_at (x ∷ xs) s lt = elim (cases_eq x s) [
  | inl e ↦ ap (λ k. get_or (x ∷ xs) k 0) (place_here x s xs e) ∙ e
  | inr ne ↦ (let later = place_later x s xs ne in ap (λ k. get_or (x ∷ xs) k 0) later ∙ place_at xs s (omega arith))
]

-- a sector that stands somewhere is listed
pub place_of : (xs : List ℕ) (j s : ℕ) → j < length xs → get_or xs j 0 ≡ s → place_in xs s ≤ j
place_of [] j s lt is = absurd (omega arith)
place_of (x ∷ xs) zero s lt is = omega (arith, place_here x s xs is)
place_of (x ∷ xs) (suc j) s lt is = elim (cases_eq x s) [ inl e ↦ omega (arith, place_here x s xs e) | inr ne ↦ omega (arith, place_later x s xs ne, place_of xs j s (omega arith) is) ]

-- a longer list
pub place_left : (xs ys : List ℕ) (s : ℕ) → place_in xs s < length xs → place_in (xs ++ ys) s ≡ place_in xs s
place_left [] ys s lt = absurd (omega arith)
place_left (x ∷ xs) ys s lt = elim (cases_eq x s) [
  | inl e ↦ place_here x s (xs ++ ys) e ∙ sym (place_here x s xs e)
  | inr ne ↦ (let later = place_later x s xs ne in place_later x s (xs ++ ys) ne ∙ ap suc (place_left xs ys s (omega arith)) ∙ sym later)
]

pub place_right : (xs ys : List ℕ) (s : ℕ) → length xs ≤ place_in xs s → place_in (xs ++ ys) s ≡ length xs + place_in ys s
place_right [] ys s ge = omega arith
place_right (x ∷ xs) ys s ge = elim (cases_eq x s) [
  | inl e ↦ absurd (omega (arith, place_here x s xs e))
  | inr ne ↦ (let later = place_later x s xs ne in omega (arith, place_later x s (xs ++ ys) ne, place_right xs ys s (omega arith)))
]

-- sectors that follow one another
pub place_in_range : (a n i s : ℕ) → i < n → a + i ≡ s → place_in (range_with_len a n) s ≡ i
place_in_range a zero i s lt is = absurd (omega arith)
place_in_range a (suc n) zero s lt is = place_here a s (range_with_len (a + 1) n) (omega arith)
place_in_range a (suc n) (suc i) s lt is = let ne : a ≢ s = omega arith in omega (arith, place_later a s (range_with_len (a + 1) n) ne, place_in_range (a + 1) n i s (omega arith) (omega arith))

pub place_out_range : (a n s : ℕ) → (s < a) ⊎ (a + n ≤ s) → place_in (range_with_len a n) s ≡ n
place_out_range a zero s out = refl
place_out_range a (suc n) s out =
    let ne : a ≢ s = λ e. elim out [ inl lt ↦ omega arith | inr ge ↦ omega arith ] in
    let rest : (s < a + 1) ⊎ (a + 1 + n ≤ s) = elim out [ inl lt ↦ inl (omega arith) | inr ge ↦ inr (omega arith) ] in
    place_later a s (range_with_len (a + 1) n) ne ∙ ap suc (place_out_range (a + 1) n s rest)

pub range_more : (a m n : ℕ) → range_with_len a (m + n) ≡ range_with_len a m ++ range_with_len (a + m) n
range_more a zero n = let e : a ≡ a + 0 = omega arith in let e' : 0 + n ≡ n = omega arith in ap (range_with_len a) e' ∙ ap (λ k. range_with_len k n) e
range_more a (suc m) n = let e : a + 1 + m ≡ a + suc m = omega arith in let e' : suc m + n ≡ suc (m + n) = omega arith in ap (range_with_len a) e' ∙ ap (λ xs. a ∷ xs) (range_more (a + 1) m n ∙ ap (λ k. range_with_len (a + 1) m ++ range_with_len k n) e)

-- a list that has no sector twice
abbrev pub Once : List ℕ → Type 0
Once xs = (j : ℕ) → j < length xs → place_in xs (get_or xs j 0) ≡ j

-- it gets longer by sectors that it has not
pub once_more : (xs : List ℕ) (a n : ℕ) → Once xs → ((t : ℕ) → a ≤ t → t < a + n → length xs ≤ place_in xs t) → Once (xs ++ range_with_len a n)
once_more xs a n once new j lt =
    let all : length (xs ++ range_with_len a n) ≡ length xs + n = omega (arith, length-append xs (range_with_len a n), length-range_with_len a n) in
    elim (cases_lt j (length xs)) [
      | inl front ↦ (
          let is : get_or (xs ++ range_with_len a n) j 0 ≡ get_or xs j 0 = get_or_append_left xs (range_with_len a n) 0 j front in
          let own = once j front in
          ap (place_in (xs ++ range_with_len a n)) is ∙ place_left xs (range_with_len a n) (get_or xs j 0) (omega arith) ∙ own
          )
      | inr past ↦ (
          let i : ℕ = j - length xs in
          let at : j ≡ length xs + i = omega arith in
          let is : get_or (xs ++ range_with_len a n) j 0 ≡ a + i = ap (λ k. get_or (xs ++ range_with_len a n) k 0) at ∙ get_or-append-add xs (range_with_len a n) i 0 ∙ get_or-range_with_len a n i 0 (omega arith) in
          ap (place_in (xs ++ range_with_len a n)) is ∙ place_right xs (range_with_len a n) (a + i) (new (a + i) (omega arith) (omega arith)) ∙ omega (arith, place_in_range a n i (a + i) (omega arith) refl)
          )
    ]

-- what stands in the longer list
pub more_at : (xs : List ℕ) (a n : ℕ) (P : ℕ → Type 0) → ((j : ℕ) → j < length xs → P (get_or xs j 0)) → ((t : ℕ) → a ≤ t → t < a + n → P t) → (j : ℕ) → j < length (xs ++ range_with_len a n) → P (get_or (xs ++ range_with_len a n) j 0)
more_at xs a n P old new j lt =
    let all : length (xs ++ range_with_len a n) ≡ length xs + n = omega (arith, length-append xs (range_with_len a n), length-range_with_len a n) in
    elim (cases_lt j (length xs)) [
      | inl front ↦ subst P (sym (get_or_append_left xs (range_with_len a n) 0 j front)) (old j front)
      | inr past ↦ (
          let i : ℕ = j - length xs in
          let at : j ≡ length xs + i = omega arith in
          let is : get_or (xs ++ range_with_len a n) j 0 ≡ a + i = ap (λ k. get_or (xs ++ range_with_len a n) k 0) at ∙ get_or-append-add xs (range_with_len a n) i 0 ∙ get_or-range_with_len a n i 0 (omega arith) in
          subst P (sym is) (new (a + i) (omega arith) (omega arith))
          )
    ]

-- a sector is listed in the longer list
pub more_has : (xs : List ℕ) (a n s : ℕ) → (place_in xs s < length xs) ⊎ ((a ≤ s) × (s < a + n)) → place_in (xs ++ range_with_len a n) s < length (xs ++ range_with_len a n)
more_has xs a n s (inl old) = omega (arith, place_left xs (range_with_len a n) s old, length-append xs (range_with_len a n))
more_has xs a n s (inr new) = elim (cases_lt (place_in xs s) (length xs)) [
  | inl old ↦ omega (arith, place_left xs (range_with_len a n) s old, length-append xs (range_with_len a n))
  | inr past ↦ (
      let i : ℕ = s - a in
      let near : i < n = omega (arith, new.0, new.1) in
      let at : a + i ≡ s = omega (arith, new.0) in
      omega (arith, place_right xs (range_with_len a n) s past, place_in_range a n i s near at, length-append xs (range_with_len a n), length-range_with_len a n)
      )
]

below_any : (xs : List ℕ) (n q : ℕ) → ((j : ℕ) → j < length xs → get_or xs j 0 < n) → list_any (eqb q) xs ≡ true → q < n
below_any [] n q below is = cc
below_any (x ∷ xs) n q below is = elim (cases_eq q x) [
  | inl e ↦ omega (arith, below 0 (omega arith))
  | inr ne ↦ below_any xs n q (λ j lt. below (suc j) (omega arith)) (grind (arith, nat_tests))
]

-- sectors below a number, none twice, are no more
pub few : (xs : List ℕ) (n : ℕ) → Once xs → ((j : ℕ) → j < length xs → get_or xs j 0 < n) → length xs ≤ n
few xs n once below = length-le_from_distinct_below xs n
    (IsDistinct-from_AllPairs Decides-eqb xs (λ i j d lt long same.
    let same' : get_or xs i 0 ≡ get_or xs j 0 = get_or_default xs i 0 d (omega arith) ∙ same ∙ sym (get_or_default xs j 0 d long) in
    let at : i ≡ j = sym (once i (omega arith)) ∙ ap (place_in xs) same' ∙ once j long in
    omega arith))
    (λ q is. below_any xs n q below is)

-- there is room for some that are not listed
pub room_left : (xs : List ℕ) (a k n : ℕ) → Once xs → ((j : ℕ) → j < length xs → get_or xs j 0 < n) → a + k ≤ n → ((t : ℕ) → a ≤ t → t < a + k → length xs ≤ place_in xs t) → length xs + k ≤ n
room_left xs a k n once below fits new = omega (arith, few (xs ++ range_with_len a k) n (once_more xs a k once new) (more_at xs a k (λ t. t < n) below (λ t lo hi. omega arith)), length-append xs (range_with_len a k), length-range_with_len a k)
