-- The next place, as pairs are handed out.
use Rattle.std.proofs.Common.{◌≡◌, inl, inr, ℕ, ◌+◌, ◌*◌, ◌<◌, ◌≤◌, List, [], ◌∷◌, ◌++◌, length, get_or, arith, refl, ap, ◌∙◌, sym, false, length-append}
use Rattle.std.proofs.lemmas.Bool.{cases_Bool, cases_eq, true≢false, cond-true, cond-false}
use Rattle.std.proofs.lemmas.List.Elements.{All-push}
use Rattle.std.proofs.lemmas.Nat.{mul-le}
use Rattle.std.proofs.lemmas.List.{get_or_push}
use Rattle.std.specs.List.{All}
use Rattle.cow_format.specs.Places.{is_area_place}
use Rattle.cow_format.proofs.AreaPlaces.{after_place}
use Rattle.cow_format.specs.NextPlace.{IsNextPlace, stepped}

stepped_least : (chunk n m : ℕ) → is_area_place chunk m ≡ false → n ≤ m → stepped chunk n ≤ m
stepped_least chunk n m free le = elim (cases_Bool (is_area_place chunk n)) [
  | inr out ↦ (let e : stepped chunk n ≡ n = cond-false _ _ _ out in omega arith)
  | inl at ↦ (let e : stepped chunk n ≡ n + 1 = cond-true _ _ _ at in
      elim (cases_eq n m) [
        | inl same ↦ absurd (true≢false (sym at ∙ ap (is_area_place chunk) same ∙ free))
        | inr ne ↦ omega arith
      ])
]

stepped_free : (chunk n : ℕ) → 0 < chunk → is_area_place chunk (stepped chunk n) ≡ false
stepped_free chunk n pos = elim (cases_Bool (is_area_place chunk n)) [
  | inr out ↦ (let e : stepped chunk n ≡ n = cond-false _ _ _ out in ap (is_area_place chunk) e ∙ out)
  | inl at ↦ (let e : stepped chunk n ≡ n + 1 = cond-true _ _ _ at in ap (is_area_place chunk) e ∙ after_place chunk n pos at)
]

stepped_past : (chunk n : ℕ) → n ≤ stepped chunk n
stepped_past chunk n = elim (cases_Bool (is_area_place chunk n)) [
  | inr out ↦ (let e : stepped chunk n ≡ n = cond-false _ _ _ out in omega arith)
  | inl at ↦ (let e : stepped chunk n ≡ n + 1 = cond-true _ _ _ at in omega arith)
]

-- after a place was handed out
pub next-taken : (chunk : ℕ) (taken : List ℕ) (n : ℕ) → 0 < chunk → IsNextPlace chunk taken n → IsNextPlace chunk (taken ++ n ∷ []) (stepped chunk (n + 1))
next-taken chunk taken n pos is = let past = stepped_past chunk (n + 1) in record {
  low = let l = is.low in omega arith;
  free = stepped_free chunk (n + 1) pos;
  past = All-push (λ k. k < stepped chunk (n + 1)) taken n (λ k d lt. let h = is.past k d lt in omega arith) (omega arith);
  least = λ m low free above. stepped_least chunk (n + 1) m free (let h = above (length taken) n (omega (arith, length-append taken (n ∷ []))) in let e : get_or (taken ++ n ∷ []) (length taken) n ≡ n = get_or_push taken n n (length taken) refl in omega arith);
}

-- after a load
pub next-loaded : (chunk : ℕ) (taken : List ℕ) (greatest : ℕ) → 0 < chunk → 1 ≤ greatest → All (λ k. k ≤ greatest) taken → ((m : ℕ) → 2 ≤ m → All (λ k. k < m) taken → greatest < m) → IsNextPlace chunk taken (stepped chunk (greatest + 1))
next-loaded chunk taken greatest pos low all one = let past = stepped_past chunk (greatest + 1) in record {
  low = omega arith;
  free = stepped_free chunk (greatest + 1) pos;
  past = λ k d lt. (let h = all k d lt in omega arith);
  least = λ m two free above. stepped_least chunk (greatest + 1) m free (let h = one m two above in omega arith);
}

-- there is one next place
pub next_one : (chunk : ℕ) (taken : List ℕ) (m n : ℕ) → IsNextPlace chunk taken m → IsNextPlace chunk taken n → m ≡ n
next_one chunk taken m n p q = let a = p.least n q.low q.free q.past in let b = q.least m p.low p.free p.past in omega arith

-- a place that is wholly inside is a small number
pub place_small : (chunk n sectors : ℕ) → 0 < chunk → chunk * (n + 1) ≤ sectors → n + 1 ≤ sectors
place_small chunk n sectors pos le = let h : 1 * (n + 1) ≤ chunk * (n + 1) = mul-le 1 (n + 1) chunk (n + 1) (omega arith) (omega arith) in omega arith

pub stepped_near : (chunk n : ℕ) → stepped chunk n ≤ n + 1
stepped_near chunk n = elim (cases_Bool (is_area_place chunk n)) [
  | inr out ↦ (let e : stepped chunk n ≡ n = cond-false _ _ _ out in omega arith)
  | inl at ↦ (let e : stepped chunk n ≡ n + 1 = cond-true _ _ _ at in omega arith)
]
