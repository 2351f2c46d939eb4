-- The greatest place in use, as pairs are read.
use Rattle.std.proofs.Common.{◌≡◌, ℕ, ◌<◌, ◌≤◌, List, [], ◌∷◌, ◌++◌, length, get_or, arith, max, refl, length-append}
use Rattle.std.proofs.lemmas.List.Elements.{All-push}
use Rattle.std.proofs.lemmas.List.{get_or_push, get_or_append_left}
use Rattle.chunk_alloc.specs.Greatest.{IsGreatest}

-- of no pairs it is 1
pub greatest_none : IsGreatest [] 1
greatest_none = record {
  low = omega arith;
  all = λ k d lt. absurd (omega arith);
  one = λ m two above. omega arith;
}

-- of one place more it is the greater of two
pub greatest-push : (taken : List ℕ) (greatest n : ℕ) → IsGreatest taken greatest → IsGreatest (taken ++ n ∷ []) (max greatest n)
greatest-push taken greatest n is = let low = is.low in record {
  low = omega arith;
  all = All-push (λ k. k ≤ max greatest n) taken n (λ k d lt. let h = is.all k d lt in omega arith) (omega arith);
  one = λ m two above.
      let here : get_or (taken ++ n ∷ []) (length taken) n < m = above (length taken) n (omega (arith, length-append taken (n ∷ []))) in
      let e : get_or (taken ++ n ∷ []) (length taken) n ≡ n = get_or_push taken n n (length taken) refl in
      let past : greatest < m = is.one m two (λ k d lt. let h = above k d (omega (arith, length-append taken (n ∷ []))) in let same = get_or_append_left taken (n ∷ []) d k lt in omega arith) in
      omega arith;
}
