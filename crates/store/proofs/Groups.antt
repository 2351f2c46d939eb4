-- The longest run at the end of a list of pairs.
use Rattle.std.proofs.Common.{◌≡◌, inl, inr, ℕ, zero, suc, ◌+◌, ◌-◌, ◌<◌, List, [], ◌∷◌, ◌++◌, length, drop, get_or, arith, ap, ◌∙◌, sym, refl, length-drop, drop-cons}
use Rattle.std.proofs.lemmas.List.{get_or-drop}
use Rattle.std.proofs.lemmas.Bool.{cases_lt}
use Rattle.sector.specs.declared.pair.Pair.{Pair}
use Rattle.store.specs.Grouping.{shifted, run_at, Follows, EndsWithRun, IsGroup}

-- two pairs of the same chunks
pub same_pair : (p q : Pair) → p.old ≡ q.old → p.new ≡ q.new → p ≡ q
same_pair p q old new = ap (λ (n : ℕ). record { old = n; new = p.new }) old ∙ ap (λ (n : ℕ). record { old = q.old; new = n }) new

pub length-run : (first : Pair) (k n : ℕ) → length (run_at first k n) ≡ n
length-run first k zero = refl
length-run first k (suc n) = ap suc (length-run first (k + 1) n)

-- a pair of a run
pub get_or-run : (first : Pair) (k n i : ℕ) (d : Pair) → i < n → get_or (run_at first k n) i d ≡ shifted first (k + i)
get_or-run first k zero i d lt = absurd (omega arith)
get_or-run first k (suc n) zero d lt = (let e : k ≡ k + zero = omega arith in ap (shifted first) e)
get_or-run first k (suc n) (suc i) d lt = (let e : k + 1 + i ≡ k + suc i = omega arith in get_or-run first (k + 1) n i d (omega arith) ∙ ap (shifted first) e)

-- a run is a run and the one that follows it
pub run-append : (first : Pair) (k a b : ℕ) → run_at first k (a + b) ≡ run_at first k a ++ run_at first (k + a) b
run-append first k zero b = (let n : ℕ = zero + b in let e : n ≡ b = omega arith in let f : k ≡ k + zero = omega arith in ap (run_at first k) e ∙ ap (λ (i : ℕ). run_at first i b) f)
run-append first k (suc a) b =
    let e : suc a + b ≡ suc (a + b) = omega arith in
    let f : k + 1 + a ≡ k + suc a = omega arith in
    ap (run_at first k) e ∙ ap (λ x. shifted first k ∷ x) (run-append first (k + 1) a b ∙ ap (λ (i : ℕ). run_at first (k + 1) a ++ run_at first i b) f)

-- the run of a pair's follower
pub run_follows : (before first : Pair) (k n : ℕ) → Follows before first → run_at before (k + 1) n ≡ run_at first k n
run_follows before first k zero f = refl
run_follows before first k (suc n) f =
    let here : shifted before (k + 1) ≡ shifted first k = same_pair (shifted before (k + 1)) (shifted first k) (omega (arith, f.old)) (omega (arith, f.new)) in
    ap (λ x. x ∷ run_at before (k + 1 + 1) n) here ∙ ap (λ x. shifted first k ∷ x) (run_follows before first (k + 1) n f)

-- the last pair is a run
pub run_last : (pairs : List Pair) (first : Pair) → 0 < length pairs → ((d : Pair) → first ≡ get_or pairs (length pairs - 1) d) → EndsWithRun pairs first 1
run_last pairs first some is = record {
  fits = omega arith;
  run =
      let len : length pairs ≡ suc (length pairs - 1) = omega arith in
      let long : length (drop (suc (length pairs - 1)) pairs) ≡ 0 = length-drop (suc (length pairs - 1)) pairs ∙ omega arith in
      drop-cons pairs (length pairs - 1) first (omega arith) ∙ ap (λ x. x ∷ drop (suc (length pairs - 1)) pairs) (sym (is first))
      ∙ ap (λ x. first ∷ x) (nothing (drop (suc (length pairs - 1)) pairs) long) ∙ ap (λ p. p ∷ []) (same_pair first (shifted first 0) (omega arith) (omega arith));
} where
  nothing : (xs : List Pair) → length xs ≡ 0 → xs ≡ []
  nothing [] e = refl
  nothing (x ∷ xs) e = absurd (omega arith)

-- one pair more
pub run_more : (pairs : List Pair) (before first : Pair) (count : ℕ) → EndsWithRun pairs first count → count < length pairs → ((d : Pair) → before ≡ get_or pairs (length pairs - (count + 1)) d) → Follows before first → EndsWithRun pairs before (count + 1)
run_more pairs before first count ends lt is f = record {
  fits = omega arith;
  run =
      let k : suc (length pairs - (count + 1)) ≡ length pairs - count = omega arith in
      let more : suc count ≡ count + 1 = omega arith in
      drop-cons pairs (length pairs - (count + 1)) before (omega arith) ∙ ap (λ x. x ∷ drop (suc (length pairs - (count + 1))) pairs) (sym (is before))
      ∙ ap (λ (n : ℕ). before ∷ drop n pairs) k ∙ ap (λ x. before ∷ x) (ends.run ∙ sym (run_follows before first 0 count f))
      ∙ ap (λ p. p ∷ run_at before 1 count) (same_pair before (shifted before 0) (omega arith) (omega arith))
      ∙ ap (run_at before 0) more;
}

-- a pair of the run at the end
pub run_get : (pairs : List Pair) (first : Pair) (count i : ℕ) (d : Pair) → EndsWithRun pairs first count → i < count → get_or pairs (length pairs - count + i) d ≡ shifted first i
run_get pairs first count i d ends lt =
    let e : 0 + i ≡ i = omega arith in
    sym (get_or-drop (length pairs - count) pairs i d) ∙ ap (λ x. get_or x i d) ends.run ∙ get_or-run first 0 count i d lt ∙ ap (shifted first) e

-- a store has one next group
shorter : (filled : ℕ) (pairs : List Pair) (a b : Pair) (m n : ℕ) → IsGroup filled pairs a m → IsGroup filled pairs b n → m < n → ⊥
shorter filled pairs a b m n g h lt =
    let le = h.fits in
    let f = h.ends.fits in
    let i : length pairs - n + (n - m) ≡ length pairs - m = omega arith in
    let j : length pairs - n + (n - (m + 1)) ≡ length pairs - (m + 1) = omega arith in
    let k : length pairs - m + 0 ≡ length pairs - m = omega arith in
    let here : get_or pairs (length pairs - m) a ≡ shifted b (n - m) = ap (λ (x : ℕ). get_or pairs x a) (sym i) ∙ run_get pairs b n (n - m) a h.ends (let s = g.some in omega arith) in
    let there : get_or pairs (length pairs - (m + 1)) a ≡ shifted b (n - (m + 1)) = ap (λ (x : ℕ). get_or pairs x a) (sym j) ∙ run_get pairs b n (n - (m + 1)) a h.ends (omega arith) in
    let first : shifted a 0 ≡ shifted b (n - m) = sym (run_get pairs a m 0 a g.ends g.some) ∙ ap (λ (x : ℕ). get_or pairs x a) k ∙ here in
    elim g.most [
      | inl all ↦ omega arith
      | inr breaks ↦ breaks a (record {
        old = (let e = ap (λ (p : Pair). p.old) there in let z = ap (λ (p : Pair). p.old) first in omega (arith, e, z));
        new = (let e = ap (λ (p : Pair). p.new) there in let z = ap (λ (p : Pair). p.new) first in omega (arith, e, z));
      })
    ]

pub one_group : (filled : ℕ) (pairs : List Pair) (a b : Pair) (m n : ℕ) → IsGroup filled pairs a m → IsGroup filled pairs b n → m ≡ n
one_group filled pairs a b m n g h = elim (cases_lt m n) [
  | inl lt ↦ absurd (shorter filled pairs a b m n g h lt)
  | inr ge ↦ elim (cases_lt n m) [
    | inl lt ↦ absurd (shorter filled pairs b a n m h g lt)
    | inr le ↦ omega arith
  ]
]
