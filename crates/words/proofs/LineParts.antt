-- Parts of a text, by where its first line feed stands.
use Rattle.std.proofs.Common.{◌≡◌, ℕ, suc, ◌+◌, ◌-◌, ◌<◌, ◌≤◌, Bool, true, false, cond, List, [], ◌∷◌, length, take, drop, eqb, ltb, Some, None, refl, sym, ap, ◌∙◌, arith}
use Rattle.std.specs.Prelude.{not, position}
use Rattle.std.specs.List.{after_first, before_first, list_any, position_or_len}
use Rattle.std.proofs.lemmas.Bool.{lt-ltb}
use Rattle.std.proofs.Math.Seq.{take-length, drop-drop}
use Rattle.std.proofs.Math.ListN.{drop_of_length-le}
use Rattle.std.proofs.lemmas.List.{drop-take, length-take}
use Rattle.std.proofs.lemmas.List.Sums.{prefix_len-le-length}
use borrow.Author.Tests.{tests}
use Rattle.words.specs.Lines.{is_end}

some_at : (b : Bool) (n i : ℕ) → cond b (Some n) None ≡ Some i → (b ≡ true) × (n ≡ i)
some_at true n i is = (refl, cc)
some_at false n i is = absurd cc

none_at : (b : Bool) (n : ℕ) → cond b (Some n) None ≡ None → b ≡ false
none_at true n is = absurd cc
none_at false n is = refl

one_more : (n m : ℕ) → ltb (1 + n) (suc m) ≡ ltb n m
one_more n m = grind (arith, tests)

-- there is one where the first of them stands within the text
any_where : (xs : List ℕ) → list_any is_end xs ≡ ltb (position_or_len is_end xs) (length xs)
any_where [] = refl
any_where (b ∷ xs) = elim (eqb b 10) as (λ t. eqb b 10 ≡ t → list_any is_end (b ∷ xs) ≡ ltb (position_or_len is_end (b ∷ xs)) (length (b ∷ xs))) [
  | true ↦ λ e. let first : ltb 0 (suc (length xs)) ≡ true = lt-ltb 0 (suc (length xs)) (omega arith) in rw e (sym first)
  | false ↦ λ e. rw e (any_where xs ∙ sym (one_more (position_or_len is_end xs) (length xs)))
] refl

pub any_some : (xs : List ℕ) (i : ℕ) → position is_end xs ≡ Some i → true ≡ list_any is_end xs
any_some xs i is = sym (any_where xs ∙ (some_at (ltb (position_or_len is_end xs) (length xs)) (position_or_len is_end xs) i is).0)

pub any_none : (xs : List ℕ) → position is_end xs ≡ None → false ≡ list_any is_end xs
any_none xs is = sym (any_where xs ∙ none_at (ltb (position_or_len is_end xs) (length xs)) (position_or_len is_end xs) is)

found_at : (xs : List ℕ) (i : ℕ) → position is_end xs ≡ Some i → position_or_len is_end xs ≡ i
found_at xs i is = (some_at (ltb (position_or_len is_end xs) (length xs)) (position_or_len is_end xs) i is).1

no_less : (n m : ℕ) → ltb n m ≡ false → m ≤ n
no_less n m is = grind (arith, tests, is)

found_none : (xs : List ℕ) → position is_end xs ≡ None → length xs ≤ position_or_len is_end xs
found_none xs is = no_less (position_or_len is_end xs) (length xs) (none_at (ltb (position_or_len is_end xs) (length xs)) (position_or_len is_end xs) is)

-- what stands before it
pub before_some : (xs : List ℕ) (i : ℕ) → position is_end xs ≡ Some i → take i xs ≡ before_first is_end xs
before_some xs i is = ap (λ n. take n xs) (sym (found_at xs i is))

pub before_none : (xs : List ℕ) → position is_end xs ≡ None → xs ≡ before_first is_end xs
before_none xs is =
    let within = prefix_len-le-length (λ x. not (is_end x)) xs in
    let past = found_none xs is in
    let all : length xs ≡ position_or_len is_end xs = omega (arith, within, past) in
    sym (take-length xs) ∙ ap (λ n. take n xs) all

-- what stands after it, where the text is the bytes between two places
pub after_some : (bytes : List ℕ) (from to i at : ℕ) → at ≡ from + (i + 1) → i < length (take (to - from) (drop from bytes)) → position is_end (take (to - from) (drop from bytes)) ≡ Some i → take (to - at) (drop at bytes) ≡ after_first is_end (take (to - from) (drop from bytes))
after_some bytes from to i at next within is =
    let long = length-take (to - from) (drop from bytes) in
    let less : i < to - from = omega (arith, long, within) in
    let left : to - at ≡ to - from - (i + 1) = omega (arith, next, less) in
    let whole : (i + 1) + (to - from - (i + 1)) ≡ to - from = omega (arith, less) in
    ap (λ n. take n (drop at bytes)) left
    ∙ ap (λ n. take (to - from - (i + 1)) (drop n bytes)) next
    ∙ ap (λ ys. take (to - from - (i + 1)) ys) (sym (drop-drop (i + 1) from bytes))
    ∙ sym (drop-take (i + 1) (to - from - (i + 1)) (drop from bytes))
    ∙ ap (λ n. drop (i + 1) (take n (drop from bytes))) whole
    ∙ ap (λ n. drop (n + 1) (take (to - from) (drop from bytes))) (sym (found_at (take (to - from) (drop from bytes)) i is))

pub after_none : (bytes xs : List ℕ) (to : ℕ) → position is_end xs ≡ None → take (to - to) (drop to bytes) ≡ after_first is_end xs
after_none bytes xs to is =
    let none : to - to ≡ 0 = omega arith in
    let past = found_none xs is in
    ap (λ n. take n (drop to bytes)) none ∙ sym (drop_of_length-le xs (omega (arith, past)))
