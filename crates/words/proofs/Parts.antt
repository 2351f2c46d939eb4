-- Parts of a line, by where its first space stands.
use Rattle.std.proofs.Common.{◌≡◌, ℕ, ◌+◌, ◌-◌, ◌≤◌, Bool, true, false, cond, List, length, take, drop, Some, None, refl, sym, ap, ◌∙◌, arith}
use Rattle.std.specs.Prelude.{nat_lt, not, position}
use Rattle.std.specs.List.{after_first, before_first, position_or_len}
use Rattle.std.proofs.Math.Seq.{take-length, drop-length}
use Rattle.std.proofs.Math.ListN.{drop_of_length-le}
use Rattle.std.proofs.lemmas.List.{take_rest}
use Rattle.std.proofs.lemmas.List.Sums.{prefix_len-le-length}
use borrow.Author.Tests.{tests}
use Rattle.words.specs.Word.{is_space, unspaced}

some_at : (b : Bool) (n i : ℕ) → cond b (Some n) None ≡ Some i → n ≡ i
some_at true n i is = cc
some_at false n i is = absurd cc

none_at : (b : Bool) (n : ℕ) → cond b (Some n) None ≡ None → b ≡ false
none_at true n is = absurd cc
none_at false n is = refl

no_less : (n m : ℕ) → nat_lt n m ≡ false → m ≤ n
no_less n m is = grind (arith, tests, is)

found_at : (p : ℕ → Bool) (xs : List ℕ) (i : ℕ) → position p xs ≡ Some i → position_or_len p xs ≡ i
found_at p xs i is = some_at (nat_lt (position_or_len p xs) (length xs)) (position_or_len p xs) i is

found_none : (p : ℕ → Bool) (xs : List ℕ) → position p xs ≡ None → position_or_len p xs ≡ length xs
found_none p xs is =
    let within = prefix_len-le-length (λ x. not (p x)) xs in
    let past = no_less (position_or_len p xs) (length xs) (none_at (nat_lt (position_or_len p xs) (length xs)) (position_or_len p xs) is) in
    omega (arith, within, past)

pub start_some : (xs : List ℕ) (i : ℕ) → position (λ byte. not (is_space byte)) xs ≡ Some i → take (length xs - i) (drop i xs) ≡ unspaced xs
start_some xs i is = take_rest xs i ∙ ap (λ n. drop n xs) (sym (found_at (λ byte. not (is_space byte)) xs i is))

pub start_none : (xs : List ℕ) → position (λ byte. not (is_space byte)) xs ≡ None → take (length xs - length xs) (drop (length xs) xs) ≡ unspaced xs
start_none xs is = take_rest xs (length xs) ∙ ap (λ n. drop n xs) (sym (found_none (λ byte. not (is_space byte)) xs is))

pub word_some : (xs : List ℕ) (i : ℕ) → position is_space xs ≡ Some i → take i xs ≡ before_first is_space xs
word_some xs i is = ap (λ n. take n xs) (sym (found_at is_space xs i is))

pub word_none : (xs : List ℕ) → position is_space xs ≡ None → xs ≡ before_first is_space xs
word_none xs is = sym (take-length xs) ∙ ap (λ n. take n xs) (sym (found_none is_space xs is))

pub after_some : (xs : List ℕ) (i : ℕ) → position is_space xs ≡ Some i → take (length xs - (i + 1)) (drop (i + 1) xs) ≡ after_first is_space xs
after_some xs i is = take_rest xs (i + 1) ∙ ap (λ n. drop (n + 1) xs) (sym (found_at is_space xs i is))

pub after_none : (xs : List ℕ) → position is_space xs ≡ None → take (length xs - length xs) (drop (length xs) xs) ≡ after_first is_space xs
after_none xs is =
    let le : length xs ≤ position_or_len is_space xs + 1 = omega (arith, found_none is_space xs is) in
    take_rest xs (length xs) ∙ drop-length xs ∙ sym (drop_of_length-le xs le)
