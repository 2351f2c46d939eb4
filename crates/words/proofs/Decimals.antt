-- Numbers as they are printed, read again.
use Rattle.std.proofs.Common.{◌≡◌, ℕ, ◌+◌, ◌*◌, ◌-◌, ◌%◌, ◌^◌, ◌<◌, ◌≤◌, List, [], ◌∷◌, ◌++◌, length, true, refl, ap, ◌∙◌, arith, Ok}
use Rattle.std.specs.Prelude.{decimal, nat_lt, nat_le, ◌&&◌, ◌==◌, not}
use Rattle.std.specs.List.{list_all}
use Rattle.std.specs.Char.{is_ascii_digit}
use Rattle.std.proofs.lemmas.Fmt.{decimal_by_steps, decimal_nonempty, length-decimal-le}
use Rattle.std.proofs.lemmas.List.Folds.{list_all-append}
use borrow.Author.Tests.{tests}
use Rattle.words.specs.Numbers.{number_after, is_numeral, numeral_of}
use Rattle.words.specs.Words.{is_word}
use Rattle.words.proofs.Bools.{and-join, list_all-weaker}

-- one digit more
pub number_after-append : (n : ℕ) (ds : List ℕ) (d : ℕ) → number_after n (ds ++ (d ∷ [])) ≡ number_after n ds * 10 + (d - 48)
number_after-append n [] d = refl
number_after-append n (e ∷ ds) d = number_after-append (n * 10 + (e - 48)) ds d

-- a digit
digit : (n : ℕ) → n < 10 → is_ascii_digit (48 + n) ≡ true
digit n lt = grind (arith, tests)

-- digits that write a number
pub record Writes (n : ℕ) (ds : List ℕ) : Type 0 where
  pub digits : list_all is_ascii_digit ds ≡ true
  pub value : number_after 0 ds ≡ n

-- what is printed of a number
pub decimal_writes : (n : ℕ) → n < 2 ^ 64 → Writes n (decimal n)
decimal_writes n small =
    decimal_by_steps Writes
    (λ n lt. record { digits = and-join (is_ascii_digit (48 + n)) true (digit n lt) refl; value = omega arith })
    (λ n ds ge front. record {
      digits = list_all-append is_ascii_digit ds ((48 + n % 10) ∷ []) ∙ and-join (list_all is_ascii_digit ds) _ front.digits (and-join (is_ascii_digit (48 + n % 10)) true (digit (n % 10) (omega arith)) refl);
      value = omega (arith, number_after-append 0 ds (48 + n % 10), front.value);
    })
    n small

-- a word of digits with a small value is a number
number_is : (word : List ℕ) (n : ℕ) → 0 < length word → length word ≤ 10 → list_all is_ascii_digit word ≡ true → number_after 0 word ≡ n → n < 2 ^ 32 → numeral_of word ≡ Ok n
number_is word n some short digits value small =
    let front : nat_lt 0 (length word) ≡ true = grind (arith, tests) in
    let back : nat_le (length word) 10 ≡ true = grind (arith, tests) in
    let fits : nat_lt (number_after 0 word) (2 ^ 32) ≡ true = grind (arith, tests) in
    let test : (is_numeral word && nat_lt (number_after 0 word) (2 ^ 32)) ≡ true = and-join _ _ (and-join _ _ (and-join _ _ front back) digits) fits in
    rw test (ap Ok value)

-- is a number again
pub numeral_of-decimal : (n : ℕ) → n < 2 ^ 32 → numeral_of (decimal n) ≡ Ok n
numeral_of-decimal n small =
    let writes : Writes n (decimal n) = decimal_writes n (omega arith) in
    number_is (decimal n) n (decimal_nonempty n (omega arith)) (length-decimal-le 10 n (omega arith) (omega arith) (omega arith)) writes.digits writes.value small

-- a digit is no space
no_space : (b : ℕ) → is_ascii_digit b ≡ true → not (b == 32) ≡ true
no_space b h = grind (arith, tests)

-- and a word
pub is_word-decimal : (n : ℕ) → n < 2 ^ 32 → is_word (decimal n) ≡ true
is_word-decimal n small =
    let writes : Writes n (decimal n) = decimal_writes n (omega arith) in
    let some : 0 < length (decimal n) = decimal_nonempty n (omega arith) in
    let front : nat_lt 0 (length (decimal n)) ≡ true = grind (arith, tests) in
    and-join _ _ front (list_all-weaker ℕ is_ascii_digit (λ b. not (b == 32)) no_space (decimal n) writes.digits)
