-- The word of a run is read as that run.
use Rattle.std.proofs.Common.{◌≡◌, ℕ, ◌+◌, ◌-◌, ◌*◌, ◌/◌, ◌%◌, ◌^◌, ◌<◌, ◌≤◌, List, [], ◌∷◌, ◌++◌, length, take, get_or, ltb, leb, true, false, refl, ap, sym, ◌∙◌, rules, arith, Some, lit<, append_assoc}
use Rattle.std.specs.Prelude.{decimal, codes}
use Rattle.std.specs.List.{list_all}
use Rattle.std.specs.Char.{is_ascii_digit}
use Rattle.std.proofs.lemmas.Bool.{lt-ltb, le-leb}
use Rattle.std.proofs.lemmas.Bool.Decides.{nat_tests}
use Rattle.std.proofs.lemmas.Fmt.{digits_decimal, digits_value-decimal, decimal_nonempty, length-decimal-le}
use Rattle.std.proofs.lemmas.Str.Parse.{IsNumeralModel, numerals_by_fold}
use Rattle.std.proofs.lemmas.List.{places, take_at}
use Rattle.words.specs.Numbers.{number_after, number_of}
use Rattle.command.specs.DataWords.{is_hex, hex_value, run_parts, run_of}
use Rattle.command_replies.specs.Runs.{hex_char}
use Rattle.command_replies.proofs.WordsAgain.{HasNoSpace, HasNoSpace-append, HasNoSpace-digits, is_no_space}

-- COUNT*HH, without a space
abbrev pub run_text : ℕ × ℕ → List ℕ
run_text run = decimal run.0 ++ codes "*" ++ (hex_char (run.1 / 16) ∷ hex_char (run.1 % 16) ∷ [])

-- std's numerals, in this project's words
own : IsNumeralModel (λ ds. list_all is_ascii_digit ds ≡ true) (number_after 0)
own = numerals_by_fold _ (search rules) number_after (search rules)

-- a number is printed in digits
are_digits : (n : ℕ) → n < 2 ^ 64 → list_all is_ascii_digit (decimal n) ≡ true
are_digits n h = digits_decimal own n h

-- a number that is printed is read as itself
-- digits that are few and small are a number
number_parts : (ds : List ℕ) (n : ℕ) → 0 < length ds → length ds ≤ 10 → list_all is_ascii_digit ds ≡ true → number_after 0 ds ≡ n → n < 2 ^ 32 → number_of ds ≡ Some n
number_parts ds n some short digits value small =
    let a : ltb 0 (length ds) ≡ true = lt-ltb 0 (length ds) some in
    let b : leb (length ds) 10 ≡ true = le-leb (length ds) 10 short in
    let d : ltb n (2 ^ 32) ≡ true = lt-ltb n (2 ^ 32) small in
    rw (a, b, digits, value, d) refl

pub number_again : (n : ℕ) → n < 2 ^ 32 → number_of (decimal n) ≡ Some n
number_again n h =
    let wide : n < 2 ^ 64 = omega arith in
    let ten : n < 10 ^ 10 = omega arith in
    number_parts (decimal n) n (decimal_nonempty n wide) (length-decimal-le 10 n (lit< tt) ten wide) (are_digits n wide) (digits_value-decimal own n wide) h

-- a digit that is printed is read as itself
pub hex_again : (d : ℕ) → d < 16 → (is_hex (hex_char d) ≡ true) × (hex_value (hex_char d) ≡ d)
hex_again d h = grind (arith, nat_tests)

-- the parts of a word that ends with a star and two digits
parts_at : (word ds : List ℕ) (star high low : ℕ) → ltb (length word) 4 ≡ false → take (length word - 3) word ≡ ds → get_or word (length word - 3) 0 ≡ star → get_or word (length word - 2) 0 ≡ high → get_or word (length word - 1) 0 ≡ low → run_of word ≡ run_parts (number_of ds) star high low
parts_at word ds star high low long e s h l = rw long (rw (e, s, h, l) refl)

-- what comes before the end of a word
ends_after : (ds rest : List ℕ) (n : ℕ) → n ≡ length ds → take n (ds ++ rest) ≡ ds
ends_after ds rest n e = take_at ds rest n (sym e)

-- the star and the digits are three characters
length_parts : (ds : List ℕ) (star high low : ℕ) → length (ds ++ (star ∷ []) ++ (high ∷ low ∷ [])) ≡ length ds + 3
length_parts ds star high low = grind (arith, places)

-- such a word has these parts
pub run_parts_again : (ds : List ℕ) (star high low : ℕ) → 0 < length ds → run_of (ds ++ (star ∷ []) ++ (high ∷ low ∷ [])) ≡ run_parts (number_of ds) star high low
run_parts_again ds star high low some =
    let len = length_parts ds star high low in
    parts_at (ds ++ (star ∷ []) ++ (high ∷ low ∷ [])) ds star high low
    (grind (arith, places, nat_tests))
    (ap (take (length (ds ++ (star ∷ []) ++ (high ∷ low ∷ [])) - 3)) (append_assoc ds (star ∷ []) (high ∷ low ∷ [])) ∙ ends_after ds _ _ (omega arith))
    (grind (arith, places))
    (grind (arith, places))
    (grind (arith, places))

-- parts of the right form are a run
read_parts : (n high low b : ℕ) → 0 < n → n ≤ 1048576 → is_hex high ≡ true → is_hex low ≡ true → 16 * hex_value high + hex_value low ≡ b → run_parts (Some n) 42 high low ≡ Some (record { count = n; byte = b })
read_parts n high low b some few h l value =
    let a : ltb 0 n ≡ true = lt-ltb 0 n some in
    let c : leb n 1048576 ≡ true = le-leb n 1048576 few in
    rw (a, c, h, l, value) refl

-- the two digits of a byte give the byte
byte_parts : (b high low : ℕ) → high ≡ b / 16 → low ≡ b % 16 → 16 * high + low ≡ b
byte_parts b high low h l = omega arith

-- the run again
pub run_again : (n b : ℕ) → 0 < n → n ≤ 1048576 → b < 256 → run_of (run_text (n, b)) ≡ Some (record { count = n; byte = b })
run_again n b some few byte =
    let high = hex_again (b / 16) (omega arith) in
    let low = hex_again (b % 16) (omega arith) in
    run_parts_again (decimal n) 42 (hex_char (b / 16)) (hex_char (b % 16)) (decimal_nonempty n (omega arith))
    ∙ ap (λ o. run_parts o 42 (hex_char (b / 16)) (hex_char (b % 16))) (number_again n (omega arith))
    ∙ read_parts n (hex_char (b / 16)) (hex_char (b % 16)) b some few high.0 low.0 (byte_parts b _ _ high.1 low.1)

-- a digit is no space
above_space : (d : ℕ) → d < 16 → 33 ≤ hex_char d
above_space d h = grind (arith, nat_tests)

-- it holds no space
pub HasNoSpace-run_text : (n b : ℕ) → n < 2 ^ 64 → b < 256 → HasNoSpace (run_text (n, b))
HasNoSpace-run_text n b h byte =
    HasNoSpace-append (decimal n ++ codes "*") (hex_char (b / 16) ∷ hex_char (b % 16) ∷ [])
    (HasNoSpace-append (decimal n) (codes "*") (HasNoSpace-digits (decimal n) (are_digits n h)) (refl, tt))
    (is_no_space _ (above_space (b / 16) (omega arith)), (is_no_space _ (above_space (b % 16) (omega arith)), tt))

-- and is not empty
pub length-run_text : (n b : ℕ) → 0 < length (run_text (n, b))
length-run_text n b = let len = length_parts (decimal n) 42 (hex_char (b / 16)) (hex_char (b % 16)) in omega arith
