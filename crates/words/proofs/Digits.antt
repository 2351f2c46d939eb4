-- A number read from its first digit on.
use Rattle.std.proofs.Common.{◌≡◌, ℕ, ◌+◌, ◌*◌, ◌-◌, ◌<◌, ◌≤◌, List, ◌∷◌, length, get_or, drop, true, false, sym, ap, ◌∙◌, drop-cons, add-one, arith}
use Rattle.std.specs.Prelude.{◌&&◌}
use Rattle.std.specs.List.{list_all}
use Rattle.std.specs.Char.{is_ascii_digit}
use Rattle.words.specs.Numbers.{number_after}
use borrow.Author.Tests.{tests}

pub digit_head : (d : ℕ) (ds : List ℕ) → list_all is_ascii_digit (d ∷ ds) ≡ true → (48 ≤ d) × (d ≤ 57) × (list_all is_ascii_digit ds ≡ true)
digit_head d ds h = grind (arith, tests)

cut : (word : List ℕ) (i : ℕ) → i < length word → drop i word ≡ get_or word i 0 ∷ drop (i + 1) word
cut word i lt = rw (add-one, drop-cons word i 0 lt)

-- a digit leaves it to the others whether all are digits
pub digit_here : (word : List ℕ) (i : ℕ) → i < length word → is_ascii_digit (get_or word i 0) ≡ true → list_all is_ascii_digit (drop (i + 1) word) ≡ list_all is_ascii_digit (drop i word)
digit_here word i lt is = sym (ap (list_all is_ascii_digit) (cut word i lt) ∙ ap (λ b. b && list_all is_ascii_digit (drop (i + 1) word)) is)

-- and another byte decides it
pub no_digit_here : (word : List ℕ) (i : ℕ) → i < length word → is_ascii_digit (get_or word i 0) ≡ false → list_all is_ascii_digit (drop i word) ≡ false
no_digit_here word i lt none = ap (list_all is_ascii_digit) (cut word i lt) ∙ ap (λ b. b && list_all is_ascii_digit (drop (i + 1) word)) none

pub number_here : (n : ℕ) (word : List ℕ) (i : ℕ) → i < length word → number_after (n * 10 + (get_or word i 0 - 48)) (drop (i + 1) word) ≡ number_after n (drop i word)
number_here n word i lt = ap (number_after n) (sym (cut word i lt))
