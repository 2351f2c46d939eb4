-- Names as words.
use Rattle.std.proofs.Common.{◌≡◌, ℕ, List, length, true, refl, arith, Ok}
use Rattle.std.specs.Prelude.{nat_lt, nat_le, ◌&&◌, ◌==◌, not, slice_index}
use Rattle.std.specs.List.{list_all}
use Rattle.std.specs.Char.{is_ascii_lowercase}
use borrow.Author.Tests.{tests}
use Rattle.words.specs.Names.{is_name_byte, is_name, name_of}
use Rattle.words.specs.Words.{is_word}
use Rattle.words.proofs.Bools.{and-split, and-join, list_all-weaker}

-- a name is read as itself
pub name_of-name : (w : List ℕ) → is_name w ≡ true → name_of w ≡ Ok w
name_of-name w h = rw h refl

-- what is read as a name is one
pub is_name-name_of : (w d : List ℕ) → name_of w ≡ Ok d → is_name d ≡ true
is_name-name_of w d h = grind (arith, tests)

-- a byte of a name is no space
no_space : (b : ℕ) → is_name_byte b ≡ true → not (b == 32) ≡ true
no_space b h = grind (arith, tests)

-- a name is a word
pub is_word-name : (w : List ℕ) → is_name w ≡ true → is_word w ≡ true
is_word-name w h =
    let all = and-split (nat_lt 0 (length w) && nat_le (length w) 16 && is_ascii_lowercase (slice_index w 0)) (list_all is_name_byte w) h in
    let front = and-split (nat_lt 0 (length w) && nat_le (length w) 16) (is_ascii_lowercase (slice_index w 0)) all.0 in
    let some = and-split (nat_lt 0 (length w)) (nat_le (length w) 16) front.0 in
    and-join _ _ some.0 (list_all-weaker ℕ is_name_byte (λ b. not (b == 32)) no_space w all.1)
