-- To be believed: `run`'s output, a volume's steps or its attach are said in these words.
-- The form of numbers. It is the project's own.
use Rattle.std.specs.Prelude.{ℕ, ◌^◌, ◌+◌, ◌*◌, ◌-◌, [], ◌∷◌, Bool, ◌&&◌, List, length, nat_lt, nat_le, if◌then◌else◌, Option, Some, None, Result, Ok, Err}
use Rattle.std.specs.List.{list_all}
use Rattle.std.specs.Char.{is_ascii_digit}
use Rattle.sector.specs.declared.refusal.Refusal.{Refusal}
use Rattle.sector.specs.declared.refusal.Refusal.TheVariants.{BadTable}

-- the number that n and then these digits write
abbrev pub number_after : ℕ → List ℕ → ℕ
number_after n [] = n
number_after n (d ∷ ds) = number_after (n * 10 + (d - 48)) ds

-- one to ten digits
abbrev pub is_numeral : List ℕ → Bool
is_numeral word = nat_lt 0 (length word) && nat_le (length word) 10 && list_all is_ascii_digit word

-- a number below 2^32
abbrev pub number_of : List ℕ → Option ℕ
number_of word = if is_numeral word && nat_lt (number_after 0 word) (2 ^ 32) then Some (number_after 0 word) else None

-- a number, or a word of a wrong form
abbrev pub numeral_of : List ℕ → Result ℕ Refusal
numeral_of word = numeral_or_fault (number_of word)
  where
    numeral_or_fault : Option ℕ → Result ℕ Refusal
    numeral_or_fault None = Err BadTable
    numeral_or_fault (Some n) = Ok n
