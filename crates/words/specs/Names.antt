-- To be believed: `run`'s output, a volume's steps or its attach are said in these words.
-- The form of device names. It is the project's own.
use Rattle.std.specs.Prelude.{ℕ, Bool, ◌&&◌, ◌||◌, List, length, slice_index, nat_lt, nat_le, ◌==◌, if◌then◌else◌, Result, Ok, Err}
use Rattle.std.specs.List.{list_all}
use Rattle.std.specs.Char.{is_ascii_digit, is_ascii_lowercase}
use Rattle.sector.specs.declared.refusal.Refusal.{Refusal}
use Rattle.sector.specs.declared.refusal.Refusal.TheVariants.{BadTable}

-- a to z, 0 to 9 and _
abbrev pub is_name_byte : ℕ → Bool
is_name_byte byte = is_ascii_lowercase byte || is_ascii_digit byte || (byte == 95)

-- one to 16 such characters, and a letter first
abbrev pub is_name : List ℕ → Bool
is_name word = nat_lt 0 (length word) && nat_le (length word) 16 && is_ascii_lowercase (slice_index word 0) && list_all is_name_byte word

-- a name, or a word of a wrong form
abbrev pub name_of : List ℕ → Result (List ℕ) Refusal
name_of word = if is_name word then Ok word else Err BadTable
