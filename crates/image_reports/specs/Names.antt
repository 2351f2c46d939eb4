-- Names of files inside other texts.
use Rattle.std.specs.Prelude.{ℕ, ◌+◌, ◌-◌, ◌==◌, ◌||◌, ◌&&◌, Bool, List, [], ◌∷◌, ◌++◌, codes, flat_map, nat_le, nat_lt, if◌then◌else◌}

-- a byte of a name in a string of JSON (RFC 8259, section 7): control characters as \u00XX
abbrev pub hex_digit : ℕ → ℕ
hex_digit n = if nat_lt n 10 then 48 + n else 87 + n

abbrev pub json_byte : ℕ → List ℕ
json_byte b =
    if (b == 34) || (b == 92) then 92 ∷ b ∷ []
    else (if nat_lt b 16 then 92 ∷ (codes "u000" ++ (hex_digit b ∷ []))
    else (if nat_lt b 32 then 92 ∷ (codes "u001" ++ (hex_digit (b - 16) ∷ []))
    else b ∷ []))

abbrev pub json_name : List ℕ → List ℕ
json_name name = flat_map json_byte name

-- a byte of a name in a line of a table: what the kernel takes for a blank has `\` before it, and `\` too (dm_split_args of
-- drivers/md/dm-table.c, isspace of lib/ctype.c)
abbrev pub is_blank : ℕ → Bool
is_blank b = (b == 32) || ((b == 160) || (nat_le 9 b && nat_le b 13))

abbrev pub table_byte : ℕ → List ℕ
table_byte b = if is_blank b || (b == 92) then 92 ∷ b ∷ [] else b ∷ []

abbrev pub table_name : List ℕ → List ℕ
table_name name = flat_map table_byte name
