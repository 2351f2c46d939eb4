-- The sizes of stores, as words. This project's own.
use Rattle.std.specs.Prelude.{ℕ, ◌*◌, ◌-◌, ◌%◌, ◌^◌, ◌==◌, ◌&&◌, Bool, List, length, slice_get, take, nat_le, Option, Some, None, if◌then◌else◌}
use Rattle.words.specs.Numbers.{number_of}

-- how many bytes a letter stands for: K, M, G and T are 75, 77, 71 and 84
abbrev pub unit_of_letter : ℕ → ℕ
unit_of_letter letter =
    if letter == 75 then 2 ^ 10 else (if letter == 77 then 2 ^ 20 else (if letter == 71 then 2 ^ 30 else (if letter == 84 then 2 ^ 40 else 1)))

-- and the last one of a word, if there is one
abbrev pub unit_by : Option ℕ → ℕ
unit_by None = 1
unit_by (Some letter) = unit_of_letter letter

abbrev pub unit_in : List ℕ → ℕ
unit_in word = unit_by (slice_get word (length word - 1))

-- the word without that letter, where it stands for more than one
abbrev pub digits_by : ℕ → List ℕ → List ℕ
digits_by unit word = if unit == 1 then word else take (length word - 1) word

-- whole sectors: a header and an area at least, and no more than a device of a volume has
abbrev pub is_size : ℕ → Bool
is_size bytes = (bytes % 512 == 0) && nat_le 1024 bytes && nat_le bytes (2 ^ 40)

abbrev pub sized : ℕ → Option ℕ → Option ℕ
sized unit None = None
sized unit (Some count) = if is_size (count * unit) then Some (count * unit) else None

abbrev pub size_by : List ℕ → Option ℕ
size_by word = sized (unit_in word) (number_of (digits_by (unit_in word) word))
