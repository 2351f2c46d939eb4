-- To be believed: `run`'s output, a volume's steps or its attach are said in these words.
-- Data as words `COUNT*HH`, as 512*aa: so many bytes of that value. The form is this project's own choice.
use Rattle.std.specs.Prelude.{ℕ, ◌+◌, ◌*◌, ◌-◌, ◌/◌, ◌%◌, Bool, ◌&&◌, ◌||◌, List, [], length, slice_index, take, replicate, sum_by, nat_lt, nat_le, ◌==◌, if◌then◌else◌, Option, Some, None, is_some, Result, Ok, Err}
use Rattle.std.specs.List.{list_all, flat_map}
use Rattle.std.specs.Char.{is_ascii_digit}
use Rattle.std.specs.Int.{is_in_range}
use Rattle.sector.specs.declared.refusal.Refusal.{Refusal}
use Rattle.sector.specs.declared.refusal.Refusal.TheVariants.{BadTable}
use Rattle.words.specs.Given.{◌>>=◌}
use Rattle.words.specs.Numbers.{number_of}
use Rattle.command.specs.Words.{sectors_of}
use Rattle.command.specs.declared.data_words.DataRun.{DataRun}

-- a lower-case hexadecimal digit
abbrev pub is_hex : ℕ → Bool
is_hex c = is_ascii_digit c || is_in_range 97 102 c

-- what it stands for
abbrev pub hex_value : ℕ → ℕ
hex_value c = if is_ascii_digit c then c - 48 else c - 87

-- a count from 1 to 1048576, a star, and two digits
abbrev pub run_parts : Option ℕ → ℕ → ℕ → ℕ → Option DataRun
run_parts None star high low = None
run_parts (Some n) star high low =
    if nat_lt 0 n && nat_le n 1048576 && (star == 42) && is_hex high && is_hex low
    then Some (record { count = n; byte = 16 * hex_value high + hex_value low }) else None

-- the run that a word says: its last three characters are the star and the digits
abbrev pub run_of : List ℕ → Option DataRun
run_of word = if nat_lt (length word) 4 then None else
    let end = length word in run_parts (number_of (take (end - 3) word)) (slice_index word (end - 3)) (slice_index word (end - 2)) (slice_index word (end - 1))

-- how many bytes a word says
abbrev pub count_of : List ℕ → ℕ
count_of word = run_count (run_of word)
  where
    run_count : Option DataRun → ℕ
    run_count None = 0
    run_count (Some r) = r.count

-- the bytes that a word says
abbrev pub bytes_of : List ℕ → List ℕ
bytes_of word = run_bytes (run_of word)
  where
    run_bytes : Option DataRun → List ℕ
    run_bytes None = []
    run_bytes (Some r) = replicate r.count r.byte

-- each word is a run
abbrev pub are_runs : List (List ℕ) → Bool
are_runs words = list_all (λ word. is_some (run_of word)) words

-- how many bytes the words say
abbrev pub total : List (List ℕ) → ℕ
total words = sum_by count_of words

-- the bytes that the words say
abbrev pub data_of : List (List ℕ) → List ℕ
data_of words = flat_map bytes_of words

-- how many bytes they say for a command: at least one word, whole sectors, and 1 to 2048 of them
abbrev pub size_of : List (List ℕ) → Result ℕ Refusal
size_of words =
    if nat_lt 0 (length words) && are_runs words && (total words % 512 == 0)
    then (sectors_of (total words / 512) >>= λ _. Ok (total words)) else Err BadTable

-- the bytes of these sectors
abbrev pub payload_of : List (List ℕ) → Result (List ℕ) Refusal
payload_of words = size_of words >>= λ _. Ok (data_of words)
