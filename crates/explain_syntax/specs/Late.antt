-- What is wrong with a line each of whose words fits its place.
use Rattle.std.specs.Prelude.{ℕ, ◌^◌, ◌-◌, ◌/◌, ◌%◌, ◌&&◌, List, ◌++◌, length, drop, position, find, count_by, slice_get, codes, decimal, min, nat_lt, nat_le, ◌==◌, if◌then◌else◌, Option, Some, None, option_and_then, option_map}
use Rattle.std.specs.Int.{is_power_of_two}
use Rattle.std.specs.Str.{bytes_eq}
use Rattle.words.specs.Words.{words_of}
use Rattle.words.specs.Numbers.{number_of}
use Rattle.command.specs.DataWords.{total}

-- the place at which a form has a word
unfoldable pub place_of : List ℕ → List ℕ → Option ℕ
place_of form name = position (λ one. bytes_eq one name) (words_of form)

-- the number that a line says at a place
abbrev pub number_at : List (List ℕ) → ℕ → Option ℕ
number_at words place = option_and_then number_of (slice_get words place)

-- the number that a line says for a word of its form
unfoldable pub number_for : List ℕ → List (List ℕ) → List ℕ → Option ℕ
number_for form words name = option_and_then (number_at words) (place_of form name)

-- a chunk that is none
unfoldable pub chunk_text : ℕ → Option (List ℕ)
chunk_text chunk =
    if is_power_of_two chunk && nat_le chunk 1024 then None else
    Some (decimal chunk ++ codes " is no chunk: 1, 2, 4, 8 .. 1024 sectors")

-- so many sectors as no line moves
unfoldable pub count_text : ℕ → Option (List ℕ)
count_text count =
    if nat_le 1 count && nat_le count 2048 then None else
    Some (decimal count ++ codes " sectors: a line moves 1 to 2048")

-- how many bytes data words say, up to 2^64 - 1
unfoldable pub size_of : List (List ℕ) → ℕ
size_of words = min (total words) (2 ^ 64 - 1)

-- data of so many bytes: no whole sectors, or so many as no line moves
unfoldable pub size_text : ℕ → Option (List ℕ)
size_text bytes =
    if bytes % 512 == 0 then count_text (bytes / 512) else
    Some (codes "the data has " ++ decimal bytes ++ codes " bytes, and no whole sectors of 512")

-- how often a word stands among words
abbrev pub times : List ℕ → List (List ℕ) → ℕ
times word words = count_by (λ one. bytes_eq one word) words

-- the first of the features that stands twice
unfoldable pub twice_text : List (List ℕ) → Option (List ℕ)
twice_text features = option_map (λ feature. feature ++ codes " stands twice") (find (λ feature. nat_lt 1 (times feature features)) features)

-- two features that do not go together, or one that stands twice
unfoldable pub pairs_text : List (List ℕ) → Option (List ℕ)
pairs_text features =
    if nat_lt 0 (times (codes "error_writes") features) && nat_lt 0 (times (codes "drop_writes") features)
    then Some (codes "error_writes and drop_writes don't go together") else
    twice_text features

-- so many features, where another number of them is said
abbrev pub said_text : ℕ → List ℕ
said_text count = decimal count ++ codes " stands for the number of features, and behind it stand "

abbrev pub many_text : ℕ → ℕ → List ℕ
many_text count found = said_text count ++ decimal found

-- features, and their count
unfoldable pub features_text : List (List ℕ) → ℕ → Option (List ℕ)
features_text features count =
    if count == length features then pairs_text features else
    Some (many_text count (length features))

-- a flakey line: its seconds, and then its features, whose count is the tenth word
abbrev pub seconds_text : List (List ℕ) → Option ℕ → Option ℕ → Option (List ℕ)
seconds_text words None down = None
seconds_text words (Some up) None = None
seconds_text words (Some up) (Some down) =
    if (up == 0) && (down == 0) then Some (codes "UP and DOWN are both 0: one of them lasts a second at least") else
    option_and_then (features_text (drop 10 words)) (number_at words 9)

unfoldable pub flakey_text : List ℕ → List (List ℕ) → Option (List ℕ)
flakey_text form words = seconds_text words (number_for form words (codes "UP")) (number_for form words (codes "DOWN"))

-- a line that tells how many sectors it moves
unfoldable pub moved_text : List ℕ → List (List ℕ) → Option (List ℕ)
moved_text form words = option_and_then count_text (number_for form words (codes "N"))

-- a line by what its form has: seconds, or a number of sectors
abbrev pub by_seconds : List ℕ → List (List ℕ) → Option ℕ → Option (List ℕ)
by_seconds form words None = moved_text form words
by_seconds form words (Some place) = flakey_text form words

-- data, or none
abbrev pub by_data : List ℕ → List (List ℕ) → Option ℕ → Option (List ℕ)
by_data form words None = by_seconds form words (place_of form (codes "UP"))
by_data form words (Some place) = size_text (size_of (drop place words))

-- a chunk, or none
abbrev pub by_chunk : List ℕ → List (List ℕ) → Option ℕ → Option (List ℕ)
by_chunk form words None = by_data form words (place_of form (codes "DATA"))
by_chunk form words (Some chunk) = chunk_text chunk

-- what is told of it
unfoldable pub late_text : List ℕ → List (List ℕ) → Option (List ℕ)
late_text form words = by_chunk form words (number_for form words (codes "CHUNK"))
