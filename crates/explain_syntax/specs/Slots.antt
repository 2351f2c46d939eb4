-- What a word of a form takes. In capitals a form says what stands at a place; any other word stands for itself. The forms are this
-- project's own choice.
use Rattle.std.specs.Prelude.{ℕ, ◌^◌, Bool, true, false, ◌&&◌, List, [], ◌∷◌, codes, nat_lt, nat_le, ◌==◌, if◌then◌else◌, Option, Some, None, is_some}
use Rattle.std.specs.List.{list_any, slice_split}
use Rattle.std.specs.Str.{bytes_eq}
use Rattle.std.specs.Int.{is_power_of_two}
use Rattle.words.specs.Names.{is_name}
use Rattle.words.specs.Numbers.{number_of}
use Rattle.command.specs.DataWords.{run_of}
use Rattle.explain_syntax.specs.declared.slot.Slot.{Slot}
use Rattle.explain_syntax.specs.declared.slot.Slot.TheVariants.{Name, Number, Seconds, Block, Seat, Data, Feature, Word}

-- a word is one of these
abbrev pub is_one_of : List (List ℕ) → List ℕ → Bool
is_one_of ones word = list_any (λ one. bytes_eq one word) ones

-- the words for a device's name
unfoldable pub name_words : List (List ℕ)
name_words = codes "NAME" ∷ codes "DEV" ∷ codes "DISK" ∷ codes "VOL" ∷ codes "SNAP" ∷ codes "STORE" ∷ []

-- the words for a number
unfoldable pub number_words : List (List ℕ)
number_words = codes "S" ∷ codes "N" ∷ codes "K" ∷ codes "R" ∷ codes "SECTORS" ∷ codes "SECONDS" ∷ codes "OFFSET" ∷ codes "CHUNK" ∷ []

-- the words for a number of seconds of a flakey line
unfoldable pub seconds_words : List (List ℕ)
seconds_words = codes "UP" ∷ codes "DOWN" ∷ []

-- the features of a flakey line
unfoldable pub feature_words : List (List ℕ)
feature_words = codes "error_reads" ∷ codes "error_writes" ∷ codes "drop_writes" ∷ []

-- what a word of a form stands for
unfoldable pub slot_of : List ℕ → Slot
slot_of word =
    if is_one_of name_words word then Name else
    if is_one_of number_words word then Number else
    if is_one_of seconds_words word then Seconds else
    if bytes_eq word (codes "BLOCK") then Block else
    if bytes_eq word (codes "SEAT") then Seat else
    if bytes_eq word (codes "DATA") then Data else
    if bytes_eq word (codes "FEATURE") then Feature else
    Word

-- data words and features: one or more of them, to the line's end
abbrev pub goes_on : Slot → Bool
goes_on Data = true
goes_on Feature = true
goes_on Name = false
goes_on Number = false
goes_on Seconds = false
goes_on Block = false
goes_on Seat = false
goes_on Word = false

-- a number that passes a test
abbrev pub passes : (ℕ → Bool) → Option ℕ → Bool
passes test None = false
passes test (Some n) = test n

-- the bytes of a dust block: a power of two from a sector to 2^30
abbrev pub is_block : ℕ → Bool
is_block n = is_power_of_two n && nat_le 512 n && nat_le n 1073741824

-- the words of which one is taken, with `|` between them
abbrev pub choices_in : List ℕ → List (List ℕ)
choices_in wants = slice_split (λ byte. byte == 124) wants

-- a word that a place takes: a name, a number below 2^32, a number of seconds below 2^31, the bytes of a dust block, one of 8 seats,
-- a data word, a feature, or one of the form's own words
abbrev pub slot_takes : Slot → List ℕ → List ℕ → Bool
slot_takes Name wants word = is_name word
slot_takes Number wants word = is_some (number_of word)
slot_takes Seconds wants word = passes (λ n. nat_lt n (2 ^ 31)) (number_of word)
slot_takes Block wants word = passes is_block (number_of word)
slot_takes Seat wants word = passes (λ n. nat_le 1 n && nat_le n 8) (number_of word)
slot_takes Data wants word = is_some (run_of word)
slot_takes Feature wants word = is_one_of feature_words word
slot_takes Word wants word = is_one_of (choices_in wants) word

-- a word that a place takes for which a form has this
unfoldable pub takes : List ℕ → List ℕ → Bool
takes wants word = slot_takes (slot_of wants) wants word
