-- What is told of a line: the word that breaks a rule, and what would be right. The sentences are this project's own choice.
use Rattle.std.specs.Prelude.{◌≡◌, ℕ, Bool, true, false, List, [], ◌∷◌, ◌++◌, length, take, find, codes, nat_lt, ◌==◌, ◌||◌, if◌then◌else◌, Option, Some, None, option_map}
use Rattle.std.specs.Io.KnownBytes.{Appends, Keeps}
use Rattle.std.specs.List.{list_any}
use Rattle.std.specs.Str.{bytes_eq}
use Rattle.words.specs.Words.{words_of}
use Rattle.explain_syntax.specs.declared.slot.Slot.{Slot}
use Rattle.explain_syntax.specs.declared.slot.Slot.TheVariants.{Name, Number, Seconds, Block, Seat, Data, Feature, Word}
use Rattle.explain_syntax.specs.Slots.{is_one_of, slot_of}
use Rattle.explain_syntax.specs.Forms.{found_or, form_of, seat_form}
use Rattle.explain_syntax.specs.Faults.{FormFault, Unfit, TooMany, Missing, fault_of}
use Rattle.explain_syntax.specs.Near.{near_command}
use Rattle.explain_syntax.specs.Late.{late_text}

-- a word as it is shown: the first 40 bytes of a longer one
unfoldable pub shown : List ℕ → List ℕ
shown word = if nat_lt 40 (length word) then take 40 word ++ codes ".." else word

-- what stands behind a word that its place does not take; none for a place that takes the form's own words
unfoldable pub rule_of : Slot → Option (List ℕ)
rule_of Name = Some (codes " is no name: 1 to 16 of a-z 0-9 _, a letter first")
rule_of Number = Some (codes " is no number: 1 to 10 digits, below 4294967296")
rule_of Seconds = Some (codes " is no number of seconds: digits, below 2147483648")
rule_of Block = Some (codes " is no block: 512, 1024, 2048 .. 1073741824 bytes")
rule_of Seat = Some (codes " is no seat: 1 to 8")
rule_of Data = Some (codes " is no data: COUNT*HH, a count of 1 to 1048576, and two of 0-9 a-f")
rule_of Feature = Some (codes " is no feature here: error_reads, error_writes, drop_writes")
rule_of Word = None

-- what stands behind a word that is none of the form's own
unfoldable pub other_rule : List ℕ → List ℕ → List ℕ
other_rule form wants =
    if bytes_eq wants (codes "P|PO") then codes " is no word for a store: P, or PO where it may overflow" else
    if list_any (λ byte. byte == 124) wants then codes " is none of " ++ wants else
    codes " stands where " ++ wants ++ codes " should: " ++ form

-- a word that is none of the form's own
unfoldable pub other_text : List ℕ → List ℕ → List ℕ → List ℕ
other_text form wants word =
    if bytes_eq word (codes "snapshot-merge") then codes "a snapshot-merge line makes no device: merge SNAP begins a merge" else
    shown word ++ other_rule form wants

-- a word that its place does not take
abbrev pub unfit_by : List ℕ → List ℕ → List ℕ → Option (List ℕ) → List ℕ
unfit_by form wants word None = other_text form wants word
unfit_by form wants word (Some rule) = shown word ++ rule

-- a word behind the last of a form
abbrev pub end_text : List ℕ → List ℕ
end_text form = codes " is a word too many: " ++ form

abbrev pub extra_text : List ℕ → List ℕ → List ℕ
extra_text form word = shown word ++ end_text form

-- a word of a form that a line lacks
abbrev pub lack_text : List ℕ → List ℕ → List ℕ
lack_text form wants = wants ++ codes " is missing: " ++ form

-- a word that breaks a form
unfoldable pub fault_text : List ℕ → FormFault → List ℕ
fault_text form (Unfit word wants) = unfit_by form wants word (rule_of (slot_of wants))
fault_text form (TooMany word) = extra_text form word
fault_text form (Missing wants) = lack_text form wants

-- what is typed here in place of a word that dmsetup or a shell has
unfoldable pub meant_by : List ℕ → Option (List ℕ)
meant_by word = found_or (
    (codes "help", codes "dmrig --help lists the commands") ∷
    (codes "quit", codes "Ctrl-D ends a session") ∷
    (codes "exit", codes "Ctrl-D ends a session") ∷
    (codes "q", codes "Ctrl-D ends a session") ∷
    (codes "suspend", codes "no device is suspended here; settle VOL does what is due, so that a volume is quiet") ∷
    (codes "reload", codes "a line stays as it is: remove NAME, and create NAME with the other") ∷
    (codes "info", codes "ls lists the devices; table NAME and status NAME tell of one") ∷
    (codes "deps", codes "ls lists the devices; table NAME and status NAME tell of one") ∷
    (codes "targets", codes "targets are snapshot-origin, snapshot, flakey, dust, error") ∷
    (codes "dmsetup", codes "leave that word out") ∷
    (codes "lvconvert", codes "merge SNAP begins a merge, settle VOL does it, finish VOL takes it out") ∷
    (codes "lvcreate", codes "disk NAME SECTORS makes a disk, create NAME LINE a device over it") ∷ [])
    None word

-- what stands behind a word that is no command: what is typed in its place, the nearest command, or where they are listed
abbrev pub hint_by : Option (List ℕ) → Option (List ℕ) → List ℕ
hint_by (Some meant) near = codes ": " ++ meant
hint_by None (Some near) = codes "; the nearest is " ++ near
hint_by None None = codes ": dmrig --help lists them"

-- a word that is no command
unfoldable pub unknown_text : List ℕ → List ℕ
unknown_text word = shown word ++ codes " is no command" ++ hint_by (meant_by word) (near_command word)

-- a byte that is no printable ASCII
abbrev pub is_odd : ℕ → Bool
is_odd byte = nat_lt byte 32 || nat_lt 126 byte

-- a tab, a carriage return, or another such byte
unfoldable pub byte_text : ℕ → List ℕ
byte_text byte =
    if byte == 9 then codes "a tab stands in the line: words have spaces between them" else
    if byte == 13 then codes "a carriage return stands in the line: lines end in a line feed alone" else
    codes "a byte stands in the line that is no printable ASCII"

-- a line that is too long, or has such a byte
unfoldable pub bytes_text : List ℕ → Option (List ℕ)
bytes_text line =
    if nat_lt 65536 (length line) then Some (codes "the line is longer than 65536 bytes") else
    option_map byte_text (find is_odd line)

-- what is told of the words of a form: the first word that breaks it, or what is wrong though each word fits its place
abbrev pub found_text : List ℕ → List (List ℕ) → Option FormFault → Option (List ℕ)
found_text form words None = late_text form words
found_text form words (Some fault) = Some (fault_text form fault)

unfoldable pub words_text : List ℕ → List (List ℕ) → Option (List ℕ)
words_text form words = found_text form words (fault_of (words_of form) words)

-- of a line with this first word and this form
abbrev pub formed_text : List ℕ → List (List ℕ) → Option (List ℕ) → Option (List ℕ)
formed_text verb words None = Some (unknown_text verb)
formed_text verb words (Some form) = words_text form words

-- of the words of a line
unfoldable pub line_words_text : List (List ℕ) → Option (List ℕ)
line_words_text [] = None
line_words_text (verb ∷ words) = formed_text verb (verb ∷ words) (form_of (verb ∷ words))

-- of a line: its bytes come before its words
abbrev pub bytes_or : Option (List ℕ) → Option (List ℕ) → Option (List ℕ)
bytes_or None words = words
bytes_or (Some text) words = Some text

-- the sentence that is told of a line outside a block; none where nothing breaks its form
unfoldable pub sentence_of : List ℕ → Option (List ℕ)
sentence_of line = bytes_or (bytes_text line) (line_words_text (words_of line))

-- of the words of a line of a block
unfoldable pub seat_words_text : List (List ℕ) → Option (List ℕ)
seat_words_text [] = None
seat_words_text (seat ∷ words) =
    let form = seat_form (seat ∷ words) in option_map (fault_text form) (fault_of (words_of form) (seat ∷ words))

-- the sentence that is told of a line of a block
unfoldable pub seat_sentence_of : List ℕ → Option (List ℕ)
seat_sentence_of line = bytes_or (bytes_text line) (seat_words_text (words_of line))

-- The sentence was written, if there is one, and it is told whether there is.
abbrev pub Tells : Option (List ℕ) → Option (List ℕ) → Option (List ℕ) → Bool → Type 0
Tells old new None told = (told ≡ false) × Keeps old new
Tells old new (Some sentence) told = (told ≡ true) × Appends old new sentence
