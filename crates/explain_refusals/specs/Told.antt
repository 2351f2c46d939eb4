-- What is told behind a line: its number, and one sentence. The form is this project's own choice.
use Rattle.std.specs.Prelude.{◌≡◌, ◌⊎◌, ℕ, Bool, true, false, ◌&&◌, ◌||◌, not, List, [], ◌++◌, length, codes, decimal, nat_le, nat_eq, ◌==◌, if◌then◌else◌, Option, Some, None}
use Rattle.std.specs.Io.KnownBytes.{Appends}
use Rattle.std.specs.List.{list_all, starts_with}
use Rattle.sector.specs.declared.refusal.Refusal.{Refusal}
use Rattle.sector.specs.declared.refusal.Refusal.TheVariants.{NoSuchDevice, OutOfRange, Busy, NotQuiet, NoMemory, Invalid, MergingSnapshot, Io, TooMany, BadTable, BadChunk, BadHeader, BadVersion, Damaged, StoreTooSmall, Stale, MergeInProgress, NotMerging, NotDue, JournalFull, ChunkMismatch, NotFinished, Overflow}
use Rattle.command_semantics.specs.State.{Table}
use Rattle.explain_syntax.specs.Sentences.{sentence_of, seat_sentence_of}
use Rattle.explain_refusals.specs.Reasons.{reason_of}

-- a refusal that may be for the form of a line
abbrev pub is_of_form : Refusal → Bool
is_of_form BadTable = true
is_of_form BadChunk = true
is_of_form OutOfRange = true
is_of_form refusal = false

-- what is told of a line by its form, or else by what stands against it
abbrev pub sentence_or : Option (List ℕ) → List ℕ → List ℕ
sentence_or None reason = reason
sentence_or (Some sentence) reason = sentence

-- the sentence for a line that was refused: for its form, where that may be why and no block was open before it, or else by the devices
unfoldable pub refused_text : Bool → List ℕ → Refusal → Table → List ℕ
refused_text is_open line refusal table =
    if is_open || not (is_of_form refusal) then reason_of line refusal table else
    sentence_or (sentence_of line) (reason_of line refusal table)

-- a sentence behind the line's number, and what ends it
abbrev pub number_text : ℕ → List ℕ
number_text number = decimal number ++ codes ": "

abbrev pub told_text : ℕ → List ℕ → List ℕ → List ℕ
told_text number sentence tail = number_text number ++ sentence ++ tail

-- a line of a block that is passed over: a comment, or one that has spaces alone
unfoldable pub says_nothing : List ℕ → Bool
says_nothing line = nat_le (length line) 65536 && (starts_with nat_eq line (codes "#") || list_all (λ byte. byte == 32) line)

-- what is told of a line that was refused
abbrev pub refused_told : ℕ → Bool → List ℕ → Refusal → Table → List ℕ
refused_told number is_open line refusal table = told_text number (refused_text is_open line refusal table) (codes "\n")

-- what is told of a line of a block that is open: nothing of one whose form is right
abbrev pub seat_by : ℕ → Option (List ℕ) → List ℕ
seat_by number None = []
seat_by number (Some sentence) = told_text number sentence (codes "; the block is refused at its end\n")

-- it is told of lines inside a block alone
unfoldable pub seat_told : ℕ → Bool → List ℕ → List ℕ
seat_told number is_inside line = if not is_inside || says_nothing line then [] else seat_by number (seat_sentence_of line)

-- Behind a line it was told why it was refused, where one more line was, or else what is wrong with a line of a block. Which
-- refusal it was is not said here.
abbrev pub IsTold : ℕ → Bool → Bool → Bool → List ℕ → Table → Option (List ℕ) → Option (List ℕ) → Type 0
IsTold number is_new was_open is_open line table old new =
    ((is_new ≡ true) × (refusal : Refusal) × Appends old new (refused_told number was_open line refusal table))
    ⊎ Appends old new (seat_told number (was_open && is_open) line)
