-- To be believed: `run`'s output, a volume's steps or its attach are said in these words.
-- What a whole line says. The rule is this project's own choice. In this order: a line that is too long is
-- BadTable, whatever it holds; comments and blank lines say nothing; a byte that isn't printable ASCII is
-- BadTable; then the words are looked at.
use Rattle.std.specs.Prelude.{ℕ, Bool, ◌||◌, List, length, slice_index, nat_lt, ◌==◌, if◌then◌else◌, Option, Some, None, Result, Ok, Err}
use Rattle.std.specs.List.{list_all}
use Rattle.std.specs.Int.{is_in_range}
use Rattle.sector.specs.declared.refusal.Refusal.{Refusal}
use Rattle.sector.specs.declared.refusal.Refusal.TheVariants.{BadTable}
use Rattle.words.specs.Given.{◌>>=◌}
use Rattle.words.specs.Words.{words_of}
use Rattle.command.specs.declared.grammar.Command.{Command}
use Rattle.command.specs.Grammar.{command_of}

-- a comment begins with #, a blank line has spaces alone
abbrev pub is_silent : List ℕ → Bool
is_silent line = (slice_index line 0 == 35) || list_all (λ byte. byte == 32) line

-- printable ASCII, the space among it
abbrev pub is_printable : ℕ → Bool
is_printable byte = is_in_range 32 126 byte

-- what a line says whose words say this command
abbrev pub line_saying : Result Command Refusal → Result (Option Command) Refusal
line_saying rule = rule >>= λ command. Ok (Some command)

-- the command that a line of at most max bytes says, or that it says nothing
unfoldable pub said_of : ℕ → List ℕ → Result (Option Command) Refusal
said_of max line =
    if nat_lt max (length line) then Err BadTable else
    if is_silent line then Ok None else
    if list_all is_printable line then (command_of (words_of line) >>= λ command. Ok (Some command)) else
    Err BadTable
