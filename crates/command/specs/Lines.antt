-- What a line of a block says: `SEAT COMMAND`, a seat from 1 to 8 and a `read`, `write` or `merge` by the grammar of command
-- lines, or `end`. The rule is this project's own. A number of sectors that no command has is no fault of the line: the seat
-- answers it in its turn.
use Rattle.std.specs.Prelude.{ℕ, ◌≤◌, Bool, true, false, ◌&&◌, List, length, nat_lt, nat_le, ◌==◌, if◌then◌else◌, Option, Some, Result, Ok, Err, codes}
use Rattle.std.specs.List.{list_all}
use Rattle.std.specs.Str.{bytes_eq}
use Rattle.sector.specs.declared.refusal.Refusal.{Refusal}
use Rattle.sector.specs.declared.refusal.Refusal.TheVariants.{BadTable, OutOfRange}
use Rattle.words.specs.Given.{◌>>=◌}
use Rattle.words.specs.Names.{name_of}
use Rattle.words.specs.Numbers.{numeral_of}
use Rattle.command.specs.Line.{is_silent, said_of}
use Rattle.command.specs.declared.grammar.Command.{Command}
use Rattle.command.specs.declared.grammar.Command.TheVariants as commands
use Rattle.command.specs.declared.block_line.Said.{Said}
use Rattle.command.specs.declared.block_line.Said.TheVariants.{Nothing, End, Line}
use Rattle.command.specs.declared.seat_line.SeatLine.{SeatLine}
use Rattle.command.specs.declared.seat_line.Work.{Work}
use Rattle.command.specs.declared.seat_line.Work.TheVariants.{Read, Write, Merge, OutsideRead, OutsideWrite}
use Rattle.words.specs.Word.{after_word, first_word}

-- `end` alone
abbrev pub is_end : List ℕ → Bool
is_end line = bytes_eq (first_word line) (codes "end") && list_all (λ byte. byte == 32) (after_word line)

-- a seat's number
abbrev pub seat_of : List ℕ → Result ℕ Refusal
seat_of word = numeral_of word >>= λ seat. if nat_le 1 seat && nat_le seat 8 then Ok seat else Err BadTable

-- there are eight
abbrev pub IsSeat : ℕ → Type 0
IsSeat seat = (1 ≤ seat) × (seat ≤ 8)

-- a read or a write, by its word, of a number of sectors outside 1 to 2048
abbrev pub outside_by : List ℕ → List ℕ → Result Work Refusal
outside_by verb name =
    if bytes_eq verb (codes "read") then Ok (OutsideRead name) else
    if bytes_eq verb (codes "write") then Ok (OutsideWrite name) else
    Err BadTable

abbrev pub outside_of : List ℕ → Result Work Refusal
outside_of rest = name_of (first_word (after_word rest)) >>= outside_by (first_word rest)

-- what a seat is to do, by what a command line says
abbrev pub work_in : List ℕ → Result (Option Command) Refusal → Result Work Refusal
work_in rest (Ok (Some (commands.Read name first count))) = Ok (Read name first count)
work_in rest (Ok (Some (commands.Write name first bytes))) = Ok (Write name first bytes)
work_in rest (Ok (Some (commands.Merge name))) = Ok (Merge name)
work_in rest (Ok said) = Err BadTable
work_in rest (Err OutOfRange) = outside_of rest
work_in rest (Err refusal) = Err BadTable

abbrev pub work_of : List ℕ → Result Work Refusal
work_of rest = work_in rest (said_of 65536 rest)

-- a seat, and what it is to do
abbrev pub line_of : List ℕ → Result SeatLine Refusal
line_of line = do
  seat ← seat_of (first_word line)
  work ← work_of (after_word line)
  Ok (record { seat = seat; work = work })

-- what a line of at most max bytes says in a block
unfoldable pub said_in : ℕ → List ℕ → Result Said Refusal
said_in max line =
    if nat_lt max (length line) then Err BadTable else
    if is_silent line then Ok Nothing else
    if is_end line then Ok End else
    (line_of line >>= λ said. Ok (Line said))

-- such a line is a seat's
abbrev pub IsSeatSaid : Said → Type 0
IsSeatSaid Nothing = Unit {0}
IsSeatSaid End = Unit {0}
IsSeatSaid (Line line) = IsSeat line.seat

-- the block ends
abbrev pub ends_with : Result Said Refusal → Bool
ends_with (Ok Nothing) = false
ends_with (Ok End) = true
ends_with (Ok (Line line)) = false
ends_with (Err refusal) = false
