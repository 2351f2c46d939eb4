-- A block by its lines. That want of memory stays is this project's own.
use Rattle.std.specs.Prelude.{ℕ, Bool, List, [], ◌∷◌, ◌++◌, All, Option, Some, None, Result, Ok, Err}
use Rattle.sector.specs.declared.refusal.Refusal.{Refusal}
use Rattle.sector.specs.declared.refusal.Refusal.TheVariants.{NoMemory}
use Rattle.command.specs.declared.opening.Opening.{Opening}
use Rattle.command.specs.declared.block_line.Said.{Said}
use Rattle.command.specs.declared.block_line.Said.TheVariants.{Nothing, End, Line}
use Rattle.command.specs.declared.seat_line.SeatLine.{SeatLine}
use Rattle.command.specs.Lines.{IsSeat, ends_with, said_in}

-- The opening of a block, what its lines say, and why none of them is run, if that is so.
pub record Lines : Type 0 where
  pub opening : Opening
  pub lines : List SeatLine
  pub refusal : Option Refusal

-- each line is a seat's
abbrev pub AreSeats : List SeatLine → Type 0
AreSeats lines = All (λ line. IsSeat line.seat) lines

-- without lines
abbrev pub opened : Opening → Lines
opened opening = record { opening = opening; lines = []; refusal = None }

-- a refusal after an earlier one: want of memory stays
abbrev pub worse : Option Refusal → Refusal → Option Refusal
worse (Some NoMemory) new = Some NoMemory
worse refusal new = Some new

-- with what a line says
abbrev pub with_said : Result Said Refusal → Lines → Lines
with_said (Ok Nothing) block = block
with_said (Ok End) block = block
with_said (Ok (Line line)) block = record block { lines = block.lines ++ line ∷ [] }
with_said (Err refusal) block = record block { refusal = worse block.refusal refusal }

-- with one more line
unfoldable pub with_line : List ℕ → Lines → Lines
with_line line block = with_said (said_in 65536 line) block

-- whether a line ends the block
unfoldable pub ends_block : List ℕ → Bool
ends_block line = ends_with (said_in 65536 line)
