-- A request of one piece as the big step that it is.
use Rattle.std.specs.Prelude.{◌≡◌, ℕ, ◌*◌, length}
use Rattle.chunk.specs.Pieces.{Span, span_of}
use Rattle.plain_machine.specs.declared.request.Request.{Request}
use Rattle.plain_machine.specs.declared.request.Dev.{Dev}
use Rattle.plain_machine.specs.declared.request.Op.{Op}
use Rattle.plain_machine.specs.declared.request.Op.TheVariants.{Read, Write, Flush}
use Rattle.whole_commands.specs.Snaps.{Volume}
use Rattle.whole_commands.specs.Pieces.{Answered}
use Rattle.whole_commands.specs.Commands.{write_piece, read_piece, flushed}

-- what a device answers to an operation on one piece; a flush is of the whole device
abbrev pub answered_by : Dev → Op → Span → Volume → Answered Volume
answered_by dev Read piece v = read_piece dev piece v
answered_by dev (Write bytes) piece v = write_piece dev piece bytes v
answered_by dev Flush piece v = flushed dev v

-- the big step of a request
abbrev pub answer_of : Request → Volume → Answered Volume
answer_of request v = answered_by request.dev request.op (span_of request.range) v

-- a write brings as many bytes as its range has
abbrev pub FitsRange : Op → ℕ → Type 0
FitsRange Read count = Unit {0}
FitsRange (Write bytes) count = length bytes ≡ 512 * count
FitsRange Flush count = Unit {0}
