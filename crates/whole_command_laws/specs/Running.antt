-- A command as a volume does it: its pieces are submitted one after the other, each settled before the next, and the first
-- that is refused ends it.
use Rattle.std.specs.Prelude.{◌≡◌, ℕ, ◌+◌, ◌*◌, List, [], ◌∷◌, ◌++◌, take, drop, Some, None}
use Rattle.chunk.specs.Pieces.{Span, span_of}
use Rattle.plain_machine.specs.declared.request.Request.{Request}
use Rattle.plain_machine.specs.declared.request.Dev.{Dev}
use Rattle.plain_machine.specs.declared.request.Op.{Op}
use Rattle.plain_machine.specs.declared.request.Op.TheVariants.{Read, Write}
use Rattle.plain_machine.specs.declared.request.Reply.{Reply}
use Rattle.plain_machine.specs.declared.request.Reply.TheVariants.{Data, Written, Flushed, Refused}
use Rattle.whole_commands.specs.Commands.{bytes_in}
use Rattle.event_machine.specs.Held.{Moving}
use Rattle.event_machine.specs.Due.{due}
use Rattle.event_machine.specs.Submitting.{submitted}
use Rattle.event_machine.specs.Settles.{settle}

-- a request for this piece was submitted under a number, and events were done until none was due
pub record IsDone (number : ℕ) (dev : Dev) (op : Op) (piece : Span) (old new : Moving) (reply : Reply) : Type 0 where
  pub request : Request
  pub to_dev : request.dev ≡ dev
  pub asks : request.op ≡ op
  pub on_piece : span_of request.range ≡ piece
  pub fuel : ℕ
  pub ends : settle fuel (submitted number request old) ≡ new
  pub quiet : due new ≡ None
  pub replied : new.replied ≡ Some reply

-- what holds after a piece, by its reply: the rest of the command, or its end
abbrev pub GoesOn : Reply → Type 0 → Type 0 → Type 0
GoesOn (Data bytes) rest ends = rest
GoesOn Written rest ends = rest
GoesOn Flushed rest ends = rest
GoesOn (Refused failure) rest ends = ends

-- the pieces of a write, each with its part of the bytes, under numbers from this one on
abbrev pub IsWritten : ℕ → Dev → List Span → List ℕ → Moving → Moving → Reply → Type 0
IsWritten number dev [] bytes old new reply = (new ≡ old) × (reply ≡ Written)
IsWritten number dev (piece ∷ pieces) bytes old new reply =
    (mid : Moving) × (got : Reply) × IsDone number dev (Write (take (512 * piece.count) bytes)) piece old mid got
    × GoesOn got (IsWritten (number + 1) dev pieces (drop (512 * piece.count) bytes) mid new reply) ((new ≡ mid) × (reply ≡ got))

-- the pieces of a read, after these bytes
abbrev pub IsRead : ℕ → Dev → List Span → List ℕ → Moving → Moving → Reply → Type 0
IsRead number dev [] before old new reply = (new ≡ old) × (reply ≡ Data before)
IsRead number dev (piece ∷ pieces) before old new reply =
    (mid : Moving) × (got : Reply) × IsDone number dev Read piece old mid got
    × GoesOn got (IsRead (number + 1) dev pieces (before ++ bytes_in got) mid new reply) ((new ≡ mid) × (reply ≡ got))
