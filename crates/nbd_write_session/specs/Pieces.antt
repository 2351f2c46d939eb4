-- To be believed: what an array was asked for a request, and what it gave back, by the list of its calls, of which the last stands
-- first. A piece that is given back is the one that was taken first of those that are out under its number. This project's own.
use Rattle.std.specs.Prelude.{◌≡◌, ◌==◌, ℕ, ◌+◌, ◌*◌, Bool, true, false, List, [], ◌∷◌, ◌++◌, slice_index_or, slice_range, MatchBool, Option, Some, None, Result, Ok, Err, if◌then◌else◌}
use Rattle.std.specs.List.{position, remove}
use Rattle.nbd_messages.specs.declared.command.Command.{Command}
use Rattle.nbd_messages.specs.declared.command.Command.TheVariants.{Read, Write, Disconnect, Flush, Trim, WriteZeroes, BlockStatus, Other}
use Rattle.nbd_messages.specs.declared.errors.ErrorValue.{ErrorValue}
use Rattle.nbd_messages.specs.declared.request.Request.{Request}
use Rattle.nbd_messages.specs.Writing.{must_last}
use Rattle.nbd_jobs.specs.declared.jobs.Piece.{Piece}
use Rattle.nbd_jobs.specs.declared.work.Kind.{Kind}
use Rattle.nbd_jobs.specs.declared.work.Kind.TheVariants.{Read as ToRead, Write as ToWrite, Zeroes as ToZero, Flush as ToFlush}
use Rattle.nbd_jobs.specs.declared.work.Work.{Work}
use Rattle.nbd_jobs.specs.Steps.{a_flush, filled_bytes, first_error, next_piece, sectors_of}
use Rattle.nbd_backend.specs.Calls.{Call, Choose, Submit, Step}
use Rattle.nbd_backend.specs.declared.array.Refused.{Refused}
use Rattle.nbd_backend.specs.declared.array.Refused.TheVariants.{Full, Error}
use Rattle.nbd_backend.specs.declared.array.Stepped.{Stepped}
use Rattle.nbd_backend.specs.declared.array.Stepped.TheVariants.{Still, Idle, Done, Slow, Back, Ended}

-- the place of the piece that is given back, and that piece
abbrev pub back_at : ℕ → List Piece → Option ℕ
back_at number out = position (λ p. p.number == number) out

abbrev pub piece_at : List Piece → Option ℕ → Option Piece
piece_at out None = None
piece_at out (Some k) = Some (slice_index_or out k (record { number = 0; serial = 0; at = 0 }))

abbrev pub without : List Piece → Option ℕ → List Piece
without out None = out
without out (Some k) = remove out k

-- the pieces that are out with a piece that is taken, and after a step
abbrev pub out_with : Work → Result ℕ Refused → List Piece → List Piece
out_with work (Ok number) out = out ++ record { number = number; serial = work.serial; at = work.at } ∷ []
out_with work (Err refused) out = out

abbrev pub out_after : Stepped → List Piece → List Piece
out_after Still out = out
out_after Idle out = out
out_after Done out = out
out_after Slow out = out
out_after (Back number bytes error) out = without out (back_at number out)
out_after Ended out = out

-- the pieces that are out: taken since the export was chosen, and not given back
abbrev pub out_of : List Call → List Piece
out_of [] = []
out_of (Choose place told ∷ calls) = []
out_of (Submit work part told ∷ calls) = out_with work told (out_of calls)
out_of (Step told ∷ calls) = out_after told (out_of calls)

-- What is done of a request: a piece was taken, with the bytes that are written, or was declined; or one came back that begins so many
-- sectors behind the request's first.
pub data Deal : Type 0 where
  Taken : Work → List ℕ → Deal
  Declined : Work → List ℕ → ErrorValue → Deal
  Came : ℕ → List ℕ → Option ErrorValue → Deal

abbrev pub deals_with : Work → List ℕ → Result ℕ Refused → List Deal → List Deal
deals_with work part (Ok number) deals = Taken work part ∷ deals
deals_with work part (Err Full) deals = deals
deals_with work part (Err (Error error)) deals = Declined work part error ∷ deals

abbrev pub deals_back : ℕ → Option Piece → List ℕ → Option ErrorValue → List Deal → List Deal
deals_back serial None bytes error deals = deals
deals_back serial (Some piece) bytes error deals = if piece.serial == serial then Came piece.at bytes error ∷ deals else deals

abbrev pub deals_after : ℕ → Stepped → List Piece → List Deal → List Deal
deals_after serial Still out deals = deals
deals_after serial Idle out deals = deals
deals_after serial Done out deals = deals
deals_after serial Slow out deals = deals
deals_after serial (Back number bytes error) out deals = deals_back serial (piece_at out (back_at number out)) bytes error deals
deals_after serial Ended out deals = deals

-- what was done of the request with a number since the export was chosen, the last first
abbrev pub deals_of : ℕ → List Call → List Deal
deals_of serial [] = []
deals_of serial (Choose place told ∷ calls) = []
deals_of serial (Submit work part told ∷ calls) = if work.serial == serial then deals_with work part told (deals_of serial calls) else deals_of serial calls
deals_of serial (Step told ∷ calls) = deals_after serial told (out_of calls) (deals_of serial calls)

-- how often an export was chosen
abbrev pub choices : List Call → ℕ
choices [] = 0
choices (Choose place told ∷ calls) = choices calls + 1
choices (Submit work part told ∷ calls) = choices calls
choices (Step told ∷ calls) = choices calls

-- the bytes that came, each piece's at its place of these
abbrev pub laid : List ℕ → List Deal → List ℕ
laid bytes [] = bytes
laid bytes (Taken work part ∷ deals) = laid bytes deals
laid bytes (Declined work part error ∷ deals) = laid bytes deals
laid bytes (Came at came error ∷ deals) = filled_bytes at came (laid bytes deals)

-- the first error
abbrev pub error_with : Option ErrorValue → Option ErrorValue → Option ErrorValue
error_with None first = first
error_with (Some error) first = first_error first error

abbrev pub error_in : List Deal → Option ErrorValue
error_in [] = None
error_in (Taken work part ∷ deals) = error_in deals
error_in (Declined work part error ∷ deals) = first_error (error_in deals) error
error_in (Came at bytes error ∷ deals) = error_with error (error_in deals)

-- how many pieces were asked for it
abbrev pub asked_count : List Deal → ℕ
asked_count [] = 0
asked_count (Taken work part ∷ deals) = asked_count deals + 1
asked_count (Declined work part error ∷ deals) = asked_count deals + 1
asked_count (Came at bytes error ∷ deals) = asked_count deals

-- as many pieces came back as were taken
abbrev pub taken_count : List Deal → ℕ
taken_count [] = 0
taken_count (Taken work part ∷ deals) = taken_count deals + 1
taken_count (Declined work part error ∷ deals) = taken_count deals
taken_count (Came at bytes error ∷ deals) = taken_count deals

abbrev pub came_count : List Deal → ℕ
came_count [] = 0
came_count (Taken work part ∷ deals) = came_count deals
came_count (Declined work part error ∷ deals) = came_count deals
came_count (Came at bytes error ∷ deals) = came_count deals + 1

abbrev pub AreBack : List Deal → Type 0
AreBack deals = came_count deals ≡ taken_count deals

-- what is written of a piece: its own bytes of those that the request brought
abbrev pub part_by : Kind → List ℕ → Work → List ℕ
part_by ToRead brought work = []
part_by ToWrite brought work = slice_range brought (512 * work.at) (512 * (work.at + work.count))
part_by ToZero brought work = []
part_by ToFlush brought work = []

-- The pieces of a request that were taken are its sectors, up to one, each but once: from the last to the first, each is the next
-- behind those before it.
abbrev pub AreSent : ℕ → Request → ℕ → List ℕ → ℕ → List Deal → Type 0
AreSent chunk request serial brought sent [] = sent ≡ 0
AreSent chunk request serial brought sent (Taken work part ∷ deals) =
    (work ≡ next_piece chunk request serial work.at) × (part ≡ part_by work.kind brought work) × (sent ≡ work.at + work.count)
    × AreSent chunk request serial brought work.at deals
AreSent chunk request serial brought sent (Declined work part error ∷ deals) = ⊥
AreSent chunk request serial brought sent (Came at bytes error ∷ deals) = AreSent chunk request serial brought sent deals

-- whether a command reads or writes sectors, and whether a flush is asked for the request
abbrev pub is_moved : Command → Bool
is_moved Read = true
is_moved Write = true
is_moved Disconnect = false
is_moved Flush = false
is_moved Trim = false
is_moved WriteZeroes = true
is_moved BlockStatus = false
is_moved Other = false

abbrev pub is_lasting : Request → Bool
is_lasting request = if is_moved request.command then must_last request else true

-- all its sectors were asked for, and are back; of one that has none, nothing was asked
abbrev pub AreMoved : ℕ → Request → ℕ → List ℕ → List Deal → Type 0
AreMoved chunk request serial brought deals =
    MatchBool (is_moved request.command) (AreSent chunk request serial brought (sectors_of request) deals × AreBack deals) (deals ≡ [])

-- a flush was taken after that, and is back
pub record IsFlushed (chunk : ℕ) (request : Request) (serial : ℕ) (brought : List ℕ) (deals : List Deal) : Type 0 where
  pub at : ℕ
  pub bytes : List ℕ
  pub before : List Deal
  pub are : deals ≡ Came at bytes None ∷ Taken (a_flush serial) [] ∷ before
  pub moved : AreMoved chunk request serial brought before

-- All that a request asks for is done.
abbrev pub IsDone : ℕ → Request → ℕ → List ℕ → List Deal → Type 0
IsDone chunk request serial brought deals =
    MatchBool (is_lasting request) (IsFlushed chunk request serial brought deals) (AreMoved chunk request serial brought deals)
