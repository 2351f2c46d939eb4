-- One piece of a command: what is asked of its request, and what events that are done one after another leave.
use Rattle.std.specs.Prelude.{◌≡◌, ◌⊎◌, ℕ, ◌+◌, ◌-◌, ◌/◌, ◌<◌, ◌≤◌, true, List, ◌++◌}
use Rattle.std.specs.List.{All}
use Rattle.sector.specs.declared.range.Range.{Range}
use Rattle.sector.specs.declared.refusal.Refusal.{Refusal}
use Rattle.device.specs.Layers.{Layer}
use Rattle.plain_machine.specs.declared.request.Dev.{Dev}
use Rattle.plain_machine.specs.declared.request.Reply.{Reply}
use Rattle.plain_machine.specs.declared.request.Reply.TheVariants.{Data, Written, Flushed, Refused}
use Rattle.plain_machine.specs.declared.request.Failure.{Failure}
use Rattle.chunk.specs.Sizes.{is_chunk}
use Rattle.chunk.specs.Pieces.{Span, span_of}
use Rattle.whole_commands.specs.Commands.{bytes_in, write_piece, read_piece}
use Rattle.whole_commands.specs.Merges.{Merged, write_part, read_part}
use Rattle.whole_commands.specs.Beside.{served}
use Rattle.whole_commands.specs.Refusals.{is_starved}
use Rattle.plain_machine.specs.declared.request.Op.{Op}
use Rattle.plain_machine.specs.declared.request.Request.{Request}
use Rattle.whole_commands.specs.Requests.{FitsRange, answer_of}
use Rattle.event_machine.specs.MergeSettles.{part_of}
use Rattle.snapshot.specs.Kept.{Kept}
use Rattle.volume.specs.Volumed.{Volumed, piece_with}
use Rattle.volume_commands.specs.Rested.{Rested, rested_of, merged_of, IsSettled, has_dev}
use Rattle.plain_machine.specs.Failures.{refusal_of}
use Rattle.volume_commands.specs.Commands.{IsDoneBy}
use Rattle.whole_commands.specs.Pieces.{Answered}

-- a snapshot's chunks have a size that is allowed, and are no smaller than a piece
abbrev pub IsAsLarge : {B : Type 0} → ℕ → Kept B → Type 0
IsAsLarge piece s = (is_chunk s.state.chunk ≡ true) × (piece ≤ s.state.chunk)

-- A request that a volume at rest accepts, where its snapshot is live: its device is there, its range lies inside the
-- origin and one piece, and numbers are left.
pub record CanServe {B : Type 0} (size : B → ℕ) (dev : Dev) (op : Op) (range : Range) (v : Volumed B) : Type 0 where
  pub there : has_dev dev (rested_of v) ≡ true
  pub some : 0 < range.count
  pub inside : range.first + range.count ≤ size v.origin
  pub one : (range.first + range.count - 1) / piece_with v.merge v.snaps ≡ range.first / piece_with v.merge v.snaps
  pub bytes : FitsRange op range.count
  pub allowed : is_chunk (piece_with v.merge v.snaps) ≡ true
  pub chunks : All (IsAsLarge (piece_with v.merge v.snaps)) v.snaps
  pub requests : v.requests < 9_223_372_036_854_775_808

-- What is asked of a command: its device is there, its range has a sector and lies inside the origin, and there are
-- numbers for all its pieces.
pub record CanAsk {B : Type 0} (size : B → ℕ) (dev : Dev) (range : Range) (v : Volumed B) : Type 0 where
  pub there : has_dev dev (rested_of v) ≡ true
  pub some : 0 < range.count
  pub inside : range.first + range.count ≤ size v.origin
  pub requests : v.requests + range.count < 9_223_372_036_854_775_808

-- a reply after which a command goes on
abbrev pub IsGood : Reply → Type 0
IsGood (Data bytes) = Unit {0}
IsGood Written = Unit {0}
IsGood Flushed = Unit {0}
IsGood (Refused failure) = ⊥

-- one piece of a command, whether a merge is begun or not
abbrev pub part_written : Dev → Span → List ℕ → Merged → Answered Merged
part_written dev piece bytes m = served (write_piece dev piece bytes) (write_part dev piece bytes) m

abbrev pub part_read : Dev → Span → Merged → Answered Merged
part_read dev piece m = served (read_piece dev piece) (read_part dev piece) m

-- the request of a piece
abbrev pub part_done : Request → Merged → Answered Merged
part_done request m = served (answer_of request) (part_of request.dev request.op (span_of request.range)) m

-- a piece was done
abbrev pub IsPieceDone : {B : Type 0} → (B → List ℕ) → (B → List Layer) → (Merged → Answered Merged) → Rested B → Rested B → Type 0
IsPieceDone contents layers command old new = (got : Reply) × IsGood got × IsDoneBy contents layers command got old new

-- or failed, or there was no room for it and nothing changed
abbrev pub IsPieceRefused : {B : Type 0} → (B → List ℕ) → (B → List Layer) → (Merged → Answered Merged) → Refusal → Rested B → Rested B → Type 0
IsPieceRefused contents layers command refusal old new =
    ((failure : Failure) × (refusal ≡ refusal_of failure) × IsDoneBy contents layers command (Refused failure) old new)
    ⊎ ((is_starved refusal ≡ true) × (merged_of contents layers new ≡ merged_of contents layers old))

-- what was read comes after these bytes
abbrev pub IsPieceRead : {B : Type 0} → (B → List ℕ) → (B → List Layer) → (Merged → Answered Merged) → List ℕ → List ℕ → Rested B → Rested B → Type 0
IsPieceRead contents layers command before after old new =
    (got : Reply) × IsGood got × IsDoneBy contents layers command got old new × (IsSettled layers old → after ≡ before ++ bytes_in got)
