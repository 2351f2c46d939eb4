-- What the run of a block answers, and what it leaves of the table. This project's own.
use Rattle.std.specs.Prelude.{◌≡◌, ◌≢◌, ◌⊎◌, ◌==◌, ℕ, Bool, true, false, List, [], ◌∷◌, ◌++◌, length, map, replicate, Option, Some, None}
use Rattle.std.specs.List.{count_by, flat_map, list_any, range_with_len}
use Rattle.sector.specs.declared.refusal.Refusal.{Refusal}
use Rattle.sector.specs.declared.refusal.Refusal.TheVariants.{NoMemory}
use Rattle.command.specs.Blocks.{Lines}
use Rattle.command.specs.declared.seat_line.SeatLine.{SeatLine}
use Rattle.command_semantics.specs.State.{Table, Volume}
use Rattle.command_semantics.specs.Places.{place_of}
use Rattle.command_semantics.specs.declared.place.Place.{Place}
use Rattle.command_semantics.specs.declared.place.Place.TheVariants.{Free, In}
use Rattle.device_list.specs.Names.{IsNamedBegun, KeepsNames}
use Rattle.command_replies.specs.declared.command_reply.CommandReply.{CommandReply}
use Rattle.command_replies.specs.declared.command_reply.CommandReply.TheVariants.{Done, Data, Said, Number, Fault, Ended, Seat, Gate, Refused}
use Rattle.parallel_lines.specs.Looking.{block_refusal, name_in}

-- the line of a seat, or of the gate
abbrev pub IsOfBlock : CommandReply → Type 0
IsOfBlock Done = ⊥
IsOfBlock (Data bytes) = ⊥
IsOfBlock (Said text) = ⊥
IsOfBlock (Number n) = ⊥
IsOfBlock Fault = ⊥
IsOfBlock (Ended ended) = ⊥
IsOfBlock (Seat seated) = Unit {0}
IsOfBlock (Gate opened) = Unit {0}
IsOfBlock (Refused refusal) = ⊥

-- which seat's it is; none of the gate's
abbrev pub seat_in : CommandReply → Option ℕ
seat_in Done = None
seat_in (Data bytes) = None
seat_in (Said text) = None
seat_in (Number n) = None
seat_in Fault = None
seat_in (Ended ended) = None
seat_in (Seat seated) = Some seated.seat
seat_in (Gate opened) = None
seat_in (Refused refusal) = None

-- as many replies of each seat as it has lines, the first seat's first
abbrev pub seats_told : List ℕ → List (Option ℕ)
seats_told seats = flat_map (λ seat. replicate (count_by (λ s. s == seat) seats) (Some seat)) (range_with_len 1 8)

-- and last the gate's, where the block holds a ticket
abbrev pub gate_told : Option ℕ → List (Option ℕ)
gate_told None = []
gate_told (Some ticket) = None ∷ []

abbrev pub all_told : Lines → List (Option ℕ)
all_told block = seats_told (map (λ line. line.seat) block.lines) ++ gate_told block.opening.hold

-- a block that is refused: for this reason, or for want of memory
abbrev pub IsRefusedFor : Refusal → Lines → Table → Type 0
IsRefusedFor e block table = e ≢ NoMemory → block_refusal block table ≡ Some e

-- a place in volume v
abbrev pub is_in : ℕ → Option Place → Bool
is_in v None = false
is_in v (Some (Free i depth)) = false
is_in v (Some (In w role)) = w == v

-- whether a line names a device of volume v
abbrev pub is_used : ℕ → List SeatLine → Table → Bool
is_used v lines table = list_any (λ line. is_in v (place_of (name_in line.work) table)) lines

-- of each volume whether a line names a device of it
abbrev pub used_in : List SeatLine → Table → List Bool
used_in lines table = map (λ v. is_used v lines table) (range_with_len 0 (length table.volumes))

-- Lines were run at a volume: all names are as they were, but that one of the snapshots may be merged now.
pub record IsRun (old new : Volume) : Type 0 where
  pub names : KeepsNames old new ⊎ ((k : ℕ) × IsNamedBegun k old new)
  pub sound : new.sound ≡ old.sound
  pub quiet : old.quiet ≡ true → new.quiet ≡ true

-- a volume that no line names is as it was
abbrev pub IsRunIf : Bool → Volume → Volume → Type 0
IsRunIf true old new = IsRun old new
IsRunIf false old new = new ≡ old

-- each volume in its place
abbrev pub AreRun : List Bool → List Volume → List Volume → Type 0
AreRun [] [] [] = Unit {0}
AreRun [] [] (new ∷ news) = ⊥
AreRun [] (old ∷ olds) news = ⊥
AreRun (used ∷ uses) [] news = ⊥
AreRun (used ∷ uses) (old ∷ olds) [] = ⊥
AreRun (used ∷ uses) (old ∷ olds) (new ∷ news) = IsRunIf used old new × AreRun uses olds news

-- The lines of a block were run, or some of them, or none: stacks that nothing uses are as they were.
pub record IsTableRun (lines : List SeatLine) (old new : Table) : Type 0 where
  pub stacks : new.stacks ≡ old.stacks
  pub volumes : AreRun (used_in lines old) old.volumes new.volumes
