-- A request of a volume at rest, and the big step that it is.
use Rattle.std.specs.Prelude.{ℕ, ◌+◌, ◌*◌, ◌/◌, ◌<◌, ◌≤◌, List, map}
use Rattle.std.specs.List.{All}
use Rattle.sector.specs.declared.range.Range.{Range}
use Rattle.plain_machine.specs.declared.request.Request.{Request}
use Rattle.whole_commands.specs.Snaps.{Volume}
use Rattle.event_machine.specs.Held.{SnapHeld, Moving}
use Rattle.whole_commands.specs.Requests.{FitsRange}

-- the volume's devices and snapshots
abbrev pub volume_of : Moving → Volume
volume_of v = record { origin = v.origin; snaps = map (λ (h : SnapHeld). h.snap) v.snaps }

-- a range lies inside one chunk of a snapshot
abbrev pub IsInChunk : Range → SnapHeld → Type 0
IsInChunk range h = range.first + range.count ≤ h.snap.chunk * (range.first / h.snap.chunk) + h.snap.chunk

-- a request that a volume of so many sectors accepts: it has a sector, lies inside, and inside one chunk of each snapshot
pub record IsFit (sectors : ℕ) (snaps : List SnapHeld) (request : Request) : Type 0 where
  pub some : 0 < request.range.count
  pub inside : request.range.first + request.range.count ≤ sectors
  pub bytes : FitsRange request.op request.range.count
  pub chunks : All (IsInChunk request.range) snaps
