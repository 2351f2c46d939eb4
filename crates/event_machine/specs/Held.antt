-- To be believed: `run`'s output, a volume's steps or its attach are said in these words.
-- A volume with events: what it keeps of its snapshots, its copies, its merge and its requests beside its devices.
use Rattle.std.specs.Prelude.{ℕ, Bool, false, true, List, [], ◌++◌, Option, Some, map}
use Rattle.sector.specs.declared.pair.Pair.{Pair}
use Rattle.plain_machine.specs.declared.request.Request.{Request}
use Rattle.plain_machine.specs.declared.request.Reply.{Reply}
use Rattle.in_flight.specs.declared.copies.Stage.{Stage}
use Rattle.in_flight.specs.declared.copies.Mark.{Mark}
use Rattle.in_flight.specs.Flushed.{flushed_stage, safe_mark}
use Rattle.in_flight.specs.declared.flights.Route.{Route}
use Rattle.whole_commands.specs.Devices.{Device}
use Rattle.whole_commands.specs.Snaps.{Snap}
use Rattle.whole_commands.specs.Merges.{Merge}

-- a copy that is not committed: its number, its pair, how far it is, and the bytes that were read, none while it waits
pub record Copying : Type 0 where
  pub number : ℕ
  pub pair : Pair
  pub stage : Stage
  pub bytes : List ℕ

-- A snapshot, and what is in memory of it. untried: it is spoiled, and its header was not yet marked for good. marked: the
-- mark was written; it counts as tried after the flush of the store that follows. next: the place that is handed out next.
-- zeroed: the area after the current one is zeroed. firm: and the store was flushed since. marks: of copies that are
-- committed and not published.
pub record SnapHeld : Type 0 where
  pub snap : Snap
  pub untried : Bool
  pub marked : Bool
  pub pairs : List Pair
  pub next : ℕ
  pub zeroed : Bool
  pub firm : Bool
  pub copies : List Copying
  pub marks : List Mark

-- A merge, and what is in memory of it: its pairs, and its present group in four lists. waiting: their chunks are not yet
-- read. reading: the one in the buffer, which has its bytes. copied: those on the origin disk. released: those whose slots
-- are cleared. flushed: all chunks of the group are copied, and the origin was flushed since.
pub record MergeHeld : Type 0 where
  pub merge : Merge
  pub pairs : List Pair
  pub waiting : List Pair
  pub reading : List Pair
  pub buffer : List ℕ
  pub copied : List Pair
  pub released : List Pair
  pub flushed : Bool

-- a request in flight
pub record Going : Type 0 where
  pub number : ℕ
  pub request : Request
  pub route : Route

-- The origin's device, the snapshots in order of attaching, the merge, if one is begun, the requests in flight, the last
-- reply, and how many copies were started.
pub record Moving : Type 0 where
  pub origin : Device
  pub snaps : List SnapHeld
  pub merge : Option MergeHeld
  pub requests : List Going
  pub replied : Option Reply
  pub started : ℕ

abbrev pub number_of : SnapHeld → ℕ
number_of h = h.snap.number

abbrev pub is_untried : SnapHeld → Bool
is_untried h = h.untried

-- a copy, and a snapshot, after a flush of the store: what is written counts as written, what is committed may be published,
-- and the area that is zeroed is firm
abbrev pub flushed_copying : Copying → Copying
flushed_copying p = record p { stage = flushed_stage p.stage }

abbrev pub flushed_held : SnapHeld → SnapHeld
flushed_held h = record h { firm = h.zeroed; copies = map flushed_copying h.copies; marks = map safe_mark h.marks }

-- the snapshot with another device for its store
abbrev pub with_store : SnapHeld → Device → SnapHeld
with_store h store = record h { snap = record h.snap { store = store } }

-- the snapshot is spoiled: its copies are dropped
abbrev pub spoiled : SnapHeld → SnapHeld
spoiled h = record h { snap = record h.snap { live = false }; untried = true; copies = []; marks = [] }

-- the present group of a merge
abbrev pub group_in : MergeHeld → List Pair
group_in m = m.waiting ++ (m.reading ++ (m.copied ++ m.released))

-- the merge with another device for its store
abbrev pub on_device : MergeHeld → Device → MergeHeld
on_device m store = record m { merge = record m.merge { store = store } }

-- the volume with this merge
abbrev pub with_merge : MergeHeld → Moving → Moving
with_merge m v = record v { merge = Some m }
