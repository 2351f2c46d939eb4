-- A merge begins, goes on after a fault, and is taken out of its volume: no device is touched. Calls test before it that
-- nothing is in flight.
use Rattle.std.specs.Prelude.{◌==◌, ℕ, ◌*◌, ◌/◌, is_some, Bool, false, [], length, Some, None, if◌then◌else◌}
use Rattle.event_machine.specs.Held.{SnapHeld, MergeHeld, Moving, with_merge}
use Rattle.event_machine.specs.MergeDue.{is_finished}
use Rattle.event_machine.specs.Stepping.{for_some, first_that, without_first}

-- The merge of a live snapshot: pairs are taken from the area of the first empty slot on, backwards.
abbrev pub merging_of : SnapHeld → MergeHeld
merging_of h = record {
  merge = record {
    number = h.snap.number;
    chunk = h.snap.chunk;
    failed = false;
    current = length h.pairs / (32 * h.snap.chunk);
    next = h.next;
    store = h.snap.store;
  };
  pairs = h.pairs;
  waiting = [];
  reading = [];
  buffer = [];
  copied = [];
  released = [];
  flushed = false;
}

-- the snapshot that passes a test is merged, if it is live
abbrev pub begin : (SnapHeld → Bool) → SnapHeld → Moving → Moving
begin test h v = if h.snap.live then record v { snaps = without_first test v.snaps; merge = Some (merging_of h) } else v

-- begin: nothing where a merge is begun, or the snapshot is not there
abbrev pub begun : ℕ → Moving → Moving
begun number v =
    if is_some v.merge then v
    else for_some (first_that (λ h. h.snap.number == number) v.snaps) (λ h. begin (λ k. k.snap.number == number) h v) v

-- resume: a merge that failed may go on
abbrev pub resumed : Moving → Moving
resumed v = for_some v.merge (λ m. with_merge (record m { merge = record m.merge { failed = false } }) v) v

-- finish: the merge is taken out where no pair is left, and no group
abbrev pub finished : Moving → Moving
finished v = for_some v.merge (λ m. if is_finished m then record v { merge = None } else v) v
