use Rattle.std.proofs.Common.{◌≡◌, ◌++◌, take}
use Rattle.std.specs.List.{flat_map}
use Rattle.counted_volume.specs.Trace.{events_of_snap}
use Rattle.counted_volume.proofs.trace.add_snaps.Given as goal

abbrev pub invariant-loop-snap : goal.invariant-loop-snap
invariant-loop-snap g l = l.events.items ≡ l.initial.events.items ++ flat_map events_of_snap (take l.snap-index l.snaps)
