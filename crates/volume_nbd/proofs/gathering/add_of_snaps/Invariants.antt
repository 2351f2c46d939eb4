-- The events of the snapshots so far are added.
use Rattle.std.proofs.Common.{◌≡◌, ◌++◌, take}
use Rattle.std.specs.List.{flat_map}
use Rattle.volume.specs.Volumed.{is_due_of}
use Rattle.volume_nbd.specs.Gathering.{events_at}
use Rattle.volume_nbd.proofs.gathering.add_of_snaps.Given as goal

abbrev pub invariant-loop-snap : goal.invariant-loop-snap
invariant-loop-snap g l = l.events.items ≡ l.initial.events.items ++ flat_map (events_at (is_due_of g.B.Block.contents g.B.Block.layers l.volume) l.batch) (take l.snap-index l.snap-items)
