use Rattle.std.proofs.Common.{◌≡◌, take}
use Rattle.std.specs.Prelude.{filter}
use Rattle.volume.specs.Volumed.{is_due_of}
use Rattle.counted_volume.proofs.counted_volume.CountedVolume.due_of.Given as goal

abbrev pub invariant-loop-event : goal.invariant-loop-event
invariant-loop-event g l = l.due.items ≡ filter (is_due_of g.B.Block.contents g.B.Block.layers l.self.volume) (take l.event-index l.events)
