-- The events so far.
use Rattle.std.proofs.Common.{◌≡◌, Some, true}
use Rattle.volume.specs.Leaving.{is_quiet_of}
use Rattle.volume.specs.Volumed.{left_in_all}
use Rattle.counted_volume.specs.DoneDue.{AreDone}
use Rattle.counted_volume.proofs.Runs.{RunsBeside}
use Rattle.counted_volume.specs.TakesPlaces.{TakesByRequests}
use Rattle.volume_commands.specs.AtRest.{IsLed}
use Rattle.volume_commands.proofs.serving.settle.Given as goal

abbrev pub invariant-loop-volume : goal.invariant-loop-volume
invariant-loop-volume g l = record {
  so : RunsBeside g.B.Block.contents g.B.Block.layers g.B.Block.size (Some l.fn.reply) (Some l.reply) l.fn.volume.volume l.volume.volume;
  did : AreDone g.B.Block.may_hold g.B.Block.contents g.B.Block.layers g.B.Block.fault_count g.B.Block.size l.fn.reply l.reply l.fn.volume.volume l.volume.volume;
  led : IsLed g.B.Block.may_hold g.B.Block.contents g.B.Block.layers g.B.Block.fault_count g.B.Block.size l.fn.reply l.reply l.fn.volume.volume l.volume.volume;
  taken : TakesByRequests l.fn.volume l.volume;
  still : is_quiet_of l.fn.volume.volume ≡ true → l.volume.volume ≡ l.fn.volume.volume;
}

abbrev pub decreases-loop-volume : goal.decreases-loop-volume
decreases-loop-volume g l = left_in_all g.B.Block.contents g.B.Block.layers l.volume.volume
