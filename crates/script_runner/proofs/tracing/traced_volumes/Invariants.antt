use Rattle.std.proofs.Common.{take}
use Rattle.device_list.proofs.Showing.{shown_in}
use Rattle.script_runner.specs.Traced.{AreTraced}
use Rattle.script_runner.proofs.tracing.traced_volumes.Given as goal

abbrev pub invariant-loop-volume : goal.invariant-loop-volume
invariant-loop-volume l = AreTraced l.page.items (take l.volume-index (shown_in l.volumes))
