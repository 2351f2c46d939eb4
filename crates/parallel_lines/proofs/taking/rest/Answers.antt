-- One event more is done.
use Rattle.parallel_lines.proofs.Rests.{none_rested}
use Rattle.parallel_lines.proofs.taking.rest.Goals as goal

pub loop-event-init : goal.loop-event-init
loop-event-init c = none_rested c.args.audit.now c.requires.none

pub loop-event-preserved : goal.loop-event-preserved
loop-event-preserved c = c.do_first.ensures.rested c.args.audit.now c.loop-event.invariant
