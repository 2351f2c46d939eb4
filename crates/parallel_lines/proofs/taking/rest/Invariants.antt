-- The events so far: no request is in flight, and nothing but spoils is noted.
use Rattle.layers.specs.Stack.{stack_contents, stack_layers}
use Rattle.volume.specs.Volumed.{left_in_all}
use Rattle.parallel_lines.specs.Taking.{IsRested}
use Rattle.parallel_lines.proofs.taking.rest.Given as goal

abbrev pub invariant-loop-event : goal.invariant-loop-event
invariant-loop-event l = IsRested l.fn.audit l.audit

abbrev pub decreases-loop-event : goal.decreases-loop-event
decreases-loop-event l = left_in_all stack_contents stack_layers l.audit.volume
