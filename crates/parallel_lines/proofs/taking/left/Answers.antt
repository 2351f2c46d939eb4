-- A volume of which nothing is due is quiet.
use Rattle.std.proofs.Common.{◌≡◌, None, Option, Some, subst, sym}
use Rattle.std.specs.Prelude.{IfNone, IfSome, true}
use Rattle.layers.specs.declared.stack.Stack.{Stack}
use Rattle.layers.specs.Stack.{stack_contents, stack_layers, stack_size}
use Rattle.plain_machine.specs.declared.event.Event.{Event}
use Rattle.volume.specs.Asking.{IsMergeStill}
use Rattle.volume.specs.Leaving.{is_quiet_of}
use Rattle.volume.specs.Volumed.{Volumed, books_of, next_of}
use Rattle.volume_laws.specs.Waits.{IsQuiet}
use Rattle.volume_commands.proofs.Quiet.{free_quiet, still_free}
use Rattle.parallel_lines.proofs.taking.left.Goals as goal

quiet_by : (v : Volumed Stack) (r : Option Event) → IfNone r (IsQuiet (books_of stack_contents stack_layers stack_size v) × IsMergeStill v.merge) → IfNone r (is_quiet_of v ≡ true)
quiet_by v None h = free_quiet stack_contents stack_layers stack_size v (still_free v.merge h.1) h.0
quiet_by v (Some event) h = tt

due_by : (v : Volumed Stack) (r : Option Event) → r ≡ next_of stack_contents stack_layers v → IfSome r (λ event. next_of stack_contents stack_layers v ≡ Some event)
due_by v None is = tt
due_by v (Some event) is = sym is

pub returns-clause-quiet : goal.returns-clause-quiet
returns-clause-quiet c = subst (λ (v : Volumed Stack). IfNone c.due.result (is_quiet_of v ≡ true)) c.volume-volume.ensures (quiet_by c.volume-volume.result.now c.due.result c.due.ensures.quiet)

pub returns-clause-due : goal.returns-clause-due
returns-clause-due c =
    subst (λ (v : Volumed Stack). IfSome c.due.result (λ event. next_of stack_contents stack_layers v ≡ Some event)) c.volume-volume.ensures (due_by c.volume-volume.result.now c.due.result c.due.ensures.event)
