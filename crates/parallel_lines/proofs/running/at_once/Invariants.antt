-- Some volumes are back in their places, and the others have theirs.
use Rattle.std.proofs.Common.{◌≡◌, ◌+◌, ◌<◌, ◌≤◌, ℕ, List, false, true, vec_len, vec_capacity}
use Rattle.layers.specs.declared.stack.Stack.{Stack}
use Rattle.layers.specs.Stack.{stack_layers, stack_size}
use Rattle.audited_volume.specs.Books.{AuditShape}
use Rattle.parallel_threads.specs.Left.{AllAddAskedFor}
use Rattle.parallel_threads.specs.Tasks.{AreTold, tasks_at}
use Rattle.device_list.proofs.Showing.{shown_in}
use Rattle.parallel_lines.specs.Spared.{NoneAdded}
use Rattle.parallel_lines.proofs.Slots.{AreLeft}
use Rattle.parallel_lines.proofs.running.at_once.Given as goal

abbrev pub invariant-loop-slot : goal.invariant-loop-slot
invariant-loop-slot g l = record {
  stacks : l.held.stacks.items ≡ l.fn.held.stacks.items;
  room : vec_len l.held.volumes + vec_len l.slots ≤ vec_capacity l.held.volumes;
  left : (befores : List (AuditShape Stack)) × AreLeft l.used (shown_in l.fn.held.volumes.items) befores l.initial.audits.items l.slots.items l.audits.items (shown_in l.held.volumes.items)
      × (l.ran ≡ true → (i : ℕ) → i < 8 → AreTold stack_size stack_layers befores l.initial.audits.items (i + 1) (tasks_at l.fn.tasks.items i) (tasks_at l.tasks.items i))
      × (l.ran ≡ false → NoneAdded befores l.initial.audits.items)
      × (l.ran ≡ true → AllAddAskedFor (tasks_at l.fn.tasks.items) befores l.initial.audits.items);
}

abbrev pub decreases-loop-slot : goal.decreases-loop-slot
decreases-loop-slot g l = vec_len l.slots
