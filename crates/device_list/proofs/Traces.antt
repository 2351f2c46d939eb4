-- The line of a trace is that of the volume of events behind a volume.
use Rattle.std.proofs.Common.{◌≡◌, List, ℕ}
use Rattle.std.specs.Prelude.{IfOk, Result, Ok, Err}
use Rattle.std.specs.declared.alloc.AllocError.{AllocError}
use Rattle.layers.specs.declared.stack.Stack.{Stack}
use Rattle.plain_machine.specs.declared.event.Event.{Event}
use Rattle.layers.specs.Stack.{stack_contents, stack_layers}
use Rattle.volume.specs.Volumed.{Volumed}
use Rattle.counted_volume.specs.Trace.{IsAllDue}
use Rattle.command_semantics.specs.State.{Volume}
use Rattle.volume_trace.specs.Trace.{trace_of}
use Rattle.device_list.specs.Flights.{IsBehind}
use Rattle.device_list.specs.Trace.{IsTraced, merge_text}

pub traced : (events : Volumed Stack) (volume : Volume) (due : List Event) → IsBehind events volume → IsAllDue stack_contents stack_layers events due
    → (r : Result (List ℕ) AllocError) → IfOk r (λ text. text ≡ trace_of volume.origin volume.snaps events.snaps events.flights (merge_text volume.merging) due) → IfOk r (λ text. IsTraced text volume)
traced events volume due behind all (Ok text) is = record { events = events; behind = behind; due = due; all = all; is = is }
traced events volume due behind all (Err e) is = tt
