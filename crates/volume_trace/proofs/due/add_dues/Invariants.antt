use Rattle.std.proofs.Common.{◌≡◌, ◌++◌, take}
use Rattle.volume_trace.specs.Trace.{dues_text}
use Rattle.volume_trace.proofs.due.add_dues.Given as goal

abbrev pub invariant-loop-event : goal.invariant-loop-event
invariant-loop-event l = l.out.items ≡ l.initial.out.items ++ dues_text l.names l.snaps (take l.event-index l.events)
