use Rattle.std.proofs.Common.{◌≡◌, ◌++◌, take}
use Rattle.volume_trace.specs.Trace.{copies_text}
use Rattle.volume_trace.proofs.copies.add_copies.Given as goal

abbrev pub invariant-loop-copy : goal.invariant-loop-copy
invariant-loop-copy l = l.out.items ≡ l.initial.out.items ++ copies_text l.name (take l.copy-index l.copies)
