use Rattle.std.proofs.Common.{◌≡◌, ◌++◌, take}
use Rattle.volume_trace.specs.Trace.{copied_text}
use Rattle.volume_trace.proofs.copies.add_snaps.Given as goal

abbrev pub invariant-loop-snap : goal.invariant-loop-snap
invariant-loop-snap l = l.out.items ≡ l.initial.out.items ++ copied_text l.names l.snaps (take l.snap-index l.some)
