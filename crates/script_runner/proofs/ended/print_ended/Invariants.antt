-- The lines of the requests so far are printed.
use Rattle.std.specs.Io.KnownBytes.{Appends}
use Rattle.script_runner.specs.Ended.{ended_lines}
use Rattle.script_runner.specs.Output.{printed}
use Rattle.script_runner.proofs.ended.print_ended.Given as goal

abbrev pub invariant-loop-replied : goal.invariant-loop-replied
invariant-loop-replied g l = Appends (g.W.Write.contents l.fn.writer) (g.W.Write.contents l.writer) (printed (ended_lines l.yielded))
