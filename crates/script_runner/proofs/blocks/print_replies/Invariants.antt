-- The replies so far are printed.
use Rattle.std.specs.Io.KnownBytes.{Appends}
use Rattle.script_runner.specs.Output.{printed}
use Rattle.script_runner.proofs.blocks.print_replies.Given as goal

abbrev pub invariant-loop-reply : goal.invariant-loop-reply
invariant-loop-reply g l = Appends (g.W.Write.contents l.fn.writer) (g.W.Write.contents l.writer) (printed l.yielded)
