use Rattle.std.proofs.Common.{length}
use Rattle.words.proofs.Written.{WritesOn}
use Rattle.script_runner.specs.Numbered.{numbered}
use Rattle.script_runner.proofs.numbering.print_lines.Given as goal

abbrev pub invariant-loop-rest : goal.invariant-loop-rest
invariant-loop-rest g l = WritesOn (g.W.Write.contents l.fn.writer) (g.W.Write.contents l.writer) (numbered l.number l.rest) (numbered l.fn.number l.fn.text)

abbrev pub decreases-loop-rest : goal.decreases-loop-rest
decreases-loop-rest g l = length l.rest
