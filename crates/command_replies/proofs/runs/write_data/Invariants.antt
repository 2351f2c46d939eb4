use Rattle.std.proofs.Common.{length}
use Rattle.words.proofs.Written.{WritesOn}
use Rattle.command_replies.specs.Runs.{data_words}
use Rattle.command_replies.proofs.runs.write_data.Given as goal

abbrev pub invariant-loop-rest : goal.invariant-loop-rest
invariant-loop-rest g l = WritesOn (g.W.Write.contents l.fn.writer) (g.W.Write.contents l.writer) (data_words l.rest) (data_words l.bytes)

abbrev pub decreases-loop-rest : goal.decreases-loop-rest
decreases-loop-rest g l = length l.rest
