-- Each turn prints one line more.
use Rattle.script_runner.proofs.EndedLemmas.{none_ended}
use Rattle.script_runner.proofs.ended.print_ended.Goals as goal

pub loop-replied-init : goal.loop-replied-init
loop-replied-init g c = none_ended (g.W.Write.contents c.args.writer.now)
