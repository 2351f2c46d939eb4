use Rattle.parallel_threads.proofs.Places.{apart}
use Rattle.parallel_threads.proofs.giving.take_tasks.Goals as goal

pub returns-clause-others : goal.returns-clause-others
returns-clause-others c k other = apart c.args.tasks.now.items c.args.i k c.replace.new.dest other
