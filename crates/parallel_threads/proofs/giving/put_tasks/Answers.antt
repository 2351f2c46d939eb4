use Rattle.parallel_threads.proofs.Places.{apart, here}
use Rattle.parallel_threads.proofs.giving.put_tasks.Goals as goal

pub returns-then-i-len-clause-put : goal.returns-then-i-len-clause-put
returns-then-i-len-clause-put c low = here c.args.tasks.now.items c.args.i c.args.list low

pub returns-then-i-len-clause-others : goal.returns-then-i-len-clause-others
returns-then-i-len-clause-others c k other = apart c.args.tasks.now.items c.args.i k c.args.list other
