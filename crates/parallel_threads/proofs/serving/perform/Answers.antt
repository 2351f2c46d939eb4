-- A job asks for what its task asks for.
use Rattle.std.proofs.Common.{sym, ◌∙◌}
use Rattle.parallel_threads.proofs.Merging.{job_may}
use Rattle.parallel_threads.proofs.serving.perform.Goals as goal

pub answer-requires-clause-asked : goal.answer-requires-clause-asked
answer-requires-clause-asked g c = job_may g.J.Room.merges c.args.task.now c.in-Some.job (sym c.take.ensures.value ∙ c.in-Some.is) c.requires.asked
