-- Nothing ran; or what was opened is for these audits.
use Rattle.std.proofs.Common.{refl, subst, ◌∙◌}
use Rattle.volume_threads.specs.Rigs.{AreOpened}
use Rattle.parallel_threads.specs.Tasks.{tasks_at}
use Rattle.parallel_threads.proofs.Merging.{same_asked}
use Rattle.parallel_threads.proofs.Stays.{none_ran, room_of, same_spared}
use Rattle.parallel_threads.proofs.running.run_seats.Goals as goal

pub returns-in_default-clause-err : goal.returns-in_default-clause-err
returns-in_default-clause-err g c = (refl, none_ran g.B.Block.size g.B.Block.layers c.args.audits.items c.requires.quiet)

pub run_in-requires-clause-room : goal.run_in-requires-clause-room
run_in-requires-clause-room g c κs within =
    room_of g.B.Block.size g.B.Block.layers c.args.audits.items c.in-Ok.opened (subst (λ n. AreOpened n c.in-Ok.opened) (c.len.ensures ∙ c.args.audits.ok.0) c.in-Ok.ensures)

pub returns-in_default-clause-spared : goal.returns-in_default-clause-spared
returns-in_default-clause-spared g c = same_spared c.args.audits.items (tasks_at c.args.tasks.now.items)

pub returns-in_default-clause-asked : goal.returns-in_default-clause-asked
returns-in_default-clause-asked g c = same_asked (tasks_at c.args.tasks.now.items) c.args.audits.items
