-- One more is done.
use Rattle.std.proofs.Common.{◌+◌, set, subst, sym}
use Rattle.std.proofs.lemmas.List.Elements.{All-set}
use Rattle.parallel_threads.specs.Tasks.{AreUnderWay, MayMerge, denied_of, pieces_at}
use Rattle.parallel_threads.proofs.Doing.{same_number, stepped}
use Rattle.parallel_threads.proofs.Merging.{done_may}
use Rattle.parallel_threads.proofs.seat_run.SeatRun.step.Goals as goal

pub perform-requires-clause-asked : goal.perform-requires-clause-asked
perform-requires-clause-asked g c =
    let run = c.args.self.now in
    let task = c.index_mut-task.result.now in
    subst (MayMerge g.J.Room.merges) (sym c.index_mut-task.ensures.value) (run.asked run.done task c.requires.left)

pub invariant_of-self : goal.invariant_of-self
invariant_of-self g c =
    let run = c.args.self.now in
    let task = c.index_mut-task.result.now in
    record {
      told = subst (λ n. AreUnderWay (denied_of g.J.Room.start g.J.Room.fixed) (pieces_at g.J.Room.fixed) (g.J.Plan.tasks n) (set run.tasks.items run.done c.perform.new.task) (run.done + 1) c.perform.new.seat)
          (sym (same_number (denied_of g.J.Room.start g.J.Room.fixed) (pieces_at g.J.Room.fixed) task c.perform.new.task run.seat c.perform.new.seat c.perform.ensures))
          (stepped (denied_of g.J.Room.start g.J.Room.fixed) (pieces_at g.J.Room.fixed) (g.J.Plan.tasks run.seat.number) run.tasks.items run.done task c.perform.new.task run.seat c.perform.new.seat c.requires.left run.told c.index_mut-task.ensures.value c.perform.ensures);
      asked = All-set (MayMerge g.J.Room.merges) run.tasks.items run.done c.perform.new.task
          (done_may (denied_of g.J.Room.start g.J.Room.fixed) (pieces_at g.J.Room.fixed) g.J.Room.merges task c.perform.new.task run.seat c.perform.new.seat c.perform.ensures
          (subst (MayMerge g.J.Room.merges) (sym c.index_mut-task.ensures.value) (run.asked run.done task c.requires.left)))
          run.asked;
    }
