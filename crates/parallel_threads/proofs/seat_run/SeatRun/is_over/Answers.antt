-- By how many are done.
use Rattle.std.proofs.Common.{◌∙◌}
use Rattle.std.proofs.lemmas.Bool.{eqb-true}
use Rattle.parallel_threads.specs.Tasks.{denied_of, pieces_at}
use Rattle.parallel_threads.proofs.Doing.{all_done, none_done}
use Rattle.parallel_threads.proofs.seat_run.SeatRun.is_over.Goals as goal

pub returns-then-self-len : goal.returns-then-self-len
returns-then-self-len g c all =
    let run = c.args.self.now in
    all_done (denied_of g.J.Room.start g.J.Room.fixed) (pieces_at g.J.Room.fixed) (g.J.Plan.tasks run.seat.number) run.tasks.items run.done run.seat (eqb-true _ _ all ∙ c.len.ensures ∙ run.tasks.ok.0) run.told

pub returns-else-self-len : goal.returns-else-self-len
returns-else-self-len g c none =
    let run = c.args.self.now in
    none_done (denied_of g.J.Room.start g.J.Room.fixed) (pieces_at g.J.Room.fixed) (g.J.Plan.tasks run.seat.number) run.tasks.items run.done run.seat (eqb-true _ _ none) run.told
