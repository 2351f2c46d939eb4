-- It is of this number, and over.
use Rattle.std.proofs.Common.{◌∙◌, subst, sym}
use Rattle.parallel_threads.specs.Tasks.{IsEnded, IsUnbegun, denied_of, pieces_at}
use Rattle.parallel_threads.proofs.Doing.{unbegun}
use Rattle.parallel_threads.proofs.seat_run.SeatRun.into_parts.Goals as goal

pub returns-clause-ended : goal.returns-clause-ended
returns-clause-ended g c =
    let seat = c.args.self.seat in
    subst (λ n. IsEnded (denied_of g.J.Room.start g.J.Room.fixed) (pieces_at g.J.Room.fixed) (g.J.Plan.tasks n) c.args.self.tasks.items n seat)
    (sym c.number.ensures ∙ sym c.from.ensures ∙ c.if-from-number.false)
    (c.is_over.ensures c.if-not-is_over.false)

pub returns-clause-unbegun : goal.returns-clause-unbegun
returns-clause-unbegun g c = λ none.
    let run = c.args.self in
    subst (λ n. IsUnbegun (g.J.Plan.tasks n) run.tasks.items run.seat)
    (sym c.number.ensures ∙ sym c.from.ensures ∙ c.if-from-number.false)
    (unbegun (denied_of g.J.Room.start g.J.Room.fixed) (pieces_at g.J.Room.fixed) (g.J.Plan.tasks run.seat.number) run.tasks.items run.done run.seat none run.told)
