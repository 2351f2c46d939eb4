-- The task of one line more is there.
use Rattle.std.proofs.Common.{◌≡◌, ◌∷◌, [], suc, length, ap, subst, arith}
use Rattle.std.specs.Vec.Iter.{into_iter_items}
use Rattle.std.proofs.lemmas.List.{nil_from_length}
use Rattle.command.specs.Blocks.{AreSeats}
use Rattle.command.specs.declared.seat_line.SeatLine.{SeatLine}
use Rattle.device_list.specs.Tables.{table_of}
use Rattle.parallel_threads.specs.declared.task.Task.{Task}
use Rattle.parallel_threads.specs.Tasks.{tasks_at}
use Rattle.parallel_lines.specs.Asking.{IsTask}
use Rattle.parallel_lines.proofs.Asked.{all_so_far, more_so_far}
use Rattle.parallel_lines.proofs.planning.tasks_of.Goals as goal

pub loop-line-preserved : goal.loop-line-preserved
loop-line-preserved c =
    let is : SeatLine → Task → Type 0 = λ line task. IsTask c.args.used.now (table_of c.args.held.now) line.work task in
    let rest = into_iter_items c.loop-line.line-iterator in
    let after = into_iter_items c.next.new.self in
    let line = c.in-Some.line in
    let next : rest ≡ line ∷ after = c.in-Some.ensures.steps.0 in
    let seats = subst AreSeats next c.loop-line.invariant.seats in
    let first = seats 0 line (omega arith) in
    record {
      len = (let long : length rest ≡ suc (length after) = ap length next in omega (arith, long, c.loop-line.invariant.len, c.in-Some.ensures.steps.1));
      many = c.put_task.ensures.seats;
      seats = λ k d low. seats (suc k) d (omega (arith, low));
      asked = more_so_far is c.args.lines.items rest after line (tasks_at c.loop-line.tasks.items) (tasks_at c.put_task.new.tasks.items) c.task.result first.0 next c.task.ensures c.in_ok-put_task.ensures.put c.put_task.ensures.others c.loop-line.invariant.asked;
    }

pub returns-clause-asked : goal.returns-clause-asked
returns-clause-asked c =
    let none : into_iter_items c.loop-line.line-iterator ≡ [] = nil_from_length (into_iter_items c.loop-line.line-iterator) (omega (arith, c.loop-line.invariant.len, c.in-None.ensures.steps.0)) in
    all_so_far (λ line task. IsTask c.args.used.now (table_of c.args.held.now) line.work task) c.args.lines.items (into_iter_items c.loop-line.line-iterator) (tasks_at c.loop-line.tasks.items) none c.loop-line.invariant.asked
