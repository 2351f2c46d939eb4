-- One task more stands at its place.
use Rattle.std.proofs.Common.{◌≡◌, ◌<◌, ◌-◌, ◌++◌, ◌∷◌, [], length, set, ap, ◌∙◌, sym, arith}
use Rattle.parallel_threads.specs.Tasks.{tasks_at}
use Rattle.parallel_threads.proofs.Places.{apart, at, here}
use Rattle.parallel_lines.proofs.planning.put_task.Goals as goal

pub returns-in_err-push-clause-others : goal.returns-in_err-push-clause-others
returns-in_err-push-clause-others c i other = apart c.args.tasks.now.items (c.from.result - 1) i c.push.new.self (λ same. other (omega (arith, same, c.from.ensures)))

pub returns-clause-put : goal.returns-clause-put
returns-clause-put c =
    let place : c.args.seat - 1 ≡ c.from.result - 1 = omega (arith, c.from.ensures) in
    let low : c.from.result - 1 < length c.args.tasks.now.items = omega (arith, c.from.ensures, c.requires.seat.0, c.requires.seat.1, c.requires.seats) in
    let all = c.args.tasks.now.items in
    ap (tasks_at (set all (c.from.result - 1) c.push.new.self)) place
    ∙ here all (c.from.result - 1) c.push.new.self low
    ∙ c.in_ok-push.ensures.items
    ∙ ap (λ l. l ++ c.args.task ∷ []) (at all (c.from.result - 1) c.index_mut.result.now low c.index_mut.ensures.value ∙ ap (tasks_at all) (sym place))

pub returns-clause-others : goal.returns-clause-others
returns-clause-others c i other = apart c.args.tasks.now.items (c.from.result - 1) i c.push.new.self (λ same. other (omega (arith, same, c.from.ensures)))
