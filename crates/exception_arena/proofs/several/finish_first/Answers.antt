use Rattle.std.proofs.Common.{arith, ◌<◌, ◌∙◌, ap, drop, length, length-drop}
use Rattle.std.proofs.lemmas.List.{drop-drop}
use Rattle.exception_arena.proofs.Numbers.{first_begun}
use Rattle.exception_arena.proofs.Steps.{finish_step}
use Rattle.exception_arena.proofs.several.finish_first.Goals as goal

pub finish-requires : goal.finish-requires
finish-requires g c =
    let (is, rest, kept, room) = c.loop-i.invariant in
    let some : 0 < length (g.E.Exceptions.pending c.loop-i.exceptions) = rw rest (omega (arith, length-drop c.loop-i._i (g.E.Exceptions.pending c.args.exceptions.now))) in
    rw (first_begun (g.E.Exceptions.pending c.loop-i.exceptions) c.pending_at-first.result some c.pending_at-first.ensures).0

pub loop-i-preserved : goal.loop-i-preserved
loop-i-preserved g c =
    let (is, rest, kept, room) = c.loop-i.invariant in
    let some : 0 < length (g.E.Exceptions.pending c.loop-i.exceptions) = rw rest (omega (arith, length-drop c.loop-i._i (g.E.Exceptions.pending c.args.exceptions.now))) in
    let first = first_begun (g.E.Exceptions.pending c.loop-i.exceptions) c.pending_at-first.result some c.pending_at-first.ensures in (
      finish_step _ (g.E.Exceptions.pending c.args.exceptions.now) _ _ _ c.pending_at-first.result c.loop-i._i (omega arith) is rest c.pending_at-first.ensures (rw first.0 at c.finish.ensures.committed),
      c.finish.ensures.pending ∙ first.1 ∙ ap (drop 1) rest ∙ drop-drop 1 c.loop-i._i (g.E.Exceptions.pending c.args.exceptions.now),
      c.finish.ensures.reserved ∙ kept,
      c.finish.ensures.memory ∙ room,
    )
