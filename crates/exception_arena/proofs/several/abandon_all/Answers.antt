use Rattle.std.proofs.Common.{arith, ◌<◌, ◌∙◌, ap, drop, length, length-drop}
use Rattle.std.proofs.lemmas.List.{drop-drop}
use Rattle.exception_arena.proofs.Numbers.{first_begun}
use Rattle.exception_arena.proofs.several.abandon_all.Goals as goal

pub abandon-requires : goal.abandon-requires
abandon-requires g c =
    let (same, rest, kept, room) = c.loop-i.invariant in
    let some : 0 < length (g.E.Exceptions.pending c.loop-i.exceptions) = rw rest (omega (arith, length-drop c.loop-i._i (g.E.Exceptions.pending c.args.exceptions.now))) in
    rw (first_begun (g.E.Exceptions.pending c.loop-i.exceptions) c.pending_at-first.result some c.pending_at-first.ensures).0

pub loop-i-preserved : goal.loop-i-preserved
loop-i-preserved g c =
    let (same, rest, kept, room) = c.loop-i.invariant in
    let some : 0 < length (g.E.Exceptions.pending c.loop-i.exceptions) = rw rest (omega (arith, length-drop c.loop-i._i (g.E.Exceptions.pending c.args.exceptions.now))) in
    let first = first_begun (g.E.Exceptions.pending c.loop-i.exceptions) c.pending_at-first.result some c.pending_at-first.ensures in (
      c.abandon.ensures.committed ∙ same,
      c.abandon.ensures.pending ∙ first.1 ∙ ap (drop 1) rest ∙ drop-drop 1 c.loop-i._i (g.E.Exceptions.pending c.args.exceptions.now),
      c.abandon.ensures.reserved ∙ kept,
      c.abandon.ensures.memory ∙ room,
    )
