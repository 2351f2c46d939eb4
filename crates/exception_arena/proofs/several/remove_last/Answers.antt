use Rattle.std.proofs.Common.{arith, ◌≡◌, ◌+◌, ◌-◌, ◌∙◌, ap, length, get_or}
use Rattle.sector.specs.declared.pair.Pair.{Pair}
use Rattle.exception_arena.proofs.Steps.{last_left}
use Rattle.exception_arena.proofs.several.remove_last.Goals as goal

pub overflow_sub-old_chunk : goal.overflow_sub-old_chunk
overflow_sub-old_chunk g c =
    let d : Pair = record { old = 0; new = 0 } in
    let e : (get_or (g.E.Exceptions.committed c.args.exceptions.now) (length (g.E.Exceptions.committed c.args.exceptions.now) - (c.loop-i.i + 1)) d).old + c.loop-i.i ≡ c.args.old_chunk = c.requires.falling c.loop-i.i d (omega arith) in
    omega arith

pub remove-requires-clause-last : goal.remove-requires-clause-last
remove-requires-clause-last g c d =
    let (is, rest, kept, room) = c.loop-i.invariant in
    let same = last_left (g.E.Exceptions.committed c.args.exceptions.now) (g.E.Exceptions.committed c.loop-i.exceptions) c.loop-i.i d (omega arith) is in
    let e : (get_or (g.E.Exceptions.committed c.args.exceptions.now) (length (g.E.Exceptions.committed c.args.exceptions.now) - (c.loop-i.i + 1)) d).old + c.loop-i.i ≡ c.args.old_chunk = c.requires.falling c.loop-i.i d (omega arith) in
    ap (λ pair. pair.old) same ∙ omega arith
