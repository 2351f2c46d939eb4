use Rattle.exception_arena.proofs.Steps.{committed_under}
use Rattle.exception_arena.proofs.plain.PlainExceptionsExceptions.finish.Goals as goal

pub returns-clause-committed : goal.returns-clause-committed
returns-clause-committed c =
    let here = rw c.as_slice.ensures.value at (c.place_under-place.ensures.here c.remove-begun.result) in
    committed_under _ c.args.self.now.committed.items _ c.remove-begun.result _ c.remove-begun.ensures.value here c.push_reserved.ensures.items
