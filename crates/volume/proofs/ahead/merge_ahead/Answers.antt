-- The merging store did something, where there is one.
use Rattle.std.proofs.Common.{◌≡◌, Some, subst, sym}
use Rattle.device.specs.CanDoAhead.{CanDoAhead}
use Rattle.merge.specs.Merging.{Merging}
use Rattle.volume.proofs.AsksEvents.{tells_of}
use Rattle.volume.proofs.ahead.merge_ahead.Goals as goal

pub returns-in-Some-clause-told : goal.returns-in-Some-clause-told
returns-in-Some-clause-told g c = λ m was can.
    (let same : c.in-Some.merge ≡ m = cc (was, c.in-Some.is) in
    tells_of _ c.args.operation (g.B.Block.layers c.ahead.new.self.device) c.ahead.result c.ahead.ensures.told c.ahead.ensures.writes
    (subst (λ (x : Merging _). CanDoAhead (g.B.Block.size x.device) c.args.operation) (sym same) can))

pub returns-in-Some-clause-sure : goal.returns-in-Some-clause-sure
returns-in-Some-clause-sure g c = λ m was can.
    (let same : c.in-Some.merge ≡ m = cc (was, c.in-Some.is) in
    c.ahead.ensures.sure (subst (λ (x : Merging _). CanDoAhead (g.B.Block.size x.device) c.args.operation) (sym same) can))
