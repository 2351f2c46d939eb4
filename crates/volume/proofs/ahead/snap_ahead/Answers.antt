-- The store of the snapshot at the place did something, and no other's.
use Rattle.std.proofs.Common.{◌≡◌, ◌<◌, true, false, length, arith, subst, sym, get_or, set}
use Rattle.std.proofs.lemmas.List.{get_or-set_same, get_or_default}
use Rattle.device.specs.CanDoAhead.{CanDoAhead}
use Rattle.snapshot.specs.Kept.{Kept}
use Rattle.volume.specs.Asks.{Tells}
use Rattle.volume.proofs.AsksEvents.{tells_of}
use Rattle.volume.proofs.Aheads.{snap_one}
use Rattle.volume.proofs.ahead.snap_ahead.Goals as goal

pub returns-then-place-snaps-clause-each : goal.returns-then-place-snaps-clause-each
returns-then-place-snaps-clause-each g c =
    let inside : c.args.place < length c.args.snaps.now = omega (arith, c.if-place-snaps.true) in
    snap_one g.B.Block.may_hold g.B.Block.contents g.B.Block.layers g.B.Block.size g.B.Block.fault_count g.B.Block.done_count c.args.snaps.now c.args.place c.index-snaps-place.result c.ahead.new.self inside (record { store = c.ahead.ensures.does; same = c.ahead.ensures.same })

pub returns-then-place-snaps-clause-told : goal.returns-then-place-snaps-clause-told
returns-then-place-snaps-clause-told g c = λ s within can.
    (let inside : c.args.place < length c.args.snaps.now = omega (arith, c.if-place-snaps.true) in
    let new : get_or (set c.args.snaps.now c.args.place c.ahead.new.self) c.args.place s ≡ c.ahead.new.self = get_or-set_same c.args.snaps.now c.args.place c.ahead.new.self s inside in
    let old = get_or_default c.args.snaps.now c.args.place s c.index-snaps-place.result inside in
    subst (λ (x : Kept _). Tells c.args.operation (g.B.Block.layers x.device) c.ahead.result) (sym new)
    (tells_of _ c.args.operation (g.B.Block.layers c.ahead.new.self.device) c.ahead.result c.ahead.ensures.told c.ahead.ensures.writes
    (subst (λ (x : Kept _). CanDoAhead (g.B.Block.size x.device) c.args.operation) old can)))

pub returns-then-place-snaps-clause-fresh : goal.returns-then-place-snaps-clause-fresh
returns-then-place-snaps-clause-fresh g c = λ s within untried.
    (let inside : c.args.place < length c.args.snaps.now = omega (arith, c.if-place-snaps.true) in
    let old = get_or_default c.args.snaps.now c.args.place s c.index-snaps-place.result inside in
    subst (λ (x : Kept _). x.stale ≡ false) (sym old) (c.ahead.ensures.fresh (subst (λ (x : Kept _). x.untried ≡ true) old untried)))

pub returns-then-place-snaps-clause-sure : goal.returns-then-place-snaps-clause-sure
returns-then-place-snaps-clause-sure g c = λ s within can answers.
    (let inside : c.args.place < length c.args.snaps.now = omega (arith, c.if-place-snaps.true) in
    let new : get_or (set c.args.snaps.now c.args.place c.ahead.new.self) c.args.place s ≡ c.ahead.new.self = get_or-set_same c.args.snaps.now c.args.place c.ahead.new.self s inside in
    let old = get_or_default c.args.snaps.now c.args.place s c.index-snaps-place.result inside in
    c.ahead.ensures.sure (subst (λ (x : Kept _). CanDoAhead (g.B.Block.size x.device) c.args.operation) old can) (subst (λ (x : Kept _). g.B.Ahead.unanswered x.device ≡ false) new answers))
