use Rattle.std.proofs.Common.{◌≡◌, false, ◌∙◌, sym, arith}
use Rattle.std.proofs.lemmas.List.{take_all}
use Rattle.std.proofs.lemmas.List.Elements.{All-more, All-same}
use Rattle.snapshot.specs.Kept.{Kept}
use Rattle.volume_opening.proofs.answering.are_answered.Goals as goal

pub loop-snap-preserved : goal.loop-snap-preserved
loop-snap-preserved g c = All-more (λ (s : Kept g.row.B.Denot). g.B.Ahead.failed s.device ≡ false) c.snaps-snap-items.result.now c.loop-snap.snap-index c.snap-item.result c.loop-snap-test.true c.loop-snap.invariant
    (grind (arith, c.snap-item.is, c.device.ensures, c.is_failed-in-loop-snap.ensures, c.if-is_failed-2.false))

pub returns-clause-stores : goal.returns-clause-stores
returns-clause-stores g c = All-same (λ (s : Kept g.row.B.Denot). g.B.Ahead.failed s.device ≡ false) _ _
    (sym c.snaps-snap-items.ensures ∙ sym (take_all c.loop-snap.snap-index c.snaps-snap-items.result.now c.loop-snap-test.false)) c.loop-snap.invariant
