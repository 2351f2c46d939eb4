-- One snapshot more only waits; and all do.
use Rattle.std.proofs.Common.{◌≡◌, ◌+◌, ◌-◌, map, take, sym, ◌∙◌, subst, arith}
use Rattle.snapshot.specs.Kept.{due_of_kept}
use Rattle.snapshot_list.specs.Busy.{AreAlike}
use Rattle.snapshot_list.proofs.Alike.{alike_back}
use Rattle.snapshot_list.proofs.due.to_busy.Goals as goal

pub loop-k-preserved : goal.loop-k-preserved
loop-k-preserved g c =
    let f = due_of_kept g.B.Block.contents g.B.Block.layers in
    let snaps = c.args.snaps.now in
    let up : c.loop-k.k ≡ c.loop-k.k - 1 + 1 = omega (arith, c.loop-k-test.true) in
    alike_back f snaps (c.loop-k.k - 1) c.index-snaps-k.result (omega (arith, c.loop-k-test.true, c.loop-k.auto.k)) c.index-snaps-k.is (sym c.is_busy.ensures ∙ c.if-is_busy.false)
    (subst (λ n. AreAlike (map f (take n snaps)) (map f snaps)) up c.loop-k.invariant)

pub returns : goal.returns
returns g c =
    let f = due_of_kept g.B.Block.contents g.B.Block.layers in
    let none : c.loop-k.k ≡ 0 = omega (arith, c.loop-k-test.false) in
    subst (λ n. AreAlike (map f (take n c.args.snaps.now)) (map f c.args.snaps.now)) none c.loop-k.invariant
