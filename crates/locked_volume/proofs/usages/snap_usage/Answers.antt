-- The place is that of a snapshot.
use Rattle.std.proofs.Common.{sym, ◌∙◌, arith}
use Rattle.locked_volume.proofs.Shown.{shown_at, spoiled_shown}
use Rattle.locked_volume.proofs.usages.snap_usage.Goals as goal

pub returns-then-is_live-clause-is : goal.returns-then-is_live-clause-is
returns-then-is_live-clause-is g c =
    let s = c.snap-snap.result.now in
    c.live_usage.ensures.is
    ∙ shown_at c.args.volume.now.snaps c.args.k s (omega (arith, c.if-k-len.false, c.len.ensures.len)) (c.snap-snap.ensures.value s)

pub returns-else-is_live-clause-is : goal.returns-else-is_live-clause-is
returns-else-is_live-clause-is g c =
    let s = c.snap-snap.result.now in
    c.out_of_use.ensures.is ∙ spoiled_shown s (sym c.if-is_live.false ∙ c.is_live.ensures)
    ∙ shown_at c.args.volume.now.snaps c.args.k s (omega (arith, c.if-k-len.false, c.len.ensures.len)) (c.snap-snap.ensures.value s)
