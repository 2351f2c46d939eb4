-- One snapshot more keeps nothing back.
use Rattle.std.proofs.lemmas.List.Edits.{map_over_more}
use Rattle.snapshot_list.specs.Keeping.{unkept}
use Rattle.snapshot_list.proofs.keeping.let_go_all.Goals as goal

pub loop-snap-preserved : goal.loop-snap-preserved
loop-snap-preserved g c =
    rw (c.let_go.ensures.fields, ← c.snap-item.is)
    (map_over_more (unkept {B = g.row.B.Denot}) c.args.snaps.now c.loop-snap.snaps c.loop-snap.snap-index c.snap-item.result c.loop-snap-test.true c.loop-snap.invariant c.snap-item.is)
