-- One snapshot more keeps back what it does, or none did.
use Rattle.std.proofs.Common.{◌∙◌, ap}
use Rattle.std.proofs.lemmas.List.Edits.{map_over_more}
use Rattle.std.proofs.Math.Seq.{map-set_same}
use Rattle.snapshot_list.specs.Keeping.{kept_for, unkept}
use Rattle.snapshot_list.proofs.Unkept.{kept_unkept}
use Rattle.snapshot_list.proofs.keeping.keep_back_each.Goals as goal

pub returns-in-Err-clause-same : goal.returns-in-Err-clause-same
returns-in-Err-clause-same g c =
    map-set_same (unkept {B = g.row.B.Denot}) c.loop-snap.snaps c.loop-snap.snap-index c.keep_back_in.new.snap c.snap-item.result (ap (unkept {B = g.row.B.Denot}) c.in-Err.ensures.err)
    ∙ c.loop-snap.invariant.1

pub loop-snap-preserved : goal.loop-snap-preserved
loop-snap-preserved g c =
    rw (c.in-Ok.ensures.ok, ← c.snap-item.is) (
      map_over_more (kept_for c.args.number c.args.count c.args.chunk) c.args.snaps.now c.loop-snap.snaps c.loop-snap.snap-index c.snap-item.result c.loop-snap-test.true c.loop-snap.invariant.0 c.snap-item.is,
      map-set_same (unkept {B = g.row.B.Denot}) c.loop-snap.snaps c.loop-snap.snap-index (kept_for c.args.number c.args.count c.args.chunk c.snap-item.result) c.snap-item.result
          (kept_unkept c.args.number c.args.count c.args.chunk c.snap-item.result ∙ ap (unkept {B = g.row.B.Denot}) c.snap-item.is)
          ∙ c.loop-snap.invariant.1,
    )

pub returns-clause-same : goal.returns-clause-same
returns-clause-same g c = c.loop-snap.invariant.1
