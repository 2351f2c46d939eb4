use Rattle.std.proofs.Common.{◌∙◌, ap, arith}
use Rattle.audited_volume.proofs.Beginning.{both_empty, loud_dev, shows_long}
use Rattle.audited_volume.proofs.Gained.{all_sectors}
use Rattle.audited_volume.proofs.bases.fill.Goals as goal

pub returns-then-sectors-eq0 : goal.returns-then-sectors-eq0
returns-then-sectors-eq0 g c = λ loud array shown.
    let w = c.args.volume.now in
    let same = ap g.B.Block.size c.origin.ensures in
    let long = shows_long g.B.Block.contents g.B.Block.layers w c.args.dev array shown ∙ g.met.B.Block.whole w.origin in
    both_empty c.args.out.now array (omega (arith, c.requires.room, c.if-sectors-eq0.true, c.sectors-sectors.ensures, same)) (omega (arith, long, c.if-sectors-eq0.true, c.sectors-sectors.ensures, same))

pub returns : goal.returns
returns g c = λ loud array shown.
    let w = c.args.volume.now in
    let small = g.met.B.Block.small c.origin.result.now in
    let same = ap g.B.Block.size c.origin.ensures in
    let long = shows_long g.B.Block.contents g.B.Block.layers w c.args.dev array shown ∙ g.met.B.Block.whole w.origin in
    c.in-Ok.ensures.bytes (loud_dev g.B.Block.layers c.args.dev w loud) array shown ∙ all_sectors array _ (omega (arith, long, small, same, c.sectors-sectors.ensures))
