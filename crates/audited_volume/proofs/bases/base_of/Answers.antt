use Rattle.std.proofs.Common.{◌∙◌, ap, arith, map}
use Rattle.volume.specs.Volumed.{plain_of}
use Rattle.audited_volume.specs.Books.{shown_in}
use Rattle.audited_volume.proofs.Beginning.{saved_more}
use Rattle.audited_volume.proofs.Receipts.{saved_count}
use Rattle.audited_volume.proofs.bases.base_of.Goals as goal

pub loop-k-preserved : goal.loop-k-preserved
loop-k-preserved g c = λ loud.
    let w = c.args.volume.now in
    ap (map shown_in) c.in_ok-push.ensures.items
    ∙ saved_more (plain_of g.B.Block.contents g.B.Block.layers w).saved c.loop-k.saved.items c.loop-k.k c.in_ok-saved_at.field-0 (omega (arith, c.loop-k-test.true, c.len-k-end.ensures.len, saved_count g.B.Block.contents g.B.Block.layers w)) (c.loop-k.invariant loud) (c.in_ok-saved_at.ensures loud)
