use Rattle.std.proofs.Common.{◌≡◌, ◌∙◌, ap, arith, rules}
use Rattle.std.specs.Prelude.{◌&&◌}
use Rattle.device.specs.Layers.{is_loud}
use Rattle.audited_volume.proofs.Beginning.{loud_more}
use Rattle.audited_volume.proofs.looking.is_loud_now.Goals as goal
use Rattle.audited_volume.proofs.looking.is_loud_now.Goals.{then-loud, else-loud}

pub loop-k-preserved : goal.loop-k-preserved
loop-k-preserved g c =
    let w = c.args.volume.now in
    let s = c.snap.result.now in
    let both : c.if-loud.loud ≡ (c.loop-k.loud && c.is_loud-more.result) = elim c.if-loud.branch [
      | then-loud x ↦ search rules
      | else-loud x ↦ search rules
    ] in
    both ∙ ap (λ b. c.loop-k.loud && b) (c.is_loud-more.ensures ∙ ap (λ d. is_loud (g.B.Block.layers d)) c.device.ensures) ∙ ap (λ b. b && is_loud (g.B.Block.layers s.device)) c.loop-k.invariant
    ∙ loud_more g.B.Block.layers (is_loud (g.B.Block.layers w.origin)) w.snaps c.loop-k.k s (omega (arith, c.loop-k-test.true, c.len-k-end.ensures.len)) (c.snap.ensures.value s)
