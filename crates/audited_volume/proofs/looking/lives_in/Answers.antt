use Rattle.std.proofs.Common.{◌∷◌, ◌++◌, ◌∙◌, [], ap, arith}
use Rattle.audited_volume.proofs.Beginning.{lives_more}
use Rattle.audited_volume.proofs.looking.lives_in.Goals as goal

pub loop-k-preserved : goal.loop-k-preserved
loop-k-preserved g c =
    let s = c.snap.result.now in
    c.in_ok-push.ensures.items ∙ ap (λ b. c.loop-k.lives.items ++ b ∷ []) c.is_live.ensures
    ∙ lives_more c.args.volume.now.snaps c.loop-k.k s c.loop-k.lives.items (omega (arith, c.loop-k-test.true, c.len-k-end.ensures.len)) (c.snap.ensures.value s) c.loop-k.invariant
