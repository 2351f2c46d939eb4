use Rattle.std.proofs.Common.{◌∷◌, ◌++◌, ◌∙◌, [], ap, arith}
use Rattle.plain_machine.specs.Plain.{may_overflow}
use Rattle.audited_volume.proofs.Beginning.{mays_more}
use Rattle.audited_volume.proofs.looking.mays_in.Goals as goal

pub loop-k-preserved : goal.loop-k-preserved
loop-k-preserved g c =
    let s = c.snap.result.now in
    c.in_ok-push.ensures.items ∙ ap (λ b. c.loop-k.may.items ++ b ∷ []) (c.is_may.ensures ∙ ap may_overflow c.overflow.ensures)
    ∙ mays_more c.args.volume.now.snaps c.loop-k.k s c.loop-k.may.items (omega (arith, c.loop-k-test.true, c.len-k-end.ensures.len)) (c.snap.ensures.value s) c.loop-k.invariant
