use Rattle.std.proofs.Common.{◌<◌, arith, length}
use Rattle.audited_volume.proofs.Mays.{bit_both, bit_first, bit_second, may_step}
use Rattle.audited_volume.proofs.holding.count_may.Goals as goal
use Rattle.audited_volume.proofs.holding.count_may.Goals.{then-lives-k+then-may-k, else-lives-k, else-lives-k-via-then-lives-k+else-may-k, else-lives-k-via-else-lives-k}

pub loop-k-preserved : goal.loop-k-preserved
loop-k-preserved c =
    let bs = c.args.lives.now in
    let ms = c.args.may.now in
    let k = c.loop-k.k in
    let inv = c.loop-k.invariant in
    let low : k < length bs = omega (arith, c.loop-k-test.true) in
    elim c.if-lives-k.branch [
      | then-lives-k+then-may-k w ↦ (
        omega (arith, inv.0, may_step bs ms k 1 low c.requires (bit_both _ _ w.if-lives-k.true w.if-may-k.true), w.count-is),
        omega (arith, inv.1, w.count-is),
      )
      | else-lives-k w ↦ (
        omega (
          arith,
          inv.0,
          may_step bs ms k 0 low c.requires (elim w.else-lives-k.branch [
            | else-lives-k-via-then-lives-k+else-may-k x ↦ bit_second _ _ x.if-may-k.false
            | else-lives-k-via-else-lives-k x ↦ bit_first _ _ x.if-lives-k.false
          ]),
          w.count-is,
        ),
        omega (arith, inv.1, w.count-is),
      )
    ]
