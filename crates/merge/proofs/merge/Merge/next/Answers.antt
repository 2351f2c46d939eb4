use Rattle.std.proofs.Common.{arith}
use Rattle.store.specs.Held.{committed}
use Rattle.merge.proofs.Groups.{group_small}
use Rattle.merge.proofs.merge.Merge.next.Goals as goal

pub last_waiting-requires : goal.last_waiting-requires
last_waiting-requires g c =
    let s = c.self.inside.store in
    group_small s.state (committed s.exceptions) c.in-Some.group (c.self.invariant.present c.in-Some.group c.in-Some.is) s.front.some c.self.invariant.counted (omega (arith, s.size, g.met.B.Block.small s.device))
