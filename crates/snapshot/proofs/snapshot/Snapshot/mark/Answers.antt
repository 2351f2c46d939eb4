use Rattle.std.proofs.Common.{refl}
use Rattle.snapshot.proofs.Copies.{like_same}
use Rattle.snapshot.proofs.Steps.{step_like}
use Rattle.snapshot.proofs.snapshot.Snapshot.mark.Goals as goal

pub returns-clause-in_step : goal.returns-clause-in_step
returns-clause-in_step g c =
    let s = c.self.inside.store in
    step_like g.B.Block.contents g.B.Block.layers g.B.Block.size _ s.state s.area.bytes.items _ _ _ c.self.invariant.0 (like_same s.state s.state refl) s.size s.given s.stored
