use Rattle.merge.proofs.Steps.{in_step}
use Rattle.merge.proofs.merge.Merge.look_at_store.Goals as goal

pub returns : goal.returns
returns g c =
    let s = c.self.inside.store in
    let m = c.self.invariant in
    rw (← c.self.view_is) (record { in_step = in_step g.B.Block.contents g.B.Block.layers g.B.Block.size _ _ s.area.bytes.items m.ready m.valid s.size s.front s.given s.stored })
