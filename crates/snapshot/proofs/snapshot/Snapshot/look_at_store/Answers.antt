use Rattle.snapshot.proofs.Steps.{in_step}
use Rattle.snapshot.proofs.snapshot.Snapshot.look_at_store.Goals as goal

pub returns : goal.returns
returns g c =
    let s = c.self.inside.store in
    let keeps = c.self.invariant.0 in
    rw (← c.self.view_is) (record { in_step = in_step g.B.Block.contents g.B.Block.layers g.B.Block.size _ s.area.bytes.items keeps.ready keeps.copying keeps.dead keeps.written keeps.valid s.size s.given s.stored })
