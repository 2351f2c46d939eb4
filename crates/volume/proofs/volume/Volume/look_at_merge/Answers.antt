-- The pairs of the store's bytes are those in memory.
use Rattle.volume.specs.Volumed.{Volumed}
use Rattle.volume.proofs.StoredPairs.{finished}
use Rattle.volume.proofs.volume.Volume.look_at_merge.Goals as goal

pub returns : goal.returns
returns g c =
    let v : Volumed g.row.B.Denot = record { origin = c.self.inside.origin; snaps = c.self.inside.snaps.items; merge = c.self.inside.merge; flights = c.self.inside.flights.items; requests = c.self.inside.requests; copies = c.self.inside.copies; attached = c.self.inside.attached } in
    rw (← c.self.view_is) (record { finished = finished g.B.Block.contents g.B.Block.layers g.B.Block.size v c.self.invariant.whole })
