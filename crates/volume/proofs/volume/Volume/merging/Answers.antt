-- The snapshot that is being merged is none of the list.
use Rattle.std.proofs.Common.{◌∙◌, ap}
use Rattle.volume.specs.Volumed.{Volumed}
use Rattle.snapshot_list.specs.Finding.{place_of_snap}
use Rattle.volume.proofs.Others.{merging_apart}
use Rattle.volume.proofs.volume.Volume.merging.Goals as goal

pub returns-in-Some-clause-apart : goal.returns-in-Some-clause-apart
returns-in-Some-clause-apart g c =
    let v : Volumed g.row.B.Denot = record { origin = c.self.inside.origin; snaps = c.self.inside.snaps.items; merge = c.self.inside.merge; flights = c.self.inside.flights.items; requests = c.self.inside.requests; copies = c.self.inside.copies; attached = c.self.inside.attached } in
    rw (← c.self.view_is) (ap (λ n. place_of_snap n v.snaps) c.number.ensures ∙ merging_apart g.B.Block.contents g.B.Block.layers g.B.Block.size v c.self.invariant.whole c.in-Some.merge c.in-Some.is)
