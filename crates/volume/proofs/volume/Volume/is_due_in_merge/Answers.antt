-- Where a chunk is in the buffer, it begins inside the origin.
use Rattle.std.proofs.Common.{ap, ◌∙◌}
use Rattle.volume.specs.Volumed.{Volumed}
use Rattle.volume.proofs.MergeDue.{full_starts}
use Rattle.volume.proofs.volume.Volume.is_due_in_merge.Goals as goal

pub is_write_due-requires : goal.is_write_due-requires
is_write_due-requires g c =
    let v : Volumed g.row.B.Denot = record { origin = c.self.inside.origin; snaps = c.self.inside.snaps.items; merge = c.self.inside.merge; flights = c.self.inside.flights.items; requests = c.self.inside.requests; copies = c.self.inside.copies; attached = c.self.inside.attached } in
    record { begins = λ q full. full_starts g.B.Block.contents g.B.Block.layers g.B.Block.size v c.self.invariant.whole c.args.merge.now q (ap (λ (x : Volumed g.row.B.Denot). x.merge) c.self.view_is ∙ c.requires.own) full }
