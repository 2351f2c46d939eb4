-- Each event asks what its kind asks.
use Rattle.volume.specs.Volumed.{Volumed}
use Rattle.volume.proofs.AsksEvents.{commit_asks, merge_flush_asks, merge_write_asks}
use Rattle.volume.proofs.volume.Volume.asked_by.Goals as goal

pub returns-in-MergeCommit : goal.returns-in-MergeCommit
returns-in-MergeCommit g c =
    let v : Volumed g.row.B.Denot = record { origin = c.self.inside.origin; snaps = c.self.inside.snaps.items; merge = c.self.inside.merge; flights = c.self.inside.flights.items; requests = c.self.inside.requests; copies = c.self.inside.copies; attached = c.self.inside.attached } in
    rw (c.in-MergeCommit.is, c.some_write.ensures, ← c.self.view_is) (λ due. commit_asks g.B.Block.may_hold g.B.Block.contents g.B.Block.layers g.B.Block.size g.B.Block.fault_count g.B.Block.done_count g.met.B.Block.whole v c.self.invariant due)

pub returns-in-MergeWrite : goal.returns-in-MergeWrite
returns-in-MergeWrite g c =
    let v : Volumed g.row.B.Denot = record { origin = c.self.inside.origin; snaps = c.self.inside.snaps.items; merge = c.self.inside.merge; flights = c.self.inside.flights.items; requests = c.self.inside.requests; copies = c.self.inside.copies; attached = c.self.inside.attached } in
    rw (c.in-MergeWrite.is, c.some_write-in-MergeWrite.ensures, ← c.self.view_is) (λ due. merge_write_asks g.B.Block.may_hold g.B.Block.contents g.B.Block.layers g.B.Block.size g.B.Block.fault_count g.B.Block.done_count g.met.B.Block.whole v c.self.invariant due)

pub returns-in-MergeFlush : goal.returns-in-MergeFlush
returns-in-MergeFlush g c =
    let v : Volumed g.row.B.Denot = record { origin = c.self.inside.origin; snaps = c.self.inside.snaps.items; merge = c.self.inside.merge; flights = c.self.inside.flights.items; requests = c.self.inside.requests; copies = c.self.inside.copies; attached = c.self.inside.attached } in
    rw (c.in-MergeFlush.is, ← c.self.view_is) (λ due. merge_flush_asks g.B.Block.may_hold g.B.Block.contents g.B.Block.layers g.B.Block.size g.B.Block.fault_count g.B.Block.done_count g.met.B.Block.whole v c.self.invariant due)
