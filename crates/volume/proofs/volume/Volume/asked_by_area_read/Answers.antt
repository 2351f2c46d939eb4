-- The merging store is asked for the area before the current one.
use Rattle.std.proofs.Common.{◌≡◌, ◌-◌, ◌*◌, ◌∙◌, ap}
use Rattle.device.specs.declared.operation.Operation.TheVariants.{Reads}
use Rattle.cow_format.specs.Places.{area_place}
use Rattle.merge.specs.Merging.{Merging}
use Rattle.volume.specs.Volumed.{Volumed}
use Rattle.volume.proofs.AsksReads.{area_read_asks, area_room}
use Rattle.volume.proofs.volume.Volume.asked_by_area_read.Goals as goal

pub area_read-requires-clause-inside : goal.area_read-requires-clause-inside
area_read-requires-clause-inside g c =
    let v : Volumed g.row.B.Denot = record { origin = c.self.inside.origin; snaps = c.self.inside.snaps.items; merge = c.self.inside.merge; flights = c.self.inside.flights.items; requests = c.self.inside.requests; copies = c.self.inside.copies; attached = c.self.inside.attached } in
    let m : Merging g.row.B.Denot = c.in-Some.merge in
    let area : c.saturating_sub-area.result ≡ m.state.current - 1 = c.saturating_sub-area.ensures ∙ ap (λ n. n - 1) c.current_area.ensures in
    let size : c.sectors-size.result ≡ g.B.Block.size m.device = c.sectors-size.ensures ∙ ap g.B.Block.size c.device.ensures in
    rw (c.chunk.ensures.is, area, size) (area_room g.B.Block.may_hold g.B.Block.contents g.B.Block.layers g.B.Block.size g.B.Block.fault_count g.B.Block.done_count g.met.B.Block.whole v c.self.invariant m c.in-Some.is c.look_at_store.ensures.in_step)

pub returns-in-Some : goal.returns-in-Some
returns-in-Some g c =
    let v : Volumed g.row.B.Denot = record { origin = c.self.inside.origin; snaps = c.self.inside.snaps.items; merge = c.self.inside.merge; flights = c.self.inside.flights.items; requests = c.self.inside.requests; copies = c.self.inside.copies; attached = c.self.inside.attached } in
    let m : Merging g.row.B.Denot = c.in-Some.merge in
    let area : c.saturating_sub-area.result ≡ m.state.current - 1 = c.saturating_sub-area.ensures ∙ ap (λ n. n - 1) c.current_area.ensures in
    let op : c.area_read.result ≡ Reads (m.state.chunk * area_place m.state.chunk (m.state.current - 1)) m.state.chunk =
    c.area_read.ensures
    ∙ ap (λ n. Reads (n * area_place n c.saturating_sub-area.result) n) c.chunk.ensures.is
    ∙ ap (λ n. Reads (m.state.chunk * area_place m.state.chunk n) m.state.chunk) area in
    rw (op, ← c.self.view_is) (λ due. area_read_asks g.B.Block.may_hold g.B.Block.contents g.B.Block.layers g.B.Block.size g.B.Block.fault_count g.B.Block.done_count g.met.B.Block.whole v c.self.invariant m c.in-Some.is c.look_at_store.ensures.in_step)
