-- The merging store is asked for the chunk of the last pair that waits.
use Rattle.std.proofs.Common.{◌≡◌, ◌*◌, Some, true, refl, sym, ◌∙◌, ap, arith}
use Rattle.sector.specs.declared.pair.Pair.{Pair}
use Rattle.device.specs.declared.operation.Operation.TheVariants.{Reads}
use Rattle.in_flight.specs.Copies.{count_of}
use Rattle.volume_laws.specs.MergeDue.{last_of}
use Rattle.merge.specs.Lists.{waiting_of}
use Rattle.merge.specs.Merging.{Merging}
use Rattle.volume.specs.Volumed.{Volumed}
use Rattle.volume.proofs.AsksReads.{merge_read_asks, read_begins, read_room, read_undue}
use Rattle.volume.proofs.MergeDues.{read_next}
use Rattle.volume.proofs.Peeked.{place_low}
use Rattle.volume.proofs.volume.Volume.asked_by_merge_read.Goals as goal

pub chunk_read-requires-clause-old : goal.chunk_read-requires-clause-old
chunk_read-requires-clause-old g c =
    let v : Volumed g.row.B.Denot = record { origin = c.self.inside.origin; snaps = c.self.inside.snaps.items; merge = c.self.inside.merge; flights = c.self.inside.flights.items; requests = c.self.inside.requests; copies = c.self.inside.copies; attached = c.self.inside.attached } in
    let m : Merging g.row.B.Denot = c.in-Some.merge in
    let q : Pair = c.in-Some-next_read.pair in
    let last : last_of (waiting_of m.group) ≡ Some q = sym (c.has_group.ensures.looks true).next ∙ read_next m.group q (sym c.in-Some-next_read.ensures) in
    let begins = read_begins g.B.Block.may_hold g.B.Block.contents g.B.Block.layers g.B.Block.size g.B.Block.fault_count g.B.Block.done_count g.met.B.Block.whole v c.self.invariant m c.in-Some.is q last in
    rw c.chunk.ensures.is (omega (arith, begins, g.met.B.Block.small v.origin))

pub chunk_read-requires-clause-at : goal.chunk_read-requires-clause-at
chunk_read-requires-clause-at g c =
    let v : Volumed g.row.B.Denot = record { origin = c.self.inside.origin; snaps = c.self.inside.snaps.items; merge = c.self.inside.merge; flights = c.self.inside.flights.items; requests = c.self.inside.requests; copies = c.self.inside.copies; attached = c.self.inside.attached } in
    let m : Merging g.row.B.Denot = c.in-Some.merge in
    let q : Pair = c.in-Some-next_read.pair in
    let last : last_of (waiting_of m.group) ≡ Some q = sym (c.has_group.ensures.looks true).next ∙ read_next m.group q (sym c.in-Some-next_read.ensures) in
    let low = place_low m.state.chunk m.state.chunk q.new (g.B.Block.size m.device) refl (read_room g.B.Block.may_hold g.B.Block.contents g.B.Block.layers g.B.Block.size g.B.Block.fault_count g.B.Block.done_count g.met.B.Block.whole v c.self.invariant m c.in-Some.is q last) in
    rw c.chunk.ensures.is (omega (arith, low, g.met.B.Block.small m.device))

pub returns-in-Some-next_read : goal.returns-in-Some-next_read
returns-in-Some-next_read g c =
    let v : Volumed g.row.B.Denot = record { origin = c.self.inside.origin; snaps = c.self.inside.snaps.items; merge = c.self.inside.merge; flights = c.self.inside.flights.items; requests = c.self.inside.requests; copies = c.self.inside.copies; attached = c.self.inside.attached } in
    let m : Merging g.row.B.Denot = c.in-Some.merge in
    let q : Pair = c.in-Some-next_read.pair in
    let last : last_of (waiting_of m.group) ≡ Some q = sym (c.has_group.ensures.looks true).next ∙ read_next m.group q (sym c.in-Some-next_read.ensures) in
    let op : c.chunk_read.result ≡ Reads (m.state.chunk * q.new) (count_of m.state.chunk m.state.origin q.old) =
    c.chunk_read.ensures
    ∙ ap (λ n. Reads (n * q.new) (count_of n c.sectors-origin.result q.old)) c.chunk.ensures.is
    ∙ ap (λ n. Reads (m.state.chunk * q.new) (count_of m.state.chunk n q.old)) c.sectors-origin.ensures in
    rw (op, ← c.self.view_is) (λ due. merge_read_asks g.B.Block.may_hold g.B.Block.contents g.B.Block.layers g.B.Block.size g.B.Block.fault_count g.B.Block.done_count g.met.B.Block.whole v c.self.invariant m c.in-Some.is q last)

pub returns-in-None : goal.returns-in-None
returns-in-None g c =
    let v : Volumed g.row.B.Denot = record { origin = c.self.inside.origin; snaps = c.self.inside.snaps.items; merge = c.self.inside.merge; flights = c.self.inside.flights.items; requests = c.self.inside.requests; copies = c.self.inside.copies; attached = c.self.inside.attached } in
    rw (← c.self.view_is) (λ due. absurd (read_undue g.B.Block.may_hold g.B.Block.contents g.B.Block.layers g.B.Block.size g.B.Block.fault_count g.B.Block.done_count g.met.B.Block.whole v c.self.invariant c.in-Some.merge c.in-Some.is (c.has_group.ensures.looks true) (sym c.in-None.ensures) due))
