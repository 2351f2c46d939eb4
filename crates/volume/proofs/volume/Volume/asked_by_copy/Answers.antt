-- The origin disk is asked for the chunk of the copy that was found.
use Rattle.std.proofs.Common.{◌≡◌, ◌*◌, ◌<◌, Some, false, refl, sym, ◌∙◌, ap, length, get_or, arith}
use Rattle.std.specs.List.{position}
use Rattle.std.proofs.lemmas.Bool.{false≢true}
use Rattle.device.specs.declared.operation.Operation.TheVariants.{Reads}
use Rattle.plain_machine.specs.declared.event.Event.TheVariants.{CopyRead}
use Rattle.in_flight.specs.Copies.{count_of}
use Rattle.in_flight.specs.declared.copies.ChunkCopy.{ChunkCopy}
use Rattle.in_flight.specs.declared.copies.Stage.TheVariants.{Waiting}
use Rattle.snapshot.specs.Kept.{Kept}
use Rattle.snapshot_list.specs.Finding.{has_copy_at, is_copy_of}
use Rattle.snapshot_list.proofs.Finds.{position_within}
use Rattle.volume.specs.Volumed.{Volumed}
use Rattle.volume.proofs.AsksReads.{copy_begins, copy_read_asks}
use Rattle.volume.proofs.CopyEvents.{copy_is}
use Rattle.volume.proofs.DueBeside.{own_due}
use Rattle.volume.proofs.DueEvents.{copy_found, due_by}
use Rattle.volume.proofs.volume.Volume.asked_by_copy.Goals as goal

pub chunk_of-old-requires : goal.chunk_of-old-requires
chunk_of-old-requires g c =
    let v : Volumed g.row.B.Denot = record { origin = c.self.inside.origin; snaps = c.self.inside.snaps.items; merge = c.self.inside.merge; flights = c.self.inside.flights.items; requests = c.self.inside.requests; copies = c.self.inside.copies; attached = c.self.inside.attached } in
    let s : Kept g.row.B.Denot = c.index-snap.result.now in
    let k = c.in-Some.place in
    let j = c.in-Some.index in
    let within : k < length v.snaps = omega (arith, c.in-Some.ensures.found.0, ap length c.deref.ensures.value) in
    let found : position (is_copy_of Waiting c.args.number) s.copies ≡ Some j = copy_found Waiting c.args.number k j v.snaps c.deref.result.now s c.deref.ensures.value c.index-snap.ensures (c.in-Some.ensures.found.1 s) in
    rw c.copies.ensures (position_within (is_copy_of Waiting c.args.number) s.copies j found)

pub chunk_read-requires-clause-old : goal.chunk_read-requires-clause-old
chunk_read-requires-clause-old g c =
    let v : Volumed g.row.B.Denot = record { origin = c.self.inside.origin; snaps = c.self.inside.snaps.items; merge = c.self.inside.merge; flights = c.self.inside.flights.items; requests = c.self.inside.requests; copies = c.self.inside.copies; attached = c.self.inside.attached } in
    let s : Kept g.row.B.Denot = c.index-snap.result.now in
    let k = c.in-Some.place in
    let j = c.in-Some.index in
    let within : k < length v.snaps = omega (arith, c.in-Some.ensures.found.0, ap length c.deref.ensures.value) in
    let found : position (is_copy_of Waiting c.args.number) s.copies ≡ Some j = copy_found Waiting c.args.number k j v.snaps c.deref.result.now s c.deref.ensures.value c.index-snap.ensures (c.in-Some.ensures.found.1 s) in
    let p = copy_is Waiting c.args.number s.copies j found in
    let old : c.chunk_of-old.result ≡ p.0.pair.old = c.chunk_of-old.ensures p.0 ∙ ap (λ xs. (get_or xs j p.0).pair.old) c.copies.ensures ∙ ap (λ (x : ChunkCopy). x.pair.old) (sym p.1) in
    let begins = copy_begins g.B.Block.may_hold g.B.Block.contents g.B.Block.layers g.B.Block.size g.B.Block.fault_count g.B.Block.done_count g.met.B.Block.whole v c.self.invariant c.args.number k s within c.index-snap.ensures j p.0 found p.1 in
    rw (c.chunk.ensures.is, old) (omega (arith, begins, g.met.B.Block.small v.origin))

pub chunk_read-requires-clause-at : goal.chunk_read-requires-clause-at
chunk_read-requires-clause-at g c =
    let v : Volumed g.row.B.Denot = record { origin = c.self.inside.origin; snaps = c.self.inside.snaps.items; merge = c.self.inside.merge; flights = c.self.inside.flights.items; requests = c.self.inside.requests; copies = c.self.inside.copies; attached = c.self.inside.attached } in
    let s : Kept g.row.B.Denot = c.index-snap.result.now in
    let k = c.in-Some.place in
    let j = c.in-Some.index in
    let within : k < length v.snaps = omega (arith, c.in-Some.ensures.found.0, ap length c.deref.ensures.value) in
    let found : position (is_copy_of Waiting c.args.number) s.copies ≡ Some j = copy_found Waiting c.args.number k j v.snaps c.deref.result.now s c.deref.ensures.value c.index-snap.ensures (c.in-Some.ensures.found.1 s) in
    let p = copy_is Waiting c.args.number s.copies j found in
    let old : c.chunk_of-old.result ≡ p.0.pair.old = c.chunk_of-old.ensures p.0 ∙ ap (λ xs. (get_or xs j p.0).pair.old) c.copies.ensures ∙ ap (λ (x : ChunkCopy). x.pair.old) (sym p.1) in
    let begins = copy_begins g.B.Block.may_hold g.B.Block.contents g.B.Block.layers g.B.Block.size g.B.Block.fault_count g.B.Block.done_count g.met.B.Block.whole v c.self.invariant c.args.number k s within c.index-snap.ensures j p.0 found p.1 in
    rw (c.chunk.ensures.is, old) (omega (arith, begins, g.met.B.Block.small v.origin))

pub returns-in-Some : goal.returns-in-Some
returns-in-Some g c =
    let v : Volumed g.row.B.Denot = record { origin = c.self.inside.origin; snaps = c.self.inside.snaps.items; merge = c.self.inside.merge; flights = c.self.inside.flights.items; requests = c.self.inside.requests; copies = c.self.inside.copies; attached = c.self.inside.attached } in
    let s : Kept g.row.B.Denot = c.index-snap.result.now in
    let k = c.in-Some.place in
    let j = c.in-Some.index in
    let within : k < length v.snaps = omega (arith, c.in-Some.ensures.found.0, ap length c.deref.ensures.value) in
    let found : position (is_copy_of Waiting c.args.number) s.copies ≡ Some j = copy_found Waiting c.args.number k j v.snaps c.deref.result.now s c.deref.ensures.value c.index-snap.ensures (c.in-Some.ensures.found.1 s) in
    let p = copy_is Waiting c.args.number s.copies j found in
    let old : c.chunk_of-old.result ≡ p.0.pair.old = c.chunk_of-old.ensures p.0 ∙ ap (λ xs. (get_or xs j p.0).pair.old) c.copies.ensures ∙ ap (λ (x : ChunkCopy). x.pair.old) (sym p.1) in
    let n = p.0.pair.old in
    let op : c.chunk_read.result ≡ Reads (s.state.chunk * n) (count_of s.state.chunk (g.B.Block.size v.origin) n) =
    c.chunk_read.ensures
    ∙ ap (λ m. Reads (m * c.chunk_of-old.result) (count_of m c.sectors-size.result c.chunk_of-old.result)) c.chunk.ensures.is
    ∙ ap (λ m. Reads (s.state.chunk * m) (count_of s.state.chunk c.sectors-size.result m)) old
    ∙ ap (λ m. Reads (s.state.chunk * n) (count_of s.state.chunk m n)) c.sectors-size.ensures in
    rw (op, ← c.self.view_is) (λ due. copy_read_asks g.B.Block.may_hold g.B.Block.contents g.B.Block.layers g.B.Block.size g.B.Block.fault_count g.B.Block.done_count g.met.B.Block.whole v c.self.invariant c.args.number k s within c.index-snap.ensures j p.0 found p.1)

pub returns-in-None : goal.returns-in-None
returns-in-None g c =
    let v : Volumed g.row.B.Denot = record { origin = c.self.inside.origin; snaps = c.self.inside.snaps.items; merge = c.self.inside.merge; flights = c.self.inside.flights.items; requests = c.self.inside.requests; copies = c.self.inside.copies; attached = c.self.inside.attached } in
    rw (← c.self.view_is) (λ due. absurd (false≢true (
    sym (own_due g.B.Block.contents g.B.Block.layers v (CopyRead c.args.number) (λ xs d. refl) ∙ due_by g.B.Block.contents g.B.Block.layers _ (has_copy_at Waiting c.args.number) v.snaps c.deref.result.now false c.deref.ensures.value (λ s. refl) c.in-None.ensures.none) ∙ due)))
