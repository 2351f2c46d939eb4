-- The store of the request's snapshot is asked at the place of its chunk.
use Rattle.std.proofs.Common.{◌≡◌, ◌+◌, ◌*◌, ◌%◌, ◌<◌, Some, false, sym, ◌∙◌, ap, length, get_or, nat_eq, arith}
use Rattle.std.specs.List.{list_any, position}
use Rattle.std.proofs.lemmas.Bool.{false≢true}
use Rattle.plain_machine.specs.declared.request.Dev.TheVariants.{Snap}
use Rattle.in_flight.specs.declared.flights.Flight.{Flight}
use Rattle.in_flight.specs.declared.flights.Route.TheVariants.{Store}
use Rattle.snapshot.specs.Kept.{Kept}
use Rattle.volume.specs.Answered.{operation_of, reads_many}
use Rattle.volume.specs.Volumed.{Volumed}
use Rattle.volume.proofs.AsksIssues.{store_part, store_place_asks, store_room}
use Rattle.volume.proofs.StoreIssues.{held_any, is_snap}
use Rattle.volume.proofs.volume.Volume.asked_at_store.Goals as goal

pub range_in-range-requires-clause-piece : goal.range_in-range-requires-clause-piece
range_in-range-requires-clause-piece g c =
    let v : Volumed g.row.B.Denot = record { origin = c.self.inside.origin; snaps = c.self.inside.snaps.items; merge = c.self.inside.merge; flights = c.self.inside.flights.items; requests = c.self.inside.requests; copies = c.self.inside.copies; attached = c.self.inside.attached } in
    let r : Flight = c.index.result.now in
    let found : position (λ (f : Flight). nat_eq f.number c.args.number) v.flights ≡ Some c.args.place = ap (λ (x : Volumed _). position (λ (f : Flight). nat_eq f.number c.args.number) x.flights) c.self.view_is ∙ c.requires.found in
    let was : r ≡ get_or v.flights c.args.place r = c.index.ensures in
    let route : r.route ≡ Store c.args.at = ap (λ (x : Flight). x.route) was ∙ ap (λ (x : Volumed _). (get_or x.flights c.args.place r).route) c.self.view_is ∙ c.requires.route r in
    let few : reads_many r.request.op r.request.range.count ≡ false = ap (λ (x : Flight). reads_many x.request.op x.request.range.count) was
    ∙ ap (λ (x : Volumed _). reads_many (get_or x.flights c.args.place r).request.op (get_or x.flights c.args.place r).request.range.count) c.self.view_is ∙ c.requires.few r in
    let x : Kept g.row.B.Denot = c.index-snap.result.now in
    let k = c.in-Some.index in
    let within : k < length v.snaps = omega (arith, c.in-Some.ensures.found.0, ap length c.deref.ensures.value) in
    let dev : r.request.dev ≡ Snap x.number = c.in-Some.ensures.found.1 x ∙ ap (λ (s : Kept _). Snap s.number) (ap (λ xs. get_or xs k x) c.deref.ensures.value ∙ sym c.index-snap.ensures) in
    rw c.chunk.ensures.is (store_part g.B.Block.may_hold g.B.Block.contents g.B.Block.layers g.B.Block.size g.B.Block.fault_count g.B.Block.done_count g.met.B.Block.whole v c.self.invariant c.args.number c.args.place r found was few k x within c.index-snap.ensures dev c.args.at route)

pub range_in-range-requires-clause-inside : goal.range_in-range-requires-clause-inside
range_in-range-requires-clause-inside g c =
    let v : Volumed g.row.B.Denot = record { origin = c.self.inside.origin; snaps = c.self.inside.snaps.items; merge = c.self.inside.merge; flights = c.self.inside.flights.items; requests = c.self.inside.requests; copies = c.self.inside.copies; attached = c.self.inside.attached } in
    let r : Flight = c.index.result.now in
    let found : position (λ (f : Flight). nat_eq f.number c.args.number) v.flights ≡ Some c.args.place = ap (λ (x : Volumed _). position (λ (f : Flight). nat_eq f.number c.args.number) x.flights) c.self.view_is ∙ c.requires.found in
    let was : r ≡ get_or v.flights c.args.place r = c.index.ensures in
    let route : r.route ≡ Store c.args.at = ap (λ (x : Flight). x.route) was ∙ ap (λ (x : Volumed _). (get_or x.flights c.args.place r).route) c.self.view_is ∙ c.requires.route r in
    let few : reads_many r.request.op r.request.range.count ≡ false = ap (λ (x : Flight). reads_many x.request.op x.request.range.count) was
    ∙ ap (λ (x : Volumed _). reads_many (get_or x.flights c.args.place r).request.op (get_or x.flights c.args.place r).request.range.count) c.self.view_is ∙ c.requires.few r in
    let x : Kept g.row.B.Denot = c.index-snap.result.now in
    let k = c.in-Some.index in
    let within : k < length v.snaps = omega (arith, c.in-Some.ensures.found.0, ap length c.deref.ensures.value) in
    let dev : r.request.dev ≡ Snap x.number = c.in-Some.ensures.found.1 x ∙ ap (λ (s : Kept _). Snap s.number) (ap (λ xs. get_or xs k x) c.deref.ensures.value ∙ sym c.index-snap.ensures) in
    let size : c.sectors-size.result ≡ g.B.Block.size x.device = c.sectors-size.ensures ∙ ap g.B.Block.size c.device.ensures in
    rw (c.chunk.ensures.is, size) (store_room g.B.Block.may_hold g.B.Block.contents g.B.Block.layers g.B.Block.size g.B.Block.fault_count g.B.Block.done_count g.met.B.Block.whole v c.self.invariant c.args.number c.args.place r found was few k x within c.index-snap.ensures dev c.args.at route)

pub returns-in-Some : goal.returns-in-Some
returns-in-Some g c =
    let v : Volumed g.row.B.Denot = record { origin = c.self.inside.origin; snaps = c.self.inside.snaps.items; merge = c.self.inside.merge; flights = c.self.inside.flights.items; requests = c.self.inside.requests; copies = c.self.inside.copies; attached = c.self.inside.attached } in
    let r : Flight = c.index.result.now in
    let found : position (λ (f : Flight). nat_eq f.number c.args.number) v.flights ≡ Some c.args.place = ap (λ (x : Volumed _). position (λ (f : Flight). nat_eq f.number c.args.number) x.flights) c.self.view_is ∙ c.requires.found in
    let was : r ≡ get_or v.flights c.args.place r = c.index.ensures in
    let route : r.route ≡ Store c.args.at = ap (λ (x : Flight). x.route) was ∙ ap (λ (x : Volumed _). (get_or x.flights c.args.place r).route) c.self.view_is ∙ c.requires.route r in
    let few : reads_many r.request.op r.request.range.count ≡ false = ap (λ (x : Flight). reads_many x.request.op x.request.range.count) was
    ∙ ap (λ (x : Volumed _). reads_many (get_or x.flights c.args.place r).request.op (get_or x.flights c.args.place r).request.range.count) c.self.view_is ∙ c.requires.few r in
    let x : Kept g.row.B.Denot = c.index-snap.result.now in
    let k = c.in-Some.index in
    let within : k < length v.snaps = omega (arith, c.in-Some.ensures.found.0, ap length c.deref.ensures.value) in
    let dev : r.request.dev ≡ Snap x.number = c.in-Some.ensures.found.1 x ∙ ap (λ (s : Kept _). Snap s.number) (ap (λ xs. get_or xs k x) c.deref.ensures.value ∙ sym c.index-snap.ensures) in
    let op : c.operation_on.result ≡ operation_of r.request.op (x.state.chunk * c.args.at + r.request.range.first % x.state.chunk) r.request.range.count =
    c.operation_on.ensures
    ∙ ap (λ n. operation_of r.request.op n c.range_in-range.result.count) (c.range_in-range.ensures.first ∙ ap (λ n. n * c.args.at + r.request.range.first % n) c.chunk.ensures.is)
    ∙ ap (λ n. operation_of r.request.op (x.state.chunk * c.args.at + r.request.range.first % x.state.chunk) n) c.range_in-range.ensures.count in
    rw (op, ← c.self.view_is) (store_place_asks g.B.Block.may_hold g.B.Block.contents g.B.Block.layers g.B.Block.size g.B.Block.fault_count g.B.Block.done_count g.met.B.Block.whole v c.self.invariant c.args.number c.args.place r found was few k x within c.index-snap.ensures dev c.args.at route)

pub returns-in-None : goal.returns-in-None
returns-in-None g c =
    let v : Volumed g.row.B.Denot = record { origin = c.self.inside.origin; snaps = c.self.inside.snaps.items; merge = c.self.inside.merge; flights = c.self.inside.flights.items; requests = c.self.inside.requests; copies = c.self.inside.copies; attached = c.self.inside.attached } in
    let r : Flight = c.index.result.now in
    let found : position (λ (f : Flight). nat_eq f.number c.args.number) v.flights ≡ Some c.args.place = ap (λ (x : Volumed _). position (λ (f : Flight). nat_eq f.number c.args.number) x.flights) c.self.view_is ∙ c.requires.found in
    let was : r ≡ get_or v.flights c.args.place r = c.index.ensures in
    let route : r.route ≡ Store c.args.at = ap (λ (x : Flight). x.route) was ∙ ap (λ (x : Volumed _). (get_or x.flights c.args.place r).route) c.self.view_is ∙ c.requires.route r in
    let few : reads_many r.request.op r.request.range.count ≡ false = ap (λ (x : Flight). reads_many x.request.op x.request.range.count) was
    ∙ ap (λ (x : Volumed _). reads_many (get_or x.flights c.args.place r).request.op (get_or x.flights c.args.place r).request.range.count) c.self.view_is ∙ c.requires.few r in
    let dev : r.request.dev ≡ (get_or c.args.self.now.flights c.args.place r).request.dev = ap (λ (x : Flight). x.request.dev) was ∙ ap (λ (x : Volumed _). (get_or x.flights c.args.place r).request.dev) c.self.view_is in
    let snap = is_snap g.B.Block.contents g.B.Block.layers g.B.Block.size g.B.Block.fault_count g.B.Block.done_count v c.self.invariant.whole c.args.number c.args.place r found was (λ e. c.requires.dev r (sym dev ∙ e)) in
    absurd (false≢true (sym (c.in-None.ensures.none snap.0 snap.1) ∙ ap (list_any (λ (s : Kept _). nat_eq s.number snap.0)) c.deref.ensures.value ∙ held_any g.B.Block.contents g.B.Block.layers snap.0 v.snaps snap.2))
