-- The merging store is asked at the place of the request's chunk.
use Rattle.std.proofs.Common.{◌≡◌, ◌+◌, ◌*◌, ◌%◌, Some, false, ◌∙◌, ap, get_or, nat_eq}
use Rattle.std.specs.List.{position}
use Rattle.plain_machine.specs.declared.request.Dev.TheVariants.{Origin as ToOrigin}
use Rattle.in_flight.specs.declared.flights.Flight.{Flight}
use Rattle.in_flight.specs.declared.flights.Route.TheVariants.{Store}
use Rattle.merge.specs.Merging.{Merging}
use Rattle.volume.specs.Answered.{operation_of, reads_many}
use Rattle.volume.specs.Volumed.{Volumed}
use Rattle.volume.proofs.AsksIssues.{merge_place_asks, merge_room}
use Rattle.volume.proofs.volume.Volume.asked_at_merge.Goals as goal

pub range_in-range-requires-clause-inside : goal.range_in-range-requires-clause-inside
range_in-range-requires-clause-inside g c =
    let v : Volumed g.row.B.Denot = record { origin = c.self.inside.origin; snaps = c.self.inside.snaps.items; merge = c.self.inside.merge; flights = c.self.inside.flights.items; requests = c.self.inside.requests; copies = c.self.inside.copies; attached = c.self.inside.attached } in
    let r : Flight = c.index.result.now in
    let found : position (λ (f : Flight). nat_eq f.number c.args.number) v.flights ≡ Some c.args.place = ap (λ (x : Volumed _). position (λ (f : Flight). nat_eq f.number c.args.number) x.flights) c.self.view_is ∙ c.requires.found in
    let was : r ≡ get_or v.flights c.args.place r = c.index.ensures in
    let route : r.route ≡ Store c.args.at = ap (λ (x : Flight). x.route) was ∙ ap (λ (x : Volumed _). (get_or x.flights c.args.place r).route) c.self.view_is ∙ c.requires.route r in
    let few : reads_many r.request.op r.request.range.count ≡ false = ap (λ (x : Flight). reads_many x.request.op x.request.range.count) was
    ∙ ap (λ (x : Volumed _). reads_many (get_or x.flights c.args.place r).request.op (get_or x.flights c.args.place r).request.range.count) c.self.view_is ∙ c.requires.few r in
    let dev : r.request.dev ≡ ToOrigin = ap (λ (x : Flight). x.request.dev) was ∙ ap (λ (x : Volumed _). (get_or x.flights c.args.place r).request.dev) c.self.view_is ∙ c.requires.dev r in
    let x : Merging g.row.B.Denot = c.in-Some.merge in
    let size : c.sectors-size.result ≡ g.B.Block.size x.device = c.sectors-size.ensures ∙ ap g.B.Block.size c.device.ensures in
    rw (c.chunk.ensures.is, size) (merge_room g.B.Block.may_hold g.B.Block.contents g.B.Block.layers g.B.Block.size g.B.Block.fault_count g.B.Block.done_count g.met.B.Block.whole v c.self.invariant c.args.number c.args.place r found was few dev x c.in-Some.is c.args.at route)

pub returns-in-Some : goal.returns-in-Some
returns-in-Some g c =
    let v : Volumed g.row.B.Denot = record { origin = c.self.inside.origin; snaps = c.self.inside.snaps.items; merge = c.self.inside.merge; flights = c.self.inside.flights.items; requests = c.self.inside.requests; copies = c.self.inside.copies; attached = c.self.inside.attached } in
    let r : Flight = c.index.result.now in
    let found : position (λ (f : Flight). nat_eq f.number c.args.number) v.flights ≡ Some c.args.place = ap (λ (x : Volumed _). position (λ (f : Flight). nat_eq f.number c.args.number) x.flights) c.self.view_is ∙ c.requires.found in
    let was : r ≡ get_or v.flights c.args.place r = c.index.ensures in
    let route : r.route ≡ Store c.args.at = ap (λ (x : Flight). x.route) was ∙ ap (λ (x : Volumed _). (get_or x.flights c.args.place r).route) c.self.view_is ∙ c.requires.route r in
    let few : reads_many r.request.op r.request.range.count ≡ false = ap (λ (x : Flight). reads_many x.request.op x.request.range.count) was
    ∙ ap (λ (x : Volumed _). reads_many (get_or x.flights c.args.place r).request.op (get_or x.flights c.args.place r).request.range.count) c.self.view_is ∙ c.requires.few r in
    let dev : r.request.dev ≡ ToOrigin = ap (λ (x : Flight). x.request.dev) was ∙ ap (λ (x : Volumed _). (get_or x.flights c.args.place r).request.dev) c.self.view_is ∙ c.requires.dev r in
    let x : Merging g.row.B.Denot = c.in-Some.merge in
    let op : c.operation_on.result ≡ operation_of r.request.op (x.state.chunk * c.args.at + r.request.range.first % x.state.chunk) r.request.range.count =
    c.operation_on.ensures
    ∙ ap (λ n. operation_of r.request.op n c.range_in-range.result.count) (c.range_in-range.ensures.first ∙ ap (λ n. n * c.args.at + r.request.range.first % n) c.chunk.ensures.is)
    ∙ ap (λ n. operation_of r.request.op (x.state.chunk * c.args.at + r.request.range.first % x.state.chunk) n) c.range_in-range.ensures.count in
    rw (op, ← c.self.view_is) (merge_place_asks g.B.Block.may_hold g.B.Block.contents g.B.Block.layers g.B.Block.size g.B.Block.fault_count g.B.Block.done_count g.met.B.Block.whole v c.self.invariant c.args.number c.args.place r found was few dev x c.in-Some.is c.args.at route)
