-- The store of the request's snapshot is asked for a flush.
use Rattle.std.proofs.Common.{◌≡◌, ◌<◌, Some, false, sym, ◌∙◌, ap, length, get_or, nat_eq, arith}
use Rattle.std.specs.List.{list_any, position}
use Rattle.std.proofs.lemmas.Bool.{false≢true}
use Rattle.plain_machine.specs.declared.request.Dev.TheVariants.{Snap}
use Rattle.in_flight.specs.declared.flights.Flight.{Flight}
use Rattle.in_flight.specs.declared.flights.Route.TheVariants.{Whole}
use Rattle.snapshot.specs.Kept.{Kept}
use Rattle.volume.specs.Answered.{reads_many}
use Rattle.volume.specs.Volumed.{Volumed}
use Rattle.volume.proofs.AsksEvents.{element}
use Rattle.volume.proofs.AsksIssues.{store_whole_asks}
use Rattle.volume.proofs.StoreIssues.{held_any, is_snap}
use Rattle.volume.proofs.volume.Volume.asked_to_flush.Goals as goal

pub returns-in-Some : goal.returns-in-Some
returns-in-Some g c =
    let v : Volumed g.row.B.Denot = record { origin = c.self.inside.origin; snaps = c.self.inside.snaps.items; merge = c.self.inside.merge; flights = c.self.inside.flights.items; requests = c.self.inside.requests; copies = c.self.inside.copies; attached = c.self.inside.attached } in
    let r : Flight = c.index.result.now in
    let found : position (λ (f : Flight). nat_eq f.number c.args.number) v.flights ≡ Some c.args.place = ap (λ (x : Volumed _). position (λ (f : Flight). nat_eq f.number c.args.number) x.flights) c.self.view_is ∙ c.requires.found in
    let was : r ≡ get_or v.flights c.args.place r = c.index.ensures in
    let route : r.route ≡ Whole = ap (λ (x : Flight). x.route) was ∙ ap (λ (x : Volumed _). (get_or x.flights c.args.place r).route) c.self.view_is ∙ c.requires.route r in
    let few : reads_many r.request.op r.request.range.count ≡ false = ap (λ (x : Flight). reads_many x.request.op x.request.range.count) was
    ∙ ap (λ (x : Volumed _). reads_many (get_or x.flights c.args.place r).request.op (get_or x.flights c.args.place r).request.range.count) c.self.view_is ∙ c.requires.few r in
    let k = c.in-Some.index in
    let within : k < length v.snaps = omega (arith, c.in-Some.ensures.found.0, ap length c.deref.ensures.value) in
    let it = element v.snaps k within in
    let dev : r.request.dev ≡ Snap it.0.number = c.in-Some.ensures.found.1 it.0 ∙ ap (λ (s : Kept _). Snap s.number) (ap (λ xs. get_or xs k it.0) c.deref.ensures.value ∙ sym it.1) in
    rw (← c.self.view_is) (store_whole_asks g.B.Block.may_hold g.B.Block.contents g.B.Block.layers g.B.Block.size g.B.Block.fault_count g.B.Block.done_count g.met.B.Block.whole v c.self.invariant c.args.number c.args.place r found was few k it.0 within it.1 dev route)

pub returns-in-None : goal.returns-in-None
returns-in-None g c =
    let v : Volumed g.row.B.Denot = record { origin = c.self.inside.origin; snaps = c.self.inside.snaps.items; merge = c.self.inside.merge; flights = c.self.inside.flights.items; requests = c.self.inside.requests; copies = c.self.inside.copies; attached = c.self.inside.attached } in
    let r : Flight = c.index.result.now in
    let found : position (λ (f : Flight). nat_eq f.number c.args.number) v.flights ≡ Some c.args.place = ap (λ (x : Volumed _). position (λ (f : Flight). nat_eq f.number c.args.number) x.flights) c.self.view_is ∙ c.requires.found in
    let was : r ≡ get_or v.flights c.args.place r = c.index.ensures in
    let route : r.route ≡ Whole = ap (λ (x : Flight). x.route) was ∙ ap (λ (x : Volumed _). (get_or x.flights c.args.place r).route) c.self.view_is ∙ c.requires.route r in
    let few : reads_many r.request.op r.request.range.count ≡ false = ap (λ (x : Flight). reads_many x.request.op x.request.range.count) was
    ∙ ap (λ (x : Volumed _). reads_many (get_or x.flights c.args.place r).request.op (get_or x.flights c.args.place r).request.range.count) c.self.view_is ∙ c.requires.few r in
    let dev : r.request.dev ≡ (get_or c.args.self.now.flights c.args.place r).request.dev = ap (λ (x : Flight). x.request.dev) was ∙ ap (λ (x : Volumed _). (get_or x.flights c.args.place r).request.dev) c.self.view_is in
    let snap = is_snap g.B.Block.contents g.B.Block.layers g.B.Block.size g.B.Block.fault_count g.B.Block.done_count v c.self.invariant.whole c.args.number c.args.place r found was (λ e. c.requires.dev r (sym dev ∙ e)) in
    absurd (false≢true (sym (c.in-None.ensures.none snap.0 snap.1) ∙ ap (list_any (λ (s : Kept _). nat_eq s.number snap.0)) c.deref.ensures.value ∙ held_any g.B.Block.contents g.B.Block.layers snap.0 v.snaps snap.2))
