-- An Issue asks the device of its request's route.
use Rattle.std.proofs.Common.{◌≡◌, Some, false, sym, ◌∙◌, ap, get_or, nat_eq}
use Rattle.std.specs.List.{position}
use Rattle.plain_machine.specs.declared.request.Dev.TheVariants.{Origin as ToOrigin}
use Rattle.in_flight.specs.declared.flights.Flight.{Flight}
use Rattle.in_flight.specs.declared.flights.Route.TheVariants.{Origin, Refused, Whole}
use Rattle.volume.specs.Answered.{reads_many}
use Rattle.volume.specs.Volumed.{Volumed}
use Rattle.volume.proofs.AsksIssues.{disk_asks, many_asks, merge_whole_asks, refused_asks, some_merge}
use Rattle.volume.proofs.FlushIssues.{whole_begun}
use Rattle.volume.proofs.volume.Volume.asked_by_issue.Goals as goal

pub returns-then-is_long : goal.returns-then-is_long
returns-then-is_long g c =
    let v : Volumed g.row.B.Denot = record { origin = c.self.inside.origin; snaps = c.self.inside.snaps.items; merge = c.self.inside.merge; flights = c.self.inside.flights.items; requests = c.self.inside.requests; copies = c.self.inside.copies; attached = c.self.inside.attached } in
    let r : Flight = c.index.result.now in
    let found : position (λ (f : Flight). nat_eq f.number c.args.number) v.flights ≡ Some c.in-Some.place = ap (position (λ (f : Flight). nat_eq f.number c.args.number)) (sym c.deref.ensures.value) ∙ c.in-Some.ensures.found in
    let was : r ≡ get_or v.flights c.in-Some.place r = c.index.ensures in
    rw (← c.self.view_is) (λ due. many_asks g.B.Block.may_hold g.B.Block.contents g.B.Block.layers g.B.Block.size g.B.Block.fault_count g.B.Block.done_count g.met.B.Block.whole v c.self.invariant c.args.number c.in-Some.place r found was (sym c.if-is_long.ensures) due)

pub returns-in-Refused : goal.returns-in-Refused
returns-in-Refused g c =
    let v : Volumed g.row.B.Denot = record { origin = c.self.inside.origin; snaps = c.self.inside.snaps.items; merge = c.self.inside.merge; flights = c.self.inside.flights.items; requests = c.self.inside.requests; copies = c.self.inside.copies; attached = c.self.inside.attached } in
    let r : Flight = c.index.result.now in
    let found : position (λ (f : Flight). nat_eq f.number c.args.number) v.flights ≡ Some c.in-Some.place = ap (position (λ (f : Flight). nat_eq f.number c.args.number)) (sym c.deref.ensures.value) ∙ c.in-Some.ensures.found in
    let was : r ≡ get_or v.flights c.in-Some.place r = c.index.ensures in
    let route : r.route ≡ Refused = ap (λ (x : Flight). x.route) was ∙ ap (λ xs. (get_or xs c.in-Some.place r).route) (sym c.deref.ensures.value) ∙ c.in-Some.ensures.route r ∙ c.in-Refused.is in
    let few : reads_many r.request.op r.request.range.count ≡ false = sym c.if-is_long.ensures in
    rw (← c.self.view_is) (λ due. refused_asks g.B.Block.may_hold g.B.Block.contents g.B.Block.layers g.B.Block.size g.B.Block.fault_count g.B.Block.done_count g.met.B.Block.whole v c.self.invariant c.args.number c.in-Some.place r found was few route)

pub returns-in-Origin : goal.returns-in-Origin
returns-in-Origin g c =
    let v : Volumed g.row.B.Denot = record { origin = c.self.inside.origin; snaps = c.self.inside.snaps.items; merge = c.self.inside.merge; flights = c.self.inside.flights.items; requests = c.self.inside.requests; copies = c.self.inside.copies; attached = c.self.inside.attached } in
    let r : Flight = c.index.result.now in
    let found : position (λ (f : Flight). nat_eq f.number c.args.number) v.flights ≡ Some c.in-Some.place = ap (position (λ (f : Flight). nat_eq f.number c.args.number)) (sym c.deref.ensures.value) ∙ c.in-Some.ensures.found in
    let was : r ≡ get_or v.flights c.in-Some.place r = c.index.ensures in
    let route : r.route ≡ Origin = ap (λ (x : Flight). x.route) was ∙ ap (λ xs. (get_or xs c.in-Some.place r).route) (sym c.deref.ensures.value) ∙ c.in-Some.ensures.route r ∙ c.in-Origin.is in
    let few : reads_many r.request.op r.request.range.count ≡ false = sym c.if-is_long.ensures in
    rw (c.operation_on.ensures, ← c.self.view_is) (λ due. disk_asks g.B.Block.may_hold g.B.Block.contents g.B.Block.layers g.B.Block.size g.B.Block.fault_count g.B.Block.done_count g.met.B.Block.whole v c.self.invariant c.args.number c.in-Some.place r found was few route)

pub returns-in-Origin-dev-2 : goal.returns-in-Origin-dev-2
returns-in-Origin-dev-2 g c =
    let v : Volumed g.row.B.Denot = record { origin = c.self.inside.origin; snaps = c.self.inside.snaps.items; merge = c.self.inside.merge; flights = c.self.inside.flights.items; requests = c.self.inside.requests; copies = c.self.inside.copies; attached = c.self.inside.attached } in
    let r : Flight = c.index.result.now in
    let found : position (λ (f : Flight). nat_eq f.number c.args.number) v.flights ≡ Some c.in-Some.place = ap (position (λ (f : Flight). nat_eq f.number c.args.number)) (sym c.deref.ensures.value) ∙ c.in-Some.ensures.found in
    let was : r ≡ get_or v.flights c.in-Some.place r = c.index.ensures in
    let route : r.route ≡ Whole = ap (λ (x : Flight). x.route) was ∙ ap (λ xs. (get_or xs c.in-Some.place r).route) (sym c.deref.ensures.value) ∙ c.in-Some.ensures.route r ∙ c.in-Whole.is in
    let few : reads_many r.request.op r.request.range.count ≡ false = sym c.if-is_long.ensures in
    let dev : r.request.dev ≡ ToOrigin = ap (λ (x : Flight). x.request.dev) was ∙ ap (λ xs. (get_or xs c.in-Some.place r).request.dev) (sym c.deref.ensures.value) ∙ c.in-Some.ensures.dev r ∙ c.in-Origin-dev-2.is in
    let m = some_merge v.merge (whole_begun g.B.Block.contents g.B.Block.layers g.B.Block.size g.B.Block.fault_count g.B.Block.done_count v c.self.invariant.whole c.args.number c.in-Some.place r found was route dev) in
    rw (← c.self.view_is) (λ due. merge_whole_asks g.B.Block.may_hold g.B.Block.contents g.B.Block.layers g.B.Block.size g.B.Block.fault_count g.B.Block.done_count g.met.B.Block.whole v c.self.invariant c.args.number c.in-Some.place r found was few dev m.0 m.1 route)
