-- A flush of the origin is issued at the merging store.
use Rattle.std.proofs.Common.{◌≡◌, ◌∙◌, sym, ap, Some, get_or, nat_eq, arith, refl, subst, ◌<◌}
use Rattle.std.specs.List.{position}
use Rattle.plain_machine.specs.declared.request.Dev.TheVariants.{Origin as AtOrigin}
use Rattle.in_flight.specs.declared.flights.Flight.{Flight}
use Rattle.in_flight.specs.declared.flights.Route.TheVariants.{Whole}
use Rattle.volume.specs.Volumed.{Volumed}
use Rattle.snapshot_list.proofs.Finds.{position_within}
use Rattle.volume.proofs.FlushIssues.{merging_flush, merging_flush_io, whole_begun}
use Rattle.volume.proofs.Refusals.{element}
use Rattle.volume.proofs.ExactIssues.{merging_flush_exact, merging_flush_io_exact}
use Rattle.volume.proofs.Lefts.{all_same}
use Rattle.volume.specs.Stopping.{given_by}
use Rattle.in_flight.specs.Kinds.{in_flight}
use Rattle.std.specs.Prelude.{map}
use Rattle.plain_machine.specs.declared.event.Event.TheVariants.{Issue}
use Rattle.volume.proofs.MergeBoth.{met_both}
use Rattle.volume.proofs.MergeLasts.{kept_merge}
use Rattle.merge.specs.Merging.{Merging}
use Rattle.volume.proofs.volume.Volume.flush_merging.Goals as goal

pub unreachable-requires : goal.unreachable-requires
unreachable-requires g c =
    let v = c.self.inside in
    let found : position (λ (f : Flight). nat_eq f.number c.args.number) v.flights.items ≡ Some c.args.place = ap (λ (x : Volumed _). position (λ (f : Flight). nat_eq f.number c.args.number) x.flights) c.self.view_is ∙ c.requires.found in
    let inside = position_within (λ (f : Flight). nat_eq f.number c.args.number) v.flights.items c.args.place found in
    let (r, was) = element v.flights.items c.args.place inside in
    let route : r.route ≡ Whole = ap (λ (x : Flight). x.route) was ∙ ap (λ (x : Volumed _). (get_or x.flights c.args.place r).route) c.self.view_is ∙ c.requires.route r in
    let dev : r.request.dev ≡ AtOrigin = ap (λ (x : Flight). x.request.dev) was ∙ ap (λ (x : Volumed _). (get_or x.flights c.args.place r).request.dev) c.self.view_is ∙ c.requires.dev r in
    whole_begun g.B.Block.contents g.B.Block.layers g.B.Block.size g.B.Block.fault_count g.B.Block.done_count _ c.self.invariant.whole c.args.number c.args.place r found was route dev c.in-None.is

pub index_mut-requires : goal.index_mut-requires
index_mut-requires g c =
    let found : position (λ (f : Flight). nat_eq f.number c.args.number) c.self.inside.flights.items ≡ Some c.args.place = ap (λ (x : Volumed _). position (λ (f : Flight). nat_eq f.number c.args.number) x.flights) c.self.view_is ∙ c.requires.found in
    let inside = position_within (λ (f : Flight). nat_eq f.number c.args.number) c.self.inside.flights.items c.args.place found in
    omega (arith, inside)

pub invariant_of-self : goal.invariant_of-self
invariant_of-self g c = record {
  whole =
      let v = c.self.inside in
      let r = c.index_mut.result.now in
      let found : position (λ (f : Flight). nat_eq f.number c.args.number) v.flights.items ≡ Some c.args.place = ap (λ (x : Volumed _). position (λ (f : Flight). nat_eq f.number c.args.number) x.flights) c.self.view_is ∙ c.requires.found in
      let inside = position_within (λ (f : Flight). nat_eq f.number c.args.number) v.flights.items c.args.place found in
      let was : r ≡ get_or v.flights.items c.args.place r = c.index_mut.ensures.value in
      let route : r.route ≡ Whole = ap (λ (x : Flight). x.route) was ∙ ap (λ (x : Volumed _). (get_or x.flights c.args.place r).route) c.self.view_is ∙ c.requires.route r in
      let dev : r.request.dev ≡ AtOrigin = ap (λ (x : Flight). x.request.dev) was ∙ ap (λ (x : Volumed _). (get_or x.flights c.args.place r).request.dev) c.self.view_is ∙ c.requires.dev r in
      let m = c.in-Some.merge in
      let good = merging_flush g.B.Block.contents g.B.Block.layers g.B.Block.size g.B.Block.fault_count g.B.Block.done_count _ c.self.invariant.whole c.args.number c.args.place r found was route dev m c.in-Some.is c.flush_store.new.self c.flush_store.new.self.device c.flush_store.ensures.fields c.flush_store.ensures.same c.flush_store.ensures.loud c.flush_store.ensures.size c.in-Ok.ensures.operation.counted c.in-Ok.ensures.operation.faulty in
      good.whole;
  lasting =
      let v : Volumed g.row.B.Denot = record { origin = c.self.inside.origin; snaps = c.self.inside.snaps.items; merge = c.self.inside.merge; flights = c.self.inside.flights.items; requests = c.self.inside.requests; copies = c.self.inside.copies; attached = c.self.inside.attached } in
      let given = given_by (Issue c.args.number) (map in_flight v.flights) in
      let w : Volumed g.row.B.Denot = record v { merge = Some c.flush_store.new.self } in
      let goes = met_both g.B.Block.may_hold g.B.Block.contents g.B.Block.layers g.B.Block.size g.met.B.Block.whole g.met.B.Block.holds_now v c.self.invariant.whole c.self.invariant.lasting w c.flush_store.new.self refl c.in-Some.merge c.in-Some.is (all_same v.snaps v.snaps refl) given refl (record { adds = c.flush_store.ensures.adds; bytes = c.flush_store.ensures.same; sectors = c.flush_store.ensures.size; loud = c.flush_store.ensures.loud }) c.flush_store.ensures.fields in
      (record { snaps = goes.lasts; merge = goes.merge });
}

pub returns-in-Ok-clause-step : goal.returns-in-Ok-clause-step
returns-in-Ok-clause-step g c =
    let v = c.self.inside in
    let r = c.index_mut.result.now in
    let found : position (λ (f : Flight). nat_eq f.number c.args.number) v.flights.items ≡ Some c.args.place = ap (λ (x : Volumed _). position (λ (f : Flight). nat_eq f.number c.args.number) x.flights) c.self.view_is ∙ c.requires.found in
    let inside = position_within (λ (f : Flight). nat_eq f.number c.args.number) v.flights.items c.args.place found in
    let was : r ≡ get_or v.flights.items c.args.place r = c.index_mut.ensures.value in
    let route : r.route ≡ Whole = ap (λ (x : Flight). x.route) was ∙ ap (λ (x : Volumed _). (get_or x.flights c.args.place r).route) c.self.view_is ∙ c.requires.route r in
    let dev : r.request.dev ≡ AtOrigin = ap (λ (x : Flight). x.request.dev) was ∙ ap (λ (x : Volumed _). (get_or x.flights c.args.place r).request.dev) c.self.view_is ∙ c.requires.dev r in
    let m = c.in-Some.merge in
    let good = merging_flush g.B.Block.contents g.B.Block.layers g.B.Block.size g.B.Block.fault_count g.B.Block.done_count _ c.self.invariant.whole c.args.number c.args.place r found was route dev m c.in-Some.is c.flush_store.new.self c.flush_store.new.self.device c.flush_store.ensures.fields c.flush_store.ensures.same c.flush_store.ensures.loud c.flush_store.ensures.size c.in-Ok.ensures.operation.counted c.in-Ok.ensures.operation.faulty in
    rw (← c.self.view_is) good.stepped

pub returns-in-Ok-clause-exact : goal.returns-in-Ok-clause-exact
returns-in-Ok-clause-exact g c =
    let v = c.self.inside in
    let r = c.index_mut.result.now in
    let found : position (λ (f : Flight). nat_eq f.number c.args.number) v.flights.items ≡ Some c.args.place = ap (λ (x : Volumed _). position (λ (f : Flight). nat_eq f.number c.args.number) x.flights) c.self.view_is ∙ c.requires.found in
    let inside = position_within (λ (f : Flight). nat_eq f.number c.args.number) v.flights.items c.args.place found in
    let was : r ≡ get_or v.flights.items c.args.place r = c.index_mut.ensures.value in
    let route : r.route ≡ Whole = ap (λ (x : Flight). x.route) was ∙ ap (λ (x : Volumed _). (get_or x.flights c.args.place r).route) c.self.view_is ∙ c.requires.route r in
    let dev : r.request.dev ≡ AtOrigin = ap (λ (x : Flight). x.request.dev) was ∙ ap (λ (x : Volumed _). (get_or x.flights c.args.place r).request.dev) c.self.view_is ∙ c.requires.dev r in
    let m = c.in-Some.merge in
    rw (← c.self.view_is) (merging_flush_exact g.B.Block.contents g.B.Block.layers g.B.Block.size _ c.self.invariant.whole c.args.number c.args.place r found was _ _ _ _ route dev m c.in-Some.is c.flush_store.new.self c.flush_store.ensures.fields c.flush_store.ensures.same c.in-Ok.ensures.operation)

pub remove-requires : goal.remove-requires
remove-requires g c =
    let found : position (λ (f : Flight). nat_eq f.number c.args.number) c.self.inside.flights.items ≡ Some c.args.place = ap (λ (x : Volumed _). position (λ (f : Flight). nat_eq f.number c.args.number) x.flights) c.self.view_is ∙ c.requires.found in
    let within = position_within (λ (f : Flight). nat_eq f.number c.args.number) c.self.inside.flights.items c.args.place found in
    omega (arith, within)

pub invariant_of-self-in-Err : goal.invariant_of-self-in-Err
invariant_of-self-in-Err g c = record {
  whole =
      let v = c.self.inside in
      let r = c.remove.result in
      let found : position (λ (f : Flight). nat_eq f.number c.args.number) v.flights.items ≡ Some c.args.place = ap (λ (x : Volumed _). position (λ (f : Flight). nat_eq f.number c.args.number) x.flights) c.self.view_is ∙ c.requires.found in
      let inside = position_within (λ (f : Flight). nat_eq f.number c.args.number) v.flights.items c.args.place found in
      let was : r ≡ get_or v.flights.items c.args.place r = c.remove.ensures.value in
      let route : r.route ≡ Whole = ap (λ (x : Flight). x.route) was ∙ ap (λ (x : Volumed _). (get_or x.flights c.args.place r).route) c.self.view_is ∙ c.requires.route r in
      let dev : r.request.dev ≡ AtOrigin = ap (λ (x : Flight). x.request.dev) was ∙ ap (λ (x : Volumed _). (get_or x.flights c.args.place r).request.dev) c.self.view_is ∙ c.requires.dev r in
      let m = c.in-Some.merge in
      let good = merging_flush_io g.B.Block.contents g.B.Block.layers g.B.Block.size g.B.Block.fault_count g.B.Block.done_count _ c.self.invariant.whole c.args.number c.args.place r found was route dev m c.in-Some.is c.flush_store.new.self c.flush_store.new.self.device c.flush_store.ensures.fields c.flush_store.ensures.same c.flush_store.ensures.loud c.flush_store.ensures.size c.in-Err.ensures.operation.counted c.in-Err.ensures.operation.faulty in
      rw c.remove.ensures.items good.whole;
  lasting =
      let v : Volumed g.row.B.Denot = record { origin = c.self.inside.origin; snaps = c.self.inside.snaps.items; merge = c.self.inside.merge; flights = c.self.inside.flights.items; requests = c.self.inside.requests; copies = c.self.inside.copies; attached = c.self.inside.attached } in
      let given = given_by (Issue c.args.number) (map in_flight v.flights) in
      let w : Volumed g.row.B.Denot = record v { merge = Some c.flush_store.new.self } in
      let goes = met_both g.B.Block.may_hold g.B.Block.contents g.B.Block.layers g.B.Block.size g.met.B.Block.whole g.met.B.Block.holds_now v c.self.invariant.whole c.self.invariant.lasting w c.flush_store.new.self refl c.in-Some.merge c.in-Some.is (all_same v.snaps v.snaps refl) given refl (record { adds = c.flush_store.ensures.adds; bytes = c.flush_store.ensures.same; sectors = c.flush_store.ensures.size; loud = c.flush_store.ensures.loud }) c.flush_store.ensures.fields in
      (record { snaps = goes.lasts; merge = goes.merge });
}

pub returns-in-Err-clause-step : goal.returns-in-Err-clause-step
returns-in-Err-clause-step g c =
    let v = c.self.inside in
    let r = c.remove.result in
    let found : position (λ (f : Flight). nat_eq f.number c.args.number) v.flights.items ≡ Some c.args.place = ap (λ (x : Volumed _). position (λ (f : Flight). nat_eq f.number c.args.number) x.flights) c.self.view_is ∙ c.requires.found in
    let inside = position_within (λ (f : Flight). nat_eq f.number c.args.number) v.flights.items c.args.place found in
    let was : r ≡ get_or v.flights.items c.args.place r = c.remove.ensures.value in
    let route : r.route ≡ Whole = ap (λ (x : Flight). x.route) was ∙ ap (λ (x : Volumed _). (get_or x.flights c.args.place r).route) c.self.view_is ∙ c.requires.route r in
    let dev : r.request.dev ≡ AtOrigin = ap (λ (x : Flight). x.request.dev) was ∙ ap (λ (x : Volumed _). (get_or x.flights c.args.place r).request.dev) c.self.view_is ∙ c.requires.dev r in
    let m = c.in-Some.merge in
    let good = merging_flush_io g.B.Block.contents g.B.Block.layers g.B.Block.size g.B.Block.fault_count g.B.Block.done_count _ c.self.invariant.whole c.args.number c.args.place r found was route dev m c.in-Some.is c.flush_store.new.self c.flush_store.new.self.device c.flush_store.ensures.fields c.flush_store.ensures.same c.flush_store.ensures.loud c.flush_store.ensures.size c.in-Err.ensures.operation.counted c.in-Err.ensures.operation.faulty in
    rw (← c.self.view_is, c.remove.ensures.items) good.stepped

pub returns-in-Err-clause-exact : goal.returns-in-Err-clause-exact
returns-in-Err-clause-exact g c =
    let v = c.self.inside in
    let r = c.remove.result in
    let found : position (λ (f : Flight). nat_eq f.number c.args.number) v.flights.items ≡ Some c.args.place = ap (λ (x : Volumed _). position (λ (f : Flight). nat_eq f.number c.args.number) x.flights) c.self.view_is ∙ c.requires.found in
    let inside = position_within (λ (f : Flight). nat_eq f.number c.args.number) v.flights.items c.args.place found in
    let was : r ≡ get_or v.flights.items c.args.place r = c.remove.ensures.value in
    let route : r.route ≡ Whole = ap (λ (x : Flight). x.route) was ∙ ap (λ (x : Volumed _). (get_or x.flights c.args.place r).route) c.self.view_is ∙ c.requires.route r in
    let dev : r.request.dev ≡ AtOrigin = ap (λ (x : Flight). x.request.dev) was ∙ ap (λ (x : Volumed _). (get_or x.flights c.args.place r).request.dev) c.self.view_is ∙ c.requires.dev r in
    let m = c.in-Some.merge in
    rw (← c.self.view_is, c.remove.ensures.items) (merging_flush_io_exact g.B.Block.contents g.B.Block.layers g.B.Block.size _ c.self.invariant.whole c.args.number c.args.place r found was _ _ _ _ route dev m c.in-Some.is c.flush_store.new.self c.flush_store.ensures.fields c.flush_store.ensures.same c.in-Err.ensures.operation)

pub returns-in-Ok-clause-stops_snaps : goal.returns-in-Ok-clause-stops_snaps
returns-in-Ok-clause-stops_snaps g c =
    let v : Volumed g.row.B.Denot = record { origin = c.self.inside.origin; snaps = c.self.inside.snaps.items; merge = c.self.inside.merge; flights = c.self.inside.flights.items; requests = c.self.inside.requests; copies = c.self.inside.copies; attached = c.self.inside.attached } in
    let given = given_by (Issue c.args.number) (map in_flight v.flights) in
    let w : Volumed g.row.B.Denot = record v { merge = Some c.flush_store.new.self } in
    let goes = met_both g.B.Block.may_hold g.B.Block.contents g.B.Block.layers g.B.Block.size g.met.B.Block.whole g.met.B.Block.holds_now v c.self.invariant.whole c.self.invariant.lasting w c.flush_store.new.self refl c.in-Some.merge c.in-Some.is (all_same v.snaps v.snaps refl) given refl (record { adds = c.flush_store.ensures.adds; bytes = c.flush_store.ensures.same; sectors = c.flush_store.ensures.size; loud = c.flush_store.ensures.loud }) c.flush_store.ensures.fields in
    rw (← c.self.view_is) goes.stops_snaps

pub returns-in-Ok-clause-stops_origin : goal.returns-in-Ok-clause-stops_origin
returns-in-Ok-clause-stops_origin g c =
    let v : Volumed g.row.B.Denot = record { origin = c.self.inside.origin; snaps = c.self.inside.snaps.items; merge = c.self.inside.merge; flights = c.self.inside.flights.items; requests = c.self.inside.requests; copies = c.self.inside.copies; attached = c.self.inside.attached } in
    let given = given_by (Issue c.args.number) (map in_flight v.flights) in
    let w : Volumed g.row.B.Denot = record v { merge = Some c.flush_store.new.self } in
    let goes = met_both g.B.Block.may_hold g.B.Block.contents g.B.Block.layers g.B.Block.size g.met.B.Block.whole g.met.B.Block.holds_now v c.self.invariant.whole c.self.invariant.lasting w c.flush_store.new.self refl c.in-Some.merge c.in-Some.is (all_same v.snaps v.snaps refl) given refl (record { adds = c.flush_store.ensures.adds; bytes = c.flush_store.ensures.same; sectors = c.flush_store.ensures.size; loud = c.flush_store.ensures.loud }) c.flush_store.ensures.fields in
    rw (← c.self.view_is) goes.stops_origin

pub returns-in-Err-clause-stops_snaps : goal.returns-in-Err-clause-stops_snaps
returns-in-Err-clause-stops_snaps g c =
    let v : Volumed g.row.B.Denot = record { origin = c.self.inside.origin; snaps = c.self.inside.snaps.items; merge = c.self.inside.merge; flights = c.self.inside.flights.items; requests = c.self.inside.requests; copies = c.self.inside.copies; attached = c.self.inside.attached } in
    let given = given_by (Issue c.args.number) (map in_flight v.flights) in
    let w : Volumed g.row.B.Denot = record v { merge = Some c.flush_store.new.self } in
    let goes = met_both g.B.Block.may_hold g.B.Block.contents g.B.Block.layers g.B.Block.size g.met.B.Block.whole g.met.B.Block.holds_now v c.self.invariant.whole c.self.invariant.lasting w c.flush_store.new.self refl c.in-Some.merge c.in-Some.is (all_same v.snaps v.snaps refl) given refl (record { adds = c.flush_store.ensures.adds; bytes = c.flush_store.ensures.same; sectors = c.flush_store.ensures.size; loud = c.flush_store.ensures.loud }) c.flush_store.ensures.fields in
    rw (← c.self.view_is) goes.stops_snaps

pub returns-in-Err-clause-stops_origin : goal.returns-in-Err-clause-stops_origin
returns-in-Err-clause-stops_origin g c =
    let v : Volumed g.row.B.Denot = record { origin = c.self.inside.origin; snaps = c.self.inside.snaps.items; merge = c.self.inside.merge; flights = c.self.inside.flights.items; requests = c.self.inside.requests; copies = c.self.inside.copies; attached = c.self.inside.attached } in
    let given = given_by (Issue c.args.number) (map in_flight v.flights) in
    let w : Volumed g.row.B.Denot = record v { merge = Some c.flush_store.new.self } in
    let goes = met_both g.B.Block.may_hold g.B.Block.contents g.B.Block.layers g.B.Block.size g.met.B.Block.whole g.met.B.Block.holds_now v c.self.invariant.whole c.self.invariant.lasting w c.flush_store.new.self refl c.in-Some.merge c.in-Some.is (all_same v.snaps v.snaps refl) given refl (record { adds = c.flush_store.ensures.adds; bytes = c.flush_store.ensures.same; sectors = c.flush_store.ensures.size; loud = c.flush_store.ensures.loud }) c.flush_store.ensures.fields in
    rw (← c.self.view_is) goes.stops_origin

pub returns-in-Ok-clause-closes : goal.returns-in-Ok-clause-closes
returns-in-Ok-clause-closes g c = λ lo. c.in-Ok.ensures.firm (sym c.flush_store.ensures.loud ∙ lo)
