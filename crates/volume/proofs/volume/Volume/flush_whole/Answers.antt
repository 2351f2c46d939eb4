-- A flush is issued at the whole store of its snapshot.
use Rattle.std.proofs.Common.{◌≡◌, ◌<◌, ◌∙◌, sym, ap, Some, get_or, length, nat_eq, arith, refl}
use Rattle.std.specs.List.{position, list_any}
use Rattle.std.proofs.lemmas.Bool.{false≢true}
use Rattle.plain_machine.specs.declared.request.Dev.TheVariants.{Snap}
use Rattle.in_flight.specs.declared.flights.Flight.{Flight}
use Rattle.in_flight.specs.declared.flights.Route.TheVariants.{Whole}
use Rattle.snapshot.specs.Kept.{Kept}
use Rattle.volume.specs.Volumed.{Volumed}
use Rattle.snapshot_list.proofs.Finds.{position_within}
use Rattle.volume.proofs.FlushIssues.{whole_alive, whole_done, whole_io}
use Rattle.volume.proofs.StoreIssues.{is_snap, held_any}
use Rattle.volume.proofs.ExactIssues.{whole_exact, whole_io_exact}
use Rattle.volume.proofs.LastMoves.{device_moves, flush_moves}
use Rattle.volume.proofs.LastBoth.{beside_both}
use Rattle.plain_machine.specs.declared.event.Event.TheVariants.{Issue}
use Rattle.in_flight.specs.Kinds.{in_flight}
use Rattle.volume.specs.Stopping.{given_by}
use Rattle.std.proofs.Common.{map}
use Rattle.volume.proofs.LastCloses.{snap_closes}
use Rattle.volume.proofs.volume.Volume.flush_whole.Goals as goal

pub remove-flight-requires : goal.remove-flight-requires
remove-flight-requires g c =
    let found : position (λ (f : Flight). nat_eq f.number c.args.number) c.self.inside.flights.items ≡ Some c.args.place = ap (λ (x : Volumed _). position (λ (f : Flight). nat_eq f.number c.args.number) x.flights) c.self.view_is ∙ c.requires.found in
    let within = position_within (λ (f : Flight). nat_eq f.number c.args.number) c.self.inside.flights.items c.args.place found in
    omega (arith, within)

pub unreachable-requires : goal.unreachable-requires
unreachable-requires g c =
    let v = c.self.inside in
    let r = c.remove-flight.result in
    let found : position (λ (f : Flight). nat_eq f.number c.args.number) v.flights.items ≡ Some c.args.place = ap (λ (x : Volumed _). position (λ (f : Flight). nat_eq f.number c.args.number) x.flights) c.self.view_is ∙ c.requires.found in
    let inside = position_within (λ (f : Flight). nat_eq f.number c.args.number) v.flights.items c.args.place found in
    let was : r ≡ get_or v.flights.items c.args.place r = c.remove-flight.ensures.value in
    let route : r.route ≡ Whole = ap (λ (x : Flight). x.route) was ∙ ap (λ (x : Volumed _). (get_or x.flights c.args.place r).route) c.self.view_is ∙ c.requires.route r in
    let dev : r.request.dev ≡ (get_or c.args.self.now.flights c.args.place r).request.dev = ap (λ (x : Flight). x.request.dev) was ∙ ap (λ (x : Volumed _). (get_or x.flights c.args.place r).request.dev) c.self.view_is in
    let snap = is_snap g.B.Block.contents g.B.Block.layers g.B.Block.size g.B.Block.fault_count g.B.Block.done_count _ c.self.invariant.whole c.args.number c.args.place r found was (λ e. c.requires.dev r (sym dev ∙ e)) in
    false≢true (sym (c.in-None.ensures.none snap.0 snap.1) ∙ ap (list_any (λ (s : Kept _). nat_eq s.number snap.0)) c.deref.ensures.value ∙ held_any g.B.Block.contents g.B.Block.layers snap.0 v.snaps.items snap.2)

pub flush_store-requires : goal.flush_store-requires
flush_store-requires g c =
    let v = c.self.inside in
    let r = c.remove-flight.result in
    let found : position (λ (f : Flight). nat_eq f.number c.args.number) v.flights.items ≡ Some c.args.place = ap (λ (x : Volumed _). position (λ (f : Flight). nat_eq f.number c.args.number) x.flights) c.self.view_is ∙ c.requires.found in
    let inside = position_within (λ (f : Flight). nat_eq f.number c.args.number) v.flights.items c.args.place found in
    let was : r ≡ get_or v.flights.items c.args.place r = c.remove-flight.ensures.value in
    let route : r.route ≡ Whole = ap (λ (x : Flight). x.route) was ∙ ap (λ (x : Volumed _). (get_or x.flights c.args.place r).route) c.self.view_is ∙ c.requires.route r in
    let s = c.index_mut.result.now in
    let k = c.in-Some.index in
    let within : k < length v.snaps.items = omega (arith, c.in-Some.ensures.found.0, ap length c.deref.ensures.value) in
    let is = c.index_mut.ensures.value in
    let dev : r.request.dev ≡ Snap s.number = c.in-Some.ensures.found.1 s ∙ ap (λ (x : Kept _). Snap x.number) (ap (λ xs. get_or xs k s) c.deref.ensures.value ∙ sym is) in
    record { live = whole_alive g.B.Block.contents g.B.Block.layers g.B.Block.size g.B.Block.fault_count g.B.Block.done_count _ c.self.invariant.whole c.args.number c.args.place r found was route k s within is dev }

pub invariant_of-self : goal.invariant_of-self
invariant_of-self g c = record {
  whole =
      let v = c.self.inside in
      let r = c.remove-flight.result in
      let found : position (λ (f : Flight). nat_eq f.number c.args.number) v.flights.items ≡ Some c.args.place = ap (λ (x : Volumed _). position (λ (f : Flight). nat_eq f.number c.args.number) x.flights) c.self.view_is ∙ c.requires.found in
      let inside = position_within (λ (f : Flight). nat_eq f.number c.args.number) v.flights.items c.args.place found in
      let was : r ≡ get_or v.flights.items c.args.place r = c.remove-flight.ensures.value in
      let route : r.route ≡ Whole = ap (λ (x : Flight). x.route) was ∙ ap (λ (x : Volumed _). (get_or x.flights c.args.place r).route) c.self.view_is ∙ c.requires.route r in
      let s = c.index_mut.result.now in
      let k = c.in-Some.index in
      let within : k < length v.snaps.items = omega (arith, c.in-Some.ensures.found.0, ap length c.deref.ensures.value) in
      let is = c.index_mut.ensures.value in
      let dev : r.request.dev ≡ Snap s.number = c.in-Some.ensures.found.1 s ∙ ap (λ (x : Kept _). Snap x.number) (ap (λ xs. get_or xs k s) c.deref.ensures.value ∙ sym is) in
      let good = whole_done g.B.Block.contents g.B.Block.layers g.B.Block.size g.B.Block.fault_count g.B.Block.done_count _ c.self.invariant.whole c.args.number c.args.place r found was route k s within is dev c.flush_store.new.self c.flush_store.new.self.device c.flush_store.ensures.loud c.flush_store.ensures.size c.in-Ok.ensures.operation.counted c.flush_store.ensures.ahead c.in-Ok.ensures.fields c.in-Ok.ensures.flushes c.in-Ok.ensures.operation.faulty in
      rw c.remove-flight.ensures.items good.whole;
  lasting =
      let v = c.self.inside in
      let r = c.remove-flight.result in
      let found : position (λ (f : Flight). nat_eq f.number c.args.number) v.flights.items ≡ Some c.args.place = ap (λ (x : Volumed _). position (λ (f : Flight). nat_eq f.number c.args.number) x.flights) c.self.view_is ∙ c.requires.found in
      let inside = position_within (λ (f : Flight). nat_eq f.number c.args.number) v.flights.items c.args.place found in
      let was : r ≡ get_or v.flights.items c.args.place r = c.remove-flight.ensures.value in
      let route : r.route ≡ Whole = ap (λ (x : Flight). x.route) was ∙ ap (λ (x : Volumed _). (get_or x.flights c.args.place r).route) c.self.view_is ∙ c.requires.route r in
      let s = c.index_mut.result.now in
      let k = c.in-Some.index in
      let within : k < length v.snaps.items = omega (arith, c.in-Some.ensures.found.0, ap length c.deref.ensures.value) in
      let is = c.index_mut.ensures.value in
      let dev : r.request.dev ≡ Snap s.number = c.in-Some.ensures.found.1 s ∙ ap (λ (x : Kept _). Snap x.number) (ap (λ xs. get_or xs k s) c.deref.ensures.value ∙ sym is) in
      let goes = flush_moves g.B.Block.may_hold g.B.Block.contents g.B.Block.layers g.B.Block.size g.met.B.Block.whole g.met.B.Block.holds_now _ c.self.invariant.whole c.self.invariant.lasting.snaps (given_by (Issue c.args.number) (map in_flight v.flights.items)) k s c.flush_store.new.self v.flights.items within is (whole_alive g.B.Block.contents g.B.Block.layers g.B.Block.size g.B.Block.fault_count g.B.Block.done_count _ c.self.invariant.whole c.args.number c.args.place r found was route k s within is dev) c.in-Ok.ensures.fields (record { adds = c.flush_store.ensures.adds; bytes = c.flush_store.ensures.contents; sectors = c.flush_store.ensures.size; loud = c.flush_store.ensures.loud }) c.in-Ok.ensures.firm in
      let both = beside_both g.B.Block.may_hold g.B.Block.contents g.B.Block.layers g.B.Block.size g.met.B.Block.whole g.met.B.Block.holds_now _ c.self.invariant.whole c.self.invariant.lasting (given_by (Issue c.args.number) (map in_flight v.flights.items)) _ goes refl refl in
      record { snaps = both.lasts; merge = both.merge };
}

pub returns-in-Ok-clause-step : goal.returns-in-Ok-clause-step
returns-in-Ok-clause-step g c =
    let v = c.self.inside in
    let r = c.remove-flight.result in
    let found : position (λ (f : Flight). nat_eq f.number c.args.number) v.flights.items ≡ Some c.args.place = ap (λ (x : Volumed _). position (λ (f : Flight). nat_eq f.number c.args.number) x.flights) c.self.view_is ∙ c.requires.found in
    let inside = position_within (λ (f : Flight). nat_eq f.number c.args.number) v.flights.items c.args.place found in
    let was : r ≡ get_or v.flights.items c.args.place r = c.remove-flight.ensures.value in
    let route : r.route ≡ Whole = ap (λ (x : Flight). x.route) was ∙ ap (λ (x : Volumed _). (get_or x.flights c.args.place r).route) c.self.view_is ∙ c.requires.route r in
    let s = c.index_mut.result.now in
    let k = c.in-Some.index in
    let within : k < length v.snaps.items = omega (arith, c.in-Some.ensures.found.0, ap length c.deref.ensures.value) in
    let is = c.index_mut.ensures.value in
    let dev : r.request.dev ≡ Snap s.number = c.in-Some.ensures.found.1 s ∙ ap (λ (x : Kept _). Snap x.number) (ap (λ xs. get_or xs k s) c.deref.ensures.value ∙ sym is) in
    let good = whole_done g.B.Block.contents g.B.Block.layers g.B.Block.size g.B.Block.fault_count g.B.Block.done_count _ c.self.invariant.whole c.args.number c.args.place r found was route k s within is dev c.flush_store.new.self c.flush_store.new.self.device c.flush_store.ensures.loud c.flush_store.ensures.size c.in-Ok.ensures.operation.counted c.flush_store.ensures.ahead c.in-Ok.ensures.fields c.in-Ok.ensures.flushes c.in-Ok.ensures.operation.faulty in
    rw (← c.self.view_is, c.remove-flight.ensures.items) good.stepped

pub returns-in-Ok-clause-exact : goal.returns-in-Ok-clause-exact
returns-in-Ok-clause-exact g c =
    let v = c.self.inside in
    let r = c.remove-flight.result in
    let found : position (λ (f : Flight). nat_eq f.number c.args.number) v.flights.items ≡ Some c.args.place = ap (λ (x : Volumed _). position (λ (f : Flight). nat_eq f.number c.args.number) x.flights) c.self.view_is ∙ c.requires.found in
    let inside = position_within (λ (f : Flight). nat_eq f.number c.args.number) v.flights.items c.args.place found in
    let was : r ≡ get_or v.flights.items c.args.place r = c.remove-flight.ensures.value in
    let route : r.route ≡ Whole = ap (λ (x : Flight). x.route) was ∙ ap (λ (x : Volumed _). (get_or x.flights c.args.place r).route) c.self.view_is ∙ c.requires.route r in
    let s = c.index_mut.result.now in
    let k = c.in-Some.index in
    let within : k < length v.snaps.items = omega (arith, c.in-Some.ensures.found.0, ap length c.deref.ensures.value) in
    let is = c.index_mut.ensures.value in
    let dev : r.request.dev ≡ Snap s.number = c.in-Some.ensures.found.1 s ∙ ap (λ (x : Kept _). Snap x.number) (ap (λ xs. get_or xs k s) c.deref.ensures.value ∙ sym is) in
    rw (← c.self.view_is, c.remove-flight.ensures.items) (whole_exact g.B.Block.contents g.B.Block.layers g.B.Block.size _ c.self.invariant.whole c.args.number c.args.place r found was _ _ _ _ s.number k route dev s c.flush_store.new.self within is refl c.flush_store.ensures.contents c.in-Ok.ensures.operation c.in-Ok.ensures.fields)

pub invariant_of-self-2 : goal.invariant_of-self-2
invariant_of-self-2 g c = record {
  whole =
      let v = c.self.inside in
      let r = c.remove-flight.result in
      let found : position (λ (f : Flight). nat_eq f.number c.args.number) v.flights.items ≡ Some c.args.place = ap (λ (x : Volumed _). position (λ (f : Flight). nat_eq f.number c.args.number) x.flights) c.self.view_is ∙ c.requires.found in
      let inside = position_within (λ (f : Flight). nat_eq f.number c.args.number) v.flights.items c.args.place found in
      let was : r ≡ get_or v.flights.items c.args.place r = c.remove-flight.ensures.value in
      let route : r.route ≡ Whole = ap (λ (x : Flight). x.route) was ∙ ap (λ (x : Volumed _). (get_or x.flights c.args.place r).route) c.self.view_is ∙ c.requires.route r in
      let s = c.index_mut.result.now in
      let k = c.in-Some.index in
      let within : k < length v.snaps.items = omega (arith, c.in-Some.ensures.found.0, ap length c.deref.ensures.value) in
      let is = c.index_mut.ensures.value in
      let dev : r.request.dev ≡ Snap s.number = c.in-Some.ensures.found.1 s ∙ ap (λ (x : Kept _). Snap x.number) (ap (λ xs. get_or xs k s) c.deref.ensures.value ∙ sym is) in
      let good = whole_io g.B.Block.contents g.B.Block.layers g.B.Block.size g.B.Block.fault_count g.B.Block.done_count _ c.self.invariant.whole c.args.number c.args.place r found was route k s within is dev c.flush_store.new.self c.flush_store.new.self.device c.flush_store.ensures.loud c.flush_store.ensures.size c.in-Err.ensures.operation.counted c.in-Err.ensures.kept c.flush_store.ensures.contents c.in-Err.ensures.operation.faulty in
      rw c.remove-flight.ensures.items good.whole;
  lasting =
      let v = c.self.inside in
      let r = c.remove-flight.result in
      let found : position (λ (f : Flight). nat_eq f.number c.args.number) v.flights.items ≡ Some c.args.place = ap (λ (x : Volumed _). position (λ (f : Flight). nat_eq f.number c.args.number) x.flights) c.self.view_is ∙ c.requires.found in
      let inside = position_within (λ (f : Flight). nat_eq f.number c.args.number) v.flights.items c.args.place found in
      let was : r ≡ get_or v.flights.items c.args.place r = c.remove-flight.ensures.value in
      let route : r.route ≡ Whole = ap (λ (x : Flight). x.route) was ∙ ap (λ (x : Volumed _). (get_or x.flights c.args.place r).route) c.self.view_is ∙ c.requires.route r in
      let s = c.index_mut.result.now in
      let k = c.in-Some.index in
      let within : k < length v.snaps.items = omega (arith, c.in-Some.ensures.found.0, ap length c.deref.ensures.value) in
      let is = c.index_mut.ensures.value in
      let dev : r.request.dev ≡ Snap s.number = c.in-Some.ensures.found.1 s ∙ ap (λ (x : Kept _). Snap x.number) (ap (λ xs. get_or xs k s) c.deref.ensures.value ∙ sym is) in
      let goes = device_moves g.B.Block.may_hold g.B.Block.contents g.B.Block.layers g.B.Block.size g.met.B.Block.whole g.met.B.Block.holds_now _ c.self.invariant.whole c.self.invariant.lasting.snaps (given_by (Issue c.args.number) (map in_flight v.flights.items)) k s c.flush_store.new.self v.flights.items within is c.in-Err.ensures.kept (record { adds = c.flush_store.ensures.adds; bytes = c.flush_store.ensures.contents; sectors = c.flush_store.ensures.size; loud = c.flush_store.ensures.loud }) in
      let both = beside_both g.B.Block.may_hold g.B.Block.contents g.B.Block.layers g.B.Block.size g.met.B.Block.whole g.met.B.Block.holds_now _ c.self.invariant.whole c.self.invariant.lasting (given_by (Issue c.args.number) (map in_flight v.flights.items)) _ goes refl refl in
      record { snaps = both.lasts; merge = both.merge };
}

pub returns-clause-step : goal.returns-clause-step
returns-clause-step g c =
    let v = c.self.inside in
    let r = c.remove-flight.result in
    let found : position (λ (f : Flight). nat_eq f.number c.args.number) v.flights.items ≡ Some c.args.place = ap (λ (x : Volumed _). position (λ (f : Flight). nat_eq f.number c.args.number) x.flights) c.self.view_is ∙ c.requires.found in
    let inside = position_within (λ (f : Flight). nat_eq f.number c.args.number) v.flights.items c.args.place found in
    let was : r ≡ get_or v.flights.items c.args.place r = c.remove-flight.ensures.value in
    let route : r.route ≡ Whole = ap (λ (x : Flight). x.route) was ∙ ap (λ (x : Volumed _). (get_or x.flights c.args.place r).route) c.self.view_is ∙ c.requires.route r in
    let s = c.index_mut.result.now in
    let k = c.in-Some.index in
    let within : k < length v.snaps.items = omega (arith, c.in-Some.ensures.found.0, ap length c.deref.ensures.value) in
    let is = c.index_mut.ensures.value in
    let dev : r.request.dev ≡ Snap s.number = c.in-Some.ensures.found.1 s ∙ ap (λ (x : Kept _). Snap x.number) (ap (λ xs. get_or xs k s) c.deref.ensures.value ∙ sym is) in
    let good = whole_io g.B.Block.contents g.B.Block.layers g.B.Block.size g.B.Block.fault_count g.B.Block.done_count _ c.self.invariant.whole c.args.number c.args.place r found was route k s within is dev c.flush_store.new.self c.flush_store.new.self.device c.flush_store.ensures.loud c.flush_store.ensures.size c.in-Err.ensures.operation.counted c.in-Err.ensures.kept c.flush_store.ensures.contents c.in-Err.ensures.operation.faulty in
    rw (← c.self.view_is, c.remove-flight.ensures.items) good.stepped

pub returns-clause-exact : goal.returns-clause-exact
returns-clause-exact g c =
    let v = c.self.inside in
    let r = c.remove-flight.result in
    let found : position (λ (f : Flight). nat_eq f.number c.args.number) v.flights.items ≡ Some c.args.place = ap (λ (x : Volumed _). position (λ (f : Flight). nat_eq f.number c.args.number) x.flights) c.self.view_is ∙ c.requires.found in
    let inside = position_within (λ (f : Flight). nat_eq f.number c.args.number) v.flights.items c.args.place found in
    let was : r ≡ get_or v.flights.items c.args.place r = c.remove-flight.ensures.value in
    let route : r.route ≡ Whole = ap (λ (x : Flight). x.route) was ∙ ap (λ (x : Volumed _). (get_or x.flights c.args.place r).route) c.self.view_is ∙ c.requires.route r in
    let s = c.index_mut.result.now in
    let k = c.in-Some.index in
    let within : k < length v.snaps.items = omega (arith, c.in-Some.ensures.found.0, ap length c.deref.ensures.value) in
    let is = c.index_mut.ensures.value in
    let dev : r.request.dev ≡ Snap s.number = c.in-Some.ensures.found.1 s ∙ ap (λ (x : Kept _). Snap x.number) (ap (λ xs. get_or xs k s) c.deref.ensures.value ∙ sym is) in
    rw (← c.self.view_is, c.remove-flight.ensures.items) (whole_io_exact g.B.Block.contents g.B.Block.layers g.B.Block.size _ c.self.invariant.whole c.args.number c.args.place r found was _ _ _ _ s.number k route dev s c.flush_store.new.self within is refl c.flush_store.ensures.contents c.in-Err.ensures.operation c.in-Err.ensures.kept)

pub returns-in-Ok-clause-stops_snaps : goal.returns-in-Ok-clause-stops_snaps
returns-in-Ok-clause-stops_snaps g c =
    let v = c.self.inside in
    let r = c.remove-flight.result in
    let found : position (λ (f : Flight). nat_eq f.number c.args.number) v.flights.items ≡ Some c.args.place = ap (λ (x : Volumed _). position (λ (f : Flight). nat_eq f.number c.args.number) x.flights) c.self.view_is ∙ c.requires.found in
    let inside = position_within (λ (f : Flight). nat_eq f.number c.args.number) v.flights.items c.args.place found in
    let was : r ≡ get_or v.flights.items c.args.place r = c.remove-flight.ensures.value in
    let route : r.route ≡ Whole = ap (λ (x : Flight). x.route) was ∙ ap (λ (x : Volumed _). (get_or x.flights c.args.place r).route) c.self.view_is ∙ c.requires.route r in
    let s = c.index_mut.result.now in
    let k = c.in-Some.index in
    let within : k < length v.snaps.items = omega (arith, c.in-Some.ensures.found.0, ap length c.deref.ensures.value) in
    let is = c.index_mut.ensures.value in
    let dev : r.request.dev ≡ Snap s.number = c.in-Some.ensures.found.1 s ∙ ap (λ (x : Kept _). Snap x.number) (ap (λ xs. get_or xs k s) c.deref.ensures.value ∙ sym is) in
    let goes = flush_moves g.B.Block.may_hold g.B.Block.contents g.B.Block.layers g.B.Block.size g.met.B.Block.whole g.met.B.Block.holds_now _ c.self.invariant.whole c.self.invariant.lasting.snaps (given_by (Issue c.args.number) (map in_flight v.flights.items)) k s c.flush_store.new.self v.flights.items within is (whole_alive g.B.Block.contents g.B.Block.layers g.B.Block.size g.B.Block.fault_count g.B.Block.done_count _ c.self.invariant.whole c.args.number c.args.place r found was route k s within is dev) c.in-Ok.ensures.fields (record { adds = c.flush_store.ensures.adds; bytes = c.flush_store.ensures.contents; sectors = c.flush_store.ensures.size; loud = c.flush_store.ensures.loud }) c.in-Ok.ensures.firm in
    let both = beside_both g.B.Block.may_hold g.B.Block.contents g.B.Block.layers g.B.Block.size g.met.B.Block.whole g.met.B.Block.holds_now _ c.self.invariant.whole c.self.invariant.lasting (given_by (Issue c.args.number) (map in_flight v.flights.items)) _ goes refl refl in
    rw (← c.self.view_is) both.stops_snaps

pub returns-in-Ok-clause-stops_origin : goal.returns-in-Ok-clause-stops_origin
returns-in-Ok-clause-stops_origin g c =
    let v = c.self.inside in
    let r = c.remove-flight.result in
    let found : position (λ (f : Flight). nat_eq f.number c.args.number) v.flights.items ≡ Some c.args.place = ap (λ (x : Volumed _). position (λ (f : Flight). nat_eq f.number c.args.number) x.flights) c.self.view_is ∙ c.requires.found in
    let inside = position_within (λ (f : Flight). nat_eq f.number c.args.number) v.flights.items c.args.place found in
    let was : r ≡ get_or v.flights.items c.args.place r = c.remove-flight.ensures.value in
    let route : r.route ≡ Whole = ap (λ (x : Flight). x.route) was ∙ ap (λ (x : Volumed _). (get_or x.flights c.args.place r).route) c.self.view_is ∙ c.requires.route r in
    let s = c.index_mut.result.now in
    let k = c.in-Some.index in
    let within : k < length v.snaps.items = omega (arith, c.in-Some.ensures.found.0, ap length c.deref.ensures.value) in
    let is = c.index_mut.ensures.value in
    let dev : r.request.dev ≡ Snap s.number = c.in-Some.ensures.found.1 s ∙ ap (λ (x : Kept _). Snap x.number) (ap (λ xs. get_or xs k s) c.deref.ensures.value ∙ sym is) in
    let goes = flush_moves g.B.Block.may_hold g.B.Block.contents g.B.Block.layers g.B.Block.size g.met.B.Block.whole g.met.B.Block.holds_now _ c.self.invariant.whole c.self.invariant.lasting.snaps (given_by (Issue c.args.number) (map in_flight v.flights.items)) k s c.flush_store.new.self v.flights.items within is (whole_alive g.B.Block.contents g.B.Block.layers g.B.Block.size g.B.Block.fault_count g.B.Block.done_count _ c.self.invariant.whole c.args.number c.args.place r found was route k s within is dev) c.in-Ok.ensures.fields (record { adds = c.flush_store.ensures.adds; bytes = c.flush_store.ensures.contents; sectors = c.flush_store.ensures.size; loud = c.flush_store.ensures.loud }) c.in-Ok.ensures.firm in
    let both = beside_both g.B.Block.may_hold g.B.Block.contents g.B.Block.layers g.B.Block.size g.met.B.Block.whole g.met.B.Block.holds_now _ c.self.invariant.whole c.self.invariant.lasting (given_by (Issue c.args.number) (map in_flight v.flights.items)) _ goes refl refl in
    rw (← c.self.view_is) both.stops_origin

pub returns-clause-stops_snaps : goal.returns-clause-stops_snaps
returns-clause-stops_snaps g c =
    let v = c.self.inside in
    let r = c.remove-flight.result in
    let found : position (λ (f : Flight). nat_eq f.number c.args.number) v.flights.items ≡ Some c.args.place = ap (λ (x : Volumed _). position (λ (f : Flight). nat_eq f.number c.args.number) x.flights) c.self.view_is ∙ c.requires.found in
    let inside = position_within (λ (f : Flight). nat_eq f.number c.args.number) v.flights.items c.args.place found in
    let was : r ≡ get_or v.flights.items c.args.place r = c.remove-flight.ensures.value in
    let route : r.route ≡ Whole = ap (λ (x : Flight). x.route) was ∙ ap (λ (x : Volumed _). (get_or x.flights c.args.place r).route) c.self.view_is ∙ c.requires.route r in
    let s = c.index_mut.result.now in
    let k = c.in-Some.index in
    let within : k < length v.snaps.items = omega (arith, c.in-Some.ensures.found.0, ap length c.deref.ensures.value) in
    let is = c.index_mut.ensures.value in
    let dev : r.request.dev ≡ Snap s.number = c.in-Some.ensures.found.1 s ∙ ap (λ (x : Kept _). Snap x.number) (ap (λ xs. get_or xs k s) c.deref.ensures.value ∙ sym is) in
    let goes = device_moves g.B.Block.may_hold g.B.Block.contents g.B.Block.layers g.B.Block.size g.met.B.Block.whole g.met.B.Block.holds_now _ c.self.invariant.whole c.self.invariant.lasting.snaps (given_by (Issue c.args.number) (map in_flight v.flights.items)) k s c.flush_store.new.self v.flights.items within is c.in-Err.ensures.kept (record { adds = c.flush_store.ensures.adds; bytes = c.flush_store.ensures.contents; sectors = c.flush_store.ensures.size; loud = c.flush_store.ensures.loud }) in
    let both = beside_both g.B.Block.may_hold g.B.Block.contents g.B.Block.layers g.B.Block.size g.met.B.Block.whole g.met.B.Block.holds_now _ c.self.invariant.whole c.self.invariant.lasting (given_by (Issue c.args.number) (map in_flight v.flights.items)) _ goes refl refl in
    rw (← c.self.view_is) both.stops_snaps

pub returns-clause-stops_origin : goal.returns-clause-stops_origin
returns-clause-stops_origin g c =
    let v = c.self.inside in
    let r = c.remove-flight.result in
    let found : position (λ (f : Flight). nat_eq f.number c.args.number) v.flights.items ≡ Some c.args.place = ap (λ (x : Volumed _). position (λ (f : Flight). nat_eq f.number c.args.number) x.flights) c.self.view_is ∙ c.requires.found in
    let inside = position_within (λ (f : Flight). nat_eq f.number c.args.number) v.flights.items c.args.place found in
    let was : r ≡ get_or v.flights.items c.args.place r = c.remove-flight.ensures.value in
    let route : r.route ≡ Whole = ap (λ (x : Flight). x.route) was ∙ ap (λ (x : Volumed _). (get_or x.flights c.args.place r).route) c.self.view_is ∙ c.requires.route r in
    let s = c.index_mut.result.now in
    let k = c.in-Some.index in
    let within : k < length v.snaps.items = omega (arith, c.in-Some.ensures.found.0, ap length c.deref.ensures.value) in
    let is = c.index_mut.ensures.value in
    let dev : r.request.dev ≡ Snap s.number = c.in-Some.ensures.found.1 s ∙ ap (λ (x : Kept _). Snap x.number) (ap (λ xs. get_or xs k s) c.deref.ensures.value ∙ sym is) in
    let goes = device_moves g.B.Block.may_hold g.B.Block.contents g.B.Block.layers g.B.Block.size g.met.B.Block.whole g.met.B.Block.holds_now _ c.self.invariant.whole c.self.invariant.lasting.snaps (given_by (Issue c.args.number) (map in_flight v.flights.items)) k s c.flush_store.new.self v.flights.items within is c.in-Err.ensures.kept (record { adds = c.flush_store.ensures.adds; bytes = c.flush_store.ensures.contents; sectors = c.flush_store.ensures.size; loud = c.flush_store.ensures.loud }) in
    let both = beside_both g.B.Block.may_hold g.B.Block.contents g.B.Block.layers g.B.Block.size g.met.B.Block.whole g.met.B.Block.holds_now _ c.self.invariant.whole c.self.invariant.lasting (given_by (Issue c.args.number) (map in_flight v.flights.items)) _ goes refl refl in
    rw (← c.self.view_is) both.stops_origin

pub returns-in-Ok-clause-closes : goal.returns-in-Ok-clause-closes
returns-in-Ok-clause-closes g c =
    let v = c.self.inside in
    let r = c.remove-flight.result in
    let found : position (λ (f : Flight). nat_eq f.number c.args.number) v.flights.items ≡ Some c.args.place = ap (λ (x : Volumed _). position (λ (f : Flight). nat_eq f.number c.args.number) x.flights) c.self.view_is ∙ c.requires.found in
    let inside = position_within (λ (f : Flight). nat_eq f.number c.args.number) v.flights.items c.args.place found in
    let was : r ≡ get_or v.flights.items c.args.place r = c.remove-flight.ensures.value in
    let route : r.route ≡ Whole = ap (λ (x : Flight). x.route) was ∙ ap (λ (x : Volumed _). (get_or x.flights c.args.place r).route) c.self.view_is ∙ c.requires.route r in
    let s = c.index_mut.result.now in
    let k = c.in-Some.index in
    let within : k < length v.snaps.items = omega (arith, c.in-Some.ensures.found.0, ap length c.deref.ensures.value) in
    let is = c.index_mut.ensures.value in
    let dev : r.request.dev ≡ Snap s.number = c.in-Some.ensures.found.1 s ∙ ap (λ (x : Kept _). Snap x.number) (ap (λ xs. get_or xs k s) c.deref.ensures.value ∙ sym is) in
    let alive = whole_alive g.B.Block.contents g.B.Block.layers g.B.Block.size g.B.Block.fault_count g.B.Block.done_count _ c.self.invariant.whole c.args.number c.args.place r found was route k s within is dev in
    let goes = flush_moves g.B.Block.may_hold g.B.Block.contents g.B.Block.layers g.B.Block.size g.met.B.Block.whole g.met.B.Block.holds_now _ c.self.invariant.whole c.self.invariant.lasting.snaps (given_by (Issue c.args.number) (map in_flight v.flights.items)) k s c.flush_store.new.self v.flights.items within is alive c.in-Ok.ensures.fields (record { adds = c.flush_store.ensures.adds; bytes = c.flush_store.ensures.contents; sectors = c.flush_store.ensures.size; loud = c.flush_store.ensures.loud }) c.in-Ok.ensures.firm in
    rw (← c.self.view_is) (snap_closes g.B.Block.may_hold g.B.Block.contents g.B.Block.layers g.B.Block.size g.met.B.Block.whole g.met.B.Block.holds_now _ c.self.invariant.whole c.args.number c.args.place r found was k s c.flush_store.new.self v.flights.items within is (ap (λ (x : Kept _). x.state.chunk) c.in-Ok.ensures.fields) c.flush_store.ensures.loud
    (ap (λ (x : Kept _). x.live) c.in-Ok.ensures.fields ∙ alive) (ap (λ (x : Kept _). x.state.sure) c.in-Ok.ensures.fields ∙ ap (λ (x : Kept _). length x.pairs) (sym c.in-Ok.ensures.fields)) goes.lasts c.in-Ok.ensures.firm dev (ap (λ (x : Kept _). x.number) c.in-Ok.ensures.fields))
