-- A request of the origin is issued at the merging store.
use Rattle.std.proofs.Common.{◌≡◌, ◌+◌, ◌*◌, ◌%◌, ◌∙◌, ap, subst, Some, List, get_or, length, nat_eq, arith, Bool, ℕ, true, false, refl, sym}
use Rattle.std.specs.List.{position, remove}
use Rattle.std.proofs.lemmas.List.{with_items_is}
use Rattle.sector.specs.Bytes.{sectors_at}
use Rattle.device.specs.declared.operation.Operation.TheVariants.{Reads, Writes}
use Rattle.device.specs.Layers.{is_loud}
use Rattle.plain_machine.specs.declared.request.Dev.TheVariants.{Origin as AtOrigin}
use Rattle.plain_machine.specs.declared.request.Op.{Op}
use Rattle.plain_machine.specs.declared.request.Reply.TheVariants.{Data}
use Rattle.in_flight.specs.Kinds.{room_at, in_flight}
use Rattle.in_flight.specs.declared.flights.Flight.{Flight}
use Rattle.in_flight.specs.declared.flights.Route.TheVariants.{Store}
use Rattle.store.specs.Operations.{IsOneOperation}
use Rattle.merge.specs.Merging.{books_of}
use Rattle.merge.specs.Steps.{WritesPlaceOf}
use Rattle.volume.specs.Volumed.{Volumed}
use Rattle.snapshot_list.proofs.Finds.{position_within}
use Rattle.volume.proofs.IssueEvents.{request_at}
use Rattle.volume.proofs.MergingIssues.{unflushed, is_begun, read_placed, write_placed, lies_within, merging_read, merging_read_io, merging_write, merging_write_io}
use Rattle.volume.proofs.ExactIssues.{merging_read_exact, merging_write_exact}
use Rattle.volume.proofs.MergeBoth.{met_both, placed_both}
use Rattle.volume.proofs.Lefts.{all_same}
use Rattle.volume.specs.Stopping.{given_by, given_as, given_in}
use Rattle.std.specs.Prelude.{map}
use Rattle.plain_machine.specs.declared.event.Event.TheVariants.{Issue}
use Rattle.volume.proofs.OriginLasts.{GoesBy, merging_issued}
use Rattle.volume_laws.proofs.Requests.{asked_first}
use Rattle.volume.proofs.volume.Volume.issue_merging.Goals as goal

pub remove-flight-requires : goal.remove-flight-requires
remove-flight-requires g c =
    let found : position (λ (f : Flight). nat_eq f.number c.args.number) c.self.inside.flights.items ≡ Some c.args.place = ap (λ (x : Volumed _). position (λ (f : Flight). nat_eq f.number c.args.number) x.flights) c.self.view_is ∙ c.requires.found in
    let within = position_within (λ (f : Flight). nat_eq f.number c.args.number) c.self.inside.flights.items c.args.place found in
    omega (arith, within)

pub unreachable-requires : goal.unreachable-requires
unreachable-requires g c =
    let v = c.self.inside in
    let r = c.remove-flight.result in
    let found : position (λ (f : Flight). nat_eq f.number c.args.number) v.flights.items ≡ Some c.args.place = ap (λ (x : Volumed _). position (λ (f : Flight). nat_eq f.number c.args.number) x.flights) c.self.view_is ∙ c.requires.found in
    let inside = position_within (λ (f : Flight). nat_eq f.number c.args.number) v.flights.items c.args.place found in
    let was : r ≡ get_or v.flights.items c.args.place r = c.remove-flight.ensures.value in
    let route : r.route ≡ Store c.args.at = ap (λ (x : Flight). x.route) was ∙ ap (λ (x : Volumed _). (get_or x.flights c.args.place r).route) c.self.view_is ∙ c.requires.route r in
    let dev : r.request.dev ≡ AtOrigin = ap (λ (x : Flight). x.request.dev) was ∙ ap (λ (x : Volumed _). (get_or x.flights c.args.place r).request.dev) c.self.view_is ∙ c.requires.dev r in
    is_begun g.B.Block.contents g.B.Block.layers g.B.Block.size g.B.Block.fault_count g.B.Block.done_count _ c.self.invariant.whole c.args.number c.args.place r found was c.args.at route dev c.in-None.is

pub unreachable-requires-in-Flush : goal.unreachable-requires-in-Flush
unreachable-requires-in-Flush g c =
    let v = c.self.inside in
    let r = c.remove-flight.result in
    let found : position (λ (f : Flight). nat_eq f.number c.args.number) v.flights.items ≡ Some c.args.place = ap (λ (x : Volumed _). position (λ (f : Flight). nat_eq f.number c.args.number) x.flights) c.self.view_is ∙ c.requires.found in
    let inside = position_within (λ (f : Flight). nat_eq f.number c.args.number) v.flights.items c.args.place found in
    let was : r ≡ get_or v.flights.items c.args.place r = c.remove-flight.ensures.value in
    let route : r.route ≡ Store c.args.at = ap (λ (x : Flight). x.route) was ∙ ap (λ (x : Volumed _). (get_or x.flights c.args.place r).route) c.self.view_is ∙ c.requires.route r in
    let dev : r.request.dev ≡ AtOrigin = ap (λ (x : Flight). x.request.dev) was ∙ ap (λ (x : Volumed _). (get_or x.flights c.args.place r).request.dev) c.self.view_is ∙ c.requires.dev r in
    let m = c.in-Some.merge in
    unflushed g.B.Block.contents g.B.Block.layers g.B.Block.size g.B.Block.fault_count g.B.Block.done_count _ c.self.invariant.whole c.args.number c.args.place r found was c.args.at route dev m c.in-Some.is c.in-Flush.is

pub read_at-requires-clause-placed : goal.read_at-requires-clause-placed
read_at-requires-clause-placed g c =
    let v = c.self.inside in
    let r = c.remove-flight.result in
    let found : position (λ (f : Flight). nat_eq f.number c.args.number) v.flights.items ≡ Some c.args.place = ap (λ (x : Volumed _). position (λ (f : Flight). nat_eq f.number c.args.number) x.flights) c.self.view_is ∙ c.requires.found in
    let inside = position_within (λ (f : Flight). nat_eq f.number c.args.number) v.flights.items c.args.place found in
    let was : r ≡ get_or v.flights.items c.args.place r = c.remove-flight.ensures.value in
    let route : r.route ≡ Store c.args.at = ap (λ (x : Flight). x.route) was ∙ ap (λ (x : Volumed _). (get_or x.flights c.args.place r).route) c.self.view_is ∙ c.requires.route r in
    let dev : r.request.dev ≡ AtOrigin = ap (λ (x : Flight). x.request.dev) was ∙ ap (λ (x : Volumed _). (get_or x.flights c.args.place r).request.dev) c.self.view_is ∙ c.requires.dev r in
    let m = c.in-Some.merge in
    read_placed g.B.Block.contents g.B.Block.layers g.B.Block.size g.B.Block.fault_count g.B.Block.done_count _ c.self.invariant.whole c.args.number c.args.place r found was c.args.at route dev m c.in-Some.is c.in-Read.is

pub read_at-requires-clause-some : goal.read_at-requires-clause-some
read_at-requires-clause-some g c =
    let v = c.self.inside in
    let r = c.remove-flight.result in
    let found : position (λ (f : Flight). nat_eq f.number c.args.number) v.flights.items ≡ Some c.args.place = ap (λ (x : Volumed _). position (λ (f : Flight). nat_eq f.number c.args.number) x.flights) c.self.view_is ∙ c.requires.found in
    let inside = position_within (λ (f : Flight). nat_eq f.number c.args.number) v.flights.items c.args.place found in
    let was : r ≡ get_or v.flights.items c.args.place r = c.remove-flight.ensures.value in
    let request = request_at g.B.Block.contents g.B.Block.layers g.B.Block.size _ c.self.invariant.whole c.args.place r inside was in
    request.some

pub read_at-requires-clause-part : goal.read_at-requires-clause-part
read_at-requires-clause-part g c =
    let v = c.self.inside in
    let r = c.remove-flight.result in
    let found : position (λ (f : Flight). nat_eq f.number c.args.number) v.flights.items ≡ Some c.args.place = ap (λ (x : Volumed _). position (λ (f : Flight). nat_eq f.number c.args.number) x.flights) c.self.view_is ∙ c.requires.found in
    let inside = position_within (λ (f : Flight). nat_eq f.number c.args.number) v.flights.items c.args.place found in
    let was : r ≡ get_or v.flights.items c.args.place r = c.remove-flight.ensures.value in
    let route : r.route ≡ Store c.args.at = ap (λ (x : Flight). x.route) was ∙ ap (λ (x : Volumed _). (get_or x.flights c.args.place r).route) c.self.view_is ∙ c.requires.route r in
    let dev : r.request.dev ≡ AtOrigin = ap (λ (x : Flight). x.request.dev) was ∙ ap (λ (x : Volumed _). (get_or x.flights c.args.place r).request.dev) c.self.view_is ∙ c.requires.dev r in
    let m = c.in-Some.merge in
    rw c.chunk.ensures.is (lies_within g.B.Block.contents g.B.Block.layers g.B.Block.size g.B.Block.fault_count g.B.Block.done_count _ c.self.invariant.whole c.args.number c.args.place r found was c.args.at route dev m c.in-Some.is)

pub read_at-requires-clause-room : goal.read_at-requires-clause-room
read_at-requires-clause-room g c =
    let v = c.self.inside in
    let r = c.remove-flight.result in
    let found : position (λ (f : Flight). nat_eq f.number c.args.number) v.flights.items ≡ Some c.args.place = ap (λ (x : Volumed _). position (λ (f : Flight). nat_eq f.number c.args.number) x.flights) c.self.view_is ∙ c.requires.found in
    let inside = position_within (λ (f : Flight). nat_eq f.number c.args.number) v.flights.items c.args.place found in
    let was : r ≡ get_or v.flights.items c.args.place r = c.remove-flight.ensures.value in
    let request = request_at g.B.Block.contents g.B.Block.layers g.B.Block.size _ c.self.invariant.whole c.args.place r inside was in
    ap length c.as_mut_slice.ensures.value ∙ request.room ∙ ap (λ (o : Op). room_at o r.request.range.count) c.in-Read.is

pub invariant_of-self : goal.invariant_of-self
invariant_of-self g c = record {
  whole =
      let v = c.self.inside in
      let r = c.remove-flight.result in
      let found : position (λ (f : Flight). nat_eq f.number c.args.number) v.flights.items ≡ Some c.args.place = ap (λ (x : Volumed _). position (λ (f : Flight). nat_eq f.number c.args.number) x.flights) c.self.view_is ∙ c.requires.found in
      let inside = position_within (λ (f : Flight). nat_eq f.number c.args.number) v.flights.items c.args.place found in
      let was : r ≡ get_or v.flights.items c.args.place r = c.remove-flight.ensures.value in
      let route : r.route ≡ Store c.args.at = ap (λ (x : Flight). x.route) was ∙ ap (λ (x : Volumed _). (get_or x.flights c.args.place r).route) c.self.view_is ∙ c.requires.route r in
      let dev : r.request.dev ≡ AtOrigin = ap (λ (x : Flight). x.request.dev) was ∙ ap (λ (x : Volumed _). (get_or x.flights c.args.place r).request.dev) c.self.view_is ∙ c.requires.dev r in
      let m = c.in-Some.merge in
      let bytes : c.from_vec.result ≡ c.read_at.new.out = c.from_vec.ensures ∙ with_items_is r.room c.read_at.new.out (omega (arith, c.read_at.auto.out, c.as_mut_slice.ensures.len)) in
      let read = bytes ∙ c.in-Ok.ensures.data ∙ ap (λ n. sectors_at (g.B.Block.contents m.device) (m.state.chunk * c.args.at + r.request.range.first % n) r.request.range.count) c.chunk.ensures.is in
      let request = request_at g.B.Block.contents g.B.Block.layers g.B.Block.size _ c.self.invariant.whole c.args.place r inside was in
      let filled = ap length c.as_mut_slice.ensures.value ∙ request.room ∙ ap (λ (o : Op). room_at o r.request.range.count) c.in-Read.is in
      let len : length c.from_vec.result ≡ 512 * r.request.range.count = omega (arith, ap length bytes, c.read_at.auto.out, filled) in
      let good = merging_read g.B.Block.contents g.B.Block.layers g.B.Block.size g.B.Block.fault_count g.B.Block.done_count _ c.self.invariant.whole c.args.number c.args.place r found was c.args.at route dev m c.in-Some.is c.read_at.new.self c.read_at.new.self.device c.read_at.ensures.fields c.read_at.ensures.loud c.read_at.ensures.size c.in-Ok.ensures.operation.counted c.in-Read.is c.from_vec.result len c.read_at.ensures.same read c.in-Ok.ensures.operation.faulty in
      rw c.remove-flight.ensures.items good.whole;
  lasting =
      let v : Volumed g.row.B.Denot = record { origin = c.self.inside.origin; snaps = c.self.inside.snaps.items; merge = c.self.inside.merge; flights = c.self.inside.flights.items; requests = c.self.inside.requests; copies = c.self.inside.copies; attached = c.self.inside.attached } in
      let given = given_by (Issue c.args.number) (map in_flight v.flights) in
      let w : Volumed g.row.B.Denot = record v { merge = Some c.read_at.new.self; flights = remove v.flights c.args.place } in
      let goes = met_both g.B.Block.may_hold g.B.Block.contents g.B.Block.layers g.B.Block.size g.met.B.Block.whole g.met.B.Block.holds_now v c.self.invariant.whole c.self.invariant.lasting w c.read_at.new.self refl c.in-Some.merge c.in-Some.is (all_same v.snaps v.snaps refl) given refl (record { adds = c.read_at.ensures.adds; bytes = c.read_at.ensures.same; sectors = c.read_at.ensures.size; loud = c.read_at.ensures.loud }) c.read_at.ensures.fields in
      rw c.remove-flight.ensures.items (record { snaps = goes.lasts; merge = goes.merge });
}

pub returns-in-Ok-clause-step : goal.returns-in-Ok-clause-step
returns-in-Ok-clause-step g c =
    let v = c.self.inside in
    let r = c.remove-flight.result in
    let found : position (λ (f : Flight). nat_eq f.number c.args.number) v.flights.items ≡ Some c.args.place = ap (λ (x : Volumed _). position (λ (f : Flight). nat_eq f.number c.args.number) x.flights) c.self.view_is ∙ c.requires.found in
    let inside = position_within (λ (f : Flight). nat_eq f.number c.args.number) v.flights.items c.args.place found in
    let was : r ≡ get_or v.flights.items c.args.place r = c.remove-flight.ensures.value in
    let route : r.route ≡ Store c.args.at = ap (λ (x : Flight). x.route) was ∙ ap (λ (x : Volumed _). (get_or x.flights c.args.place r).route) c.self.view_is ∙ c.requires.route r in
    let dev : r.request.dev ≡ AtOrigin = ap (λ (x : Flight). x.request.dev) was ∙ ap (λ (x : Volumed _). (get_or x.flights c.args.place r).request.dev) c.self.view_is ∙ c.requires.dev r in
    let m = c.in-Some.merge in
    let bytes : c.from_vec.result ≡ c.read_at.new.out = c.from_vec.ensures ∙ with_items_is r.room c.read_at.new.out (omega (arith, c.read_at.auto.out, c.as_mut_slice.ensures.len)) in
    let read = bytes ∙ c.in-Ok.ensures.data ∙ ap (λ n. sectors_at (g.B.Block.contents m.device) (m.state.chunk * c.args.at + r.request.range.first % n) r.request.range.count) c.chunk.ensures.is in
    let request = request_at g.B.Block.contents g.B.Block.layers g.B.Block.size _ c.self.invariant.whole c.args.place r inside was in
    let filled = ap length c.as_mut_slice.ensures.value ∙ request.room ∙ ap (λ (o : Op). room_at o r.request.range.count) c.in-Read.is in
    let len : length c.from_vec.result ≡ 512 * r.request.range.count = omega (arith, ap length bytes, c.read_at.auto.out, filled) in
    let good = merging_read g.B.Block.contents g.B.Block.layers g.B.Block.size g.B.Block.fault_count g.B.Block.done_count _ c.self.invariant.whole c.args.number c.args.place r found was c.args.at route dev m c.in-Some.is c.read_at.new.self c.read_at.new.self.device c.read_at.ensures.fields c.read_at.ensures.loud c.read_at.ensures.size c.in-Ok.ensures.operation.counted c.in-Read.is c.from_vec.result len c.read_at.ensures.same read c.in-Ok.ensures.operation.faulty in
    rw (← c.self.view_is, c.remove-flight.ensures.items) good.stepped

pub returns-in-Ok-clause-exact : goal.returns-in-Ok-clause-exact
returns-in-Ok-clause-exact g c =
    let v = c.self.inside in
    let r = c.remove-flight.result in
    let found : position (λ (f : Flight). nat_eq f.number c.args.number) v.flights.items ≡ Some c.args.place = ap (λ (x : Volumed _). position (λ (f : Flight). nat_eq f.number c.args.number) x.flights) c.self.view_is ∙ c.requires.found in
    let inside = position_within (λ (f : Flight). nat_eq f.number c.args.number) v.flights.items c.args.place found in
    let was : r ≡ get_or v.flights.items c.args.place r = c.remove-flight.ensures.value in
    let route : r.route ≡ Store c.args.at = ap (λ (x : Flight). x.route) was ∙ ap (λ (x : Volumed _). (get_or x.flights c.args.place r).route) c.self.view_is ∙ c.requires.route r in
    let dev : r.request.dev ≡ AtOrigin = ap (λ (x : Flight). x.request.dev) was ∙ ap (λ (x : Volumed _). (get_or x.flights c.args.place r).request.dev) c.self.view_is ∙ c.requires.dev r in
    let m = c.in-Some.merge in
    let bytes : c.from_vec.result ≡ c.read_at.new.out = c.from_vec.ensures ∙ with_items_is r.room c.read_at.new.out (omega (arith, c.read_at.auto.out, c.as_mut_slice.ensures.len)) in
    let read = bytes ∙ c.in-Ok.ensures.data ∙ ap (λ n. sectors_at (g.B.Block.contents m.device) (m.state.chunk * c.args.at + r.request.range.first % n) r.request.range.count) c.chunk.ensures.is in
    let one = subst (λ n. IsOneOperation (Reads (m.state.chunk * c.args.at + r.request.range.first % n) r.request.range.count) true (g.B.Block.layers m.device) (g.B.Block.layers c.read_at.new.self.device) (g.B.Block.fault_count m.device) (g.B.Block.fault_count c.read_at.new.self.device) (g.B.Block.done_count m.device) (g.B.Block.done_count c.read_at.new.self.device)) c.chunk.ensures.is c.in-Ok.ensures.operation in
    rw (← c.self.view_is, c.remove-flight.ensures.items) (merging_read_exact g.B.Block.contents g.B.Block.layers g.B.Block.size _ c.self.invariant.whole c.args.number c.args.place r found was true _ _ _ _ _ c.args.at route dev m c.in-Some.is c.read_at.new.self c.read_at.ensures.fields c.in-Read.is one c.read_at.ensures.same (ap Data read))

pub invariant_of-self-in-Read : goal.invariant_of-self-in-Read
invariant_of-self-in-Read g c = record {
  whole =
      let v = c.self.inside in
      let r = c.remove-flight.result in
      let found : position (λ (f : Flight). nat_eq f.number c.args.number) v.flights.items ≡ Some c.args.place = ap (λ (x : Volumed _). position (λ (f : Flight). nat_eq f.number c.args.number) x.flights) c.self.view_is ∙ c.requires.found in
      let inside = position_within (λ (f : Flight). nat_eq f.number c.args.number) v.flights.items c.args.place found in
      let was : r ≡ get_or v.flights.items c.args.place r = c.remove-flight.ensures.value in
      let route : r.route ≡ Store c.args.at = ap (λ (x : Flight). x.route) was ∙ ap (λ (x : Volumed _). (get_or x.flights c.args.place r).route) c.self.view_is ∙ c.requires.route r in
      let dev : r.request.dev ≡ AtOrigin = ap (λ (x : Flight). x.request.dev) was ∙ ap (λ (x : Volumed _). (get_or x.flights c.args.place r).request.dev) c.self.view_is ∙ c.requires.dev r in
      let m = c.in-Some.merge in
      let good = merging_read_io g.B.Block.contents g.B.Block.layers g.B.Block.size g.B.Block.fault_count g.B.Block.done_count _ c.self.invariant.whole c.args.number c.args.place r found was c.args.at route dev m c.in-Some.is c.read_at.new.self c.read_at.new.self.device c.read_at.ensures.fields c.read_at.ensures.loud c.read_at.ensures.size c.in-Err.ensures.operation.counted c.in-Read.is c.read_at.ensures.same c.in-Err.ensures.operation.faulty in
      rw c.remove-flight.ensures.items good.whole;
  lasting =
      let v : Volumed g.row.B.Denot = record { origin = c.self.inside.origin; snaps = c.self.inside.snaps.items; merge = c.self.inside.merge; flights = c.self.inside.flights.items; requests = c.self.inside.requests; copies = c.self.inside.copies; attached = c.self.inside.attached } in
      let given = given_by (Issue c.args.number) (map in_flight v.flights) in
      let w : Volumed g.row.B.Denot = record v { merge = Some c.read_at.new.self; flights = remove v.flights c.args.place } in
      let goes = met_both g.B.Block.may_hold g.B.Block.contents g.B.Block.layers g.B.Block.size g.met.B.Block.whole g.met.B.Block.holds_now v c.self.invariant.whole c.self.invariant.lasting w c.read_at.new.self refl c.in-Some.merge c.in-Some.is (all_same v.snaps v.snaps refl) given refl (record { adds = c.read_at.ensures.adds; bytes = c.read_at.ensures.same; sectors = c.read_at.ensures.size; loud = c.read_at.ensures.loud }) c.read_at.ensures.fields in
      rw c.remove-flight.ensures.items (record { snaps = goes.lasts; merge = goes.merge });
}

pub returns-in-Read-clause-step : goal.returns-in-Read-clause-step
returns-in-Read-clause-step g c =
    let v = c.self.inside in
    let r = c.remove-flight.result in
    let found : position (λ (f : Flight). nat_eq f.number c.args.number) v.flights.items ≡ Some c.args.place = ap (λ (x : Volumed _). position (λ (f : Flight). nat_eq f.number c.args.number) x.flights) c.self.view_is ∙ c.requires.found in
    let inside = position_within (λ (f : Flight). nat_eq f.number c.args.number) v.flights.items c.args.place found in
    let was : r ≡ get_or v.flights.items c.args.place r = c.remove-flight.ensures.value in
    let route : r.route ≡ Store c.args.at = ap (λ (x : Flight). x.route) was ∙ ap (λ (x : Volumed _). (get_or x.flights c.args.place r).route) c.self.view_is ∙ c.requires.route r in
    let dev : r.request.dev ≡ AtOrigin = ap (λ (x : Flight). x.request.dev) was ∙ ap (λ (x : Volumed _). (get_or x.flights c.args.place r).request.dev) c.self.view_is ∙ c.requires.dev r in
    let m = c.in-Some.merge in
    let good = merging_read_io g.B.Block.contents g.B.Block.layers g.B.Block.size g.B.Block.fault_count g.B.Block.done_count _ c.self.invariant.whole c.args.number c.args.place r found was c.args.at route dev m c.in-Some.is c.read_at.new.self c.read_at.new.self.device c.read_at.ensures.fields c.read_at.ensures.loud c.read_at.ensures.size c.in-Err.ensures.operation.counted c.in-Read.is c.read_at.ensures.same c.in-Err.ensures.operation.faulty in
    rw (← c.self.view_is, c.remove-flight.ensures.items) good.stepped

pub returns-in-Read-clause-exact : goal.returns-in-Read-clause-exact
returns-in-Read-clause-exact g c =
    let v = c.self.inside in
    let r = c.remove-flight.result in
    let found : position (λ (f : Flight). nat_eq f.number c.args.number) v.flights.items ≡ Some c.args.place = ap (λ (x : Volumed _). position (λ (f : Flight). nat_eq f.number c.args.number) x.flights) c.self.view_is ∙ c.requires.found in
    let inside = position_within (λ (f : Flight). nat_eq f.number c.args.number) v.flights.items c.args.place found in
    let was : r ≡ get_or v.flights.items c.args.place r = c.remove-flight.ensures.value in
    let route : r.route ≡ Store c.args.at = ap (λ (x : Flight). x.route) was ∙ ap (λ (x : Volumed _). (get_or x.flights c.args.place r).route) c.self.view_is ∙ c.requires.route r in
    let dev : r.request.dev ≡ AtOrigin = ap (λ (x : Flight). x.request.dev) was ∙ ap (λ (x : Volumed _). (get_or x.flights c.args.place r).request.dev) c.self.view_is ∙ c.requires.dev r in
    let m = c.in-Some.merge in
    let one = subst (λ n. IsOneOperation (Reads (m.state.chunk * c.args.at + r.request.range.first % n) r.request.range.count) false (g.B.Block.layers m.device) (g.B.Block.layers c.read_at.new.self.device) (g.B.Block.fault_count m.device) (g.B.Block.fault_count c.read_at.new.self.device) (g.B.Block.done_count m.device) (g.B.Block.done_count c.read_at.new.self.device)) c.chunk.ensures.is c.in-Err.ensures.operation in
    rw (← c.self.view_is, c.remove-flight.ensures.items) (merging_read_exact g.B.Block.contents g.B.Block.layers g.B.Block.size _ c.self.invariant.whole c.args.number c.args.place r found was false _ _ _ _ _ c.args.at route dev m c.in-Some.is c.read_at.new.self c.read_at.ensures.fields c.in-Read.is one c.read_at.ensures.same refl)

pub write_at-requires-clause-placed : goal.write_at-requires-clause-placed
write_at-requires-clause-placed g c =
    let v = c.self.inside in
    let r = c.remove-flight.result in
    let found : position (λ (f : Flight). nat_eq f.number c.args.number) v.flights.items ≡ Some c.args.place = ap (λ (x : Volumed _). position (λ (f : Flight). nat_eq f.number c.args.number) x.flights) c.self.view_is ∙ c.requires.found in
    let inside = position_within (λ (f : Flight). nat_eq f.number c.args.number) v.flights.items c.args.place found in
    let was : r ≡ get_or v.flights.items c.args.place r = c.remove-flight.ensures.value in
    let route : r.route ≡ Store c.args.at = ap (λ (x : Flight). x.route) was ∙ ap (λ (x : Volumed _). (get_or x.flights c.args.place r).route) c.self.view_is ∙ c.requires.route r in
    let dev : r.request.dev ≡ AtOrigin = ap (λ (x : Flight). x.request.dev) was ∙ ap (λ (x : Volumed _). (get_or x.flights c.args.place r).request.dev) c.self.view_is ∙ c.requires.dev r in
    let m = c.in-Some.merge in
    write_placed g.B.Block.contents g.B.Block.layers g.B.Block.size g.B.Block.fault_count g.B.Block.done_count _ c.self.invariant.whole c.args.number c.args.place r found was c.args.at route dev m c.in-Some.is c.in-Write.bytes c.in-Write.is

pub write_at-requires-clause-some : goal.write_at-requires-clause-some
write_at-requires-clause-some g c =
    let v = c.self.inside in
    let r = c.remove-flight.result in
    let found : position (λ (f : Flight). nat_eq f.number c.args.number) v.flights.items ≡ Some c.args.place = ap (λ (x : Volumed _). position (λ (f : Flight). nat_eq f.number c.args.number) x.flights) c.self.view_is ∙ c.requires.found in
    let inside = position_within (λ (f : Flight). nat_eq f.number c.args.number) v.flights.items c.args.place found in
    let was : r ≡ get_or v.flights.items c.args.place r = c.remove-flight.ensures.value in
    let request = request_at g.B.Block.contents g.B.Block.layers g.B.Block.size _ c.self.invariant.whole c.args.place r inside was in
    request.some

pub write_at-requires-clause-part : goal.write_at-requires-clause-part
write_at-requires-clause-part g c =
    let v = c.self.inside in
    let r = c.remove-flight.result in
    let found : position (λ (f : Flight). nat_eq f.number c.args.number) v.flights.items ≡ Some c.args.place = ap (λ (x : Volumed _). position (λ (f : Flight). nat_eq f.number c.args.number) x.flights) c.self.view_is ∙ c.requires.found in
    let inside = position_within (λ (f : Flight). nat_eq f.number c.args.number) v.flights.items c.args.place found in
    let was : r ≡ get_or v.flights.items c.args.place r = c.remove-flight.ensures.value in
    let route : r.route ≡ Store c.args.at = ap (λ (x : Flight). x.route) was ∙ ap (λ (x : Volumed _). (get_or x.flights c.args.place r).route) c.self.view_is ∙ c.requires.route r in
    let dev : r.request.dev ≡ AtOrigin = ap (λ (x : Flight). x.request.dev) was ∙ ap (λ (x : Volumed _). (get_or x.flights c.args.place r).request.dev) c.self.view_is ∙ c.requires.dev r in
    let m = c.in-Some.merge in
    rw c.chunk.ensures.is (lies_within g.B.Block.contents g.B.Block.layers g.B.Block.size g.B.Block.fault_count g.B.Block.done_count _ c.self.invariant.whole c.args.number c.args.place r found was c.args.at route dev m c.in-Some.is)

pub write_at-requires-clause-room : goal.write_at-requires-clause-room
write_at-requires-clause-room g c =
    let v = c.self.inside in
    let r = c.remove-flight.result in
    let found : position (λ (f : Flight). nat_eq f.number c.args.number) v.flights.items ≡ Some c.args.place = ap (λ (x : Volumed _). position (λ (f : Flight). nat_eq f.number c.args.number) x.flights) c.self.view_is ∙ c.requires.found in
    let inside = position_within (λ (f : Flight). nat_eq f.number c.args.number) v.flights.items c.args.place found in
    let was : r ≡ get_or v.flights.items c.args.place r = c.remove-flight.ensures.value in
    let request = request_at g.B.Block.contents g.B.Block.layers g.B.Block.size _ c.self.invariant.whole c.args.place r inside was in
    ap length c.as_slice.ensures ∙ request.bytes c.in-Write.bytes c.in-Write.is

pub invariant_of-self-in-Ok-write_at : goal.invariant_of-self-in-Ok-write_at
invariant_of-self-in-Ok-write_at g c = record {
  whole =
      let v = c.self.inside in
      let r = c.remove-flight.result in
      let found : position (λ (f : Flight). nat_eq f.number c.args.number) v.flights.items ≡ Some c.args.place = ap (λ (x : Volumed _). position (λ (f : Flight). nat_eq f.number c.args.number) x.flights) c.self.view_is ∙ c.requires.found in
      let inside = position_within (λ (f : Flight). nat_eq f.number c.args.number) v.flights.items c.args.place found in
      let was : r ≡ get_or v.flights.items c.args.place r = c.remove-flight.ensures.value in
      let route : r.route ≡ Store c.args.at = ap (λ (x : Flight). x.route) was ∙ ap (λ (x : Volumed _). (get_or x.flights c.args.place r).route) c.self.view_is ∙ c.requires.route r in
      let dev : r.request.dev ≡ AtOrigin = ap (λ (x : Flight). x.request.dev) was ∙ ap (λ (x : Volumed _). (get_or x.flights c.args.place r).request.dev) c.self.view_is ∙ c.requires.dev r in
      let m = c.in-Some.merge in
      let wrote = λ (l : Bool) (louder : l ≡ true → is_loud (g.B.Block.layers m.device) ≡ true). subst (λ n. WritesPlaceOf c.args.at (r.request.range.first % n) c.in-Write.bytes (books_of g.B.Block.contents l m) (books_of g.B.Block.contents l c.write_at.new.self)) c.chunk.ensures.is
      (subst (λ (b : List ℕ). WritesPlaceOf c.args.at (r.request.range.first % c.chunk.result) b (books_of g.B.Block.contents l m) (books_of g.B.Block.contents l c.write_at.new.self)) c.as_slice.ensures (c.in-Ok-write_at.ensures.writes l louder).1) in
      let good = merging_write g.B.Block.contents g.B.Block.layers g.B.Block.size g.B.Block.fault_count g.B.Block.done_count _ c.self.invariant.whole c.args.number c.args.place r found was c.args.at route dev m c.in-Some.is c.write_at.new.self c.write_at.new.self.device c.write_at.ensures.fields c.write_at.ensures.loud c.write_at.ensures.size c.in-Ok-write_at.ensures.operation.counted c.in-Write.bytes c.in-Write.is wrote c.in-Ok-write_at.ensures.operation.faulty in
      rw c.remove-flight.ensures.items good.whole;
  lasting =
      let v : Volumed g.row.B.Denot = record { origin = c.self.inside.origin; snaps = c.self.inside.snaps.items; merge = c.self.inside.merge; flights = c.self.inside.flights.items; requests = c.self.inside.requests; copies = c.self.inside.copies; attached = c.self.inside.attached } in
      let r = c.remove-flight.result in
      let found : position (λ (f : Flight). nat_eq f.number c.args.number) v.flights ≡ Some c.args.place = ap (λ (x : Volumed _). position (λ (f : Flight). nat_eq f.number c.args.number) x.flights) c.self.view_is ∙ c.requires.found in
      let inside = position_within (λ (f : Flight). nat_eq f.number c.args.number) v.flights c.args.place found in
      let was : r ≡ get_or v.flights c.args.place r = c.remove-flight.ensures.value in
      let route : r.route ≡ Store c.args.at = ap (λ (x : Flight). x.route) was ∙ ap (λ (x : Volumed _). (get_or x.flights c.args.place r).route) c.self.view_is ∙ c.requires.route r in
      let dev : r.request.dev ≡ AtOrigin = ap (λ (x : Flight). x.request.dev) was ∙ ap (λ (x : Volumed _). (get_or x.flights c.args.place r).request.dev) c.self.view_is ∙ c.requires.dev r in
      let m = c.in-Some.merge in
      let wrote = λ (l : Bool) (louder : l ≡ true → is_loud (g.B.Block.layers m.device) ≡ true). subst (λ n. WritesPlaceOf c.args.at (r.request.range.first % n) c.in-Write.bytes (books_of g.B.Block.contents l m) (books_of g.B.Block.contents l c.write_at.new.self)) c.chunk.ensures.is (subst (λ (b : List ℕ). WritesPlaceOf c.args.at (r.request.range.first % c.chunk.result) b (books_of g.B.Block.contents l m) (books_of g.B.Block.contents l c.write_at.new.self)) c.as_slice.ensures (c.in-Ok-write_at.ensures.writes l louder).1) in
      let given = given_by (Issue c.args.number) (map in_flight v.flights) in
      let w : Volumed g.row.B.Denot = record v { merge = Some c.write_at.new.self; flights = remove v.flights c.args.place } in
      let told : given ≡ given_as r.request.dev r.request.range r.request.op = ap given_in (asked_first c.args.number c.args.place r v.flights found was) in
      let array = merging_issued g.B.Block.may_hold g.B.Block.contents g.B.Block.layers g.B.Block.size g.met.B.Block.whole g.met.B.Block.holds_now v c.self.invariant.whole c.self.invariant.lasting.merge c.args.place r inside was c.in-Write.bytes c.in-Write.is c.args.at route dev m c.write_at.new.self c.in-Some.is (record { adds = c.write_at.ensures.adds; sectors = c.write_at.ensures.size; loud = c.write_at.ensures.loud }) c.write_at.ensures.fields (λ lm. (wrote true (λ _. lm)).written refl) in
      let goes = placed_both g.B.Block.may_hold g.B.Block.contents g.B.Block.layers g.B.Block.size g.met.B.Block.whole g.met.B.Block.holds_now v c.self.invariant.whole c.self.invariant.lasting w c.write_at.new.self refl m c.in-Some.is (all_same v.snaps v.snaps refl) given refl (subst (λ z. GoesBy g.B.Block.may_hold g.B.Block.contents g.B.Block.layers g.B.Block.size g.met.B.Block.whole g.met.B.Block.holds_now z v.origin v.origin v.merge (Some c.write_at.new.self)) (sym told) array) in
      rw c.remove-flight.ensures.items (record { snaps = goes.lasts; merge = goes.merge });
}

pub returns-in-Ok-write_at-clause-step : goal.returns-in-Ok-write_at-clause-step
returns-in-Ok-write_at-clause-step g c =
    let v = c.self.inside in
    let r = c.remove-flight.result in
    let found : position (λ (f : Flight). nat_eq f.number c.args.number) v.flights.items ≡ Some c.args.place = ap (λ (x : Volumed _). position (λ (f : Flight). nat_eq f.number c.args.number) x.flights) c.self.view_is ∙ c.requires.found in
    let inside = position_within (λ (f : Flight). nat_eq f.number c.args.number) v.flights.items c.args.place found in
    let was : r ≡ get_or v.flights.items c.args.place r = c.remove-flight.ensures.value in
    let route : r.route ≡ Store c.args.at = ap (λ (x : Flight). x.route) was ∙ ap (λ (x : Volumed _). (get_or x.flights c.args.place r).route) c.self.view_is ∙ c.requires.route r in
    let dev : r.request.dev ≡ AtOrigin = ap (λ (x : Flight). x.request.dev) was ∙ ap (λ (x : Volumed _). (get_or x.flights c.args.place r).request.dev) c.self.view_is ∙ c.requires.dev r in
    let m = c.in-Some.merge in
    let wrote = λ (l : Bool) (louder : l ≡ true → is_loud (g.B.Block.layers m.device) ≡ true). subst (λ n. WritesPlaceOf c.args.at (r.request.range.first % n) c.in-Write.bytes (books_of g.B.Block.contents l m) (books_of g.B.Block.contents l c.write_at.new.self)) c.chunk.ensures.is
    (subst (λ (b : List ℕ). WritesPlaceOf c.args.at (r.request.range.first % c.chunk.result) b (books_of g.B.Block.contents l m) (books_of g.B.Block.contents l c.write_at.new.self)) c.as_slice.ensures (c.in-Ok-write_at.ensures.writes l louder).1) in
    let good = merging_write g.B.Block.contents g.B.Block.layers g.B.Block.size g.B.Block.fault_count g.B.Block.done_count _ c.self.invariant.whole c.args.number c.args.place r found was c.args.at route dev m c.in-Some.is c.write_at.new.self c.write_at.new.self.device c.write_at.ensures.fields c.write_at.ensures.loud c.write_at.ensures.size c.in-Ok-write_at.ensures.operation.counted c.in-Write.bytes c.in-Write.is wrote c.in-Ok-write_at.ensures.operation.faulty in
    rw (← c.self.view_is, c.remove-flight.ensures.items) good.stepped

pub returns-in-Ok-write_at-clause-exact : goal.returns-in-Ok-write_at-clause-exact
returns-in-Ok-write_at-clause-exact g c =
    let v = c.self.inside in
    let r = c.remove-flight.result in
    let found : position (λ (f : Flight). nat_eq f.number c.args.number) v.flights.items ≡ Some c.args.place = ap (λ (x : Volumed _). position (λ (f : Flight). nat_eq f.number c.args.number) x.flights) c.self.view_is ∙ c.requires.found in
    let inside = position_within (λ (f : Flight). nat_eq f.number c.args.number) v.flights.items c.args.place found in
    let was : r ≡ get_or v.flights.items c.args.place r = c.remove-flight.ensures.value in
    let route : r.route ≡ Store c.args.at = ap (λ (x : Flight). x.route) was ∙ ap (λ (x : Volumed _). (get_or x.flights c.args.place r).route) c.self.view_is ∙ c.requires.route r in
    let dev : r.request.dev ≡ AtOrigin = ap (λ (x : Flight). x.request.dev) was ∙ ap (λ (x : Volumed _). (get_or x.flights c.args.place r).request.dev) c.self.view_is ∙ c.requires.dev r in
    let m = c.in-Some.merge in
    let wrote = λ (l : Bool) (louder : l ≡ true → is_loud (g.B.Block.layers m.device) ≡ true). subst (λ n. WritesPlaceOf c.args.at (r.request.range.first % n) c.in-Write.bytes (books_of g.B.Block.contents l m) (books_of g.B.Block.contents l c.write_at.new.self)) c.chunk.ensures.is
    (subst (λ (b : List ℕ). WritesPlaceOf c.args.at (r.request.range.first % c.chunk.result) b (books_of g.B.Block.contents l m) (books_of g.B.Block.contents l c.write_at.new.self)) c.as_slice.ensures (c.in-Ok-write_at.ensures.writes l louder).1) in
    let one = subst (λ n. IsOneOperation (Writes (m.state.chunk * c.args.at + r.request.range.first % n) r.request.range.count) true (g.B.Block.layers m.device) (g.B.Block.layers c.write_at.new.self.device) (g.B.Block.fault_count m.device) (g.B.Block.fault_count c.write_at.new.self.device) (g.B.Block.done_count m.device) (g.B.Block.done_count c.write_at.new.self.device)) c.chunk.ensures.is c.in-Ok-write_at.ensures.operation in
    rw (← c.self.view_is, c.remove-flight.ensures.items) (merging_write_exact g.B.Block.contents g.B.Block.layers g.B.Block.size _ c.self.invariant.whole c.args.number c.args.place r found was true _ _ _ _ _ c.args.at route dev m c.in-Some.is c.write_at.new.self c.write_at.ensures.fields c.in-Write.bytes c.in-Write.is one (λ loud. (wrote (is_loud (g.B.Block.layers m.device)) (λ e. e)).written loud) refl)

pub invariant_of-self-in-Write : goal.invariant_of-self-in-Write
invariant_of-self-in-Write g c = record {
  whole =
      let v = c.self.inside in
      let r = c.remove-flight.result in
      let found : position (λ (f : Flight). nat_eq f.number c.args.number) v.flights.items ≡ Some c.args.place = ap (λ (x : Volumed _). position (λ (f : Flight). nat_eq f.number c.args.number) x.flights) c.self.view_is ∙ c.requires.found in
      let inside = position_within (λ (f : Flight). nat_eq f.number c.args.number) v.flights.items c.args.place found in
      let was : r ≡ get_or v.flights.items c.args.place r = c.remove-flight.ensures.value in
      let route : r.route ≡ Store c.args.at = ap (λ (x : Flight). x.route) was ∙ ap (λ (x : Volumed _). (get_or x.flights c.args.place r).route) c.self.view_is ∙ c.requires.route r in
      let dev : r.request.dev ≡ AtOrigin = ap (λ (x : Flight). x.request.dev) was ∙ ap (λ (x : Volumed _). (get_or x.flights c.args.place r).request.dev) c.self.view_is ∙ c.requires.dev r in
      let m = c.in-Some.merge in
      let good = merging_write_io g.B.Block.contents g.B.Block.layers g.B.Block.size g.B.Block.fault_count g.B.Block.done_count _ c.self.invariant.whole c.args.number c.args.place r found was c.args.at route dev m c.in-Some.is c.write_at.new.self c.write_at.new.self.device c.write_at.ensures.fields c.write_at.ensures.loud c.write_at.ensures.size c.in-Err-write_at.ensures.operation.counted c.in-Write.bytes c.in-Write.is c.in-Err-write_at.ensures.same c.in-Err-write_at.ensures.operation.faulty in
      rw c.remove-flight.ensures.items good.whole;
  lasting =
      let v : Volumed g.row.B.Denot = record { origin = c.self.inside.origin; snaps = c.self.inside.snaps.items; merge = c.self.inside.merge; flights = c.self.inside.flights.items; requests = c.self.inside.requests; copies = c.self.inside.copies; attached = c.self.inside.attached } in
      let given = given_by (Issue c.args.number) (map in_flight v.flights) in
      let w : Volumed g.row.B.Denot = record v { merge = Some c.write_at.new.self; flights = remove v.flights c.args.place } in
      let goes = met_both g.B.Block.may_hold g.B.Block.contents g.B.Block.layers g.B.Block.size g.met.B.Block.whole g.met.B.Block.holds_now v c.self.invariant.whole c.self.invariant.lasting w c.write_at.new.self refl c.in-Some.merge c.in-Some.is (all_same v.snaps v.snaps refl) given refl (record { adds = c.write_at.ensures.adds; bytes = c.in-Err-write_at.ensures.same; sectors = c.write_at.ensures.size; loud = c.write_at.ensures.loud }) c.write_at.ensures.fields in
      rw c.remove-flight.ensures.items (record { snaps = goes.lasts; merge = goes.merge });
}

pub returns-in-Write-clause-step : goal.returns-in-Write-clause-step
returns-in-Write-clause-step g c =
    let v = c.self.inside in
    let r = c.remove-flight.result in
    let found : position (λ (f : Flight). nat_eq f.number c.args.number) v.flights.items ≡ Some c.args.place = ap (λ (x : Volumed _). position (λ (f : Flight). nat_eq f.number c.args.number) x.flights) c.self.view_is ∙ c.requires.found in
    let inside = position_within (λ (f : Flight). nat_eq f.number c.args.number) v.flights.items c.args.place found in
    let was : r ≡ get_or v.flights.items c.args.place r = c.remove-flight.ensures.value in
    let route : r.route ≡ Store c.args.at = ap (λ (x : Flight). x.route) was ∙ ap (λ (x : Volumed _). (get_or x.flights c.args.place r).route) c.self.view_is ∙ c.requires.route r in
    let dev : r.request.dev ≡ AtOrigin = ap (λ (x : Flight). x.request.dev) was ∙ ap (λ (x : Volumed _). (get_or x.flights c.args.place r).request.dev) c.self.view_is ∙ c.requires.dev r in
    let m = c.in-Some.merge in
    let good = merging_write_io g.B.Block.contents g.B.Block.layers g.B.Block.size g.B.Block.fault_count g.B.Block.done_count _ c.self.invariant.whole c.args.number c.args.place r found was c.args.at route dev m c.in-Some.is c.write_at.new.self c.write_at.new.self.device c.write_at.ensures.fields c.write_at.ensures.loud c.write_at.ensures.size c.in-Err-write_at.ensures.operation.counted c.in-Write.bytes c.in-Write.is c.in-Err-write_at.ensures.same c.in-Err-write_at.ensures.operation.faulty in
    rw (← c.self.view_is, c.remove-flight.ensures.items) good.stepped

pub returns-in-Write-clause-exact : goal.returns-in-Write-clause-exact
returns-in-Write-clause-exact g c =
    let v = c.self.inside in
    let r = c.remove-flight.result in
    let found : position (λ (f : Flight). nat_eq f.number c.args.number) v.flights.items ≡ Some c.args.place = ap (λ (x : Volumed _). position (λ (f : Flight). nat_eq f.number c.args.number) x.flights) c.self.view_is ∙ c.requires.found in
    let inside = position_within (λ (f : Flight). nat_eq f.number c.args.number) v.flights.items c.args.place found in
    let was : r ≡ get_or v.flights.items c.args.place r = c.remove-flight.ensures.value in
    let route : r.route ≡ Store c.args.at = ap (λ (x : Flight). x.route) was ∙ ap (λ (x : Volumed _). (get_or x.flights c.args.place r).route) c.self.view_is ∙ c.requires.route r in
    let dev : r.request.dev ≡ AtOrigin = ap (λ (x : Flight). x.request.dev) was ∙ ap (λ (x : Volumed _). (get_or x.flights c.args.place r).request.dev) c.self.view_is ∙ c.requires.dev r in
    let m = c.in-Some.merge in
    let one = subst (λ n. IsOneOperation (Writes (m.state.chunk * c.args.at + r.request.range.first % n) r.request.range.count) false (g.B.Block.layers m.device) (g.B.Block.layers c.write_at.new.self.device) (g.B.Block.fault_count m.device) (g.B.Block.fault_count c.write_at.new.self.device) (g.B.Block.done_count m.device) (g.B.Block.done_count c.write_at.new.self.device)) c.chunk.ensures.is c.in-Err-write_at.ensures.operation in
    rw (← c.self.view_is, c.remove-flight.ensures.items) (merging_write_exact g.B.Block.contents g.B.Block.layers g.B.Block.size _ c.self.invariant.whole c.args.number c.args.place r found was false _ _ _ _ _ c.args.at route dev m c.in-Some.is c.write_at.new.self c.write_at.ensures.fields c.in-Write.bytes c.in-Write.is one (λ loud. c.in-Err-write_at.ensures.same) refl)

pub returns-in-Ok-clause-stops_snaps : goal.returns-in-Ok-clause-stops_snaps
returns-in-Ok-clause-stops_snaps g c =
    let v : Volumed g.row.B.Denot = record { origin = c.self.inside.origin; snaps = c.self.inside.snaps.items; merge = c.self.inside.merge; flights = c.self.inside.flights.items; requests = c.self.inside.requests; copies = c.self.inside.copies; attached = c.self.inside.attached } in
    let given = given_by (Issue c.args.number) (map in_flight v.flights) in
    let w : Volumed g.row.B.Denot = record v { merge = Some c.read_at.new.self; flights = remove v.flights c.args.place } in
    let goes = met_both g.B.Block.may_hold g.B.Block.contents g.B.Block.layers g.B.Block.size g.met.B.Block.whole g.met.B.Block.holds_now v c.self.invariant.whole c.self.invariant.lasting w c.read_at.new.self refl c.in-Some.merge c.in-Some.is (all_same v.snaps v.snaps refl) given refl (record { adds = c.read_at.ensures.adds; bytes = c.read_at.ensures.same; sectors = c.read_at.ensures.size; loud = c.read_at.ensures.loud }) c.read_at.ensures.fields in
    rw (← c.self.view_is) goes.stops_snaps

pub returns-in-Ok-clause-stops_origin : goal.returns-in-Ok-clause-stops_origin
returns-in-Ok-clause-stops_origin g c =
    let v : Volumed g.row.B.Denot = record { origin = c.self.inside.origin; snaps = c.self.inside.snaps.items; merge = c.self.inside.merge; flights = c.self.inside.flights.items; requests = c.self.inside.requests; copies = c.self.inside.copies; attached = c.self.inside.attached } in
    let given = given_by (Issue c.args.number) (map in_flight v.flights) in
    let w : Volumed g.row.B.Denot = record v { merge = Some c.read_at.new.self; flights = remove v.flights c.args.place } in
    let goes = met_both g.B.Block.may_hold g.B.Block.contents g.B.Block.layers g.B.Block.size g.met.B.Block.whole g.met.B.Block.holds_now v c.self.invariant.whole c.self.invariant.lasting w c.read_at.new.self refl c.in-Some.merge c.in-Some.is (all_same v.snaps v.snaps refl) given refl (record { adds = c.read_at.ensures.adds; bytes = c.read_at.ensures.same; sectors = c.read_at.ensures.size; loud = c.read_at.ensures.loud }) c.read_at.ensures.fields in
    rw (← c.self.view_is) goes.stops_origin

pub returns-in-Read-clause-stops_snaps : goal.returns-in-Read-clause-stops_snaps
returns-in-Read-clause-stops_snaps g c =
    let v : Volumed g.row.B.Denot = record { origin = c.self.inside.origin; snaps = c.self.inside.snaps.items; merge = c.self.inside.merge; flights = c.self.inside.flights.items; requests = c.self.inside.requests; copies = c.self.inside.copies; attached = c.self.inside.attached } in
    let given = given_by (Issue c.args.number) (map in_flight v.flights) in
    let w : Volumed g.row.B.Denot = record v { merge = Some c.read_at.new.self; flights = remove v.flights c.args.place } in
    let goes = met_both g.B.Block.may_hold g.B.Block.contents g.B.Block.layers g.B.Block.size g.met.B.Block.whole g.met.B.Block.holds_now v c.self.invariant.whole c.self.invariant.lasting w c.read_at.new.self refl c.in-Some.merge c.in-Some.is (all_same v.snaps v.snaps refl) given refl (record { adds = c.read_at.ensures.adds; bytes = c.read_at.ensures.same; sectors = c.read_at.ensures.size; loud = c.read_at.ensures.loud }) c.read_at.ensures.fields in
    rw (← c.self.view_is) goes.stops_snaps

pub returns-in-Read-clause-stops_origin : goal.returns-in-Read-clause-stops_origin
returns-in-Read-clause-stops_origin g c =
    let v : Volumed g.row.B.Denot = record { origin = c.self.inside.origin; snaps = c.self.inside.snaps.items; merge = c.self.inside.merge; flights = c.self.inside.flights.items; requests = c.self.inside.requests; copies = c.self.inside.copies; attached = c.self.inside.attached } in
    let given = given_by (Issue c.args.number) (map in_flight v.flights) in
    let w : Volumed g.row.B.Denot = record v { merge = Some c.read_at.new.self; flights = remove v.flights c.args.place } in
    let goes = met_both g.B.Block.may_hold g.B.Block.contents g.B.Block.layers g.B.Block.size g.met.B.Block.whole g.met.B.Block.holds_now v c.self.invariant.whole c.self.invariant.lasting w c.read_at.new.self refl c.in-Some.merge c.in-Some.is (all_same v.snaps v.snaps refl) given refl (record { adds = c.read_at.ensures.adds; bytes = c.read_at.ensures.same; sectors = c.read_at.ensures.size; loud = c.read_at.ensures.loud }) c.read_at.ensures.fields in
    rw (← c.self.view_is) goes.stops_origin

pub returns-in-Write-clause-stops_snaps : goal.returns-in-Write-clause-stops_snaps
returns-in-Write-clause-stops_snaps g c =
    let v : Volumed g.row.B.Denot = record { origin = c.self.inside.origin; snaps = c.self.inside.snaps.items; merge = c.self.inside.merge; flights = c.self.inside.flights.items; requests = c.self.inside.requests; copies = c.self.inside.copies; attached = c.self.inside.attached } in
    let given = given_by (Issue c.args.number) (map in_flight v.flights) in
    let w : Volumed g.row.B.Denot = record v { merge = Some c.write_at.new.self; flights = remove v.flights c.args.place } in
    let goes = met_both g.B.Block.may_hold g.B.Block.contents g.B.Block.layers g.B.Block.size g.met.B.Block.whole g.met.B.Block.holds_now v c.self.invariant.whole c.self.invariant.lasting w c.write_at.new.self refl c.in-Some.merge c.in-Some.is (all_same v.snaps v.snaps refl) given refl (record { adds = c.write_at.ensures.adds; bytes = c.in-Err-write_at.ensures.same; sectors = c.write_at.ensures.size; loud = c.write_at.ensures.loud }) c.write_at.ensures.fields in
    rw (← c.self.view_is) goes.stops_snaps

pub returns-in-Write-clause-stops_origin : goal.returns-in-Write-clause-stops_origin
returns-in-Write-clause-stops_origin g c =
    let v : Volumed g.row.B.Denot = record { origin = c.self.inside.origin; snaps = c.self.inside.snaps.items; merge = c.self.inside.merge; flights = c.self.inside.flights.items; requests = c.self.inside.requests; copies = c.self.inside.copies; attached = c.self.inside.attached } in
    let given = given_by (Issue c.args.number) (map in_flight v.flights) in
    let w : Volumed g.row.B.Denot = record v { merge = Some c.write_at.new.self; flights = remove v.flights c.args.place } in
    let goes = met_both g.B.Block.may_hold g.B.Block.contents g.B.Block.layers g.B.Block.size g.met.B.Block.whole g.met.B.Block.holds_now v c.self.invariant.whole c.self.invariant.lasting w c.write_at.new.self refl c.in-Some.merge c.in-Some.is (all_same v.snaps v.snaps refl) given refl (record { adds = c.write_at.ensures.adds; bytes = c.in-Err-write_at.ensures.same; sectors = c.write_at.ensures.size; loud = c.write_at.ensures.loud }) c.write_at.ensures.fields in
    rw (← c.self.view_is) goes.stops_origin

pub returns-in-Ok-write_at-clause-stops_snaps : goal.returns-in-Ok-write_at-clause-stops_snaps
returns-in-Ok-write_at-clause-stops_snaps g c =
    let v : Volumed g.row.B.Denot = record { origin = c.self.inside.origin; snaps = c.self.inside.snaps.items; merge = c.self.inside.merge; flights = c.self.inside.flights.items; requests = c.self.inside.requests; copies = c.self.inside.copies; attached = c.self.inside.attached } in
    let r = c.remove-flight.result in
    let found : position (λ (f : Flight). nat_eq f.number c.args.number) v.flights ≡ Some c.args.place = ap (λ (x : Volumed _). position (λ (f : Flight). nat_eq f.number c.args.number) x.flights) c.self.view_is ∙ c.requires.found in
    let inside = position_within (λ (f : Flight). nat_eq f.number c.args.number) v.flights c.args.place found in
    let was : r ≡ get_or v.flights c.args.place r = c.remove-flight.ensures.value in
    let route : r.route ≡ Store c.args.at = ap (λ (x : Flight). x.route) was ∙ ap (λ (x : Volumed _). (get_or x.flights c.args.place r).route) c.self.view_is ∙ c.requires.route r in
    let dev : r.request.dev ≡ AtOrigin = ap (λ (x : Flight). x.request.dev) was ∙ ap (λ (x : Volumed _). (get_or x.flights c.args.place r).request.dev) c.self.view_is ∙ c.requires.dev r in
    let m = c.in-Some.merge in
    let wrote = λ (l : Bool) (louder : l ≡ true → is_loud (g.B.Block.layers m.device) ≡ true). subst (λ n. WritesPlaceOf c.args.at (r.request.range.first % n) c.in-Write.bytes (books_of g.B.Block.contents l m) (books_of g.B.Block.contents l c.write_at.new.self)) c.chunk.ensures.is (subst (λ (b : List ℕ). WritesPlaceOf c.args.at (r.request.range.first % c.chunk.result) b (books_of g.B.Block.contents l m) (books_of g.B.Block.contents l c.write_at.new.self)) c.as_slice.ensures (c.in-Ok-write_at.ensures.writes l louder).1) in
    let given = given_by (Issue c.args.number) (map in_flight v.flights) in
    let w : Volumed g.row.B.Denot = record v { merge = Some c.write_at.new.self; flights = remove v.flights c.args.place } in
    let told : given ≡ given_as r.request.dev r.request.range r.request.op = ap given_in (asked_first c.args.number c.args.place r v.flights found was) in
    let array = merging_issued g.B.Block.may_hold g.B.Block.contents g.B.Block.layers g.B.Block.size g.met.B.Block.whole g.met.B.Block.holds_now v c.self.invariant.whole c.self.invariant.lasting.merge c.args.place r inside was c.in-Write.bytes c.in-Write.is c.args.at route dev m c.write_at.new.self c.in-Some.is (record { adds = c.write_at.ensures.adds; sectors = c.write_at.ensures.size; loud = c.write_at.ensures.loud }) c.write_at.ensures.fields (λ lm. (wrote true (λ _. lm)).written refl) in
    let goes = placed_both g.B.Block.may_hold g.B.Block.contents g.B.Block.layers g.B.Block.size g.met.B.Block.whole g.met.B.Block.holds_now v c.self.invariant.whole c.self.invariant.lasting w c.write_at.new.self refl m c.in-Some.is (all_same v.snaps v.snaps refl) given refl (subst (λ z. GoesBy g.B.Block.may_hold g.B.Block.contents g.B.Block.layers g.B.Block.size g.met.B.Block.whole g.met.B.Block.holds_now z v.origin v.origin v.merge (Some c.write_at.new.self)) (sym told) array) in
    rw (← c.self.view_is) goes.stops_snaps

pub returns-in-Ok-write_at-clause-stops_origin : goal.returns-in-Ok-write_at-clause-stops_origin
returns-in-Ok-write_at-clause-stops_origin g c =
    let v : Volumed g.row.B.Denot = record { origin = c.self.inside.origin; snaps = c.self.inside.snaps.items; merge = c.self.inside.merge; flights = c.self.inside.flights.items; requests = c.self.inside.requests; copies = c.self.inside.copies; attached = c.self.inside.attached } in
    let r = c.remove-flight.result in
    let found : position (λ (f : Flight). nat_eq f.number c.args.number) v.flights ≡ Some c.args.place = ap (λ (x : Volumed _). position (λ (f : Flight). nat_eq f.number c.args.number) x.flights) c.self.view_is ∙ c.requires.found in
    let inside = position_within (λ (f : Flight). nat_eq f.number c.args.number) v.flights c.args.place found in
    let was : r ≡ get_or v.flights c.args.place r = c.remove-flight.ensures.value in
    let route : r.route ≡ Store c.args.at = ap (λ (x : Flight). x.route) was ∙ ap (λ (x : Volumed _). (get_or x.flights c.args.place r).route) c.self.view_is ∙ c.requires.route r in
    let dev : r.request.dev ≡ AtOrigin = ap (λ (x : Flight). x.request.dev) was ∙ ap (λ (x : Volumed _). (get_or x.flights c.args.place r).request.dev) c.self.view_is ∙ c.requires.dev r in
    let m = c.in-Some.merge in
    let wrote = λ (l : Bool) (louder : l ≡ true → is_loud (g.B.Block.layers m.device) ≡ true). subst (λ n. WritesPlaceOf c.args.at (r.request.range.first % n) c.in-Write.bytes (books_of g.B.Block.contents l m) (books_of g.B.Block.contents l c.write_at.new.self)) c.chunk.ensures.is (subst (λ (b : List ℕ). WritesPlaceOf c.args.at (r.request.range.first % c.chunk.result) b (books_of g.B.Block.contents l m) (books_of g.B.Block.contents l c.write_at.new.self)) c.as_slice.ensures (c.in-Ok-write_at.ensures.writes l louder).1) in
    let given = given_by (Issue c.args.number) (map in_flight v.flights) in
    let w : Volumed g.row.B.Denot = record v { merge = Some c.write_at.new.self; flights = remove v.flights c.args.place } in
    let told : given ≡ given_as r.request.dev r.request.range r.request.op = ap given_in (asked_first c.args.number c.args.place r v.flights found was) in
    let array = merging_issued g.B.Block.may_hold g.B.Block.contents g.B.Block.layers g.B.Block.size g.met.B.Block.whole g.met.B.Block.holds_now v c.self.invariant.whole c.self.invariant.lasting.merge c.args.place r inside was c.in-Write.bytes c.in-Write.is c.args.at route dev m c.write_at.new.self c.in-Some.is (record { adds = c.write_at.ensures.adds; sectors = c.write_at.ensures.size; loud = c.write_at.ensures.loud }) c.write_at.ensures.fields (λ lm. (wrote true (λ _. lm)).written refl) in
    let goes = placed_both g.B.Block.may_hold g.B.Block.contents g.B.Block.layers g.B.Block.size g.met.B.Block.whole g.met.B.Block.holds_now v c.self.invariant.whole c.self.invariant.lasting w c.write_at.new.self refl m c.in-Some.is (all_same v.snaps v.snaps refl) given refl (subst (λ z. GoesBy g.B.Block.may_hold g.B.Block.contents g.B.Block.layers g.B.Block.size g.met.B.Block.whole g.met.B.Block.holds_now z v.origin v.origin v.merge (Some c.write_at.new.self)) (sym told) array) in
    rw (← c.self.view_is) goes.stops_origin
