-- A request is issued at the store of its snapshot.
use Rattle.std.proofs.Common.{◌≡◌, ◌+◌, ◌*◌, ◌/◌, ◌%◌, ◌^◌, rules, ◌<◌, ◌∙◌, sym, ap, subst, Some, get_or, length, nat_eq, arith, List, ℕ, true, false, refl}
use Rattle.std.specs.List.{position, list_any}
use Rattle.std.proofs.Math.Nat.{mod-lt}
use Rattle.std.proofs.lemmas.Bool.{false≢true}
use Rattle.std.proofs.lemmas.List.{with_items_is}
use Rattle.sector.specs.Bytes.{sectors_at}
use Rattle.plain_machine.specs.declared.request.Op.{Op}
use Rattle.plain_machine.specs.declared.request.Dev.TheVariants.{Snap}
use Rattle.in_flight.specs.Kinds.{room_at}
use Rattle.in_flight.specs.declared.flights.Flight.{Flight}
use Rattle.in_flight.specs.declared.flights.Route.TheVariants.{Store}
use Rattle.volume_laws.specs.Steps.{WritesPlace}
use Rattle.snapshot.specs.Kept.{Kept, books_of}
use Rattle.volume.specs.Volumed.{Volumed}
use Rattle.snapshot_list.proofs.Finds.{position_within}
use Rattle.volume.proofs.Chunks.{chunks_all}
use Rattle.volume.proofs.IssueEvents.{request_at}
use Rattle.volume.proofs.StoreIssues.{is_snap, held_any, unflushed, read_placed, read_part, write_placed, write_part, store_read, store_read_io, store_write, store_write_io}
use Rattle.device.specs.declared.operation.Operation.TheVariants.{Reads, Writes}
use Rattle.plain_machine.specs.declared.request.Reply.TheVariants.{Data}
use Rattle.store.specs.Operations.{IsOneOperation}
use Rattle.volume.proofs.ExactIssues.{store_read_exact, store_write_exact}
use Rattle.volume.proofs.LastMoves.{device_moves}
use Rattle.volume.proofs.LastBoth.{beside_both}
use Rattle.plain_machine.specs.declared.event.Event.TheVariants.{Issue}
use Rattle.in_flight.specs.Kinds.{in_flight}
use Rattle.volume.specs.Stopping.{given_by}
use Rattle.volume.proofs.LastBoth.{own_both}
use Rattle.std.proofs.Common.{map}
use Rattle.volume.proofs.volume.Volume.issue_store.Goals as goal

pub remove-flight-requires : goal.remove-flight-requires
remove-flight-requires g c =
    let found : position (λ (f : Flight). nat_eq f.number c.args.number) c.self.inside.flights.items ≡ Some c.args.place = ap (λ (x : Volumed _). position (λ (f : Flight). nat_eq f.number c.args.number) x.flights) c.self.view_is ∙ c.requires.found in
    let within = position_within (λ (f : Flight). nat_eq f.number c.args.number) c.self.inside.flights.items c.args.place found in
    omega (arith, within)

pub unreachable-requires : goal.unreachable-requires
unreachable-requires g c =
    let v = c.self.inside in
    let r = c.remove-flight.result in
    let found : position (λ (f : Flight). nat_eq f.number c.args.number) v.flights.items ≡ Some c.args.place = ap (λ (x : Volumed _). position (λ (f : Flight). nat_eq f.number c.args.number) x.flights) c.self.view_is ∙ c.requires.found in
    let inside = position_within (λ (f : Flight). nat_eq f.number c.args.number) v.flights.items c.args.place found in
    let was : r ≡ get_or v.flights.items c.args.place r = c.remove-flight.ensures.value in
    let dev : r.request.dev ≡ (get_or c.args.self.now.flights c.args.place r).request.dev = ap (λ (x : Flight). x.request.dev) was ∙ ap (λ (x : Volumed _). (get_or x.flights c.args.place r).request.dev) c.self.view_is in
    let snap = is_snap g.B.Block.contents g.B.Block.layers g.B.Block.size g.B.Block.fault_count g.B.Block.done_count _ c.self.invariant.whole c.args.number c.args.place r found was (λ e. c.requires.dev r (sym dev ∙ e)) in
    false≢true (sym (c.in-None.ensures.none snap.0 snap.1) ∙ ap (list_any (λ (s : Kept _). nat_eq s.number snap.0)) c.deref.ensures.value ∙ held_any g.B.Block.contents g.B.Block.layers snap.0 v.snaps.items snap.2)

pub nonzero_rem-first : goal.nonzero_rem-first
nonzero_rem-first g c =
    let v = c.self.inside in
    let r = c.remove-flight.result in
    let found : position (λ (f : Flight). nat_eq f.number c.args.number) v.flights.items ≡ Some c.args.place = ap (λ (x : Volumed _). position (λ (f : Flight). nat_eq f.number c.args.number) x.flights) c.self.view_is ∙ c.requires.found in
    let inside = position_within (λ (f : Flight). nat_eq f.number c.args.number) v.flights.items c.args.place found in
    let was : r ≡ get_or v.flights.items c.args.place r = c.remove-flight.ensures.value in
    let route : r.route ≡ Store c.args.at = ap (λ (x : Flight). x.route) was ∙ ap (λ (x : Volumed _). (get_or x.flights c.args.place r).route) c.self.view_is ∙ c.requires.route r in
    let s = c.index_mut-snap.result.now in
    let k = c.in-Some.index in
    let within : k < length v.snaps.items = omega (arith, c.in-Some.ensures.found.0, ap length c.deref.ensures.value) in
    let is = c.index_mut-snap.ensures.value in
    let dev : r.request.dev ≡ Snap s.number = c.in-Some.ensures.found.1 s ∙ ap (λ (x : Kept _). Snap x.number) (ap (λ xs. get_or xs k s) c.deref.ensures.value ∙ sym is) in
    let some : 0 < s.state.chunk = subst (λ (x : Kept _). 0 < x.state.chunk) (sym is) (chunks_all g.B.Block.contents g.B.Block.layers g.B.Block.size _ c.self.invariant.whole k s within) in
    omega (arith, some, c.chunk.ensures.is)

pub overflow_cast-first-2 : goal.overflow_cast-first-2
overflow_cast-first-2 g c =
    let v = c.self.inside in
    let r = c.remove-flight.result in
    let found : position (λ (f : Flight). nat_eq f.number c.args.number) v.flights.items ≡ Some c.args.place = ap (λ (x : Volumed _). position (λ (f : Flight). nat_eq f.number c.args.number) x.flights) c.self.view_is ∙ c.requires.found in
    let inside = position_within (λ (f : Flight). nat_eq f.number c.args.number) v.flights.items c.args.place found in
    let was : r ≡ get_or v.flights.items c.args.place r = c.remove-flight.ensures.value in
    let route : r.route ≡ Store c.args.at = ap (λ (x : Flight). x.route) was ∙ ap (λ (x : Volumed _). (get_or x.flights c.args.place r).route) c.self.view_is ∙ c.requires.route r in
    let s = c.index_mut-snap.result.now in
    let k = c.in-Some.index in
    let within : k < length v.snaps.items = omega (arith, c.in-Some.ensures.found.0, ap length c.deref.ensures.value) in
    let is = c.index_mut-snap.ensures.value in
    let dev : r.request.dev ≡ Snap s.number = c.in-Some.ensures.found.1 s ∙ ap (λ (x : Kept _). Snap x.number) (ap (λ xs. get_or xs k s) c.deref.ensures.value ∙ sym is) in
    let some : 0 < s.state.chunk = subst (λ (x : Kept _). 0 < x.state.chunk) (sym is) (chunks_all g.B.Block.contents g.B.Block.layers g.B.Block.size _ c.self.invariant.whole k s within) in
    let pos : 0 < c.chunk.result = omega (arith, some, c.chunk.ensures.is) in
    let lt = mod-lt r.request.range.first pos in
    let top = c.chunk.type_inv in
    let less : r.request.range.first % c.chunk.result < 2 ^ 32 = omega (arith, lt, top) in
    search (rules, less)

pub unreachable-requires-in-Flush : goal.unreachable-requires-in-Flush
unreachable-requires-in-Flush g c =
    let v = c.self.inside in
    let r = c.remove-flight.result in
    let found : position (λ (f : Flight). nat_eq f.number c.args.number) v.flights.items ≡ Some c.args.place = ap (λ (x : Volumed _). position (λ (f : Flight). nat_eq f.number c.args.number) x.flights) c.self.view_is ∙ c.requires.found in
    let inside = position_within (λ (f : Flight). nat_eq f.number c.args.number) v.flights.items c.args.place found in
    let was : r ≡ get_or v.flights.items c.args.place r = c.remove-flight.ensures.value in
    let route : r.route ≡ Store c.args.at = ap (λ (x : Flight). x.route) was ∙ ap (λ (x : Volumed _). (get_or x.flights c.args.place r).route) c.self.view_is ∙ c.requires.route r in
    let s = c.index_mut-snap.result.now in
    let k = c.in-Some.index in
    let within : k < length v.snaps.items = omega (arith, c.in-Some.ensures.found.0, ap length c.deref.ensures.value) in
    let is = c.index_mut-snap.ensures.value in
    let dev : r.request.dev ≡ Snap s.number = c.in-Some.ensures.found.1 s ∙ ap (λ (x : Kept _). Snap x.number) (ap (λ xs. get_or xs k s) c.deref.ensures.value ∙ sym is) in
    unflushed g.B.Block.contents g.B.Block.layers g.B.Block.size g.B.Block.fault_count g.B.Block.done_count _ c.self.invariant.whole c.args.number c.args.place r found was c.args.at k s route within is dev c.in-Flush.is

pub read_at-requires-clause-placed : goal.read_at-requires-clause-placed
read_at-requires-clause-placed g c =
    let v = c.self.inside in
    let r = c.remove-flight.result in
    let found : position (λ (f : Flight). nat_eq f.number c.args.number) v.flights.items ≡ Some c.args.place = ap (λ (x : Volumed _). position (λ (f : Flight). nat_eq f.number c.args.number) x.flights) c.self.view_is ∙ c.requires.found in
    let inside = position_within (λ (f : Flight). nat_eq f.number c.args.number) v.flights.items c.args.place found in
    let was : r ≡ get_or v.flights.items c.args.place r = c.remove-flight.ensures.value in
    let route : r.route ≡ Store c.args.at = ap (λ (x : Flight). x.route) was ∙ ap (λ (x : Volumed _). (get_or x.flights c.args.place r).route) c.self.view_is ∙ c.requires.route r in
    let s = c.index_mut-snap.result.now in
    let k = c.in-Some.index in
    let within : k < length v.snaps.items = omega (arith, c.in-Some.ensures.found.0, ap length c.deref.ensures.value) in
    let is = c.index_mut-snap.ensures.value in
    let dev : r.request.dev ≡ Snap s.number = c.in-Some.ensures.found.1 s ∙ ap (λ (x : Kept _). Snap x.number) (ap (λ xs. get_or xs k s) c.deref.ensures.value ∙ sym is) in
    read_placed g.B.Block.contents g.B.Block.layers g.B.Block.size g.B.Block.fault_count g.B.Block.done_count _ c.self.invariant.whole c.args.number c.args.place r found was c.args.at k s route within is dev c.in-Read.is

pub read_at-requires-clause-some : goal.read_at-requires-clause-some
read_at-requires-clause-some g c =
    let v = c.self.inside in
    let r = c.remove-flight.result in
    let found : position (λ (f : Flight). nat_eq f.number c.args.number) v.flights.items ≡ Some c.args.place = ap (λ (x : Volumed _). position (λ (f : Flight). nat_eq f.number c.args.number) x.flights) c.self.view_is ∙ c.requires.found in
    let inside = position_within (λ (f : Flight). nat_eq f.number c.args.number) v.flights.items c.args.place found in
    let was : r ≡ get_or v.flights.items c.args.place r = c.remove-flight.ensures.value in
    let route : r.route ≡ Store c.args.at = ap (λ (x : Flight). x.route) was ∙ ap (λ (x : Volumed _). (get_or x.flights c.args.place r).route) c.self.view_is ∙ c.requires.route r in
    let request = request_at g.B.Block.contents g.B.Block.layers g.B.Block.size _ c.self.invariant.whole c.args.place r inside was in
    request.some

pub read_at-requires-clause-part : goal.read_at-requires-clause-part
read_at-requires-clause-part g c =
    let v = c.self.inside in
    let r = c.remove-flight.result in
    let found : position (λ (f : Flight). nat_eq f.number c.args.number) v.flights.items ≡ Some c.args.place = ap (λ (x : Volumed _). position (λ (f : Flight). nat_eq f.number c.args.number) x.flights) c.self.view_is ∙ c.requires.found in
    let inside = position_within (λ (f : Flight). nat_eq f.number c.args.number) v.flights.items c.args.place found in
    let was : r ≡ get_or v.flights.items c.args.place r = c.remove-flight.ensures.value in
    let route : r.route ≡ Store c.args.at = ap (λ (x : Flight). x.route) was ∙ ap (λ (x : Volumed _). (get_or x.flights c.args.place r).route) c.self.view_is ∙ c.requires.route r in
    let s = c.index_mut-snap.result.now in
    let k = c.in-Some.index in
    let within : k < length v.snaps.items = omega (arith, c.in-Some.ensures.found.0, ap length c.deref.ensures.value) in
    let is = c.index_mut-snap.ensures.value in
    let dev : r.request.dev ≡ Snap s.number = c.in-Some.ensures.found.1 s ∙ ap (λ (x : Kept _). Snap x.number) (ap (λ xs. get_or xs k s) c.deref.ensures.value ∙ sym is) in
    rw c.chunk.ensures.is (read_part g.B.Block.contents g.B.Block.layers g.B.Block.size g.B.Block.fault_count g.B.Block.done_count _ c.self.invariant.whole c.args.number c.args.place r found was c.args.at k s route within is dev c.in-Read.is)

pub read_at-requires-clause-room : goal.read_at-requires-clause-room
read_at-requires-clause-room g c =
    let v = c.self.inside in
    let r = c.remove-flight.result in
    let found : position (λ (f : Flight). nat_eq f.number c.args.number) v.flights.items ≡ Some c.args.place = ap (λ (x : Volumed _). position (λ (f : Flight). nat_eq f.number c.args.number) x.flights) c.self.view_is ∙ c.requires.found in
    let inside = position_within (λ (f : Flight). nat_eq f.number c.args.number) v.flights.items c.args.place found in
    let was : r ≡ get_or v.flights.items c.args.place r = c.remove-flight.ensures.value in
    let route : r.route ≡ Store c.args.at = ap (λ (x : Flight). x.route) was ∙ ap (λ (x : Volumed _). (get_or x.flights c.args.place r).route) c.self.view_is ∙ c.requires.route r in
    let request = request_at g.B.Block.contents g.B.Block.layers g.B.Block.size _ c.self.invariant.whole c.args.place r inside was in
    ap length c.as_mut_slice.ensures.value ∙ request.room ∙ ap (λ (o : Op). room_at o r.request.range.count) c.in-Read.is

pub invariant_of-self : goal.invariant_of-self
invariant_of-self g c = record {
  whole =
      let v = c.self.inside in
      let r = c.remove-flight.result in
      let found : position (λ (f : Flight). nat_eq f.number c.args.number) v.flights.items ≡ Some c.args.place = ap (λ (x : Volumed _). position (λ (f : Flight). nat_eq f.number c.args.number) x.flights) c.self.view_is ∙ c.requires.found in
      let inside = position_within (λ (f : Flight). nat_eq f.number c.args.number) v.flights.items c.args.place found in
      let was : r ≡ get_or v.flights.items c.args.place r = c.remove-flight.ensures.value in
      let route : r.route ≡ Store c.args.at = ap (λ (x : Flight). x.route) was ∙ ap (λ (x : Volumed _). (get_or x.flights c.args.place r).route) c.self.view_is ∙ c.requires.route r in
      let s = c.index_mut-snap.result.now in
      let k = c.in-Some.index in
      let within : k < length v.snaps.items = omega (arith, c.in-Some.ensures.found.0, ap length c.deref.ensures.value) in
      let is = c.index_mut-snap.ensures.value in
      let dev : r.request.dev ≡ Snap s.number = c.in-Some.ensures.found.1 s ∙ ap (λ (x : Kept _). Snap x.number) (ap (λ xs. get_or xs k s) c.deref.ensures.value ∙ sym is) in
      let bytes : c.from_vec.result ≡ c.read_at.new.out = c.from_vec.ensures ∙ with_items_is r.room c.read_at.new.out (omega (arith, c.read_at.auto.out, c.as_mut_slice.ensures.len)) in
      let read = bytes ∙ c.in-Ok.ensures.data ∙ ap (λ n. sectors_at (g.B.Block.contents s.device) (s.state.chunk * c.args.at + r.request.range.first % n) r.request.range.count) c.chunk.ensures.is in
      let request = request_at g.B.Block.contents g.B.Block.layers g.B.Block.size _ c.self.invariant.whole c.args.place r inside was in
      let filled = ap length c.as_mut_slice.ensures.value ∙ request.room ∙ ap (λ (o : Op). room_at o r.request.range.count) c.in-Read.is in
      let len : length c.from_vec.result ≡ 512 * r.request.range.count = omega (arith, ap length bytes, c.read_at.auto.out, filled) in
      let good = store_read g.B.Block.contents g.B.Block.layers g.B.Block.size g.B.Block.fault_count g.B.Block.done_count _ c.self.invariant.whole c.args.number c.args.place r found was c.args.at k s route within is dev c.read_at.new.self c.read_at.new.self.device c.read_at.ensures.fields c.read_at.ensures.loud c.read_at.ensures.size c.in-Ok.ensures.operation.counted c.in-Read.is c.from_vec.result len c.read_at.ensures.same read c.in-Ok.ensures.operation.faulty in
      rw c.remove-flight.ensures.items good.whole;
  lasting =
      let v = c.self.inside in
      let r = c.remove-flight.result in
      let found : position (λ (f : Flight). nat_eq f.number c.args.number) v.flights.items ≡ Some c.args.place = ap (λ (x : Volumed _). position (λ (f : Flight). nat_eq f.number c.args.number) x.flights) c.self.view_is ∙ c.requires.found in
      let inside = position_within (λ (f : Flight). nat_eq f.number c.args.number) v.flights.items c.args.place found in
      let was : r ≡ get_or v.flights.items c.args.place r = c.remove-flight.ensures.value in
      let route : r.route ≡ Store c.args.at = ap (λ (x : Flight). x.route) was ∙ ap (λ (x : Volumed _). (get_or x.flights c.args.place r).route) c.self.view_is ∙ c.requires.route r in
      let s = c.index_mut-snap.result.now in
      let k = c.in-Some.index in
      let within : k < length v.snaps.items = omega (arith, c.in-Some.ensures.found.0, ap length c.deref.ensures.value) in
      let is = c.index_mut-snap.ensures.value in
      let dev : r.request.dev ≡ Snap s.number = c.in-Some.ensures.found.1 s ∙ ap (λ (x : Kept _). Snap x.number) (ap (λ xs. get_or xs k s) c.deref.ensures.value ∙ sym is) in
      let bytes : c.from_vec.result ≡ c.read_at.new.out = c.from_vec.ensures ∙ with_items_is r.room c.read_at.new.out (omega (arith, c.read_at.auto.out, c.as_mut_slice.ensures.len)) in
      let read = bytes ∙ c.in-Ok.ensures.data ∙ ap (λ n. sectors_at (g.B.Block.contents s.device) (s.state.chunk * c.args.at + r.request.range.first % n) r.request.range.count) c.chunk.ensures.is in
      let request = request_at g.B.Block.contents g.B.Block.layers g.B.Block.size _ c.self.invariant.whole c.args.place r inside was in
      let filled = ap length c.as_mut_slice.ensures.value ∙ request.room ∙ ap (λ (o : Op). room_at o r.request.range.count) c.in-Read.is in
      let len : length c.from_vec.result ≡ 512 * r.request.range.count = omega (arith, ap length bytes, c.read_at.auto.out, filled) in
      let goes = device_moves g.B.Block.may_hold g.B.Block.contents g.B.Block.layers g.B.Block.size g.met.B.Block.whole g.met.B.Block.holds_now _ c.self.invariant.whole c.self.invariant.lasting.snaps (given_by (Issue c.args.number) (map in_flight v.flights.items)) k s c.read_at.new.self v.flights.items within is c.read_at.ensures.fields (record { adds = c.read_at.ensures.adds; bytes = c.read_at.ensures.same; sectors = c.read_at.ensures.size; loud = c.read_at.ensures.loud }) in
      let both = beside_both g.B.Block.may_hold g.B.Block.contents g.B.Block.layers g.B.Block.size g.met.B.Block.whole g.met.B.Block.holds_now _ c.self.invariant.whole c.self.invariant.lasting (given_by (Issue c.args.number) (map in_flight v.flights.items)) _ goes refl refl in
      record { snaps = both.lasts; merge = both.merge };
}

pub returns-in-Ok-clause-step : goal.returns-in-Ok-clause-step
returns-in-Ok-clause-step g c =
    let v = c.self.inside in
    let r = c.remove-flight.result in
    let found : position (λ (f : Flight). nat_eq f.number c.args.number) v.flights.items ≡ Some c.args.place = ap (λ (x : Volumed _). position (λ (f : Flight). nat_eq f.number c.args.number) x.flights) c.self.view_is ∙ c.requires.found in
    let inside = position_within (λ (f : Flight). nat_eq f.number c.args.number) v.flights.items c.args.place found in
    let was : r ≡ get_or v.flights.items c.args.place r = c.remove-flight.ensures.value in
    let route : r.route ≡ Store c.args.at = ap (λ (x : Flight). x.route) was ∙ ap (λ (x : Volumed _). (get_or x.flights c.args.place r).route) c.self.view_is ∙ c.requires.route r in
    let s = c.index_mut-snap.result.now in
    let k = c.in-Some.index in
    let within : k < length v.snaps.items = omega (arith, c.in-Some.ensures.found.0, ap length c.deref.ensures.value) in
    let is = c.index_mut-snap.ensures.value in
    let dev : r.request.dev ≡ Snap s.number = c.in-Some.ensures.found.1 s ∙ ap (λ (x : Kept _). Snap x.number) (ap (λ xs. get_or xs k s) c.deref.ensures.value ∙ sym is) in
    let bytes : c.from_vec.result ≡ c.read_at.new.out = c.from_vec.ensures ∙ with_items_is r.room c.read_at.new.out (omega (arith, c.read_at.auto.out, c.as_mut_slice.ensures.len)) in
    let read = bytes ∙ c.in-Ok.ensures.data ∙ ap (λ n. sectors_at (g.B.Block.contents s.device) (s.state.chunk * c.args.at + r.request.range.first % n) r.request.range.count) c.chunk.ensures.is in
    let request = request_at g.B.Block.contents g.B.Block.layers g.B.Block.size _ c.self.invariant.whole c.args.place r inside was in
    let filled = ap length c.as_mut_slice.ensures.value ∙ request.room ∙ ap (λ (o : Op). room_at o r.request.range.count) c.in-Read.is in
    let len : length c.from_vec.result ≡ 512 * r.request.range.count = omega (arith, ap length bytes, c.read_at.auto.out, filled) in
    let good = store_read g.B.Block.contents g.B.Block.layers g.B.Block.size g.B.Block.fault_count g.B.Block.done_count _ c.self.invariant.whole c.args.number c.args.place r found was c.args.at k s route within is dev c.read_at.new.self c.read_at.new.self.device c.read_at.ensures.fields c.read_at.ensures.loud c.read_at.ensures.size c.in-Ok.ensures.operation.counted c.in-Read.is c.from_vec.result len c.read_at.ensures.same read c.in-Ok.ensures.operation.faulty in
    rw (← c.self.view_is, c.remove-flight.ensures.items) good.stepped

pub returns-in-Ok-clause-exact : goal.returns-in-Ok-clause-exact
returns-in-Ok-clause-exact g c =
    let v = c.self.inside in
    let r = c.remove-flight.result in
    let found : position (λ (f : Flight). nat_eq f.number c.args.number) v.flights.items ≡ Some c.args.place = ap (λ (x : Volumed _). position (λ (f : Flight). nat_eq f.number c.args.number) x.flights) c.self.view_is ∙ c.requires.found in
    let inside = position_within (λ (f : Flight). nat_eq f.number c.args.number) v.flights.items c.args.place found in
    let was : r ≡ get_or v.flights.items c.args.place r = c.remove-flight.ensures.value in
    let route : r.route ≡ Store c.args.at = ap (λ (x : Flight). x.route) was ∙ ap (λ (x : Volumed _). (get_or x.flights c.args.place r).route) c.self.view_is ∙ c.requires.route r in
    let s = c.index_mut-snap.result.now in
    let k = c.in-Some.index in
    let within : k < length v.snaps.items = omega (arith, c.in-Some.ensures.found.0, ap length c.deref.ensures.value) in
    let is = c.index_mut-snap.ensures.value in
    let dev : r.request.dev ≡ Snap s.number = c.in-Some.ensures.found.1 s ∙ ap (λ (x : Kept _). Snap x.number) (ap (λ xs. get_or xs k s) c.deref.ensures.value ∙ sym is) in
    let bytes : c.from_vec.result ≡ c.read_at.new.out = c.from_vec.ensures ∙ with_items_is r.room c.read_at.new.out (omega (arith, c.read_at.auto.out, c.as_mut_slice.ensures.len)) in
    let read = bytes ∙ c.in-Ok.ensures.data ∙ ap (λ n. sectors_at (g.B.Block.contents s.device) (s.state.chunk * c.args.at + r.request.range.first % n) r.request.range.count) c.chunk.ensures.is in
    let one = subst (λ n. IsOneOperation (Reads (s.state.chunk * c.args.at + r.request.range.first % n) r.request.range.count) true (g.B.Block.layers s.device) (g.B.Block.layers c.read_at.new.self.device) (g.B.Block.fault_count s.device) (g.B.Block.fault_count c.read_at.new.self.device) (g.B.Block.done_count s.device) (g.B.Block.done_count c.read_at.new.self.device)) c.chunk.ensures.is c.in-Ok.ensures.operation in
    rw (← c.self.view_is, c.remove-flight.ensures.items) (store_read_exact g.B.Block.contents g.B.Block.layers g.B.Block.size _ c.self.invariant.whole c.args.number c.args.place r found was true _ _ _ _ _ c.args.at s.number k route dev s c.read_at.new.self within is refl c.read_at.ensures.fields c.in-Read.is one c.read_at.ensures.same (ap Data read))

pub invariant_of-self-in-Read : goal.invariant_of-self-in-Read
invariant_of-self-in-Read g c = record {
  whole =
      let v = c.self.inside in
      let r = c.remove-flight.result in
      let found : position (λ (f : Flight). nat_eq f.number c.args.number) v.flights.items ≡ Some c.args.place = ap (λ (x : Volumed _). position (λ (f : Flight). nat_eq f.number c.args.number) x.flights) c.self.view_is ∙ c.requires.found in
      let inside = position_within (λ (f : Flight). nat_eq f.number c.args.number) v.flights.items c.args.place found in
      let was : r ≡ get_or v.flights.items c.args.place r = c.remove-flight.ensures.value in
      let route : r.route ≡ Store c.args.at = ap (λ (x : Flight). x.route) was ∙ ap (λ (x : Volumed _). (get_or x.flights c.args.place r).route) c.self.view_is ∙ c.requires.route r in
      let s = c.index_mut-snap.result.now in
      let k = c.in-Some.index in
      let within : k < length v.snaps.items = omega (arith, c.in-Some.ensures.found.0, ap length c.deref.ensures.value) in
      let is = c.index_mut-snap.ensures.value in
      let dev : r.request.dev ≡ Snap s.number = c.in-Some.ensures.found.1 s ∙ ap (λ (x : Kept _). Snap x.number) (ap (λ xs. get_or xs k s) c.deref.ensures.value ∙ sym is) in
      let good = store_read_io g.B.Block.contents g.B.Block.layers g.B.Block.size g.B.Block.fault_count g.B.Block.done_count _ c.self.invariant.whole c.args.number c.args.place r found was c.args.at k s route within is dev c.read_at.new.self c.read_at.new.self.device c.read_at.ensures.fields c.read_at.ensures.loud c.read_at.ensures.size c.in-Err.ensures.operation.counted c.in-Read.is c.read_at.ensures.same c.in-Err.ensures.operation.faulty in
      rw c.remove-flight.ensures.items good.whole;
  lasting =
      let v = c.self.inside in
      let r = c.remove-flight.result in
      let found : position (λ (f : Flight). nat_eq f.number c.args.number) v.flights.items ≡ Some c.args.place = ap (λ (x : Volumed _). position (λ (f : Flight). nat_eq f.number c.args.number) x.flights) c.self.view_is ∙ c.requires.found in
      let inside = position_within (λ (f : Flight). nat_eq f.number c.args.number) v.flights.items c.args.place found in
      let was : r ≡ get_or v.flights.items c.args.place r = c.remove-flight.ensures.value in
      let route : r.route ≡ Store c.args.at = ap (λ (x : Flight). x.route) was ∙ ap (λ (x : Volumed _). (get_or x.flights c.args.place r).route) c.self.view_is ∙ c.requires.route r in
      let s = c.index_mut-snap.result.now in
      let k = c.in-Some.index in
      let within : k < length v.snaps.items = omega (arith, c.in-Some.ensures.found.0, ap length c.deref.ensures.value) in
      let is = c.index_mut-snap.ensures.value in
      let dev : r.request.dev ≡ Snap s.number = c.in-Some.ensures.found.1 s ∙ ap (λ (x : Kept _). Snap x.number) (ap (λ xs. get_or xs k s) c.deref.ensures.value ∙ sym is) in
      let goes = device_moves g.B.Block.may_hold g.B.Block.contents g.B.Block.layers g.B.Block.size g.met.B.Block.whole g.met.B.Block.holds_now _ c.self.invariant.whole c.self.invariant.lasting.snaps (given_by (Issue c.args.number) (map in_flight v.flights.items)) k s c.read_at.new.self v.flights.items within is c.read_at.ensures.fields (record { adds = c.read_at.ensures.adds; bytes = c.read_at.ensures.same; sectors = c.read_at.ensures.size; loud = c.read_at.ensures.loud }) in
      let both = beside_both g.B.Block.may_hold g.B.Block.contents g.B.Block.layers g.B.Block.size g.met.B.Block.whole g.met.B.Block.holds_now _ c.self.invariant.whole c.self.invariant.lasting (given_by (Issue c.args.number) (map in_flight v.flights.items)) _ goes refl refl in
      record { snaps = both.lasts; merge = both.merge };
}

pub returns-in-Read-clause-step : goal.returns-in-Read-clause-step
returns-in-Read-clause-step g c =
    let v = c.self.inside in
    let r = c.remove-flight.result in
    let found : position (λ (f : Flight). nat_eq f.number c.args.number) v.flights.items ≡ Some c.args.place = ap (λ (x : Volumed _). position (λ (f : Flight). nat_eq f.number c.args.number) x.flights) c.self.view_is ∙ c.requires.found in
    let inside = position_within (λ (f : Flight). nat_eq f.number c.args.number) v.flights.items c.args.place found in
    let was : r ≡ get_or v.flights.items c.args.place r = c.remove-flight.ensures.value in
    let route : r.route ≡ Store c.args.at = ap (λ (x : Flight). x.route) was ∙ ap (λ (x : Volumed _). (get_or x.flights c.args.place r).route) c.self.view_is ∙ c.requires.route r in
    let s = c.index_mut-snap.result.now in
    let k = c.in-Some.index in
    let within : k < length v.snaps.items = omega (arith, c.in-Some.ensures.found.0, ap length c.deref.ensures.value) in
    let is = c.index_mut-snap.ensures.value in
    let dev : r.request.dev ≡ Snap s.number = c.in-Some.ensures.found.1 s ∙ ap (λ (x : Kept _). Snap x.number) (ap (λ xs. get_or xs k s) c.deref.ensures.value ∙ sym is) in
    let good = store_read_io g.B.Block.contents g.B.Block.layers g.B.Block.size g.B.Block.fault_count g.B.Block.done_count _ c.self.invariant.whole c.args.number c.args.place r found was c.args.at k s route within is dev c.read_at.new.self c.read_at.new.self.device c.read_at.ensures.fields c.read_at.ensures.loud c.read_at.ensures.size c.in-Err.ensures.operation.counted c.in-Read.is c.read_at.ensures.same c.in-Err.ensures.operation.faulty in
    rw (← c.self.view_is, c.remove-flight.ensures.items) good.stepped

pub returns-in-Read-clause-exact : goal.returns-in-Read-clause-exact
returns-in-Read-clause-exact g c =
    let v = c.self.inside in
    let r = c.remove-flight.result in
    let found : position (λ (f : Flight). nat_eq f.number c.args.number) v.flights.items ≡ Some c.args.place = ap (λ (x : Volumed _). position (λ (f : Flight). nat_eq f.number c.args.number) x.flights) c.self.view_is ∙ c.requires.found in
    let inside = position_within (λ (f : Flight). nat_eq f.number c.args.number) v.flights.items c.args.place found in
    let was : r ≡ get_or v.flights.items c.args.place r = c.remove-flight.ensures.value in
    let route : r.route ≡ Store c.args.at = ap (λ (x : Flight). x.route) was ∙ ap (λ (x : Volumed _). (get_or x.flights c.args.place r).route) c.self.view_is ∙ c.requires.route r in
    let s = c.index_mut-snap.result.now in
    let k = c.in-Some.index in
    let within : k < length v.snaps.items = omega (arith, c.in-Some.ensures.found.0, ap length c.deref.ensures.value) in
    let is = c.index_mut-snap.ensures.value in
    let dev : r.request.dev ≡ Snap s.number = c.in-Some.ensures.found.1 s ∙ ap (λ (x : Kept _). Snap x.number) (ap (λ xs. get_or xs k s) c.deref.ensures.value ∙ sym is) in
    let one = subst (λ n. IsOneOperation (Reads (s.state.chunk * c.args.at + r.request.range.first % n) r.request.range.count) false (g.B.Block.layers s.device) (g.B.Block.layers c.read_at.new.self.device) (g.B.Block.fault_count s.device) (g.B.Block.fault_count c.read_at.new.self.device) (g.B.Block.done_count s.device) (g.B.Block.done_count c.read_at.new.self.device)) c.chunk.ensures.is c.in-Err.ensures.operation in
    rw (← c.self.view_is, c.remove-flight.ensures.items) (store_read_exact g.B.Block.contents g.B.Block.layers g.B.Block.size _ c.self.invariant.whole c.args.number c.args.place r found was false _ _ _ _ _ c.args.at s.number k route dev s c.read_at.new.self within is refl c.read_at.ensures.fields c.in-Read.is one c.read_at.ensures.same refl)

pub write_at-requires-clause-placed : goal.write_at-requires-clause-placed
write_at-requires-clause-placed g c =
    let v = c.self.inside in
    let r = c.remove-flight.result in
    let found : position (λ (f : Flight). nat_eq f.number c.args.number) v.flights.items ≡ Some c.args.place = ap (λ (x : Volumed _). position (λ (f : Flight). nat_eq f.number c.args.number) x.flights) c.self.view_is ∙ c.requires.found in
    let inside = position_within (λ (f : Flight). nat_eq f.number c.args.number) v.flights.items c.args.place found in
    let was : r ≡ get_or v.flights.items c.args.place r = c.remove-flight.ensures.value in
    let route : r.route ≡ Store c.args.at = ap (λ (x : Flight). x.route) was ∙ ap (λ (x : Volumed _). (get_or x.flights c.args.place r).route) c.self.view_is ∙ c.requires.route r in
    let s = c.index_mut-snap.result.now in
    let k = c.in-Some.index in
    let within : k < length v.snaps.items = omega (arith, c.in-Some.ensures.found.0, ap length c.deref.ensures.value) in
    let is = c.index_mut-snap.ensures.value in
    let dev : r.request.dev ≡ Snap s.number = c.in-Some.ensures.found.1 s ∙ ap (λ (x : Kept _). Snap x.number) (ap (λ xs. get_or xs k s) c.deref.ensures.value ∙ sym is) in
    write_placed g.B.Block.contents g.B.Block.layers g.B.Block.size g.B.Block.fault_count g.B.Block.done_count _ c.self.invariant.whole c.args.number c.args.place r found was c.args.at k s route within is dev c.in-Write.bytes c.in-Write.is

pub write_at-requires-clause-some : goal.write_at-requires-clause-some
write_at-requires-clause-some g c =
    let v = c.self.inside in
    let r = c.remove-flight.result in
    let found : position (λ (f : Flight). nat_eq f.number c.args.number) v.flights.items ≡ Some c.args.place = ap (λ (x : Volumed _). position (λ (f : Flight). nat_eq f.number c.args.number) x.flights) c.self.view_is ∙ c.requires.found in
    let inside = position_within (λ (f : Flight). nat_eq f.number c.args.number) v.flights.items c.args.place found in
    let was : r ≡ get_or v.flights.items c.args.place r = c.remove-flight.ensures.value in
    let route : r.route ≡ Store c.args.at = ap (λ (x : Flight). x.route) was ∙ ap (λ (x : Volumed _). (get_or x.flights c.args.place r).route) c.self.view_is ∙ c.requires.route r in
    let request = request_at g.B.Block.contents g.B.Block.layers g.B.Block.size _ c.self.invariant.whole c.args.place r inside was in
    request.some

pub write_at-requires-clause-part : goal.write_at-requires-clause-part
write_at-requires-clause-part g c =
    let v = c.self.inside in
    let r = c.remove-flight.result in
    let found : position (λ (f : Flight). nat_eq f.number c.args.number) v.flights.items ≡ Some c.args.place = ap (λ (x : Volumed _). position (λ (f : Flight). nat_eq f.number c.args.number) x.flights) c.self.view_is ∙ c.requires.found in
    let inside = position_within (λ (f : Flight). nat_eq f.number c.args.number) v.flights.items c.args.place found in
    let was : r ≡ get_or v.flights.items c.args.place r = c.remove-flight.ensures.value in
    let route : r.route ≡ Store c.args.at = ap (λ (x : Flight). x.route) was ∙ ap (λ (x : Volumed _). (get_or x.flights c.args.place r).route) c.self.view_is ∙ c.requires.route r in
    let s = c.index_mut-snap.result.now in
    let k = c.in-Some.index in
    let within : k < length v.snaps.items = omega (arith, c.in-Some.ensures.found.0, ap length c.deref.ensures.value) in
    let is = c.index_mut-snap.ensures.value in
    let dev : r.request.dev ≡ Snap s.number = c.in-Some.ensures.found.1 s ∙ ap (λ (x : Kept _). Snap x.number) (ap (λ xs. get_or xs k s) c.deref.ensures.value ∙ sym is) in
    rw c.chunk.ensures.is (write_part g.B.Block.contents g.B.Block.layers g.B.Block.size g.B.Block.fault_count g.B.Block.done_count _ c.self.invariant.whole c.args.number c.args.place r found was c.args.at k s route within is dev c.in-Write.bytes c.in-Write.is)

pub write_at-requires-clause-room : goal.write_at-requires-clause-room
write_at-requires-clause-room g c =
    let v = c.self.inside in
    let r = c.remove-flight.result in
    let found : position (λ (f : Flight). nat_eq f.number c.args.number) v.flights.items ≡ Some c.args.place = ap (λ (x : Volumed _). position (λ (f : Flight). nat_eq f.number c.args.number) x.flights) c.self.view_is ∙ c.requires.found in
    let inside = position_within (λ (f : Flight). nat_eq f.number c.args.number) v.flights.items c.args.place found in
    let was : r ≡ get_or v.flights.items c.args.place r = c.remove-flight.ensures.value in
    let route : r.route ≡ Store c.args.at = ap (λ (x : Flight). x.route) was ∙ ap (λ (x : Volumed _). (get_or x.flights c.args.place r).route) c.self.view_is ∙ c.requires.route r in
    let request = request_at g.B.Block.contents g.B.Block.layers g.B.Block.size _ c.self.invariant.whole c.args.place r inside was in
    ap length c.as_slice.ensures ∙ request.bytes c.in-Write.bytes c.in-Write.is

pub invariant_of-self-in-Ok-write_at : goal.invariant_of-self-in-Ok-write_at
invariant_of-self-in-Ok-write_at g c = record {
  whole =
      let v = c.self.inside in
      let r = c.remove-flight.result in
      let found : position (λ (f : Flight). nat_eq f.number c.args.number) v.flights.items ≡ Some c.args.place = ap (λ (x : Volumed _). position (λ (f : Flight). nat_eq f.number c.args.number) x.flights) c.self.view_is ∙ c.requires.found in
      let inside = position_within (λ (f : Flight). nat_eq f.number c.args.number) v.flights.items c.args.place found in
      let was : r ≡ get_or v.flights.items c.args.place r = c.remove-flight.ensures.value in
      let route : r.route ≡ Store c.args.at = ap (λ (x : Flight). x.route) was ∙ ap (λ (x : Volumed _). (get_or x.flights c.args.place r).route) c.self.view_is ∙ c.requires.route r in
      let s = c.index_mut-snap.result.now in
      let k = c.in-Some.index in
      let within : k < length v.snaps.items = omega (arith, c.in-Some.ensures.found.0, ap length c.deref.ensures.value) in
      let is = c.index_mut-snap.ensures.value in
      let dev : r.request.dev ≡ Snap s.number = c.in-Some.ensures.found.1 s ∙ ap (λ (x : Kept _). Snap x.number) (ap (λ xs. get_or xs k s) c.deref.ensures.value ∙ sym is) in
      let chunk = r.request.range.first / s.state.chunk in
      let wrote = subst (λ n. WritesPlace chunk c.args.at (r.request.range.first % n) c.in-Write.bytes (books_of g.B.Block.contents g.B.Block.layers s) (books_of g.B.Block.contents g.B.Block.layers c.write_at.new.self)) c.chunk.ensures.is
      (subst (λ (b : List ℕ). WritesPlace chunk c.args.at (r.request.range.first % c.chunk.result) b (books_of g.B.Block.contents g.B.Block.layers s) (books_of g.B.Block.contents g.B.Block.layers c.write_at.new.self)) c.as_slice.ensures (c.in-Ok-write_at.ensures.writes chunk)) in
      let good = store_write g.B.Block.contents g.B.Block.layers g.B.Block.size g.B.Block.fault_count g.B.Block.done_count _ c.self.invariant.whole c.args.number c.args.place r found was c.args.at k s route within is dev c.write_at.new.self c.write_at.new.self.device c.write_at.ensures.fields c.write_at.ensures.loud c.write_at.ensures.size c.in-Ok-write_at.ensures.operation.counted c.in-Write.bytes c.in-Write.is wrote c.in-Ok-write_at.ensures.operation.faulty in
      rw c.remove-flight.ensures.items good.whole;
  lasting =
      let v = c.self.inside in
      let r = c.remove-flight.result in
      let found : position (λ (f : Flight). nat_eq f.number c.args.number) v.flights.items ≡ Some c.args.place = ap (λ (x : Volumed _). position (λ (f : Flight). nat_eq f.number c.args.number) x.flights) c.self.view_is ∙ c.requires.found in
      let inside = position_within (λ (f : Flight). nat_eq f.number c.args.number) v.flights.items c.args.place found in
      let was : r ≡ get_or v.flights.items c.args.place r = c.remove-flight.ensures.value in
      let route : r.route ≡ Store c.args.at = ap (λ (x : Flight). x.route) was ∙ ap (λ (x : Volumed _). (get_or x.flights c.args.place r).route) c.self.view_is ∙ c.requires.route r in
      let s = c.index_mut-snap.result.now in
      let k = c.in-Some.index in
      let within : k < length v.snaps.items = omega (arith, c.in-Some.ensures.found.0, ap length c.deref.ensures.value) in
      let is = c.index_mut-snap.ensures.value in
      let dev : r.request.dev ≡ Snap s.number = c.in-Some.ensures.found.1 s ∙ ap (λ (x : Kept _). Snap x.number) (ap (λ xs. get_or xs k s) c.deref.ensures.value ∙ sym is) in
      let chunk = r.request.range.first / s.state.chunk in
      let wrote = subst (λ n. WritesPlace chunk c.args.at (r.request.range.first % n) c.in-Write.bytes (books_of g.B.Block.contents g.B.Block.layers s) (books_of g.B.Block.contents g.B.Block.layers c.write_at.new.self)) c.chunk.ensures.is
      (subst (λ (b : List ℕ). WritesPlace chunk c.args.at (r.request.range.first % c.chunk.result) b (books_of g.B.Block.contents g.B.Block.layers s) (books_of g.B.Block.contents g.B.Block.layers c.write_at.new.self)) c.as_slice.ensures (c.in-Ok-write_at.ensures.writes chunk)) in
      let both = own_both g.B.Block.may_hold g.B.Block.contents g.B.Block.layers g.B.Block.size g.met.B.Block.whole g.met.B.Block.holds_now _ c.self.invariant.whole c.self.invariant.lasting c.args.number c.args.place r found was c.in-Write.bytes c.in-Write.is k s c.write_at.new.self v.flights.items c.args.at within is dev route c.write_at.ensures.fields wrote (record { adds = c.write_at.ensures.adds; sectors = c.write_at.ensures.size; loud = c.write_at.ensures.loud }) in
      record { snaps = both.lasts; merge = both.merge };
}

pub returns-in-Ok-write_at-clause-step : goal.returns-in-Ok-write_at-clause-step
returns-in-Ok-write_at-clause-step g c =
    let v = c.self.inside in
    let r = c.remove-flight.result in
    let found : position (λ (f : Flight). nat_eq f.number c.args.number) v.flights.items ≡ Some c.args.place = ap (λ (x : Volumed _). position (λ (f : Flight). nat_eq f.number c.args.number) x.flights) c.self.view_is ∙ c.requires.found in
    let inside = position_within (λ (f : Flight). nat_eq f.number c.args.number) v.flights.items c.args.place found in
    let was : r ≡ get_or v.flights.items c.args.place r = c.remove-flight.ensures.value in
    let route : r.route ≡ Store c.args.at = ap (λ (x : Flight). x.route) was ∙ ap (λ (x : Volumed _). (get_or x.flights c.args.place r).route) c.self.view_is ∙ c.requires.route r in
    let s = c.index_mut-snap.result.now in
    let k = c.in-Some.index in
    let within : k < length v.snaps.items = omega (arith, c.in-Some.ensures.found.0, ap length c.deref.ensures.value) in
    let is = c.index_mut-snap.ensures.value in
    let dev : r.request.dev ≡ Snap s.number = c.in-Some.ensures.found.1 s ∙ ap (λ (x : Kept _). Snap x.number) (ap (λ xs. get_or xs k s) c.deref.ensures.value ∙ sym is) in
    let chunk = r.request.range.first / s.state.chunk in
    let wrote = subst (λ n. WritesPlace chunk c.args.at (r.request.range.first % n) c.in-Write.bytes (books_of g.B.Block.contents g.B.Block.layers s) (books_of g.B.Block.contents g.B.Block.layers c.write_at.new.self)) c.chunk.ensures.is
    (subst (λ (b : List ℕ). WritesPlace chunk c.args.at (r.request.range.first % c.chunk.result) b (books_of g.B.Block.contents g.B.Block.layers s) (books_of g.B.Block.contents g.B.Block.layers c.write_at.new.self)) c.as_slice.ensures (c.in-Ok-write_at.ensures.writes chunk)) in
    let good = store_write g.B.Block.contents g.B.Block.layers g.B.Block.size g.B.Block.fault_count g.B.Block.done_count _ c.self.invariant.whole c.args.number c.args.place r found was c.args.at k s route within is dev c.write_at.new.self c.write_at.new.self.device c.write_at.ensures.fields c.write_at.ensures.loud c.write_at.ensures.size c.in-Ok-write_at.ensures.operation.counted c.in-Write.bytes c.in-Write.is wrote c.in-Ok-write_at.ensures.operation.faulty in
    rw (← c.self.view_is, c.remove-flight.ensures.items) good.stepped

pub returns-in-Ok-write_at-clause-exact : goal.returns-in-Ok-write_at-clause-exact
returns-in-Ok-write_at-clause-exact g c =
    let v = c.self.inside in
    let r = c.remove-flight.result in
    let found : position (λ (f : Flight). nat_eq f.number c.args.number) v.flights.items ≡ Some c.args.place = ap (λ (x : Volumed _). position (λ (f : Flight). nat_eq f.number c.args.number) x.flights) c.self.view_is ∙ c.requires.found in
    let inside = position_within (λ (f : Flight). nat_eq f.number c.args.number) v.flights.items c.args.place found in
    let was : r ≡ get_or v.flights.items c.args.place r = c.remove-flight.ensures.value in
    let route : r.route ≡ Store c.args.at = ap (λ (x : Flight). x.route) was ∙ ap (λ (x : Volumed _). (get_or x.flights c.args.place r).route) c.self.view_is ∙ c.requires.route r in
    let s = c.index_mut-snap.result.now in
    let k = c.in-Some.index in
    let within : k < length v.snaps.items = omega (arith, c.in-Some.ensures.found.0, ap length c.deref.ensures.value) in
    let is = c.index_mut-snap.ensures.value in
    let dev : r.request.dev ≡ Snap s.number = c.in-Some.ensures.found.1 s ∙ ap (λ (x : Kept _). Snap x.number) (ap (λ xs. get_or xs k s) c.deref.ensures.value ∙ sym is) in
    let chunk = r.request.range.first / s.state.chunk in
    let wrote = subst (λ n. WritesPlace chunk c.args.at (r.request.range.first % n) c.in-Write.bytes (books_of g.B.Block.contents g.B.Block.layers s) (books_of g.B.Block.contents g.B.Block.layers c.write_at.new.self)) c.chunk.ensures.is
    (subst (λ (b : List ℕ). WritesPlace chunk c.args.at (r.request.range.first % c.chunk.result) b (books_of g.B.Block.contents g.B.Block.layers s) (books_of g.B.Block.contents g.B.Block.layers c.write_at.new.self)) c.as_slice.ensures (c.in-Ok-write_at.ensures.writes chunk)) in
    let one = subst (λ n. IsOneOperation (Writes (s.state.chunk * c.args.at + r.request.range.first % n) r.request.range.count) true (g.B.Block.layers s.device) (g.B.Block.layers c.write_at.new.self.device) (g.B.Block.fault_count s.device) (g.B.Block.fault_count c.write_at.new.self.device) (g.B.Block.done_count s.device) (g.B.Block.done_count c.write_at.new.self.device)) c.chunk.ensures.is c.in-Ok-write_at.ensures.operation in
    rw (← c.self.view_is, c.remove-flight.ensures.items) (store_write_exact g.B.Block.contents g.B.Block.layers g.B.Block.size _ c.self.invariant.whole c.args.number c.args.place r found was true _ _ _ _ _ c.args.at s.number k route dev s c.write_at.new.self within is refl c.write_at.ensures.fields c.in-Write.bytes c.in-Write.is one wrote.written refl)

pub invariant_of-self-in-Write : goal.invariant_of-self-in-Write
invariant_of-self-in-Write g c = record {
  whole =
      let v = c.self.inside in
      let r = c.remove-flight.result in
      let found : position (λ (f : Flight). nat_eq f.number c.args.number) v.flights.items ≡ Some c.args.place = ap (λ (x : Volumed _). position (λ (f : Flight). nat_eq f.number c.args.number) x.flights) c.self.view_is ∙ c.requires.found in
      let inside = position_within (λ (f : Flight). nat_eq f.number c.args.number) v.flights.items c.args.place found in
      let was : r ≡ get_or v.flights.items c.args.place r = c.remove-flight.ensures.value in
      let route : r.route ≡ Store c.args.at = ap (λ (x : Flight). x.route) was ∙ ap (λ (x : Volumed _). (get_or x.flights c.args.place r).route) c.self.view_is ∙ c.requires.route r in
      let s = c.index_mut-snap.result.now in
      let k = c.in-Some.index in
      let within : k < length v.snaps.items = omega (arith, c.in-Some.ensures.found.0, ap length c.deref.ensures.value) in
      let is = c.index_mut-snap.ensures.value in
      let dev : r.request.dev ≡ Snap s.number = c.in-Some.ensures.found.1 s ∙ ap (λ (x : Kept _). Snap x.number) (ap (λ xs. get_or xs k s) c.deref.ensures.value ∙ sym is) in
      let good = store_write_io g.B.Block.contents g.B.Block.layers g.B.Block.size g.B.Block.fault_count g.B.Block.done_count _ c.self.invariant.whole c.args.number c.args.place r found was c.args.at k s route within is dev c.write_at.new.self c.write_at.new.self.device c.write_at.ensures.fields c.write_at.ensures.loud c.write_at.ensures.size c.in-Err-write_at.ensures.operation.counted c.in-Write.bytes c.in-Write.is c.in-Err-write_at.ensures.same c.in-Err-write_at.ensures.operation.faulty in
      rw c.remove-flight.ensures.items good.whole;
  lasting =
      let v = c.self.inside in
      let r = c.remove-flight.result in
      let found : position (λ (f : Flight). nat_eq f.number c.args.number) v.flights.items ≡ Some c.args.place = ap (λ (x : Volumed _). position (λ (f : Flight). nat_eq f.number c.args.number) x.flights) c.self.view_is ∙ c.requires.found in
      let inside = position_within (λ (f : Flight). nat_eq f.number c.args.number) v.flights.items c.args.place found in
      let was : r ≡ get_or v.flights.items c.args.place r = c.remove-flight.ensures.value in
      let route : r.route ≡ Store c.args.at = ap (λ (x : Flight). x.route) was ∙ ap (λ (x : Volumed _). (get_or x.flights c.args.place r).route) c.self.view_is ∙ c.requires.route r in
      let s = c.index_mut-snap.result.now in
      let k = c.in-Some.index in
      let within : k < length v.snaps.items = omega (arith, c.in-Some.ensures.found.0, ap length c.deref.ensures.value) in
      let is = c.index_mut-snap.ensures.value in
      let dev : r.request.dev ≡ Snap s.number = c.in-Some.ensures.found.1 s ∙ ap (λ (x : Kept _). Snap x.number) (ap (λ xs. get_or xs k s) c.deref.ensures.value ∙ sym is) in
      let goes = device_moves g.B.Block.may_hold g.B.Block.contents g.B.Block.layers g.B.Block.size g.met.B.Block.whole g.met.B.Block.holds_now _ c.self.invariant.whole c.self.invariant.lasting.snaps (given_by (Issue c.args.number) (map in_flight v.flights.items)) k s c.write_at.new.self v.flights.items within is c.write_at.ensures.fields (record { adds = c.write_at.ensures.adds; bytes = c.in-Err-write_at.ensures.same; sectors = c.write_at.ensures.size; loud = c.write_at.ensures.loud }) in
      let both = beside_both g.B.Block.may_hold g.B.Block.contents g.B.Block.layers g.B.Block.size g.met.B.Block.whole g.met.B.Block.holds_now _ c.self.invariant.whole c.self.invariant.lasting (given_by (Issue c.args.number) (map in_flight v.flights.items)) _ goes refl refl in
      record { snaps = both.lasts; merge = both.merge };
}

pub returns-in-Write-clause-step : goal.returns-in-Write-clause-step
returns-in-Write-clause-step g c =
    let v = c.self.inside in
    let r = c.remove-flight.result in
    let found : position (λ (f : Flight). nat_eq f.number c.args.number) v.flights.items ≡ Some c.args.place = ap (λ (x : Volumed _). position (λ (f : Flight). nat_eq f.number c.args.number) x.flights) c.self.view_is ∙ c.requires.found in
    let inside = position_within (λ (f : Flight). nat_eq f.number c.args.number) v.flights.items c.args.place found in
    let was : r ≡ get_or v.flights.items c.args.place r = c.remove-flight.ensures.value in
    let route : r.route ≡ Store c.args.at = ap (λ (x : Flight). x.route) was ∙ ap (λ (x : Volumed _). (get_or x.flights c.args.place r).route) c.self.view_is ∙ c.requires.route r in
    let s = c.index_mut-snap.result.now in
    let k = c.in-Some.index in
    let within : k < length v.snaps.items = omega (arith, c.in-Some.ensures.found.0, ap length c.deref.ensures.value) in
    let is = c.index_mut-snap.ensures.value in
    let dev : r.request.dev ≡ Snap s.number = c.in-Some.ensures.found.1 s ∙ ap (λ (x : Kept _). Snap x.number) (ap (λ xs. get_or xs k s) c.deref.ensures.value ∙ sym is) in
    let good = store_write_io g.B.Block.contents g.B.Block.layers g.B.Block.size g.B.Block.fault_count g.B.Block.done_count _ c.self.invariant.whole c.args.number c.args.place r found was c.args.at k s route within is dev c.write_at.new.self c.write_at.new.self.device c.write_at.ensures.fields c.write_at.ensures.loud c.write_at.ensures.size c.in-Err-write_at.ensures.operation.counted c.in-Write.bytes c.in-Write.is c.in-Err-write_at.ensures.same c.in-Err-write_at.ensures.operation.faulty in
    rw (← c.self.view_is, c.remove-flight.ensures.items) good.stepped

pub returns-in-Write-clause-exact : goal.returns-in-Write-clause-exact
returns-in-Write-clause-exact g c =
    let v = c.self.inside in
    let r = c.remove-flight.result in
    let found : position (λ (f : Flight). nat_eq f.number c.args.number) v.flights.items ≡ Some c.args.place = ap (λ (x : Volumed _). position (λ (f : Flight). nat_eq f.number c.args.number) x.flights) c.self.view_is ∙ c.requires.found in
    let inside = position_within (λ (f : Flight). nat_eq f.number c.args.number) v.flights.items c.args.place found in
    let was : r ≡ get_or v.flights.items c.args.place r = c.remove-flight.ensures.value in
    let route : r.route ≡ Store c.args.at = ap (λ (x : Flight). x.route) was ∙ ap (λ (x : Volumed _). (get_or x.flights c.args.place r).route) c.self.view_is ∙ c.requires.route r in
    let s = c.index_mut-snap.result.now in
    let k = c.in-Some.index in
    let within : k < length v.snaps.items = omega (arith, c.in-Some.ensures.found.0, ap length c.deref.ensures.value) in
    let is = c.index_mut-snap.ensures.value in
    let dev : r.request.dev ≡ Snap s.number = c.in-Some.ensures.found.1 s ∙ ap (λ (x : Kept _). Snap x.number) (ap (λ xs. get_or xs k s) c.deref.ensures.value ∙ sym is) in
    let one = subst (λ n. IsOneOperation (Writes (s.state.chunk * c.args.at + r.request.range.first % n) r.request.range.count) false (g.B.Block.layers s.device) (g.B.Block.layers c.write_at.new.self.device) (g.B.Block.fault_count s.device) (g.B.Block.fault_count c.write_at.new.self.device) (g.B.Block.done_count s.device) (g.B.Block.done_count c.write_at.new.self.device)) c.chunk.ensures.is c.in-Err-write_at.ensures.operation in
    rw (← c.self.view_is, c.remove-flight.ensures.items) (store_write_exact g.B.Block.contents g.B.Block.layers g.B.Block.size _ c.self.invariant.whole c.args.number c.args.place r found was false _ _ _ _ _ c.args.at s.number k route dev s c.write_at.new.self within is refl c.write_at.ensures.fields c.in-Write.bytes c.in-Write.is one (λ l. c.in-Err-write_at.ensures.same) refl)

pub returns-in-Ok-clause-stops_snaps : goal.returns-in-Ok-clause-stops_snaps
returns-in-Ok-clause-stops_snaps g c =
    let v = c.self.inside in
    let r = c.remove-flight.result in
    let found : position (λ (f : Flight). nat_eq f.number c.args.number) v.flights.items ≡ Some c.args.place = ap (λ (x : Volumed _). position (λ (f : Flight). nat_eq f.number c.args.number) x.flights) c.self.view_is ∙ c.requires.found in
    let inside = position_within (λ (f : Flight). nat_eq f.number c.args.number) v.flights.items c.args.place found in
    let was : r ≡ get_or v.flights.items c.args.place r = c.remove-flight.ensures.value in
    let route : r.route ≡ Store c.args.at = ap (λ (x : Flight). x.route) was ∙ ap (λ (x : Volumed _). (get_or x.flights c.args.place r).route) c.self.view_is ∙ c.requires.route r in
    let s = c.index_mut-snap.result.now in
    let k = c.in-Some.index in
    let within : k < length v.snaps.items = omega (arith, c.in-Some.ensures.found.0, ap length c.deref.ensures.value) in
    let is = c.index_mut-snap.ensures.value in
    let dev : r.request.dev ≡ Snap s.number = c.in-Some.ensures.found.1 s ∙ ap (λ (x : Kept _). Snap x.number) (ap (λ xs. get_or xs k s) c.deref.ensures.value ∙ sym is) in
    let bytes : c.from_vec.result ≡ c.read_at.new.out = c.from_vec.ensures ∙ with_items_is r.room c.read_at.new.out (omega (arith, c.read_at.auto.out, c.as_mut_slice.ensures.len)) in
    let read = bytes ∙ c.in-Ok.ensures.data ∙ ap (λ n. sectors_at (g.B.Block.contents s.device) (s.state.chunk * c.args.at + r.request.range.first % n) r.request.range.count) c.chunk.ensures.is in
    let request = request_at g.B.Block.contents g.B.Block.layers g.B.Block.size _ c.self.invariant.whole c.args.place r inside was in
    let filled = ap length c.as_mut_slice.ensures.value ∙ request.room ∙ ap (λ (o : Op). room_at o r.request.range.count) c.in-Read.is in
    let len : length c.from_vec.result ≡ 512 * r.request.range.count = omega (arith, ap length bytes, c.read_at.auto.out, filled) in
    let goes = device_moves g.B.Block.may_hold g.B.Block.contents g.B.Block.layers g.B.Block.size g.met.B.Block.whole g.met.B.Block.holds_now _ c.self.invariant.whole c.self.invariant.lasting.snaps (given_by (Issue c.args.number) (map in_flight v.flights.items)) k s c.read_at.new.self v.flights.items within is c.read_at.ensures.fields (record { adds = c.read_at.ensures.adds; bytes = c.read_at.ensures.same; sectors = c.read_at.ensures.size; loud = c.read_at.ensures.loud }) in
    let both = beside_both g.B.Block.may_hold g.B.Block.contents g.B.Block.layers g.B.Block.size g.met.B.Block.whole g.met.B.Block.holds_now _ c.self.invariant.whole c.self.invariant.lasting (given_by (Issue c.args.number) (map in_flight v.flights.items)) _ goes refl refl in
    rw (← c.self.view_is) both.stops_snaps

pub returns-in-Ok-clause-stops_origin : goal.returns-in-Ok-clause-stops_origin
returns-in-Ok-clause-stops_origin g c =
    let v = c.self.inside in
    let r = c.remove-flight.result in
    let found : position (λ (f : Flight). nat_eq f.number c.args.number) v.flights.items ≡ Some c.args.place = ap (λ (x : Volumed _). position (λ (f : Flight). nat_eq f.number c.args.number) x.flights) c.self.view_is ∙ c.requires.found in
    let inside = position_within (λ (f : Flight). nat_eq f.number c.args.number) v.flights.items c.args.place found in
    let was : r ≡ get_or v.flights.items c.args.place r = c.remove-flight.ensures.value in
    let route : r.route ≡ Store c.args.at = ap (λ (x : Flight). x.route) was ∙ ap (λ (x : Volumed _). (get_or x.flights c.args.place r).route) c.self.view_is ∙ c.requires.route r in
    let s = c.index_mut-snap.result.now in
    let k = c.in-Some.index in
    let within : k < length v.snaps.items = omega (arith, c.in-Some.ensures.found.0, ap length c.deref.ensures.value) in
    let is = c.index_mut-snap.ensures.value in
    let dev : r.request.dev ≡ Snap s.number = c.in-Some.ensures.found.1 s ∙ ap (λ (x : Kept _). Snap x.number) (ap (λ xs. get_or xs k s) c.deref.ensures.value ∙ sym is) in
    let bytes : c.from_vec.result ≡ c.read_at.new.out = c.from_vec.ensures ∙ with_items_is r.room c.read_at.new.out (omega (arith, c.read_at.auto.out, c.as_mut_slice.ensures.len)) in
    let read = bytes ∙ c.in-Ok.ensures.data ∙ ap (λ n. sectors_at (g.B.Block.contents s.device) (s.state.chunk * c.args.at + r.request.range.first % n) r.request.range.count) c.chunk.ensures.is in
    let request = request_at g.B.Block.contents g.B.Block.layers g.B.Block.size _ c.self.invariant.whole c.args.place r inside was in
    let filled = ap length c.as_mut_slice.ensures.value ∙ request.room ∙ ap (λ (o : Op). room_at o r.request.range.count) c.in-Read.is in
    let len : length c.from_vec.result ≡ 512 * r.request.range.count = omega (arith, ap length bytes, c.read_at.auto.out, filled) in
    let goes = device_moves g.B.Block.may_hold g.B.Block.contents g.B.Block.layers g.B.Block.size g.met.B.Block.whole g.met.B.Block.holds_now _ c.self.invariant.whole c.self.invariant.lasting.snaps (given_by (Issue c.args.number) (map in_flight v.flights.items)) k s c.read_at.new.self v.flights.items within is c.read_at.ensures.fields (record { adds = c.read_at.ensures.adds; bytes = c.read_at.ensures.same; sectors = c.read_at.ensures.size; loud = c.read_at.ensures.loud }) in
    let both = beside_both g.B.Block.may_hold g.B.Block.contents g.B.Block.layers g.B.Block.size g.met.B.Block.whole g.met.B.Block.holds_now _ c.self.invariant.whole c.self.invariant.lasting (given_by (Issue c.args.number) (map in_flight v.flights.items)) _ goes refl refl in
    rw (← c.self.view_is) both.stops_origin

pub returns-in-Read-clause-stops_snaps : goal.returns-in-Read-clause-stops_snaps
returns-in-Read-clause-stops_snaps g c =
    let v = c.self.inside in
    let r = c.remove-flight.result in
    let found : position (λ (f : Flight). nat_eq f.number c.args.number) v.flights.items ≡ Some c.args.place = ap (λ (x : Volumed _). position (λ (f : Flight). nat_eq f.number c.args.number) x.flights) c.self.view_is ∙ c.requires.found in
    let inside = position_within (λ (f : Flight). nat_eq f.number c.args.number) v.flights.items c.args.place found in
    let was : r ≡ get_or v.flights.items c.args.place r = c.remove-flight.ensures.value in
    let route : r.route ≡ Store c.args.at = ap (λ (x : Flight). x.route) was ∙ ap (λ (x : Volumed _). (get_or x.flights c.args.place r).route) c.self.view_is ∙ c.requires.route r in
    let s = c.index_mut-snap.result.now in
    let k = c.in-Some.index in
    let within : k < length v.snaps.items = omega (arith, c.in-Some.ensures.found.0, ap length c.deref.ensures.value) in
    let is = c.index_mut-snap.ensures.value in
    let dev : r.request.dev ≡ Snap s.number = c.in-Some.ensures.found.1 s ∙ ap (λ (x : Kept _). Snap x.number) (ap (λ xs. get_or xs k s) c.deref.ensures.value ∙ sym is) in
    let goes = device_moves g.B.Block.may_hold g.B.Block.contents g.B.Block.layers g.B.Block.size g.met.B.Block.whole g.met.B.Block.holds_now _ c.self.invariant.whole c.self.invariant.lasting.snaps (given_by (Issue c.args.number) (map in_flight v.flights.items)) k s c.read_at.new.self v.flights.items within is c.read_at.ensures.fields (record { adds = c.read_at.ensures.adds; bytes = c.read_at.ensures.same; sectors = c.read_at.ensures.size; loud = c.read_at.ensures.loud }) in
    let both = beside_both g.B.Block.may_hold g.B.Block.contents g.B.Block.layers g.B.Block.size g.met.B.Block.whole g.met.B.Block.holds_now _ c.self.invariant.whole c.self.invariant.lasting (given_by (Issue c.args.number) (map in_flight v.flights.items)) _ goes refl refl in
    rw (← c.self.view_is) both.stops_snaps

pub returns-in-Read-clause-stops_origin : goal.returns-in-Read-clause-stops_origin
returns-in-Read-clause-stops_origin g c =
    let v = c.self.inside in
    let r = c.remove-flight.result in
    let found : position (λ (f : Flight). nat_eq f.number c.args.number) v.flights.items ≡ Some c.args.place = ap (λ (x : Volumed _). position (λ (f : Flight). nat_eq f.number c.args.number) x.flights) c.self.view_is ∙ c.requires.found in
    let inside = position_within (λ (f : Flight). nat_eq f.number c.args.number) v.flights.items c.args.place found in
    let was : r ≡ get_or v.flights.items c.args.place r = c.remove-flight.ensures.value in
    let route : r.route ≡ Store c.args.at = ap (λ (x : Flight). x.route) was ∙ ap (λ (x : Volumed _). (get_or x.flights c.args.place r).route) c.self.view_is ∙ c.requires.route r in
    let s = c.index_mut-snap.result.now in
    let k = c.in-Some.index in
    let within : k < length v.snaps.items = omega (arith, c.in-Some.ensures.found.0, ap length c.deref.ensures.value) in
    let is = c.index_mut-snap.ensures.value in
    let dev : r.request.dev ≡ Snap s.number = c.in-Some.ensures.found.1 s ∙ ap (λ (x : Kept _). Snap x.number) (ap (λ xs. get_or xs k s) c.deref.ensures.value ∙ sym is) in
    let goes = device_moves g.B.Block.may_hold g.B.Block.contents g.B.Block.layers g.B.Block.size g.met.B.Block.whole g.met.B.Block.holds_now _ c.self.invariant.whole c.self.invariant.lasting.snaps (given_by (Issue c.args.number) (map in_flight v.flights.items)) k s c.read_at.new.self v.flights.items within is c.read_at.ensures.fields (record { adds = c.read_at.ensures.adds; bytes = c.read_at.ensures.same; sectors = c.read_at.ensures.size; loud = c.read_at.ensures.loud }) in
    let both = beside_both g.B.Block.may_hold g.B.Block.contents g.B.Block.layers g.B.Block.size g.met.B.Block.whole g.met.B.Block.holds_now _ c.self.invariant.whole c.self.invariant.lasting (given_by (Issue c.args.number) (map in_flight v.flights.items)) _ goes refl refl in
    rw (← c.self.view_is) both.stops_origin

pub returns-in-Ok-write_at-clause-stops_snaps : goal.returns-in-Ok-write_at-clause-stops_snaps
returns-in-Ok-write_at-clause-stops_snaps g c =
    let v = c.self.inside in
    let r = c.remove-flight.result in
    let found : position (λ (f : Flight). nat_eq f.number c.args.number) v.flights.items ≡ Some c.args.place = ap (λ (x : Volumed _). position (λ (f : Flight). nat_eq f.number c.args.number) x.flights) c.self.view_is ∙ c.requires.found in
    let inside = position_within (λ (f : Flight). nat_eq f.number c.args.number) v.flights.items c.args.place found in
    let was : r ≡ get_or v.flights.items c.args.place r = c.remove-flight.ensures.value in
    let route : r.route ≡ Store c.args.at = ap (λ (x : Flight). x.route) was ∙ ap (λ (x : Volumed _). (get_or x.flights c.args.place r).route) c.self.view_is ∙ c.requires.route r in
    let s = c.index_mut-snap.result.now in
    let k = c.in-Some.index in
    let within : k < length v.snaps.items = omega (arith, c.in-Some.ensures.found.0, ap length c.deref.ensures.value) in
    let is = c.index_mut-snap.ensures.value in
    let dev : r.request.dev ≡ Snap s.number = c.in-Some.ensures.found.1 s ∙ ap (λ (x : Kept _). Snap x.number) (ap (λ xs. get_or xs k s) c.deref.ensures.value ∙ sym is) in
    let chunk = r.request.range.first / s.state.chunk in
    let wrote = subst (λ n. WritesPlace chunk c.args.at (r.request.range.first % n) c.in-Write.bytes (books_of g.B.Block.contents g.B.Block.layers s) (books_of g.B.Block.contents g.B.Block.layers c.write_at.new.self)) c.chunk.ensures.is
    (subst (λ (b : List ℕ). WritesPlace chunk c.args.at (r.request.range.first % c.chunk.result) b (books_of g.B.Block.contents g.B.Block.layers s) (books_of g.B.Block.contents g.B.Block.layers c.write_at.new.self)) c.as_slice.ensures (c.in-Ok-write_at.ensures.writes chunk)) in
    let both = own_both g.B.Block.may_hold g.B.Block.contents g.B.Block.layers g.B.Block.size g.met.B.Block.whole g.met.B.Block.holds_now _ c.self.invariant.whole c.self.invariant.lasting c.args.number c.args.place r found was c.in-Write.bytes c.in-Write.is k s c.write_at.new.self v.flights.items c.args.at within is dev route c.write_at.ensures.fields wrote (record { adds = c.write_at.ensures.adds; sectors = c.write_at.ensures.size; loud = c.write_at.ensures.loud }) in
    rw (← c.self.view_is) both.stops_snaps

pub returns-in-Ok-write_at-clause-stops_origin : goal.returns-in-Ok-write_at-clause-stops_origin
returns-in-Ok-write_at-clause-stops_origin g c =
    let v = c.self.inside in
    let r = c.remove-flight.result in
    let found : position (λ (f : Flight). nat_eq f.number c.args.number) v.flights.items ≡ Some c.args.place = ap (λ (x : Volumed _). position (λ (f : Flight). nat_eq f.number c.args.number) x.flights) c.self.view_is ∙ c.requires.found in
    let inside = position_within (λ (f : Flight). nat_eq f.number c.args.number) v.flights.items c.args.place found in
    let was : r ≡ get_or v.flights.items c.args.place r = c.remove-flight.ensures.value in
    let route : r.route ≡ Store c.args.at = ap (λ (x : Flight). x.route) was ∙ ap (λ (x : Volumed _). (get_or x.flights c.args.place r).route) c.self.view_is ∙ c.requires.route r in
    let s = c.index_mut-snap.result.now in
    let k = c.in-Some.index in
    let within : k < length v.snaps.items = omega (arith, c.in-Some.ensures.found.0, ap length c.deref.ensures.value) in
    let is = c.index_mut-snap.ensures.value in
    let dev : r.request.dev ≡ Snap s.number = c.in-Some.ensures.found.1 s ∙ ap (λ (x : Kept _). Snap x.number) (ap (λ xs. get_or xs k s) c.deref.ensures.value ∙ sym is) in
    let chunk = r.request.range.first / s.state.chunk in
    let wrote = subst (λ n. WritesPlace chunk c.args.at (r.request.range.first % n) c.in-Write.bytes (books_of g.B.Block.contents g.B.Block.layers s) (books_of g.B.Block.contents g.B.Block.layers c.write_at.new.self)) c.chunk.ensures.is
    (subst (λ (b : List ℕ). WritesPlace chunk c.args.at (r.request.range.first % c.chunk.result) b (books_of g.B.Block.contents g.B.Block.layers s) (books_of g.B.Block.contents g.B.Block.layers c.write_at.new.self)) c.as_slice.ensures (c.in-Ok-write_at.ensures.writes chunk)) in
    let both = own_both g.B.Block.may_hold g.B.Block.contents g.B.Block.layers g.B.Block.size g.met.B.Block.whole g.met.B.Block.holds_now _ c.self.invariant.whole c.self.invariant.lasting c.args.number c.args.place r found was c.in-Write.bytes c.in-Write.is k s c.write_at.new.self v.flights.items c.args.at within is dev route c.write_at.ensures.fields wrote (record { adds = c.write_at.ensures.adds; sectors = c.write_at.ensures.size; loud = c.write_at.ensures.loud }) in
    rw (← c.self.view_is) both.stops_origin

pub returns-in-Write-clause-stops_snaps : goal.returns-in-Write-clause-stops_snaps
returns-in-Write-clause-stops_snaps g c =
    let v = c.self.inside in
    let r = c.remove-flight.result in
    let found : position (λ (f : Flight). nat_eq f.number c.args.number) v.flights.items ≡ Some c.args.place = ap (λ (x : Volumed _). position (λ (f : Flight). nat_eq f.number c.args.number) x.flights) c.self.view_is ∙ c.requires.found in
    let inside = position_within (λ (f : Flight). nat_eq f.number c.args.number) v.flights.items c.args.place found in
    let was : r ≡ get_or v.flights.items c.args.place r = c.remove-flight.ensures.value in
    let route : r.route ≡ Store c.args.at = ap (λ (x : Flight). x.route) was ∙ ap (λ (x : Volumed _). (get_or x.flights c.args.place r).route) c.self.view_is ∙ c.requires.route r in
    let s = c.index_mut-snap.result.now in
    let k = c.in-Some.index in
    let within : k < length v.snaps.items = omega (arith, c.in-Some.ensures.found.0, ap length c.deref.ensures.value) in
    let is = c.index_mut-snap.ensures.value in
    let dev : r.request.dev ≡ Snap s.number = c.in-Some.ensures.found.1 s ∙ ap (λ (x : Kept _). Snap x.number) (ap (λ xs. get_or xs k s) c.deref.ensures.value ∙ sym is) in
    let goes = device_moves g.B.Block.may_hold g.B.Block.contents g.B.Block.layers g.B.Block.size g.met.B.Block.whole g.met.B.Block.holds_now _ c.self.invariant.whole c.self.invariant.lasting.snaps (given_by (Issue c.args.number) (map in_flight v.flights.items)) k s c.write_at.new.self v.flights.items within is c.write_at.ensures.fields (record { adds = c.write_at.ensures.adds; bytes = c.in-Err-write_at.ensures.same; sectors = c.write_at.ensures.size; loud = c.write_at.ensures.loud }) in
    let both = beside_both g.B.Block.may_hold g.B.Block.contents g.B.Block.layers g.B.Block.size g.met.B.Block.whole g.met.B.Block.holds_now _ c.self.invariant.whole c.self.invariant.lasting (given_by (Issue c.args.number) (map in_flight v.flights.items)) _ goes refl refl in
    rw (← c.self.view_is) both.stops_snaps

pub returns-in-Write-clause-stops_origin : goal.returns-in-Write-clause-stops_origin
returns-in-Write-clause-stops_origin g c =
    let v = c.self.inside in
    let r = c.remove-flight.result in
    let found : position (λ (f : Flight). nat_eq f.number c.args.number) v.flights.items ≡ Some c.args.place = ap (λ (x : Volumed _). position (λ (f : Flight). nat_eq f.number c.args.number) x.flights) c.self.view_is ∙ c.requires.found in
    let inside = position_within (λ (f : Flight). nat_eq f.number c.args.number) v.flights.items c.args.place found in
    let was : r ≡ get_or v.flights.items c.args.place r = c.remove-flight.ensures.value in
    let route : r.route ≡ Store c.args.at = ap (λ (x : Flight). x.route) was ∙ ap (λ (x : Volumed _). (get_or x.flights c.args.place r).route) c.self.view_is ∙ c.requires.route r in
    let s = c.index_mut-snap.result.now in
    let k = c.in-Some.index in
    let within : k < length v.snaps.items = omega (arith, c.in-Some.ensures.found.0, ap length c.deref.ensures.value) in
    let is = c.index_mut-snap.ensures.value in
    let dev : r.request.dev ≡ Snap s.number = c.in-Some.ensures.found.1 s ∙ ap (λ (x : Kept _). Snap x.number) (ap (λ xs. get_or xs k s) c.deref.ensures.value ∙ sym is) in
    let goes = device_moves g.B.Block.may_hold g.B.Block.contents g.B.Block.layers g.B.Block.size g.met.B.Block.whole g.met.B.Block.holds_now _ c.self.invariant.whole c.self.invariant.lasting.snaps (given_by (Issue c.args.number) (map in_flight v.flights.items)) k s c.write_at.new.self v.flights.items within is c.write_at.ensures.fields (record { adds = c.write_at.ensures.adds; bytes = c.in-Err-write_at.ensures.same; sectors = c.write_at.ensures.size; loud = c.write_at.ensures.loud }) in
    let both = beside_both g.B.Block.may_hold g.B.Block.contents g.B.Block.layers g.B.Block.size g.met.B.Block.whole g.met.B.Block.holds_now _ c.self.invariant.whole c.self.invariant.lasting (given_by (Issue c.args.number) (map in_flight v.flights.items)) _ goes refl refl in
    rw (← c.self.view_is) both.stops_origin
