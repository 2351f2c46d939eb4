-- The copies are started, and the write is the last in flight.
use Rattle.std.proofs.Common.{◌≡◌, ◌+◌, ◌<◌, ◌≤◌, ◌++◌, ◌∷◌, [], ℕ, false, List, length, map, take, drop, sym, ◌∙◌, ap, subst, arith}
use Rattle.std.specs.Prelude.{None, sum_by, count_by}
use Rattle.std.specs.List.{All}
use Rattle.plain_machine.specs.declared.request.Request.{Request}
use Rattle.in_flight.specs.Kinds.{kind_of, room_of}
use Rattle.in_flight.specs.Routes.{write_route_of}
use Rattle.in_flight.specs.declared.flights.Flight.{Flight}
use Rattle.volume_laws.specs.Books.{SnapBooks}
use Rattle.volume_laws.specs.Published.{is_clear}
use Rattle.snapshot.specs.Kept.{Kept, books_of as snap_books}
use Rattle.snapshot_list.specs.Routing.{is_merged_at}
use Rattle.volume.specs.Volumed.{Volumed, piece_with}
use Rattle.snapshot_list.specs.Numbers.{count_in}
use Rattle.snapshot_list.specs.Starting.{unroomed, starts, AreSavedIn, HaveRooms, own_of}
use Rattle.volume.specs.Submitting.{IsAsked, IsAcceptedAs}
use Rattle.volume.proofs.Clear.{still_waits}
use Rattle.volume.proofs.Roomed.{books_roomed, whole_roomed}
use Rattle.volume.proofs.Finishes.{back, begins_all, written_whole, written_accepted}
use Rattle.volume.proofs.Lefts.{all_saved}
use Rattle.volume.proofs.Lefts.{all_then}
use Rattle.volume.proofs.Lefts.{all_rooms}
use Rattle.volume.proofs.LastMoves.{list_moves}
use Rattle.volume.proofs.volume.Volume.save_and_enter.Goals as goal

pub invariant_of-self : goal.invariant_of-self
invariant_of-self g c = record {
  whole =
      let v : Volumed g.row.B.Denot = record { origin = c.self.inside.origin; snaps = c.self.inside.snaps.items; merge = c.self.inside.merge; flights = c.self.inside.flights.items; requests = c.self.inside.requests; copies = c.self.inside.copies; attached = c.self.inside.attached } in
      let rooms = c.take_rooms.new.snaps in
      let same : map unroomed c.take_rooms.new.snaps ≡ map unroomed c.self.inside.snaps.items = c.take_rooms.ensures.same ∙ ap (map unroomed) c.as_mut_slice.ensures.value in
      let back_rooms = back c.self.inside.snaps.len c.take_rooms.new.snaps c.self.inside.snaps.items (c.take_rooms.auto.snaps ∙ c.as_mut_slice.ensures.len) in
      rw (back_rooms) (whole_roomed g.B.Block.contents g.B.Block.layers g.B.Block.size v c.take_rooms.new.snaps same c.self.invariant.whole);
  lasting =
      let v : Volumed g.row.B.Denot = record { origin = c.self.inside.origin; snaps = c.self.inside.snaps.items; merge = c.self.inside.merge; flights = c.self.inside.flights.items; requests = c.self.inside.requests; copies = c.self.inside.copies; attached = c.self.inside.attached } in
      let rooms = c.take_rooms.new.snaps in
      let same : map unroomed c.take_rooms.new.snaps ≡ map unroomed c.self.inside.snaps.items = c.take_rooms.ensures.same ∙ ap (map unroomed) c.as_mut_slice.ensures.value in
      let back_rooms = back c.self.inside.snaps.len c.take_rooms.new.snaps c.self.inside.snaps.items (c.take_rooms.auto.snaps ∙ c.as_mut_slice.ensures.len) in
      rw (back_rooms) (record { snaps = (list_moves g.B.Block.may_hold g.B.Block.contents g.B.Block.layers g.B.Block.size g.met.B.Block.whole g.met.B.Block.holds_now _ c.self.invariant.whole c.self.invariant.lasting.snaps None c.take_rooms.new.snaps (all_rooms v.snaps c.take_rooms.new.snaps same)).lasts; merge = c.self.invariant.lasting.merge });
}

pub invariant_of-self-in_default : goal.invariant_of-self-in_default
invariant_of-self-in_default g c = record {
  whole =
      let v : Volumed g.row.B.Denot = record { origin = c.self.inside.origin; snaps = c.self.inside.snaps.items; merge = c.self.inside.merge; flights = c.self.inside.flights.items; requests = c.self.inside.requests; copies = c.self.inside.copies; attached = c.self.inside.attached } in
      let rooms = c.take_rooms.new.snaps in
      let same : map unroomed c.take_rooms.new.snaps ≡ map unroomed c.self.inside.snaps.items = c.take_rooms.ensures.same ∙ ap (map unroomed) c.as_mut_slice.ensures.value in
      let back_rooms = back c.self.inside.snaps.len c.take_rooms.new.snaps c.self.inside.snaps.items (c.take_rooms.auto.snaps ∙ c.as_mut_slice.ensures.len) in
      rw (back_rooms) (whole_roomed g.B.Block.contents g.B.Block.layers g.B.Block.size v c.take_rooms.new.snaps same c.self.invariant.whole);
  lasting =
      let v : Volumed g.row.B.Denot = record { origin = c.self.inside.origin; snaps = c.self.inside.snaps.items; merge = c.self.inside.merge; flights = c.self.inside.flights.items; requests = c.self.inside.requests; copies = c.self.inside.copies; attached = c.self.inside.attached } in
      let rooms = c.take_rooms.new.snaps in
      let same : map unroomed c.take_rooms.new.snaps ≡ map unroomed c.self.inside.snaps.items = c.take_rooms.ensures.same ∙ ap (map unroomed) c.as_mut_slice.ensures.value in
      let back_rooms = back c.self.inside.snaps.len c.take_rooms.new.snaps c.self.inside.snaps.items (c.take_rooms.auto.snaps ∙ c.as_mut_slice.ensures.len) in
      rw (back_rooms) (record { snaps = (list_moves g.B.Block.may_hold g.B.Block.contents g.B.Block.layers g.B.Block.size g.met.B.Block.whole g.met.B.Block.holds_now _ c.self.invariant.whole c.self.invariant.lasting.snaps None c.take_rooms.new.snaps (all_rooms v.snaps c.take_rooms.new.snaps same)).lasts; merge = c.self.invariant.lasting.merge });
}

pub invariant_of-self-in-Err-reserve : goal.invariant_of-self-in-Err-reserve
invariant_of-self-in-Err-reserve g c = record {
  whole =
      let v : Volumed g.row.B.Denot = record { origin = c.self.inside.origin; snaps = c.self.inside.snaps.items; merge = c.self.inside.merge; flights = c.self.inside.flights.items; requests = c.self.inside.requests; copies = c.self.inside.copies; attached = c.self.inside.attached } in
      let rooms = c.take_rooms.new.snaps in
      let same : map unroomed c.take_rooms.new.snaps ≡ map unroomed c.self.inside.snaps.items = c.take_rooms.ensures.same ∙ ap (map unroomed) c.as_mut_slice.ensures.value in
      let back_rooms = back c.self.inside.snaps.len c.take_rooms.new.snaps c.self.inside.snaps.items (c.take_rooms.auto.snaps ∙ c.as_mut_slice.ensures.len) in
      rw (back_rooms, c.reserve.ensures.items) (whole_roomed g.B.Block.contents g.B.Block.layers g.B.Block.size v c.take_rooms.new.snaps same c.self.invariant.whole);
  lasting =
      let v : Volumed g.row.B.Denot = record { origin = c.self.inside.origin; snaps = c.self.inside.snaps.items; merge = c.self.inside.merge; flights = c.self.inside.flights.items; requests = c.self.inside.requests; copies = c.self.inside.copies; attached = c.self.inside.attached } in
      let rooms = c.take_rooms.new.snaps in
      let same : map unroomed c.take_rooms.new.snaps ≡ map unroomed c.self.inside.snaps.items = c.take_rooms.ensures.same ∙ ap (map unroomed) c.as_mut_slice.ensures.value in
      let back_rooms = back c.self.inside.snaps.len c.take_rooms.new.snaps c.self.inside.snaps.items (c.take_rooms.auto.snaps ∙ c.as_mut_slice.ensures.len) in
      rw (back_rooms) (record { snaps = (list_moves g.B.Block.may_hold g.B.Block.contents g.B.Block.layers g.B.Block.size g.met.B.Block.whole g.met.B.Block.holds_now _ c.self.invariant.whole c.self.invariant.lasting.snaps None c.take_rooms.new.snaps (all_rooms v.snaps c.take_rooms.new.snaps same)).lasts; merge = c.self.invariant.lasting.merge });
}

pub save_in_all-self-inside-requires-clause-begins : goal.save_in_all-self-inside-requires-clause-begins
save_in_all-self-inside-requires-clause-begins g c =
    let v : Volumed g.row.B.Denot = record { origin = c.self.inside.origin; snaps = c.self.inside.snaps.items; merge = c.self.inside.merge; flights = c.self.inside.flights.items; requests = c.self.inside.requests; copies = c.self.inside.copies; attached = c.self.inside.attached } in
    let rooms = c.take_rooms.new.snaps in
    let same : map unroomed c.take_rooms.new.snaps ≡ map unroomed c.self.inside.snaps.items = c.take_rooms.ensures.same ∙ ap (map unroomed) c.as_mut_slice.ensures.value in
    let back_rooms = back c.self.inside.snaps.len c.take_rooms.new.snaps c.self.inside.snaps.items (c.take_rooms.auto.snaps ∙ c.as_mut_slice.ensures.len) in
    let now2 = c.as_mut_slice-2.ensures.value ∙ back_rooms in
    let asked : IsAsked (g.B.Block.size c.self.inside.origin) (piece_with c.self.inside.merge c.self.inside.snaps.items) c.args.request = subst (λ (x : Volumed g.row.B.Denot). IsAsked (g.B.Block.size x.origin) (piece_with x.merge x.snaps) c.args.request) (sym c.self.view_is) c.requires.asked in
    let all = begins_all g.B.Block.contents g.B.Block.layers g.B.Block.size v c.self.invariant.whole c.take_rooms.new.snaps same c.args.request.range.first c.args.request.range.count asked.some asked.inside in
    subst (λ (x : List (Kept g.row.B.Denot)). All (λ s. c.args.request.range.first < s.state.origin) x) (sym now2) all

pub save_in_all-self-inside-requires-clause-rooms : goal.save_in_all-self-inside-requires-clause-rooms
save_in_all-self-inside-requires-clause-rooms g c =
    let v : Volumed g.row.B.Denot = record { origin = c.self.inside.origin; snaps = c.self.inside.snaps.items; merge = c.self.inside.merge; flights = c.self.inside.flights.items; requests = c.self.inside.requests; copies = c.self.inside.copies; attached = c.self.inside.attached } in
    let rooms = c.take_rooms.new.snaps in
    let same : map unroomed c.take_rooms.new.snaps ≡ map unroomed c.self.inside.snaps.items = c.take_rooms.ensures.same ∙ ap (map unroomed) c.as_mut_slice.ensures.value in
    let back_rooms = back c.self.inside.snaps.len c.take_rooms.new.snaps c.self.inside.snaps.items (c.take_rooms.auto.snaps ∙ c.as_mut_slice.ensures.len) in
    let now2 = c.as_mut_slice-2.ensures.value ∙ back_rooms in
    let asked : IsAsked (g.B.Block.size c.self.inside.origin) (piece_with c.self.inside.merge c.self.inside.snaps.items) c.args.request = subst (λ (x : Volumed g.row.B.Denot). IsAsked (g.B.Block.size x.origin) (piece_with x.merge x.snaps) c.args.request) (sym c.self.view_is) c.requires.asked in
    subst (λ (x : List (Kept g.row.B.Denot)). HaveRooms c.args.request.range.first x c.take_rooms.new.rooms.items) (sym now2) c.in-Ok.ensures.ok

pub invariant_of-self-2 : goal.invariant_of-self-2
invariant_of-self-2 g c = record {
  whole =
      let v : Volumed g.row.B.Denot = record { origin = c.self.inside.origin; snaps = c.self.inside.snaps.items; merge = c.self.inside.merge; flights = c.self.inside.flights.items; requests = c.self.inside.requests; copies = c.self.inside.copies; attached = c.self.inside.attached } in
      let rooms = c.take_rooms.new.snaps in
      let same : map unroomed c.take_rooms.new.snaps ≡ map unroomed c.self.inside.snaps.items = c.take_rooms.ensures.same ∙ ap (map unroomed) c.as_mut_slice.ensures.value in
      let back_rooms = back c.self.inside.snaps.len c.take_rooms.new.snaps c.self.inside.snaps.items (c.take_rooms.auto.snaps ∙ c.as_mut_slice.ensures.len) in
      let now2 = c.as_mut_slice-2.ensures.value ∙ back_rooms in
      let asked : IsAsked (g.B.Block.size c.self.inside.origin) (piece_with c.self.inside.merge c.self.inside.snaps.items) c.args.request = subst (λ (x : Volumed g.row.B.Denot). IsAsked (g.B.Block.size x.origin) (piece_with x.merge x.snaps) c.args.request) (sym c.self.view_is) c.requires.asked in
      let gs = c.save_in_all-self-inside.new.flights in
      let after = c.save_in_all-self-inside.new.snaps in
      let flights3 = c.as_mut_slice-3.ensures.value ∙ c.reserve.ensures.items in
      let saved : AreSavedIn g.B.Block.contents g.B.Block.layers (own_of c.args.request.range.first) c.take_rooms.new.snaps c.save_in_all-self-inside.new.snaps c.self.inside.copies c.save_in_all-self-inside.result c.self.inside.flights.items c.save_in_all-self-inside.new.flights =
      subst (λ (x : List (Kept g.row.B.Denot)). AreSavedIn g.B.Block.contents g.B.Block.layers (own_of c.args.request.range.first) x c.save_in_all-self-inside.new.snaps c.self.inside.copies c.save_in_all-self-inside.result c.self.inside.flights.items c.save_in_all-self-inside.new.flights) now2
      (subst (λ (x : List Flight). AreSavedIn g.B.Block.contents g.B.Block.layers (own_of c.args.request.range.first) c.as_mut_slice-2.result.now c.save_in_all-self-inside.new.snaps c.self.inside.copies c.save_in_all-self-inside.result x c.save_in_all-self-inside.new.flights) flights3 c.save_in_all-self-inside.ensures.saved) in
      let back_snaps = back c.self.inside.snaps.len c.save_in_all-self-inside.new.snaps (take c.self.inside.snaps.len (c.take_rooms.new.snaps ++ drop (length c.take_rooms.new.snaps) c.self.inside.snaps.items)) (c.save_in_all-self-inside.auto.snaps ∙ c.as_mut_slice-2.ensures.len) in
      let back_flights = back c.reserve.new.self.len c.save_in_all-self-inside.new.flights c.reserve.new.self.items (c.save_in_all-self-inside.auto.flights ∙ c.as_mut_slice-3.ensures.len) in
      let f : Flight = c.in-Ok-new.flight in
      let request_is = c.in-Ok-new.ensures.request in
      let saved_f = subst (λ (r : Request). AreSavedIn g.B.Block.contents g.B.Block.layers (own_of r.range.first) c.take_rooms.new.snaps c.save_in_all-self-inside.new.snaps c.self.inside.copies c.save_in_all-self-inside.result c.self.inside.flights.items c.save_in_all-self-inside.new.flights) (sym request_is) saved in
      let few_v : sum_by count_in c.self.inside.snaps.items + count_by (starts c.args.request.range.first) c.self.inside.snaps.items ≤ 256 =
      subst (λ (x : Volumed g.row.B.Denot). sum_by count_in x.snaps + count_by (starts c.args.request.range.first) x.snaps ≤ 256) (sym c.self.view_is) c.requires.few in
      let few_f = subst (λ (r : Request). sum_by count_in c.self.inside.snaps.items + count_by (starts r.range.first) c.self.inside.snaps.items ≤ 256) (sym request_is) few_v in
      let asked_f = subst (IsAsked (g.B.Block.size c.self.inside.origin) (piece_with c.self.inside.merge c.self.inside.snaps.items)) (sym request_is) asked in
      let room_f = c.in-Ok-new.ensures.room ∙ ap room_of (sym request_is) in
      let kind_f = ap kind_of request_is ∙ c.requires.kind in
      let waits_v : is_clear (map (snap_books g.B.Block.contents g.B.Block.layers) v.snaps) c.args.request.range.first ≡ false = ap (λ (x : Volumed g.row.B.Denot). is_clear (map (snap_books g.B.Block.contents g.B.Block.layers) x.snaps) c.args.request.range.first) c.self.view_is ∙ c.requires.waits in
      let waits = still_waits g.B.Block.contents g.B.Block.layers c.args.request.range.first c.take_rooms.new.snaps c.save_in_all-self-inside.new.snaps c.self.inside.copies c.save_in_all-self-inside.result c.self.inside.flights.items c.save_in_all-self-inside.new.flights saved
      (ap (λ (xs : List SnapBooks). is_clear xs c.args.request.range.first) (books_roomed g.B.Block.contents g.B.Block.layers g.B.Block.size v c.take_rooms.new.snaps same) ∙ waits_v) in
      let route_f = c.in-Ok-new.ensures.route ∙ sym (ap (write_route_of false None) (ap (λ (r : Request). is_clear (map (snap_books g.B.Block.contents g.B.Block.layers) c.save_in_all-self-inside.new.snaps) r.range.first) request_is ∙ waits)) in
      let unmerged : is_merged_at c.args.request.range.first c.self.inside.merge ≡ false = ap (λ (x : Volumed g.row.B.Denot). is_merged_at c.args.request.range.first x.merge) c.self.view_is ∙ c.requires.unmerged in
      let unmerged_f = subst (λ (r : Request). is_merged_at r.range.first c.self.inside.merge ≡ false) (sym request_is) unmerged in
      let space : length c.self.inside.flights.items < 64 = omega (arith, c.requires.room, ap (λ (x : Volumed g.row.B.Denot). length x.flights) c.self.view_is) in
      let pushed = c.push_reserved.ensures.items ∙ ap (λ fs. fs ++ f ∷ []) back_flights in
      rw (back_snaps, pushed) (written_whole g.B.Block.contents g.B.Block.layers g.B.Block.size v c.self.invariant.whole c.take_rooms.new.snaps c.save_in_all-self-inside.new.snaps same c.save_in_all-self-inside.result c.save_in_all-self-inside.new.flights f saved_f few_f c.in-Ok-new.ensures.number asked_f room_f kind_f route_f space unmerged_f);
  lasting =
      let v : Volumed g.row.B.Denot = record { origin = c.self.inside.origin; snaps = c.self.inside.snaps.items; merge = c.self.inside.merge; flights = c.self.inside.flights.items; requests = c.self.inside.requests; copies = c.self.inside.copies; attached = c.self.inside.attached } in
      let rooms = c.take_rooms.new.snaps in
      let same : map unroomed c.take_rooms.new.snaps ≡ map unroomed c.self.inside.snaps.items = c.take_rooms.ensures.same ∙ ap (map unroomed) c.as_mut_slice.ensures.value in
      let back_rooms = back c.self.inside.snaps.len c.take_rooms.new.snaps c.self.inside.snaps.items (c.take_rooms.auto.snaps ∙ c.as_mut_slice.ensures.len) in
      let now2 = c.as_mut_slice-2.ensures.value ∙ back_rooms in
      let asked : IsAsked (g.B.Block.size c.self.inside.origin) (piece_with c.self.inside.merge c.self.inside.snaps.items) c.args.request = subst (λ (x : Volumed g.row.B.Denot). IsAsked (g.B.Block.size x.origin) (piece_with x.merge x.snaps) c.args.request) (sym c.self.view_is) c.requires.asked in
      let gs = c.save_in_all-self-inside.new.flights in
      let after = c.save_in_all-self-inside.new.snaps in
      let flights3 = c.as_mut_slice-3.ensures.value ∙ c.reserve.ensures.items in
      let saved : AreSavedIn g.B.Block.contents g.B.Block.layers (own_of c.args.request.range.first) c.take_rooms.new.snaps c.save_in_all-self-inside.new.snaps c.self.inside.copies c.save_in_all-self-inside.result c.self.inside.flights.items c.save_in_all-self-inside.new.flights =
      subst (λ (x : List (Kept g.row.B.Denot)). AreSavedIn g.B.Block.contents g.B.Block.layers (own_of c.args.request.range.first) x c.save_in_all-self-inside.new.snaps c.self.inside.copies c.save_in_all-self-inside.result c.self.inside.flights.items c.save_in_all-self-inside.new.flights) now2
      (subst (λ (x : List Flight). AreSavedIn g.B.Block.contents g.B.Block.layers (own_of c.args.request.range.first) c.as_mut_slice-2.result.now c.save_in_all-self-inside.new.snaps c.self.inside.copies c.save_in_all-self-inside.result x c.save_in_all-self-inside.new.flights) flights3 c.save_in_all-self-inside.ensures.saved) in
      let back_snaps = back c.self.inside.snaps.len c.save_in_all-self-inside.new.snaps (take c.self.inside.snaps.len (c.take_rooms.new.snaps ++ drop (length c.take_rooms.new.snaps) c.self.inside.snaps.items)) (c.save_in_all-self-inside.auto.snaps ∙ c.as_mut_slice-2.ensures.len) in
      let back_flights = back c.reserve.new.self.len c.save_in_all-self-inside.new.flights c.reserve.new.self.items (c.save_in_all-self-inside.auto.flights ∙ c.as_mut_slice-3.ensures.len) in
      let f : Flight = c.in-Ok-new.flight in
      let request_is = c.in-Ok-new.ensures.request in
      let saved_f = subst (λ (r : Request). AreSavedIn g.B.Block.contents g.B.Block.layers (own_of r.range.first) c.take_rooms.new.snaps c.save_in_all-self-inside.new.snaps c.self.inside.copies c.save_in_all-self-inside.result c.self.inside.flights.items c.save_in_all-self-inside.new.flights) (sym request_is) saved in
      let few_v : sum_by count_in c.self.inside.snaps.items + count_by (starts c.args.request.range.first) c.self.inside.snaps.items ≤ 256 =
      subst (λ (x : Volumed g.row.B.Denot). sum_by count_in x.snaps + count_by (starts c.args.request.range.first) x.snaps ≤ 256) (sym c.self.view_is) c.requires.few in
      let few_f = subst (λ (r : Request). sum_by count_in c.self.inside.snaps.items + count_by (starts r.range.first) c.self.inside.snaps.items ≤ 256) (sym request_is) few_v in
      let asked_f = subst (IsAsked (g.B.Block.size c.self.inside.origin) (piece_with c.self.inside.merge c.self.inside.snaps.items)) (sym request_is) asked in
      let room_f = c.in-Ok-new.ensures.room ∙ ap room_of (sym request_is) in
      let kind_f = ap kind_of request_is ∙ c.requires.kind in
      let waits_v : is_clear (map (snap_books g.B.Block.contents g.B.Block.layers) v.snaps) c.args.request.range.first ≡ false = ap (λ (x : Volumed g.row.B.Denot). is_clear (map (snap_books g.B.Block.contents g.B.Block.layers) x.snaps) c.args.request.range.first) c.self.view_is ∙ c.requires.waits in
      let waits = still_waits g.B.Block.contents g.B.Block.layers c.args.request.range.first c.take_rooms.new.snaps c.save_in_all-self-inside.new.snaps c.self.inside.copies c.save_in_all-self-inside.result c.self.inside.flights.items c.save_in_all-self-inside.new.flights saved
      (ap (λ (xs : List SnapBooks). is_clear xs c.args.request.range.first) (books_roomed g.B.Block.contents g.B.Block.layers g.B.Block.size v c.take_rooms.new.snaps same) ∙ waits_v) in
      let route_f = c.in-Ok-new.ensures.route ∙ sym (ap (write_route_of false None) (ap (λ (r : Request). is_clear (map (snap_books g.B.Block.contents g.B.Block.layers) c.save_in_all-self-inside.new.snaps) r.range.first) request_is ∙ waits)) in
      let unmerged : is_merged_at c.args.request.range.first c.self.inside.merge ≡ false = ap (λ (x : Volumed g.row.B.Denot). is_merged_at c.args.request.range.first x.merge) c.self.view_is ∙ c.requires.unmerged in
      let unmerged_f = subst (λ (r : Request). is_merged_at r.range.first c.self.inside.merge ≡ false) (sym request_is) unmerged in
      let space : length c.self.inside.flights.items < 64 = omega (arith, c.requires.room, ap (λ (x : Volumed g.row.B.Denot). length x.flights) c.self.view_is) in
      let pushed = c.push_reserved.ensures.items ∙ ap (λ fs. fs ++ f ∷ []) back_flights in
      let left = all_then v.snaps c.take_rooms.new.snaps c.save_in_all-self-inside.new.snaps (all_rooms v.snaps c.take_rooms.new.snaps same) (all_saved g.B.Block.contents g.B.Block.layers (own_of c.args.request.range.first) c.take_rooms.new.snaps c.save_in_all-self-inside.new.snaps _ _ _ _ saved) in
      let goes = list_moves g.B.Block.may_hold g.B.Block.contents g.B.Block.layers g.B.Block.size g.met.B.Block.whole g.met.B.Block.holds_now _ c.self.invariant.whole c.self.invariant.lasting.snaps None c.save_in_all-self-inside.new.snaps left in
      rw (back_snaps) (record { snaps = goes.lasts; merge = c.self.invariant.lasting.merge });
}

pub returns-clause-ok : goal.returns-clause-ok
returns-clause-ok g c =
    let v : Volumed g.row.B.Denot = record { origin = c.self.inside.origin; snaps = c.self.inside.snaps.items; merge = c.self.inside.merge; flights = c.self.inside.flights.items; requests = c.self.inside.requests; copies = c.self.inside.copies; attached = c.self.inside.attached } in
    let rooms = c.take_rooms.new.snaps in
    let same : map unroomed c.take_rooms.new.snaps ≡ map unroomed c.self.inside.snaps.items = c.take_rooms.ensures.same ∙ ap (map unroomed) c.as_mut_slice.ensures.value in
    let back_rooms = back c.self.inside.snaps.len c.take_rooms.new.snaps c.self.inside.snaps.items (c.take_rooms.auto.snaps ∙ c.as_mut_slice.ensures.len) in
    let now2 = c.as_mut_slice-2.ensures.value ∙ back_rooms in
    let asked : IsAsked (g.B.Block.size c.self.inside.origin) (piece_with c.self.inside.merge c.self.inside.snaps.items) c.args.request = subst (λ (x : Volumed g.row.B.Denot). IsAsked (g.B.Block.size x.origin) (piece_with x.merge x.snaps) c.args.request) (sym c.self.view_is) c.requires.asked in
    let gs = c.save_in_all-self-inside.new.flights in
    let after = c.save_in_all-self-inside.new.snaps in
    let flights3 = c.as_mut_slice-3.ensures.value ∙ c.reserve.ensures.items in
    let saved : AreSavedIn g.B.Block.contents g.B.Block.layers (own_of c.args.request.range.first) c.take_rooms.new.snaps c.save_in_all-self-inside.new.snaps c.self.inside.copies c.save_in_all-self-inside.result c.self.inside.flights.items c.save_in_all-self-inside.new.flights =
    subst (λ (x : List (Kept g.row.B.Denot)). AreSavedIn g.B.Block.contents g.B.Block.layers (own_of c.args.request.range.first) x c.save_in_all-self-inside.new.snaps c.self.inside.copies c.save_in_all-self-inside.result c.self.inside.flights.items c.save_in_all-self-inside.new.flights) now2
    (subst (λ (x : List Flight). AreSavedIn g.B.Block.contents g.B.Block.layers (own_of c.args.request.range.first) c.as_mut_slice-2.result.now c.save_in_all-self-inside.new.snaps c.self.inside.copies c.save_in_all-self-inside.result x c.save_in_all-self-inside.new.flights) flights3 c.save_in_all-self-inside.ensures.saved) in
    let back_snaps = back c.self.inside.snaps.len c.save_in_all-self-inside.new.snaps (take c.self.inside.snaps.len (c.take_rooms.new.snaps ++ drop (length c.take_rooms.new.snaps) c.self.inside.snaps.items)) (c.save_in_all-self-inside.auto.snaps ∙ c.as_mut_slice-2.ensures.len) in
    let back_flights = back c.reserve.new.self.len c.save_in_all-self-inside.new.flights c.reserve.new.self.items (c.save_in_all-self-inside.auto.flights ∙ c.as_mut_slice-3.ensures.len) in
    let f : Flight = c.in-Ok-new.flight in
    let request_is = c.in-Ok-new.ensures.request in
    let saved_f = subst (λ (r : Request). AreSavedIn g.B.Block.contents g.B.Block.layers (own_of r.range.first) c.take_rooms.new.snaps c.save_in_all-self-inside.new.snaps c.self.inside.copies c.save_in_all-self-inside.result c.self.inside.flights.items c.save_in_all-self-inside.new.flights) (sym request_is) saved in
    let few_v : sum_by count_in c.self.inside.snaps.items + count_by (starts c.args.request.range.first) c.self.inside.snaps.items ≤ 256 =
    subst (λ (x : Volumed g.row.B.Denot). sum_by count_in x.snaps + count_by (starts c.args.request.range.first) x.snaps ≤ 256) (sym c.self.view_is) c.requires.few in
    let few_f = subst (λ (r : Request). sum_by count_in c.self.inside.snaps.items + count_by (starts r.range.first) c.self.inside.snaps.items ≤ 256) (sym request_is) few_v in
    let asked_f = subst (IsAsked (g.B.Block.size c.self.inside.origin) (piece_with c.self.inside.merge c.self.inside.snaps.items)) (sym request_is) asked in
    let room_f = c.in-Ok-new.ensures.room ∙ ap room_of (sym request_is) in
    let kind_f = ap kind_of request_is ∙ c.requires.kind in
    let waits_v : is_clear (map (snap_books g.B.Block.contents g.B.Block.layers) v.snaps) c.args.request.range.first ≡ false = ap (λ (x : Volumed g.row.B.Denot). is_clear (map (snap_books g.B.Block.contents g.B.Block.layers) x.snaps) c.args.request.range.first) c.self.view_is ∙ c.requires.waits in
    let waits = still_waits g.B.Block.contents g.B.Block.layers c.args.request.range.first c.take_rooms.new.snaps c.save_in_all-self-inside.new.snaps c.self.inside.copies c.save_in_all-self-inside.result c.self.inside.flights.items c.save_in_all-self-inside.new.flights saved
    (ap (λ (xs : List SnapBooks). is_clear xs c.args.request.range.first) (books_roomed g.B.Block.contents g.B.Block.layers g.B.Block.size v c.take_rooms.new.snaps same) ∙ waits_v) in
    let route_f = c.in-Ok-new.ensures.route ∙ sym (ap (write_route_of false None) (ap (λ (r : Request). is_clear (map (snap_books g.B.Block.contents g.B.Block.layers) c.save_in_all-self-inside.new.snaps) r.range.first) request_is ∙ waits)) in
    let unmerged : is_merged_at c.args.request.range.first c.self.inside.merge ≡ false = ap (λ (x : Volumed g.row.B.Denot). is_merged_at c.args.request.range.first x.merge) c.self.view_is ∙ c.requires.unmerged in
    let unmerged_f = subst (λ (r : Request). is_merged_at r.range.first c.self.inside.merge ≡ false) (sym request_is) unmerged in
    let space : length c.self.inside.flights.items < 64 = omega (arith, c.requires.room, ap (λ (x : Volumed g.row.B.Denot). length x.flights) c.self.view_is) in
    let pushed = c.push_reserved.ensures.items ∙ ap (λ fs. fs ++ f ∷ []) back_flights in
    let w : List (Kept g.row.B.Denot) → List Flight → Volumed g.row.B.Denot = λ x y. record { origin = c.self.inside.origin; snaps = x; merge = c.self.inside.merge; flights = y; requests = c.self.inside.requests + 1; copies = c.save_in_all-self-inside.result; attached = c.self.inside.attached } in
    let is = written_accepted g.B.Block.contents g.B.Block.layers g.B.Block.size v c.self.invariant.whole c.take_rooms.new.snaps c.save_in_all-self-inside.new.snaps same c.save_in_all-self-inside.result c.save_in_all-self-inside.new.flights f saved_f few_f c.in-Ok-new.ensures.number asked_f room_f kind_f route_f space unmerged_f in
    rw (← c.self.view_is)
    (subst (λ (x : List (Kept g.row.B.Denot)). IsAcceptedAs g.B.Block.contents g.B.Block.layers c.args.request (c.self.inside.requests + 1) v (w x c.push_reserved.new.self.items)) (sym back_snaps)
    (subst (λ (y : List Flight). IsAcceptedAs g.B.Block.contents g.B.Block.layers c.args.request (c.self.inside.requests + 1) v (w c.save_in_all-self-inside.new.snaps y)) (sym pushed)
    (subst (λ (n : ℕ). IsAcceptedAs g.B.Block.contents g.B.Block.layers c.args.request n v (w c.save_in_all-self-inside.new.snaps (c.save_in_all-self-inside.new.flights ++ f ∷ []))) c.in-Ok-new.ensures.number
    (subst (λ (r : Request). IsAcceptedAs g.B.Block.contents g.B.Block.layers r f.number v (w c.save_in_all-self-inside.new.snaps (c.save_in_all-self-inside.new.flights ++ f ∷ []))) request_is is))))
