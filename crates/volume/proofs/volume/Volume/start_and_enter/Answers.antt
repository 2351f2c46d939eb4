-- Room for the copy is made first; then it is started, and the write is the last in flight.
use Rattle.std.proofs.Common.{◌≡◌, ◌+◌, ◌<◌, ◌≤◌, ◌++◌, ◌∷◌, [], inl, ℕ, false, true, List, Some, None, length, get_or, set, refl, sym, ◌∙◌, ap, subst, arith, nat_eq}
use Rattle.std.specs.Prelude.{◌&&◌, sum_by, count_by}
use Rattle.std.proofs.lemmas.List.{get_or-set_same}
use Rattle.in_flight.specs.declared.flights.Flight.{Flight}
use Rattle.snapshot.specs.Kept.{Kept}
use Rattle.volume.specs.Volumed.{Volumed, piece_with}
use Rattle.snapshot_list.specs.Numbers.{count_in}
use Rattle.snapshot_list.specs.Finding.{place_of_snap}
use Rattle.snapshot_list.proofs.Finds.{position_within}
use Rattle.snapshot_list.specs.Starting.{lacks, own_of, starts, HasRoomFor, IsSavedIn}
use Rattle.plain_machine.specs.Plain.{did_overflow}
use Rattle.volume.specs.Submitting.{dev_refusal, shut_at, IsAsked, IsAcceptedAs}
use Rattle.volume.proofs.Finishes.{back, begins_all}
use Rattle.volume.proofs.Named.{IsNamed, dev_of_write, found_open, is_named}
use Rattle.volume.proofs.SnapWrites.{IsRefusedFull, IsWriteRefused, one_roomed, roomy_whole, within_roomy, held_done, refused_done}
use Rattle.volume.proofs.LastNext.{left_why}
use Rattle.volume.proofs.Lefts.{left_saved}
use Rattle.volume.proofs.Lefts.{left_room}
use Rattle.volume.proofs.Lefts.{one_left}
use Rattle.volume.proofs.Lefts.{all_then}
use Rattle.volume.proofs.LastMoves.{list_moves}
use Rattle.volume.proofs.volume.Volume.start_and_enter.Goals as goal

pub index_mut-requires : goal.index_mut-requires
index_mut-requires g c =
    let place : Some c.args.k ≡ place_of_snap c.args.id c.self.inside.snaps.items = c.requires.place ∙ sym (ap (λ (x : Volumed g.row.B.Denot). place_of_snap c.args.id x.snaps) c.self.view_is) in
    let within = position_within (λ (s : Kept g.row.B.Denot). nat_eq s.number c.args.id) c.self.inside.snaps.items c.args.k (sym place) in
    omega (arith, within)

pub invariant_of-self : goal.invariant_of-self
invariant_of-self g c = record {
  whole =
      let v : Volumed g.row.B.Denot = record { origin = c.self.inside.origin; snaps = c.self.inside.snaps.items; merge = c.self.inside.merge; flights = c.self.inside.flights.items; requests = c.self.inside.requests; copies = c.self.inside.copies; attached = c.self.inside.attached } in
      let s : Kept g.row.B.Denot = c.index_mut.result.now in
      let place : Some c.args.k ≡ place_of_snap c.args.id c.self.inside.snaps.items = c.requires.place ∙ sym (ap (λ (x : Volumed g.row.B.Denot). place_of_snap c.args.id x.snaps) c.self.view_is) in
      let free : dev_refusal c.args.request.dev c.self.inside.merge c.self.inside.snaps.items ≡ None = ap (λ (x : Volumed g.row.B.Denot). dev_refusal c.args.request.dev x.merge x.snaps) c.self.view_is ∙ c.requires.found in
      let named : IsNamed v c.args.id c.args.k s = is_named v c.self.inside.snaps.items c.args.request.dev c.args.id c.args.k s refl c.index_mut.ensures.value free (dev_of_write c.args.request c.args.id c.requires.kind) place in
      roomy_whole g.B.Block.contents g.B.Block.layers g.B.Block.size v c.self.invariant.whole c.args.id c.args.k s named c.take_room.new.snap c.take_room.ensures.same;
  lasting =
      let v : Volumed g.row.B.Denot = record { origin = c.self.inside.origin; snaps = c.self.inside.snaps.items; merge = c.self.inside.merge; flights = c.self.inside.flights.items; requests = c.self.inside.requests; copies = c.self.inside.copies; attached = c.self.inside.attached } in
      let s : Kept g.row.B.Denot = c.index_mut.result.now in
      let place : Some c.args.k ≡ place_of_snap c.args.id c.self.inside.snaps.items = c.requires.place ∙ sym (ap (λ (x : Volumed g.row.B.Denot). place_of_snap c.args.id x.snaps) c.self.view_is) in
      let free : dev_refusal c.args.request.dev c.self.inside.merge c.self.inside.snaps.items ≡ None = ap (λ (x : Volumed g.row.B.Denot). dev_refusal c.args.request.dev x.merge x.snaps) c.self.view_is ∙ c.requires.found in
      let named : IsNamed v c.args.id c.args.k s = is_named v c.self.inside.snaps.items c.args.request.dev c.args.id c.args.k s refl c.index_mut.ensures.value free (dev_of_write c.args.request c.args.id c.requires.kind) place in
      let goes = list_moves g.B.Block.may_hold g.B.Block.contents g.B.Block.layers g.B.Block.size g.met.B.Block.whole g.met.B.Block.holds_now _ c.self.invariant.whole c.self.invariant.lasting.snaps None (set v.snaps c.args.k c.take_room.new.snap) (one_left v.snaps c.args.k s c.take_room.new.snap named.within named.is (left_room s c.take_room.new.snap c.take_room.ensures.same)) in
      record { snaps = goes.lasts; merge = c.self.invariant.lasting.merge };
}

pub returns-in-Err-clause-err : goal.returns-in-Err-clause-err
returns-in-Err-clause-err g c =
    let v : Volumed g.row.B.Denot = record { origin = c.self.inside.origin; snaps = c.self.inside.snaps.items; merge = c.self.inside.merge; flights = c.self.inside.flights.items; requests = c.self.inside.requests; copies = c.self.inside.copies; attached = c.self.inside.attached } in
    let s : Kept g.row.B.Denot = c.index_mut.result.now in
    let place : Some c.args.k ≡ place_of_snap c.args.id c.self.inside.snaps.items = c.requires.place ∙ sym (ap (λ (x : Volumed g.row.B.Denot). place_of_snap c.args.id x.snaps) c.self.view_is) in
    let free : dev_refusal c.args.request.dev c.self.inside.merge c.self.inside.snaps.items ≡ None = ap (λ (x : Volumed g.row.B.Denot). dev_refusal c.args.request.dev x.merge x.snaps) c.self.view_is ∙ c.requires.found in
    let named : IsNamed v c.args.id c.args.k s = is_named v c.self.inside.snaps.items c.args.request.dev c.args.id c.args.k s refl c.index_mut.ensures.value free (dev_of_write c.args.request c.args.id c.requires.kind) place in
    rw (← c.self.view_is) (inl (c.in-Err.ensures.refusal, record { roomed = one_roomed g.B.Block.contents g.B.Block.layers g.B.Block.size v c.self.invariant.whole c.args.id c.args.k s named c.take_room.new.snap c.take_room.ensures.same; becomes = refl }))

pub invariant_of-self-in_default : goal.invariant_of-self-in_default
invariant_of-self-in_default g c = record {
  whole =
      let v : Volumed g.row.B.Denot = record { origin = c.self.inside.origin; snaps = c.self.inside.snaps.items; merge = c.self.inside.merge; flights = c.self.inside.flights.items; requests = c.self.inside.requests; copies = c.self.inside.copies; attached = c.self.inside.attached } in
      let s : Kept g.row.B.Denot = c.index_mut.result.now in
      let place : Some c.args.k ≡ place_of_snap c.args.id c.self.inside.snaps.items = c.requires.place ∙ sym (ap (λ (x : Volumed g.row.B.Denot). place_of_snap c.args.id x.snaps) c.self.view_is) in
      let free : dev_refusal c.args.request.dev c.self.inside.merge c.self.inside.snaps.items ≡ None = ap (λ (x : Volumed g.row.B.Denot). dev_refusal c.args.request.dev x.merge x.snaps) c.self.view_is ∙ c.requires.found in
      let named : IsNamed v c.args.id c.args.k s = is_named v c.self.inside.snaps.items c.args.request.dev c.args.id c.args.k s refl c.index_mut.ensures.value free (dev_of_write c.args.request c.args.id c.requires.kind) place in
      roomy_whole g.B.Block.contents g.B.Block.layers g.B.Block.size v c.self.invariant.whole c.args.id c.args.k s named c.take_room.new.snap c.take_room.ensures.same;
  lasting =
      let v : Volumed g.row.B.Denot = record { origin = c.self.inside.origin; snaps = c.self.inside.snaps.items; merge = c.self.inside.merge; flights = c.self.inside.flights.items; requests = c.self.inside.requests; copies = c.self.inside.copies; attached = c.self.inside.attached } in
      let s : Kept g.row.B.Denot = c.index_mut.result.now in
      let place : Some c.args.k ≡ place_of_snap c.args.id c.self.inside.snaps.items = c.requires.place ∙ sym (ap (λ (x : Volumed g.row.B.Denot). place_of_snap c.args.id x.snaps) c.self.view_is) in
      let free : dev_refusal c.args.request.dev c.self.inside.merge c.self.inside.snaps.items ≡ None = ap (λ (x : Volumed g.row.B.Denot). dev_refusal c.args.request.dev x.merge x.snaps) c.self.view_is ∙ c.requires.found in
      let named : IsNamed v c.args.id c.args.k s = is_named v c.self.inside.snaps.items c.args.request.dev c.args.id c.args.k s refl c.index_mut.ensures.value free (dev_of_write c.args.request c.args.id c.requires.kind) place in
      let goes = list_moves g.B.Block.may_hold g.B.Block.contents g.B.Block.layers g.B.Block.size g.met.B.Block.whole g.met.B.Block.holds_now _ c.self.invariant.whole c.self.invariant.lasting.snaps None (set v.snaps c.args.k c.take_room.new.snap) (one_left v.snaps c.args.k s c.take_room.new.snap named.within named.is (left_room s c.take_room.new.snap c.take_room.ensures.same)) in
      record { snaps = goes.lasts; merge = c.self.invariant.lasting.merge };
}

pub returns-in_default-clause-err : goal.returns-in_default-clause-err
returns-in_default-clause-err g c =
    let v : Volumed g.row.B.Denot = record { origin = c.self.inside.origin; snaps = c.self.inside.snaps.items; merge = c.self.inside.merge; flights = c.self.inside.flights.items; requests = c.self.inside.requests; copies = c.self.inside.copies; attached = c.self.inside.attached } in
    let s : Kept g.row.B.Denot = c.index_mut.result.now in
    let place : Some c.args.k ≡ place_of_snap c.args.id c.self.inside.snaps.items = c.requires.place ∙ sym (ap (λ (x : Volumed g.row.B.Denot). place_of_snap c.args.id x.snaps) c.self.view_is) in
    let free : dev_refusal c.args.request.dev c.self.inside.merge c.self.inside.snaps.items ≡ None = ap (λ (x : Volumed g.row.B.Denot). dev_refusal c.args.request.dev x.merge x.snaps) c.self.view_is ∙ c.requires.found in
    let named : IsNamed v c.args.id c.args.k s = is_named v c.self.inside.snaps.items c.args.request.dev c.args.id c.args.k s refl c.index_mut.ensures.value free (dev_of_write c.args.request c.args.id c.requires.kind) place in
    rw (← c.self.view_is) (inl (refl, record { roomed = one_roomed g.B.Block.contents g.B.Block.layers g.B.Block.size v c.self.invariant.whole c.args.id c.args.k s named c.take_room.new.snap c.take_room.ensures.same; becomes = refl }))

pub invariant_of-self-in-Err-reserve : goal.invariant_of-self-in-Err-reserve
invariant_of-self-in-Err-reserve g c = record {
  whole =
      let v : Volumed g.row.B.Denot = record { origin = c.self.inside.origin; snaps = c.self.inside.snaps.items; merge = c.self.inside.merge; flights = c.self.inside.flights.items; requests = c.self.inside.requests; copies = c.self.inside.copies; attached = c.self.inside.attached } in
      let s : Kept g.row.B.Denot = c.index_mut.result.now in
      let place : Some c.args.k ≡ place_of_snap c.args.id c.self.inside.snaps.items = c.requires.place ∙ sym (ap (λ (x : Volumed g.row.B.Denot). place_of_snap c.args.id x.snaps) c.self.view_is) in
      let free : dev_refusal c.args.request.dev c.self.inside.merge c.self.inside.snaps.items ≡ None = ap (λ (x : Volumed g.row.B.Denot). dev_refusal c.args.request.dev x.merge x.snaps) c.self.view_is ∙ c.requires.found in
      let named : IsNamed v c.args.id c.args.k s = is_named v c.self.inside.snaps.items c.args.request.dev c.args.id c.args.k s refl c.index_mut.ensures.value free (dev_of_write c.args.request c.args.id c.requires.kind) place in
      rw (c.reserve.ensures.items) (roomy_whole g.B.Block.contents g.B.Block.layers g.B.Block.size v c.self.invariant.whole c.args.id c.args.k s named c.take_room.new.snap c.take_room.ensures.same);
  lasting =
      let v : Volumed g.row.B.Denot = record { origin = c.self.inside.origin; snaps = c.self.inside.snaps.items; merge = c.self.inside.merge; flights = c.self.inside.flights.items; requests = c.self.inside.requests; copies = c.self.inside.copies; attached = c.self.inside.attached } in
      let s : Kept g.row.B.Denot = c.index_mut.result.now in
      let place : Some c.args.k ≡ place_of_snap c.args.id c.self.inside.snaps.items = c.requires.place ∙ sym (ap (λ (x : Volumed g.row.B.Denot). place_of_snap c.args.id x.snaps) c.self.view_is) in
      let free : dev_refusal c.args.request.dev c.self.inside.merge c.self.inside.snaps.items ≡ None = ap (λ (x : Volumed g.row.B.Denot). dev_refusal c.args.request.dev x.merge x.snaps) c.self.view_is ∙ c.requires.found in
      let named : IsNamed v c.args.id c.args.k s = is_named v c.self.inside.snaps.items c.args.request.dev c.args.id c.args.k s refl c.index_mut.ensures.value free (dev_of_write c.args.request c.args.id c.requires.kind) place in
      let goes = list_moves g.B.Block.may_hold g.B.Block.contents g.B.Block.layers g.B.Block.size g.met.B.Block.whole g.met.B.Block.holds_now _ c.self.invariant.whole c.self.invariant.lasting.snaps None (set v.snaps c.args.k c.take_room.new.snap) (one_left v.snaps c.args.k s c.take_room.new.snap named.within named.is (left_room s c.take_room.new.snap c.take_room.ensures.same)) in
      record { snaps = goes.lasts; merge = c.self.invariant.lasting.merge };
}

pub returns-in-Err-reserve-clause-err : goal.returns-in-Err-reserve-clause-err
returns-in-Err-reserve-clause-err g c =
    let v : Volumed g.row.B.Denot = record { origin = c.self.inside.origin; snaps = c.self.inside.snaps.items; merge = c.self.inside.merge; flights = c.self.inside.flights.items; requests = c.self.inside.requests; copies = c.self.inside.copies; attached = c.self.inside.attached } in
    let s : Kept g.row.B.Denot = c.index_mut.result.now in
    let place : Some c.args.k ≡ place_of_snap c.args.id c.self.inside.snaps.items = c.requires.place ∙ sym (ap (λ (x : Volumed g.row.B.Denot). place_of_snap c.args.id x.snaps) c.self.view_is) in
    let free : dev_refusal c.args.request.dev c.self.inside.merge c.self.inside.snaps.items ≡ None = ap (λ (x : Volumed g.row.B.Denot). dev_refusal c.args.request.dev x.merge x.snaps) c.self.view_is ∙ c.requires.found in
    let named : IsNamed v c.args.id c.args.k s = is_named v c.self.inside.snaps.items c.args.request.dev c.args.id c.args.k s refl c.index_mut.ensures.value free (dev_of_write c.args.request c.args.id c.requires.kind) place in
    rw (← c.self.view_is) (inl (refl, record { roomed = one_roomed g.B.Block.contents g.B.Block.layers g.B.Block.size v c.self.invariant.whole c.args.id c.args.k s named c.take_room.new.snap c.take_room.ensures.same; becomes = ap (λ (fs : List Flight). let w : Volumed g.row.B.Denot = record v { snaps = set c.self.inside.snaps.items c.args.k c.take_room.new.snap; flights = fs } in w) c.reserve.ensures.items }))

pub index_mut-requires-2 : goal.index_mut-requires-2
index_mut-requires-2 g c =
    let v : Volumed g.row.B.Denot = record { origin = c.self.inside.origin; snaps = c.self.inside.snaps.items; merge = c.self.inside.merge; flights = c.self.inside.flights.items; requests = c.self.inside.requests; copies = c.self.inside.copies; attached = c.self.inside.attached } in
    let s : Kept g.row.B.Denot = c.index_mut.result.now in
    let place : Some c.args.k ≡ place_of_snap c.args.id c.self.inside.snaps.items = c.requires.place ∙ sym (ap (λ (x : Volumed g.row.B.Denot). place_of_snap c.args.id x.snaps) c.self.view_is) in
    let free : dev_refusal c.args.request.dev c.self.inside.merge c.self.inside.snaps.items ≡ None = ap (λ (x : Volumed g.row.B.Denot). dev_refusal c.args.request.dev x.merge x.snaps) c.self.view_is ∙ c.requires.found in
    let named : IsNamed v c.args.id c.args.k s = is_named v c.self.inside.snaps.items c.args.request.dev c.args.id c.args.k s refl c.index_mut.ensures.value free (dev_of_write c.args.request c.args.id c.requires.kind) place in
    let ok = c.self.inside.snaps.ok in
    let within = named.within in
    omega (arith, ok, within)

pub save_or_mark-requires-clause-begins : goal.save_or_mark-requires-clause-begins
save_or_mark-requires-clause-begins g c =
    let v : Volumed g.row.B.Denot = record { origin = c.self.inside.origin; snaps = c.self.inside.snaps.items; merge = c.self.inside.merge; flights = c.self.inside.flights.items; requests = c.self.inside.requests; copies = c.self.inside.copies; attached = c.self.inside.attached } in
    let s : Kept g.row.B.Denot = c.index_mut.result.now in
    let place : Some c.args.k ≡ place_of_snap c.args.id c.self.inside.snaps.items = c.requires.place ∙ sym (ap (λ (x : Volumed g.row.B.Denot). place_of_snap c.args.id x.snaps) c.self.view_is) in
    let free : dev_refusal c.args.request.dev c.self.inside.merge c.self.inside.snaps.items ≡ None = ap (λ (x : Volumed g.row.B.Denot). dev_refusal c.args.request.dev x.merge x.snaps) c.self.view_is ∙ c.requires.found in
    let named : IsNamed v c.args.id c.args.k s = is_named v c.self.inside.snaps.items c.args.request.dev c.args.id c.args.k s refl c.index_mut.ensures.value free (dev_of_write c.args.request c.args.id c.requires.kind) place in
    let roomy = one_roomed g.B.Block.contents g.B.Block.layers g.B.Block.size v c.self.invariant.whole c.args.id c.args.k s named c.take_room.new.snap c.take_room.ensures.same in
    let within = within_roomy g.B.Block.contents g.B.Block.layers g.B.Block.size v c.self.invariant.whole c.args.id c.args.k s named c.take_room.new.snap c.take_room.ensures.same in
    let now2 : c.index_mut-2.result.now ≡ c.take_room.new.snap = c.index_mut-2.ensures.value ∙ get_or-set_same c.self.inside.snaps.items c.args.k c.take_room.new.snap c.index_mut-2.result.now named.within in
    let asked : IsAsked (g.B.Block.size c.self.inside.origin) (piece_with c.self.inside.merge c.self.inside.snaps.items) c.args.request = subst (λ (x : Volumed g.row.B.Denot). IsAsked (g.B.Block.size x.origin) (piece_with x.merge x.snaps) c.args.request) (sym c.self.view_is) c.requires.asked in
    let all = begins_all g.B.Block.contents g.B.Block.layers g.B.Block.size v c.self.invariant.whole (set c.self.inside.snaps.items c.args.k c.take_room.new.snap) roomy c.args.request.range.first c.args.request.range.count asked.some asked.inside in
    subst (λ (x : Kept g.row.B.Denot). c.args.request.range.first < x.state.origin) (sym c.index_mut-2.ensures.value) (all c.args.k c.index_mut-2.result.now within)

pub save_or_mark-requires-clause-room : goal.save_or_mark-requires-clause-room
save_or_mark-requires-clause-room g c =
    let v : Volumed g.row.B.Denot = record { origin = c.self.inside.origin; snaps = c.self.inside.snaps.items; merge = c.self.inside.merge; flights = c.self.inside.flights.items; requests = c.self.inside.requests; copies = c.self.inside.copies; attached = c.self.inside.attached } in
    let s : Kept g.row.B.Denot = c.index_mut.result.now in
    let place : Some c.args.k ≡ place_of_snap c.args.id c.self.inside.snaps.items = c.requires.place ∙ sym (ap (λ (x : Volumed g.row.B.Denot). place_of_snap c.args.id x.snaps) c.self.view_is) in
    let free : dev_refusal c.args.request.dev c.self.inside.merge c.self.inside.snaps.items ≡ None = ap (λ (x : Volumed g.row.B.Denot). dev_refusal c.args.request.dev x.merge x.snaps) c.self.view_is ∙ c.requires.found in
    let named : IsNamed v c.args.id c.args.k s = is_named v c.self.inside.snaps.items c.args.request.dev c.args.id c.args.k s refl c.index_mut.ensures.value free (dev_of_write c.args.request c.args.id c.requires.kind) place in
    let roomy = one_roomed g.B.Block.contents g.B.Block.layers g.B.Block.size v c.self.invariant.whole c.args.id c.args.k s named c.take_room.new.snap c.take_room.ensures.same in
    let within = within_roomy g.B.Block.contents g.B.Block.layers g.B.Block.size v c.self.invariant.whole c.args.id c.args.k s named c.take_room.new.snap c.take_room.ensures.same in
    let now2 : c.index_mut-2.result.now ≡ c.take_room.new.snap = c.index_mut-2.ensures.value ∙ get_or-set_same c.self.inside.snaps.items c.args.k c.take_room.new.snap c.index_mut-2.result.now named.within in
    let asked : IsAsked (g.B.Block.size c.self.inside.origin) (piece_with c.self.inside.merge c.self.inside.snaps.items) c.args.request = subst (λ (x : Volumed g.row.B.Denot). IsAsked (g.B.Block.size x.origin) (piece_with x.merge x.snaps) c.args.request) (sym c.self.view_is) c.requires.asked in
    subst (λ (x : Kept g.row.B.Denot). HasRoomFor c.args.request.range.first x c.in-Ok.room) (sym now2) c.in-Ok.ensures.ok

pub save_or_mark-requires-clause-lacking : goal.save_or_mark-requires-clause-lacking
save_or_mark-requires-clause-lacking g c =
    let v : Volumed g.row.B.Denot = record { origin = c.self.inside.origin; snaps = c.self.inside.snaps.items; merge = c.self.inside.merge; flights = c.self.inside.flights.items; requests = c.self.inside.requests; copies = c.self.inside.copies; attached = c.self.inside.attached } in
    let s : Kept g.row.B.Denot = c.index_mut.result.now in
    let place : Some c.args.k ≡ place_of_snap c.args.id c.self.inside.snaps.items = c.requires.place ∙ sym (ap (λ (x : Volumed g.row.B.Denot). place_of_snap c.args.id x.snaps) c.self.view_is) in
    let free : dev_refusal c.args.request.dev c.self.inside.merge c.self.inside.snaps.items ≡ None = ap (λ (x : Volumed g.row.B.Denot). dev_refusal c.args.request.dev x.merge x.snaps) c.self.view_is ∙ c.requires.found in
    let named : IsNamed v c.args.id c.args.k s = is_named v c.self.inside.snaps.items c.args.request.dev c.args.id c.args.k s refl c.index_mut.ensures.value free (dev_of_write c.args.request c.args.id c.requires.kind) place in
    let roomy = one_roomed g.B.Block.contents g.B.Block.layers g.B.Block.size v c.self.invariant.whole c.args.id c.args.k s named c.take_room.new.snap c.take_room.ensures.same in
    let within = within_roomy g.B.Block.contents g.B.Block.layers g.B.Block.size v c.self.invariant.whole c.args.id c.args.k s named c.take_room.new.snap c.take_room.ensures.same in
    let now2 : c.index_mut-2.result.now ≡ c.take_room.new.snap = c.index_mut-2.ensures.value ∙ get_or-set_same c.self.inside.snaps.items c.args.k c.take_room.new.snap c.index_mut-2.result.now named.within in
    let lacking : lacks c.args.request.range.first s ≡ true = subst (λ (x : Volumed g.row.B.Denot). (y : Kept g.row.B.Denot) → y ≡ get_or x.snaps c.args.k y → lacks c.args.request.range.first y ≡ true) (sym c.self.view_is) c.requires.lacking s c.index_mut.ensures.value in
    subst (λ (x : Kept g.row.B.Denot). lacks c.args.request.range.first x ≡ true) (sym now2) (ap (lacks c.args.request.range.first) c.take_room.ensures.same ∙ lacking)

pub save_or_mark-requires-clause-writable : goal.save_or_mark-requires-clause-writable
save_or_mark-requires-clause-writable g c =
    let v : Volumed g.row.B.Denot = record { origin = c.self.inside.origin; snaps = c.self.inside.snaps.items; merge = c.self.inside.merge; flights = c.self.inside.flights.items; requests = c.self.inside.requests; copies = c.self.inside.copies; attached = c.self.inside.attached } in
    let s : Kept g.row.B.Denot = c.index_mut.result.now in
    let place : Some c.args.k ≡ place_of_snap c.args.id c.self.inside.snaps.items = c.requires.place ∙ sym (ap (λ (x : Volumed g.row.B.Denot). place_of_snap c.args.id x.snaps) c.self.view_is) in
    let free : dev_refusal c.args.request.dev c.self.inside.merge c.self.inside.snaps.items ≡ None = ap (λ (x : Volumed g.row.B.Denot). dev_refusal c.args.request.dev x.merge x.snaps) c.self.view_is ∙ c.requires.found in
    let named : IsNamed v c.args.id c.args.k s = is_named v c.self.inside.snaps.items c.args.request.dev c.args.id c.args.k s refl c.index_mut.ensures.value free (dev_of_write c.args.request c.args.id c.requires.kind) place in
    let roomy = one_roomed g.B.Block.contents g.B.Block.layers g.B.Block.size v c.self.invariant.whole c.args.id c.args.k s named c.take_room.new.snap c.take_room.ensures.same in
    let within = within_roomy g.B.Block.contents g.B.Block.layers g.B.Block.size v c.self.invariant.whole c.args.id c.args.k s named c.take_room.new.snap c.take_room.ensures.same in
    let now2 : c.index_mut-2.result.now ≡ c.take_room.new.snap = c.index_mut-2.ensures.value ∙ get_or-set_same c.self.inside.snaps.items c.args.k c.take_room.new.snap c.index_mut-2.result.now named.within in
    let writable : shut_at c.self.inside.snaps.items (place_of_snap c.args.id c.self.inside.snaps.items) ≡ None = ap (λ (x : Volumed g.row.B.Denot). shut_at x.snaps (place_of_snap c.args.id x.snaps)) c.self.view_is ∙ c.requires.writable in
    let did : did_overflow s.overflow ≡ false = ap (λ (x : Kept g.row.B.Denot). did_overflow x.overflow) named.is ∙ found_open c.self.inside.snaps.items c.args.id c.args.k s writable place in
    subst (λ (x : Kept g.row.B.Denot). did_overflow x.overflow ≡ false) (sym now2) (ap (λ (x : Kept g.row.B.Denot). did_overflow x.overflow) c.take_room.ensures.same ∙ did)

pub invariant_of-self-in-Err-save_or_mark : goal.invariant_of-self-in-Err-save_or_mark
invariant_of-self-in-Err-save_or_mark g c = record {
  whole =
      let v : Volumed g.row.B.Denot = record { origin = c.self.inside.origin; snaps = c.self.inside.snaps.items; merge = c.self.inside.merge; flights = c.self.inside.flights.items; requests = c.self.inside.requests; copies = c.self.inside.copies; attached = c.self.inside.attached } in
      let s : Kept g.row.B.Denot = c.index_mut.result.now in
      let place : Some c.args.k ≡ place_of_snap c.args.id c.self.inside.snaps.items = c.requires.place ∙ sym (ap (λ (x : Volumed g.row.B.Denot). place_of_snap c.args.id x.snaps) c.self.view_is) in
      let free : dev_refusal c.args.request.dev c.self.inside.merge c.self.inside.snaps.items ≡ None = ap (λ (x : Volumed g.row.B.Denot). dev_refusal c.args.request.dev x.merge x.snaps) c.self.view_is ∙ c.requires.found in
      let named : IsNamed v c.args.id c.args.k s = is_named v c.self.inside.snaps.items c.args.request.dev c.args.id c.args.k s refl c.index_mut.ensures.value free (dev_of_write c.args.request c.args.id c.requires.kind) place in
      let roomy = one_roomed g.B.Block.contents g.B.Block.layers g.B.Block.size v c.self.invariant.whole c.args.id c.args.k s named c.take_room.new.snap c.take_room.ensures.same in
      let within = within_roomy g.B.Block.contents g.B.Block.layers g.B.Block.size v c.self.invariant.whole c.args.id c.args.k s named c.take_room.new.snap c.take_room.ensures.same in
      let now2 : c.index_mut-2.result.now ≡ c.take_room.new.snap = c.index_mut-2.ensures.value ∙ get_or-set_same c.self.inside.snaps.items c.args.k c.take_room.new.snap c.index_mut-2.result.now named.within in
      let slice = c.as_mut_slice.ensures.value ∙ c.reserve.ensures.items in
      let gs = c.save_or_mark.new.flights in
      let t = c.save_or_mark.new.snap in
      let why : IsRefusedFull g.B.Block.contents g.B.Block.layers c.args.request.range.first c.in-Err-save_or_mark.refusal c.take_room.new.snap t c.self.inside.copies c.self.inside.flights.items gs =
      subst (λ (x : Kept g.row.B.Denot). IsRefusedFull g.B.Block.contents g.B.Block.layers c.args.request.range.first c.in-Err-save_or_mark.refusal x t c.self.inside.copies c.self.inside.flights.items gs) now2
      (subst (λ (x : List Flight). IsRefusedFull g.B.Block.contents g.B.Block.layers c.args.request.range.first c.in-Err-save_or_mark.refusal c.index_mut-2.result.now t c.self.inside.copies x gs) slice c.in-Err-save_or_mark.ensures.err) in
      let back_flights = back c.reserve.new.self.len gs c.reserve.new.self.items (c.save_or_mark.auto.flights ∙ c.as_mut_slice.ensures.len) in
      let lacking : lacks c.args.request.range.first s ≡ true = subst (λ (x : Volumed g.row.B.Denot). (y : Kept g.row.B.Denot) → y ≡ get_or x.snaps c.args.k y → lacks c.args.request.range.first y ≡ true) (sym c.self.view_is) c.requires.lacking s c.index_mut.ensures.value in
      let done = refused_done g.B.Block.contents g.B.Block.layers g.B.Block.size v c.self.invariant.whole c.args.id c.args.k s named c.take_room.new.snap c.take_room.ensures.same t gs c.in-Err-save_or_mark.refusal c.args.request.range.first why lacking (sym place) in
      rw (back_flights) done.0;
  lasting =
      let v : Volumed g.row.B.Denot = record { origin = c.self.inside.origin; snaps = c.self.inside.snaps.items; merge = c.self.inside.merge; flights = c.self.inside.flights.items; requests = c.self.inside.requests; copies = c.self.inside.copies; attached = c.self.inside.attached } in
      let s : Kept g.row.B.Denot = c.index_mut.result.now in
      let place : Some c.args.k ≡ place_of_snap c.args.id c.self.inside.snaps.items = c.requires.place ∙ sym (ap (λ (x : Volumed g.row.B.Denot). place_of_snap c.args.id x.snaps) c.self.view_is) in
      let free : dev_refusal c.args.request.dev c.self.inside.merge c.self.inside.snaps.items ≡ None = ap (λ (x : Volumed g.row.B.Denot). dev_refusal c.args.request.dev x.merge x.snaps) c.self.view_is ∙ c.requires.found in
      let named : IsNamed v c.args.id c.args.k s = is_named v c.self.inside.snaps.items c.args.request.dev c.args.id c.args.k s refl c.index_mut.ensures.value free (dev_of_write c.args.request c.args.id c.requires.kind) place in
      let roomy = one_roomed g.B.Block.contents g.B.Block.layers g.B.Block.size v c.self.invariant.whole c.args.id c.args.k s named c.take_room.new.snap c.take_room.ensures.same in
      let within = within_roomy g.B.Block.contents g.B.Block.layers g.B.Block.size v c.self.invariant.whole c.args.id c.args.k s named c.take_room.new.snap c.take_room.ensures.same in
      let now2 : c.index_mut-2.result.now ≡ c.take_room.new.snap = c.index_mut-2.ensures.value ∙ get_or-set_same c.self.inside.snaps.items c.args.k c.take_room.new.snap c.index_mut-2.result.now named.within in
      let slice = c.as_mut_slice.ensures.value ∙ c.reserve.ensures.items in
      let gs = c.save_or_mark.new.flights in
      let t = c.save_or_mark.new.snap in
      let why : IsRefusedFull g.B.Block.contents g.B.Block.layers c.args.request.range.first c.in-Err-save_or_mark.refusal c.take_room.new.snap t c.self.inside.copies c.self.inside.flights.items gs =
      subst (λ (x : Kept g.row.B.Denot). IsRefusedFull g.B.Block.contents g.B.Block.layers c.args.request.range.first c.in-Err-save_or_mark.refusal x t c.self.inside.copies c.self.inside.flights.items gs) now2
      (subst (λ (x : List Flight). IsRefusedFull g.B.Block.contents g.B.Block.layers c.args.request.range.first c.in-Err-save_or_mark.refusal c.index_mut-2.result.now t c.self.inside.copies x gs) slice c.in-Err-save_or_mark.ensures.err) in
      let back_flights = back c.reserve.new.self.len gs c.reserve.new.self.items (c.save_or_mark.auto.flights ∙ c.as_mut_slice.ensures.len) in
      let lacking : lacks c.args.request.range.first s ≡ true = subst (λ (x : Volumed g.row.B.Denot). (y : Kept g.row.B.Denot) → y ≡ get_or x.snaps c.args.k y → lacks c.args.request.range.first y ≡ true) (sym c.self.view_is) c.requires.lacking s c.index_mut.ensures.value in
      let done = refused_done g.B.Block.contents g.B.Block.layers g.B.Block.size v c.self.invariant.whole c.args.id c.args.k s named c.take_room.new.snap c.take_room.ensures.same t gs c.in-Err-save_or_mark.refusal c.args.request.range.first why lacking (sym place) in
      let left = all_then v.snaps (set v.snaps c.args.k c.take_room.new.snap) _ (one_left v.snaps c.args.k s c.take_room.new.snap named.within named.is (left_room s c.take_room.new.snap c.take_room.ensures.same)) (one_left (set v.snaps c.args.k c.take_room.new.snap) c.args.k c.take_room.new.snap t within (sym (get_or-set_same v.snaps c.args.k c.take_room.new.snap c.take_room.new.snap named.within)) (left_why g.B.Block.contents g.B.Block.layers c.args.request.range.first c.in-Err-save_or_mark.refusal c.take_room.new.snap t _ _ _ why)) in
      let goes = list_moves g.B.Block.may_hold g.B.Block.contents g.B.Block.layers g.B.Block.size g.met.B.Block.whole g.met.B.Block.holds_now _ c.self.invariant.whole c.self.invariant.lasting.snaps None (set (set v.snaps c.args.k c.take_room.new.snap) c.args.k t) left in
      record { snaps = goes.lasts; merge = c.self.invariant.lasting.merge };
}

pub returns-in-Err-save_or_mark-clause-err : goal.returns-in-Err-save_or_mark-clause-err
returns-in-Err-save_or_mark-clause-err g c =
    let v : Volumed g.row.B.Denot = record { origin = c.self.inside.origin; snaps = c.self.inside.snaps.items; merge = c.self.inside.merge; flights = c.self.inside.flights.items; requests = c.self.inside.requests; copies = c.self.inside.copies; attached = c.self.inside.attached } in
    let s : Kept g.row.B.Denot = c.index_mut.result.now in
    let place : Some c.args.k ≡ place_of_snap c.args.id c.self.inside.snaps.items = c.requires.place ∙ sym (ap (λ (x : Volumed g.row.B.Denot). place_of_snap c.args.id x.snaps) c.self.view_is) in
    let free : dev_refusal c.args.request.dev c.self.inside.merge c.self.inside.snaps.items ≡ None = ap (λ (x : Volumed g.row.B.Denot). dev_refusal c.args.request.dev x.merge x.snaps) c.self.view_is ∙ c.requires.found in
    let named : IsNamed v c.args.id c.args.k s = is_named v c.self.inside.snaps.items c.args.request.dev c.args.id c.args.k s refl c.index_mut.ensures.value free (dev_of_write c.args.request c.args.id c.requires.kind) place in
    let roomy = one_roomed g.B.Block.contents g.B.Block.layers g.B.Block.size v c.self.invariant.whole c.args.id c.args.k s named c.take_room.new.snap c.take_room.ensures.same in
    let within = within_roomy g.B.Block.contents g.B.Block.layers g.B.Block.size v c.self.invariant.whole c.args.id c.args.k s named c.take_room.new.snap c.take_room.ensures.same in
    let now2 : c.index_mut-2.result.now ≡ c.take_room.new.snap = c.index_mut-2.ensures.value ∙ get_or-set_same c.self.inside.snaps.items c.args.k c.take_room.new.snap c.index_mut-2.result.now named.within in
    let slice = c.as_mut_slice.ensures.value ∙ c.reserve.ensures.items in
    let gs = c.save_or_mark.new.flights in
    let t = c.save_or_mark.new.snap in
    let why : IsRefusedFull g.B.Block.contents g.B.Block.layers c.args.request.range.first c.in-Err-save_or_mark.refusal c.take_room.new.snap t c.self.inside.copies c.self.inside.flights.items gs =
    subst (λ (x : Kept g.row.B.Denot). IsRefusedFull g.B.Block.contents g.B.Block.layers c.args.request.range.first c.in-Err-save_or_mark.refusal x t c.self.inside.copies c.self.inside.flights.items gs) now2
    (subst (λ (x : List Flight). IsRefusedFull g.B.Block.contents g.B.Block.layers c.args.request.range.first c.in-Err-save_or_mark.refusal c.index_mut-2.result.now t c.self.inside.copies x gs) slice c.in-Err-save_or_mark.ensures.err) in
    let back_flights = back c.reserve.new.self.len gs c.reserve.new.self.items (c.save_or_mark.auto.flights ∙ c.as_mut_slice.ensures.len) in
    let lacking : lacks c.args.request.range.first s ≡ true = subst (λ (x : Volumed g.row.B.Denot). (y : Kept g.row.B.Denot) → y ≡ get_or x.snaps c.args.k y → lacks c.args.request.range.first y ≡ true) (sym c.self.view_is) c.requires.lacking s c.index_mut.ensures.value in
    let done = refused_done g.B.Block.contents g.B.Block.layers g.B.Block.size v c.self.invariant.whole c.args.id c.args.k s named c.take_room.new.snap c.take_room.ensures.same t gs c.in-Err-save_or_mark.refusal c.args.request.range.first why lacking (sym place) in
    rw (← c.self.view_is) (subst (λ (fs : List Flight). IsWriteRefused g.B.Block.contents g.B.Block.layers c.args.id c.args.request.range.first c.in-Err-save_or_mark.refusal v (record v { snaps = set (set c.self.inside.snaps.items c.args.k c.take_room.new.snap) c.args.k t; flights = fs })) (sym back_flights) done.1)

pub invariant_of-self-2 : goal.invariant_of-self-2
invariant_of-self-2 g c = record {
  whole =
      let v : Volumed g.row.B.Denot = record { origin = c.self.inside.origin; snaps = c.self.inside.snaps.items; merge = c.self.inside.merge; flights = c.self.inside.flights.items; requests = c.self.inside.requests; copies = c.self.inside.copies; attached = c.self.inside.attached } in
      let s : Kept g.row.B.Denot = c.index_mut.result.now in
      let place : Some c.args.k ≡ place_of_snap c.args.id c.self.inside.snaps.items = c.requires.place ∙ sym (ap (λ (x : Volumed g.row.B.Denot). place_of_snap c.args.id x.snaps) c.self.view_is) in
      let free : dev_refusal c.args.request.dev c.self.inside.merge c.self.inside.snaps.items ≡ None = ap (λ (x : Volumed g.row.B.Denot). dev_refusal c.args.request.dev x.merge x.snaps) c.self.view_is ∙ c.requires.found in
      let named : IsNamed v c.args.id c.args.k s = is_named v c.self.inside.snaps.items c.args.request.dev c.args.id c.args.k s refl c.index_mut.ensures.value free (dev_of_write c.args.request c.args.id c.requires.kind) place in
      let roomy = one_roomed g.B.Block.contents g.B.Block.layers g.B.Block.size v c.self.invariant.whole c.args.id c.args.k s named c.take_room.new.snap c.take_room.ensures.same in
      let within = within_roomy g.B.Block.contents g.B.Block.layers g.B.Block.size v c.self.invariant.whole c.args.id c.args.k s named c.take_room.new.snap c.take_room.ensures.same in
      let now2 : c.index_mut-2.result.now ≡ c.take_room.new.snap = c.index_mut-2.ensures.value ∙ get_or-set_same c.self.inside.snaps.items c.args.k c.take_room.new.snap c.index_mut-2.result.now named.within in
      let asked : IsAsked (g.B.Block.size c.self.inside.origin) (piece_with c.self.inside.merge c.self.inside.snaps.items) c.args.request = subst (λ (x : Volumed g.row.B.Denot). IsAsked (g.B.Block.size x.origin) (piece_with x.merge x.snaps) c.args.request) (sym c.self.view_is) c.requires.asked in
      let slice = c.as_mut_slice.ensures.value ∙ c.reserve.ensures.items in
      let gs = c.save_or_mark.new.flights in
      let t = c.save_or_mark.new.snap in
      let m = c.in-Ok-save_or_mark.given in
      let saved : IsSavedIn g.B.Block.contents g.B.Block.layers (own_of c.args.request.range.first c.take_room.new.snap) c.take_room.new.snap t c.self.inside.copies m c.self.inside.flights.items gs =
      subst (λ (x : Kept g.row.B.Denot). IsSavedIn g.B.Block.contents g.B.Block.layers (own_of c.args.request.range.first x) x t c.self.inside.copies m c.self.inside.flights.items gs) now2
      (subst (λ (x : List Flight). IsSavedIn g.B.Block.contents g.B.Block.layers (own_of c.args.request.range.first c.index_mut-2.result.now) c.index_mut-2.result.now t c.self.inside.copies m x gs) slice c.in-Ok-save_or_mark.ensures.ok.1) in
      let back_flights = back c.reserve.new.self.len gs c.reserve.new.self.items (c.save_or_mark.auto.flights ∙ c.as_mut_slice.ensures.len) in
      let writable : shut_at c.self.inside.snaps.items (place_of_snap c.args.id c.self.inside.snaps.items) ≡ None = ap (λ (x : Volumed g.row.B.Denot). shut_at x.snaps (place_of_snap c.args.id x.snaps)) c.self.view_is ∙ c.requires.writable in
      let did : did_overflow s.overflow ≡ false = ap (λ (x : Kept g.row.B.Denot). did_overflow x.overflow) named.is ∙ found_open c.self.inside.snaps.items c.args.id c.args.k s writable place in
      let f : Flight = c.in-Ok-new.flight in
      let few : sum_by count_in c.self.inside.snaps.items + count_by (λ x. nat_eq x.number c.args.id && starts c.args.request.range.first x) c.self.inside.snaps.items ≤ 256 =
      subst (λ (x : Volumed g.row.B.Denot). sum_by count_in x.snaps + count_by (λ y. nat_eq y.number c.args.id && starts c.args.request.range.first y) x.snaps ≤ 256) (sym c.self.view_is) c.requires.few in
      let space : length c.self.inside.flights.items < 64 = omega (arith, c.requires.room, ap (λ (x : Volumed g.row.B.Denot). length x.flights) c.self.view_is) in
      let done = held_done g.B.Block.contents g.B.Block.layers g.B.Block.size v c.self.invariant.whole c.args.id c.args.k s named c.take_room.new.snap c.take_room.ensures.same t m gs f c.args.request c.in-Ok-new.ensures.request c.in-Ok-new.ensures.number c.in-Ok-new.ensures.route space asked
      c.in-Ok-new.ensures.room c.requires.kind did few saved c.in-Ok-save_or_mark.ensures.ok.0 in
      let pushed = c.push_reserved.ensures.items ∙ ap (λ fs. fs ++ f ∷ []) back_flights in
      rw (pushed) done.0;
  lasting =
      let v : Volumed g.row.B.Denot = record { origin = c.self.inside.origin; snaps = c.self.inside.snaps.items; merge = c.self.inside.merge; flights = c.self.inside.flights.items; requests = c.self.inside.requests; copies = c.self.inside.copies; attached = c.self.inside.attached } in
      let s : Kept g.row.B.Denot = c.index_mut.result.now in
      let place : Some c.args.k ≡ place_of_snap c.args.id c.self.inside.snaps.items = c.requires.place ∙ sym (ap (λ (x : Volumed g.row.B.Denot). place_of_snap c.args.id x.snaps) c.self.view_is) in
      let free : dev_refusal c.args.request.dev c.self.inside.merge c.self.inside.snaps.items ≡ None = ap (λ (x : Volumed g.row.B.Denot). dev_refusal c.args.request.dev x.merge x.snaps) c.self.view_is ∙ c.requires.found in
      let named : IsNamed v c.args.id c.args.k s = is_named v c.self.inside.snaps.items c.args.request.dev c.args.id c.args.k s refl c.index_mut.ensures.value free (dev_of_write c.args.request c.args.id c.requires.kind) place in
      let roomy = one_roomed g.B.Block.contents g.B.Block.layers g.B.Block.size v c.self.invariant.whole c.args.id c.args.k s named c.take_room.new.snap c.take_room.ensures.same in
      let within = within_roomy g.B.Block.contents g.B.Block.layers g.B.Block.size v c.self.invariant.whole c.args.id c.args.k s named c.take_room.new.snap c.take_room.ensures.same in
      let now2 : c.index_mut-2.result.now ≡ c.take_room.new.snap = c.index_mut-2.ensures.value ∙ get_or-set_same c.self.inside.snaps.items c.args.k c.take_room.new.snap c.index_mut-2.result.now named.within in
      let asked : IsAsked (g.B.Block.size c.self.inside.origin) (piece_with c.self.inside.merge c.self.inside.snaps.items) c.args.request = subst (λ (x : Volumed g.row.B.Denot). IsAsked (g.B.Block.size x.origin) (piece_with x.merge x.snaps) c.args.request) (sym c.self.view_is) c.requires.asked in
      let slice = c.as_mut_slice.ensures.value ∙ c.reserve.ensures.items in
      let gs = c.save_or_mark.new.flights in
      let t = c.save_or_mark.new.snap in
      let m = c.in-Ok-save_or_mark.given in
      let saved : IsSavedIn g.B.Block.contents g.B.Block.layers (own_of c.args.request.range.first c.take_room.new.snap) c.take_room.new.snap t c.self.inside.copies m c.self.inside.flights.items gs =
      subst (λ (x : Kept g.row.B.Denot). IsSavedIn g.B.Block.contents g.B.Block.layers (own_of c.args.request.range.first x) x t c.self.inside.copies m c.self.inside.flights.items gs) now2
      (subst (λ (x : List Flight). IsSavedIn g.B.Block.contents g.B.Block.layers (own_of c.args.request.range.first c.index_mut-2.result.now) c.index_mut-2.result.now t c.self.inside.copies m x gs) slice c.in-Ok-save_or_mark.ensures.ok.1) in
      let back_flights = back c.reserve.new.self.len gs c.reserve.new.self.items (c.save_or_mark.auto.flights ∙ c.as_mut_slice.ensures.len) in
      let writable : shut_at c.self.inside.snaps.items (place_of_snap c.args.id c.self.inside.snaps.items) ≡ None = ap (λ (x : Volumed g.row.B.Denot). shut_at x.snaps (place_of_snap c.args.id x.snaps)) c.self.view_is ∙ c.requires.writable in
      let did : did_overflow s.overflow ≡ false = ap (λ (x : Kept g.row.B.Denot). did_overflow x.overflow) named.is ∙ found_open c.self.inside.snaps.items c.args.id c.args.k s writable place in
      let f : Flight = c.in-Ok-new.flight in
      let few : sum_by count_in c.self.inside.snaps.items + count_by (λ x. nat_eq x.number c.args.id && starts c.args.request.range.first x) c.self.inside.snaps.items ≤ 256 =
      subst (λ (x : Volumed g.row.B.Denot). sum_by count_in x.snaps + count_by (λ y. nat_eq y.number c.args.id && starts c.args.request.range.first y) x.snaps ≤ 256) (sym c.self.view_is) c.requires.few in
      let space : length c.self.inside.flights.items < 64 = omega (arith, c.requires.room, ap (λ (x : Volumed g.row.B.Denot). length x.flights) c.self.view_is) in
      let done = held_done g.B.Block.contents g.B.Block.layers g.B.Block.size v c.self.invariant.whole c.args.id c.args.k s named c.take_room.new.snap c.take_room.ensures.same t m gs f c.args.request c.in-Ok-new.ensures.request c.in-Ok-new.ensures.number c.in-Ok-new.ensures.route space asked
      c.in-Ok-new.ensures.room c.requires.kind did few saved c.in-Ok-save_or_mark.ensures.ok.0 in
      let pushed = c.push_reserved.ensures.items ∙ ap (λ fs. fs ++ f ∷ []) back_flights in
      let left = all_then v.snaps (set v.snaps c.args.k c.take_room.new.snap) _ (one_left v.snaps c.args.k s c.take_room.new.snap named.within named.is (left_room s c.take_room.new.snap c.take_room.ensures.same)) (one_left (set v.snaps c.args.k c.take_room.new.snap) c.args.k c.take_room.new.snap t within (sym (get_or-set_same v.snaps c.args.k c.take_room.new.snap c.take_room.new.snap named.within)) (left_saved g.B.Block.contents g.B.Block.layers (own_of c.args.request.range.first c.take_room.new.snap) c.take_room.new.snap t _ _ _ _ saved)) in
      let goes = list_moves g.B.Block.may_hold g.B.Block.contents g.B.Block.layers g.B.Block.size g.met.B.Block.whole g.met.B.Block.holds_now _ c.self.invariant.whole c.self.invariant.lasting.snaps None (set (set v.snaps c.args.k c.take_room.new.snap) c.args.k t) left in
      record { snaps = goes.lasts; merge = c.self.invariant.lasting.merge };
}

pub returns-clause-ok : goal.returns-clause-ok
returns-clause-ok g c =
    let v : Volumed g.row.B.Denot = record { origin = c.self.inside.origin; snaps = c.self.inside.snaps.items; merge = c.self.inside.merge; flights = c.self.inside.flights.items; requests = c.self.inside.requests; copies = c.self.inside.copies; attached = c.self.inside.attached } in
    let s : Kept g.row.B.Denot = c.index_mut.result.now in
    let place : Some c.args.k ≡ place_of_snap c.args.id c.self.inside.snaps.items = c.requires.place ∙ sym (ap (λ (x : Volumed g.row.B.Denot). place_of_snap c.args.id x.snaps) c.self.view_is) in
    let free : dev_refusal c.args.request.dev c.self.inside.merge c.self.inside.snaps.items ≡ None = ap (λ (x : Volumed g.row.B.Denot). dev_refusal c.args.request.dev x.merge x.snaps) c.self.view_is ∙ c.requires.found in
    let named : IsNamed v c.args.id c.args.k s = is_named v c.self.inside.snaps.items c.args.request.dev c.args.id c.args.k s refl c.index_mut.ensures.value free (dev_of_write c.args.request c.args.id c.requires.kind) place in
    let roomy = one_roomed g.B.Block.contents g.B.Block.layers g.B.Block.size v c.self.invariant.whole c.args.id c.args.k s named c.take_room.new.snap c.take_room.ensures.same in
    let within = within_roomy g.B.Block.contents g.B.Block.layers g.B.Block.size v c.self.invariant.whole c.args.id c.args.k s named c.take_room.new.snap c.take_room.ensures.same in
    let now2 : c.index_mut-2.result.now ≡ c.take_room.new.snap = c.index_mut-2.ensures.value ∙ get_or-set_same c.self.inside.snaps.items c.args.k c.take_room.new.snap c.index_mut-2.result.now named.within in
    let asked : IsAsked (g.B.Block.size c.self.inside.origin) (piece_with c.self.inside.merge c.self.inside.snaps.items) c.args.request = subst (λ (x : Volumed g.row.B.Denot). IsAsked (g.B.Block.size x.origin) (piece_with x.merge x.snaps) c.args.request) (sym c.self.view_is) c.requires.asked in
    let slice = c.as_mut_slice.ensures.value ∙ c.reserve.ensures.items in
    let gs = c.save_or_mark.new.flights in
    let t = c.save_or_mark.new.snap in
    let m = c.in-Ok-save_or_mark.given in
    let saved : IsSavedIn g.B.Block.contents g.B.Block.layers (own_of c.args.request.range.first c.take_room.new.snap) c.take_room.new.snap t c.self.inside.copies m c.self.inside.flights.items gs =
    subst (λ (x : Kept g.row.B.Denot). IsSavedIn g.B.Block.contents g.B.Block.layers (own_of c.args.request.range.first x) x t c.self.inside.copies m c.self.inside.flights.items gs) now2
    (subst (λ (x : List Flight). IsSavedIn g.B.Block.contents g.B.Block.layers (own_of c.args.request.range.first c.index_mut-2.result.now) c.index_mut-2.result.now t c.self.inside.copies m x gs) slice c.in-Ok-save_or_mark.ensures.ok.1) in
    let back_flights = back c.reserve.new.self.len gs c.reserve.new.self.items (c.save_or_mark.auto.flights ∙ c.as_mut_slice.ensures.len) in
    let writable : shut_at c.self.inside.snaps.items (place_of_snap c.args.id c.self.inside.snaps.items) ≡ None = ap (λ (x : Volumed g.row.B.Denot). shut_at x.snaps (place_of_snap c.args.id x.snaps)) c.self.view_is ∙ c.requires.writable in
    let did : did_overflow s.overflow ≡ false = ap (λ (x : Kept g.row.B.Denot). did_overflow x.overflow) named.is ∙ found_open c.self.inside.snaps.items c.args.id c.args.k s writable place in
    let f : Flight = c.in-Ok-new.flight in
    let few : sum_by count_in c.self.inside.snaps.items + count_by (λ x. nat_eq x.number c.args.id && starts c.args.request.range.first x) c.self.inside.snaps.items ≤ 256 =
    subst (λ (x : Volumed g.row.B.Denot). sum_by count_in x.snaps + count_by (λ y. nat_eq y.number c.args.id && starts c.args.request.range.first y) x.snaps ≤ 256) (sym c.self.view_is) c.requires.few in
    let space : length c.self.inside.flights.items < 64 = omega (arith, c.requires.room, ap (λ (x : Volumed g.row.B.Denot). length x.flights) c.self.view_is) in
    let done = held_done g.B.Block.contents g.B.Block.layers g.B.Block.size v c.self.invariant.whole c.args.id c.args.k s named c.take_room.new.snap c.take_room.ensures.same t m gs f c.args.request c.in-Ok-new.ensures.request c.in-Ok-new.ensures.number c.in-Ok-new.ensures.route space asked
    c.in-Ok-new.ensures.room c.requires.kind did few saved c.in-Ok-save_or_mark.ensures.ok.0 in
    let pushed = c.push_reserved.ensures.items ∙ ap (λ fs. fs ++ f ∷ []) back_flights in
    rw (← c.self.view_is)
    (subst (λ (fs : List Flight). IsAcceptedAs g.B.Block.contents g.B.Block.layers c.args.request (c.self.inside.requests + 1) v (record v { snaps = set (set c.self.inside.snaps.items c.args.k c.take_room.new.snap) c.args.k t; copies = m; flights = fs; requests = c.self.inside.requests + 1 })) (sym pushed)
    (subst (λ (n : ℕ). IsAcceptedAs g.B.Block.contents g.B.Block.layers c.args.request n v (record v { snaps = set (set c.self.inside.snaps.items c.args.k c.take_room.new.snap) c.args.k t; copies = m; flights = gs ++ f ∷ []; requests = c.self.inside.requests + 1 })) c.in-Ok-new.ensures.number done.1))
