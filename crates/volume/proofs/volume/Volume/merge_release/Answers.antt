-- A group whose slots are cleared ends.
use Rattle.std.proofs.Common.{◌≡◌, ap, sym, refl, ◌∙◌, true, map, subst, Some, ◌<◌}
use Rattle.std.specs.List.{All}
use Rattle.device.specs.Layers.{is_loud}
use Rattle.volume_laws.specs.Again.{again_of}
use Rattle.volume_laws.specs.MergeDue.{can_release}
use Rattle.volume_laws.specs.Published.{is_clear}
use Rattle.snapshot.specs.Kept.{Kept, books_of}
use Rattle.merge.specs.Merging.{books_of as merging_books, flushed_of}
use Rattle.snapshot_list.specs.Rooms.{merge_books}
use Rattle.volume.specs.Volumed.{Volumed}
use Rattle.volume.proofs.Chunks.{chunks_all}
use Rattle.volume.proofs.MergeChanging.{disk_stays}
use Rattle.volume.proofs.MergeDues.{release_due, release_ready}
use Rattle.volume.proofs.MergeOperations.{release_good}
use Rattle.volume.proofs.MovedMerges.{release_moved}
use Rattle.volume.proofs.MergeBoth.{still_both}
use Rattle.volume.proofs.Lefts.{all_same}
use Rattle.volume.proofs.LastOne.{IsSameDevice, same_device}
use Rattle.volume.proofs.volume.Volume.merge_release.Goals as goal

pub returns-then-not-is_release_due-clause-due : goal.returns-then-not-is_release_due-clause-due
returns-then-not-is_release_due-clause-due g c =
    let v : Volumed g.row.B.Denot = record { origin = c.self.inside.origin; snaps = c.self.inside.snaps.items; merge = c.self.inside.merge; flights = c.self.inside.flights.items; requests = c.self.inside.requests; copies = c.self.inside.copies; attached = c.self.inside.attached } in
    rw (← c.self.view_is) (sym (release_due g.B.Block.contents g.B.Block.layers v c.in-Some.merge c.in-Some.is ∙ ap (λ fs. can_release fs (merging_books g.B.Block.contents true c.in-Some.merge)) (sym c.deref.ensures.value) ∙ sym c.if-not-is_release_due.ensures))

pub release-requires : goal.release-requires
release-requires g c =
    let due : can_release c.self.inside.flights.items (merging_books g.B.Block.contents true c.in-Some.merge) ≡ true = ap (λ fs. can_release fs (merging_books g.B.Block.contents true c.in-Some.merge)) (sym c.deref.ensures.value) ∙ sym c.if-not-is_release_due.ensures in
    record { due = (c.has_group.ensures.looks true).release ∙ release_ready c.self.inside.flights.items (merging_books g.B.Block.contents true c.in-Some.merge) due }

pub route_again-requires : goal.route_again-requires
route_again-requires g c =
    let v : Volumed g.row.B.Denot = record { origin = c.self.inside.origin; snaps = c.self.inside.snaps.items; merge = c.self.inside.merge; flights = c.self.inside.flights.items; requests = c.self.inside.requests; copies = c.self.inside.copies; attached = c.self.inside.attached } in
    subst (All (λ (x : Kept _). 0 < x.state.chunk)) (sym c.deref-in-Some.ensures.value) (chunks_all g.B.Block.contents g.B.Block.layers g.B.Block.size v c.self.invariant.whole)

pub invariant_of-self-in-Some : goal.invariant_of-self-in-Some
invariant_of-self-in-Some g c = record {
  whole =
      let v : Volumed g.row.B.Denot = record { origin = c.self.inside.origin; snaps = c.self.inside.snaps.items; merge = c.self.inside.merge; flights = c.self.inside.flights.items; requests = c.self.inside.requests; copies = c.self.inside.copies; attached = c.self.inside.attached } in
      let due : can_release c.self.inside.flights.items (merging_books g.B.Block.contents true c.in-Some.merge) ≡ true = ap (λ fs. can_release fs (merging_books g.B.Block.contents true c.in-Some.merge)) (sym c.deref.ensures.value) ∙ sym c.if-not-is_release_due.ensures in
      let flights = c.route_again.ensures ∙ ap (λ xs. map (again_of (merge_books g.B.Block.contents g.B.Block.layers true (Some c.release.new.self)) (is_clear (map (books_of g.B.Block.contents g.B.Block.layers) xs))) c.self.inside.flights.items) c.deref-in-Some.ensures.value in
      let fields = c.release.ensures.fields in
      (release_good g.B.Block.contents g.B.Block.layers g.B.Block.size g.B.Block.fault_count g.B.Block.done_count v c.self.invariant.whole c.in-Some.merge c.in-Some.is c.self.inside.origin c.release.new.self
      (record {
        number = ap (λ x. x.number) fields;
        chunk_is = ap (λ x. x.state.chunk) fields;
        origin = ap (λ x. x.state.origin) fields;
        loud = ap (λ x. is_loud (g.B.Block.layers x.device)) fields;
        sized = ap (λ x. g.B.Block.size x.device) fields;
      })
      (disk_stays g.B.Block.layers g.B.Block.size c.self.inside.origin) refl c.route_again.new.flights.items flights due c.release.ensures.step refl (ap (λ x. x.device) fields)).whole;
  lasting =
      let v : Volumed g.row.B.Denot = record { origin = c.self.inside.origin; snaps = c.self.inside.snaps.items; merge = c.self.inside.merge; flights = c.self.inside.flights.items; requests = c.self.inside.requests; copies = c.self.inside.copies; attached = c.self.inside.attached } in
      let fields = c.release.ensures.fields in
      let w : Volumed g.row.B.Denot = record v { merge = Some c.release.new.self; flights = c.route_again.new.flights.items } in
      let goes = still_both g.B.Block.may_hold g.B.Block.contents g.B.Block.layers g.B.Block.size g.met.B.Block.whole g.met.B.Block.holds_now v c.self.invariant.whole c.self.invariant.lasting w c.release.new.self refl c.in-Some.merge c.in-Some.is (all_same v.snaps v.snaps refl) (same_device g.B.Block.may_hold g.B.Block.contents g.B.Block.layers g.B.Block.size g.met.B.Block.whole g.met.B.Block.holds_now v.origin) (subst (IsSameDevice g.B.Block.may_hold g.B.Block.contents g.B.Block.layers g.B.Block.size c.in-Some.merge.device) (sym (ap (λ x. x.device) fields)) (same_device g.B.Block.may_hold g.B.Block.contents g.B.Block.layers g.B.Block.size g.met.B.Block.whole g.met.B.Block.holds_now c.in-Some.merge.device)) (ap (λ x. x.state.chunk) fields) (ap (λ x. x.pairs) fields) (ap (λ x. flushed_of x.group) fields) in
      record { snaps = goes.lasts; merge = goes.merge };
}

pub returns-else-not-is_release_due-clause-step : goal.returns-else-not-is_release_due-clause-step
returns-else-not-is_release_due-clause-step g c =
    let v : Volumed g.row.B.Denot = record { origin = c.self.inside.origin; snaps = c.self.inside.snaps.items; merge = c.self.inside.merge; flights = c.self.inside.flights.items; requests = c.self.inside.requests; copies = c.self.inside.copies; attached = c.self.inside.attached } in
    let due : can_release c.self.inside.flights.items (merging_books g.B.Block.contents true c.in-Some.merge) ≡ true = ap (λ fs. can_release fs (merging_books g.B.Block.contents true c.in-Some.merge)) (sym c.deref.ensures.value) ∙ sym c.if-not-is_release_due.ensures in
    let flights = c.route_again.ensures ∙ ap (λ xs. map (again_of (merge_books g.B.Block.contents g.B.Block.layers true (Some c.release.new.self)) (is_clear (map (books_of g.B.Block.contents g.B.Block.layers) xs))) c.self.inside.flights.items) c.deref-in-Some.ensures.value in
    let fields = c.release.ensures.fields in
    rw (← c.self.view_is) (release_good g.B.Block.contents g.B.Block.layers g.B.Block.size g.B.Block.fault_count g.B.Block.done_count v c.self.invariant.whole c.in-Some.merge c.in-Some.is c.self.inside.origin c.release.new.self
    (record {
      number = ap (λ x. x.number) fields;
      chunk_is = ap (λ x. x.state.chunk) fields;
      origin = ap (λ x. x.state.origin) fields;
      loud = ap (λ x. is_loud (g.B.Block.layers x.device)) fields;
      sized = ap (λ x. g.B.Block.size x.device) fields;
    })
    (disk_stays g.B.Block.layers g.B.Block.size c.self.inside.origin) refl c.route_again.new.flights.items flights due c.release.ensures.step refl (ap (λ x. x.device) fields)).stepped

pub returns-else-not-is_release_due-clause-exact : goal.returns-else-not-is_release_due-clause-exact
returns-else-not-is_release_due-clause-exact g c =
    let v : Volumed g.row.B.Denot = record { origin = c.self.inside.origin; snaps = c.self.inside.snaps.items; merge = c.self.inside.merge; flights = c.self.inside.flights.items; requests = c.self.inside.requests; copies = c.self.inside.copies; attached = c.self.inside.attached } in
    let due : can_release c.self.inside.flights.items (merging_books g.B.Block.contents true c.in-Some.merge) ≡ true = ap (λ fs. can_release fs (merging_books g.B.Block.contents true c.in-Some.merge)) (sym c.deref.ensures.value) ∙ sym c.if-not-is_release_due.ensures in
    let flights = c.route_again.ensures ∙ ap (λ xs. map (again_of (merge_books g.B.Block.contents g.B.Block.layers true (Some c.release.new.self)) (is_clear (map (books_of g.B.Block.contents g.B.Block.layers) xs))) c.self.inside.flights.items) c.deref-in-Some.ensures.value in
    let fields = c.release.ensures.fields in
    rw (← c.self.view_is) (record { step = λ loud replied. release_moved g.B.Block.contents g.B.Block.layers replied v c.in-Some.merge c.in-Some.is due c.release.new.self (c.release.ensures.step true) (ap (λ x. x.group) fields) (ap (λ x. x.device) fields) (ap (λ x. x.next) fields) c.route_again.new.flights.items flights })

pub returns-else-not-is_release_due-clause-due : goal.returns-else-not-is_release_due-clause-due
returns-else-not-is_release_due-clause-due g c =
    let v : Volumed g.row.B.Denot = record { origin = c.self.inside.origin; snaps = c.self.inside.snaps.items; merge = c.self.inside.merge; flights = c.self.inside.flights.items; requests = c.self.inside.requests; copies = c.self.inside.copies; attached = c.self.inside.attached } in
    rw (← c.self.view_is) (sym (release_due g.B.Block.contents g.B.Block.layers v c.in-Some.merge c.in-Some.is ∙ ap (λ fs. can_release fs (merging_books g.B.Block.contents true c.in-Some.merge)) (sym c.deref.ensures.value) ∙ sym c.if-not-is_release_due.ensures))

pub returns-else-not-is_release_due-clause-stops_snaps : goal.returns-else-not-is_release_due-clause-stops_snaps
returns-else-not-is_release_due-clause-stops_snaps g c =
    let v : Volumed g.row.B.Denot = record { origin = c.self.inside.origin; snaps = c.self.inside.snaps.items; merge = c.self.inside.merge; flights = c.self.inside.flights.items; requests = c.self.inside.requests; copies = c.self.inside.copies; attached = c.self.inside.attached } in
    let fields = c.release.ensures.fields in
    let w : Volumed g.row.B.Denot = record v { merge = Some c.release.new.self; flights = c.route_again.new.flights.items } in
    let goes = still_both g.B.Block.may_hold g.B.Block.contents g.B.Block.layers g.B.Block.size g.met.B.Block.whole g.met.B.Block.holds_now v c.self.invariant.whole c.self.invariant.lasting w c.release.new.self refl c.in-Some.merge c.in-Some.is (all_same v.snaps v.snaps refl) (same_device g.B.Block.may_hold g.B.Block.contents g.B.Block.layers g.B.Block.size g.met.B.Block.whole g.met.B.Block.holds_now v.origin) (subst (IsSameDevice g.B.Block.may_hold g.B.Block.contents g.B.Block.layers g.B.Block.size c.in-Some.merge.device) (sym (ap (λ x. x.device) fields)) (same_device g.B.Block.may_hold g.B.Block.contents g.B.Block.layers g.B.Block.size g.met.B.Block.whole g.met.B.Block.holds_now c.in-Some.merge.device)) (ap (λ x. x.state.chunk) fields) (ap (λ x. x.pairs) fields) (ap (λ x. flushed_of x.group) fields) in
    rw (← c.self.view_is) goes.stops_snaps

pub returns-else-not-is_release_due-clause-stops_origin : goal.returns-else-not-is_release_due-clause-stops_origin
returns-else-not-is_release_due-clause-stops_origin g c =
    let v : Volumed g.row.B.Denot = record { origin = c.self.inside.origin; snaps = c.self.inside.snaps.items; merge = c.self.inside.merge; flights = c.self.inside.flights.items; requests = c.self.inside.requests; copies = c.self.inside.copies; attached = c.self.inside.attached } in
    let fields = c.release.ensures.fields in
    let w : Volumed g.row.B.Denot = record v { merge = Some c.release.new.self; flights = c.route_again.new.flights.items } in
    let goes = still_both g.B.Block.may_hold g.B.Block.contents g.B.Block.layers g.B.Block.size g.met.B.Block.whole g.met.B.Block.holds_now v c.self.invariant.whole c.self.invariant.lasting w c.release.new.self refl c.in-Some.merge c.in-Some.is (all_same v.snaps v.snaps refl) (same_device g.B.Block.may_hold g.B.Block.contents g.B.Block.layers g.B.Block.size g.met.B.Block.whole g.met.B.Block.holds_now v.origin) (subst (IsSameDevice g.B.Block.may_hold g.B.Block.contents g.B.Block.layers g.B.Block.size c.in-Some.merge.device) (sym (ap (λ x. x.device) fields)) (same_device g.B.Block.may_hold g.B.Block.contents g.B.Block.layers g.B.Block.size g.met.B.Block.whole g.met.B.Block.holds_now c.in-Some.merge.device)) (ap (λ x. x.state.chunk) fields) (ap (λ x. x.pairs) fields) (ap (λ x. flushed_of x.group) fields) in
    rw (← c.self.view_is) goes.stops_origin
