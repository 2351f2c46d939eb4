-- A group is formed, and the copies of the chunk that is copied first are started.
use Rattle.std.proofs.Common.{◌≡◌, sym, ◌∙◌, true, ap, subst, refl, Some}
use Rattle.plain_machine.specs.declared.event.Event.TheVariants.{MergeGroup}
use Rattle.volume_laws.specs.MergeDue.{can_group}
use Rattle.merge.specs.Merging.{due_of as merging_due}
use Rattle.volume.specs.Volumed.{Volumed}
use Rattle.volume.proofs.MergeDues.{due_beside}
use Rattle.volume.proofs.MergeGroups.{formed_can_save, formed_good, formed_exact}
use Rattle.volume.proofs.MergeBoth.{still_both, next_left}
use Rattle.volume.proofs.LastOne.{IsSameDevice, same_device}
use Rattle.volume.proofs.volume.Volume.merge_group.Goals as goal

pub returns-then-not-can_group-clause-due : goal.returns-then-not-can_group-clause-due
returns-then-not-can_group-clause-due g c =
    let v : Volumed g.row.B.Denot = record { origin = c.self.inside.origin; snaps = c.self.inside.snaps.items; merge = c.self.inside.merge; flights = c.self.inside.flights.items; requests = c.self.inside.requests; copies = c.self.inside.copies; attached = c.self.inside.attached } in
    rw (← c.self.view_is) (sym (due_beside g.B.Block.contents g.B.Block.layers v c.in-Some.merge c.in-Some.is MergeGroup ∙ sym (c.has_group.ensures.looks true).group ∙ sym c.if-not-can_group.ensures))

pub returns-else-not-can_group-clause-due : goal.returns-else-not-can_group-clause-due
returns-else-not-can_group-clause-due g c =
    let v : Volumed g.row.B.Denot = record { origin = c.self.inside.origin; snaps = c.self.inside.snaps.items; merge = c.self.inside.merge; flights = c.self.inside.flights.items; requests = c.self.inside.requests; copies = c.self.inside.copies; attached = c.self.inside.attached } in
    rw (← c.self.view_is) (sym (due_beside g.B.Block.contents g.B.Block.layers v c.in-Some.merge c.in-Some.is MergeGroup ∙ sym (c.has_group.ensures.looks true).group ∙ sym c.if-not-can_group.ensures))

pub save_waiting-self-inside-requires-clause-room : goal.save_waiting-self-inside-requires-clause-room
save_waiting-self-inside-requires-clause-room g c =
    let v : Volumed g.row.B.Denot = record { origin = c.self.inside.origin; snaps = c.self.inside.snaps.items; merge = c.self.inside.merge; flights = c.self.inside.flights.items; requests = c.self.inside.requests; copies = c.self.inside.copies; attached = c.self.inside.attached } in
    let (first, count, i, same) = c.form_group.ensures.fields in
    formed_can_save g.B.Block.contents g.B.Block.layers g.B.Block.size v c.self.invariant.whole c.in-Some.merge c.in-Some.is c.form_group.new.self first count same c.form_group.ensures.step

pub invariant_of-self-in-Some : goal.invariant_of-self-in-Some
invariant_of-self-in-Some g c = record {
  whole =
      let v : Volumed g.row.B.Denot = record { origin = c.self.inside.origin; snaps = c.self.inside.snaps.items; merge = c.self.inside.merge; flights = c.self.inside.flights.items; requests = c.self.inside.requests; copies = c.self.inside.copies; attached = c.self.inside.attached } in
      let (first, count, i, same) = c.form_group.ensures.fields in
      (formed_good g.B.Block.contents g.B.Block.layers g.B.Block.size v c.self.invariant.whole c.in-Some.merge c.in-Some.is c.form_group.new.self first count same c.form_group.ensures.step g.B.Block.fault_count g.B.Block.done_count
      c.save_waiting-self-inside.new.snaps.items c.save_waiting-self-inside.result c.save_waiting-self-inside.new.flights.items c.save_waiting-self-inside.ensures.saved).whole;
  lasting =
      let v : Volumed g.row.B.Denot = record { origin = c.self.inside.origin; snaps = c.self.inside.snaps.items; merge = c.self.inside.merge; flights = c.self.inside.flights.items; requests = c.self.inside.requests; copies = c.self.inside.copies; attached = c.self.inside.attached } in
      let (first, count, i, same) = c.form_group.ensures.fields in
      let step = (c.form_group.ensures.step true).1 in
      let w : Volumed g.row.B.Denot = record v { snaps = c.save_waiting-self-inside.new.snaps.items; merge = Some c.form_group.new.self; flights = c.save_waiting-self-inside.new.flights.items; copies = c.save_waiting-self-inside.result } in
      let goes = still_both g.B.Block.may_hold g.B.Block.contents g.B.Block.layers g.B.Block.size g.met.B.Block.whole g.met.B.Block.holds_now v c.self.invariant.whole c.self.invariant.lasting w c.form_group.new.self refl c.in-Some.merge c.in-Some.is (next_left g.B.Block.contents g.B.Block.layers _ _ _ _ _ _ _ _ _ c.save_waiting-self-inside.ensures.saved) (same_device g.B.Block.may_hold g.B.Block.contents g.B.Block.layers g.B.Block.size g.met.B.Block.whole g.met.B.Block.holds_now v.origin) (subst (IsSameDevice g.B.Block.may_hold g.B.Block.contents g.B.Block.layers g.B.Block.size c.in-Some.merge.device) (sym (ap (λ x. x.device) same)) (same_device g.B.Block.may_hold g.B.Block.contents g.B.Block.layers g.B.Block.size g.met.B.Block.whole g.met.B.Block.holds_now c.in-Some.merge.device)) (ap (λ x. x.state.chunk) same) (ap (λ x. x.pairs) same) step.flushed in
      record { snaps = goes.lasts; merge = goes.merge };
}

pub returns-else-not-can_group-clause-step : goal.returns-else-not-can_group-clause-step
returns-else-not-can_group-clause-step g c =
    let v : Volumed g.row.B.Denot = record { origin = c.self.inside.origin; snaps = c.self.inside.snaps.items; merge = c.self.inside.merge; flights = c.self.inside.flights.items; requests = c.self.inside.requests; copies = c.self.inside.copies; attached = c.self.inside.attached } in
    let (first, count, i, same) = c.form_group.ensures.fields in
    rw (← c.self.view_is) (formed_good g.B.Block.contents g.B.Block.layers g.B.Block.size v c.self.invariant.whole c.in-Some.merge c.in-Some.is c.form_group.new.self first count same c.form_group.ensures.step g.B.Block.fault_count g.B.Block.done_count
    c.save_waiting-self-inside.new.snaps.items c.save_waiting-self-inside.result c.save_waiting-self-inside.new.flights.items c.save_waiting-self-inside.ensures.saved).stepped

pub returns-else-not-can_group-clause-exact : goal.returns-else-not-can_group-clause-exact
returns-else-not-can_group-clause-exact g c =
    let v : Volumed g.row.B.Denot = record { origin = c.self.inside.origin; snaps = c.self.inside.snaps.items; merge = c.self.inside.merge; flights = c.self.inside.flights.items; requests = c.self.inside.requests; copies = c.self.inside.copies; attached = c.self.inside.attached } in
    let (first, count, i, same) = c.form_group.ensures.fields in
    let due : can_group (merging_due g.B.Block.contents true c.in-Some.merge) ≡ true = sym (c.has_group.ensures.looks true).group ∙ sym c.if-not-can_group.ensures in
    rw (← c.self.view_is) (formed_exact g.B.Block.contents g.B.Block.layers g.B.Block.size v c.self.invariant.whole c.in-Some.merge c.in-Some.is c.form_group.new.self first count same c.form_group.ensures.step i (sym c.if-not-can_group.ensures) due
    c.save_waiting-self-inside.new.snaps.items c.save_waiting-self-inside.result c.save_waiting-self-inside.new.flights.items c.save_waiting-self-inside.ensures.saved)

pub returns-else-not-can_group-clause-stops_snaps : goal.returns-else-not-can_group-clause-stops_snaps
returns-else-not-can_group-clause-stops_snaps g c =
    let v : Volumed g.row.B.Denot = record { origin = c.self.inside.origin; snaps = c.self.inside.snaps.items; merge = c.self.inside.merge; flights = c.self.inside.flights.items; requests = c.self.inside.requests; copies = c.self.inside.copies; attached = c.self.inside.attached } in
    let (first, count, i, same) = c.form_group.ensures.fields in
    let step = (c.form_group.ensures.step true).1 in
    let w : Volumed g.row.B.Denot = record v { snaps = c.save_waiting-self-inside.new.snaps.items; merge = Some c.form_group.new.self; flights = c.save_waiting-self-inside.new.flights.items; copies = c.save_waiting-self-inside.result } in
    let goes = still_both g.B.Block.may_hold g.B.Block.contents g.B.Block.layers g.B.Block.size g.met.B.Block.whole g.met.B.Block.holds_now v c.self.invariant.whole c.self.invariant.lasting w c.form_group.new.self refl c.in-Some.merge c.in-Some.is (next_left g.B.Block.contents g.B.Block.layers _ _ _ _ _ _ _ _ _ c.save_waiting-self-inside.ensures.saved) (same_device g.B.Block.may_hold g.B.Block.contents g.B.Block.layers g.B.Block.size g.met.B.Block.whole g.met.B.Block.holds_now v.origin) (subst (IsSameDevice g.B.Block.may_hold g.B.Block.contents g.B.Block.layers g.B.Block.size c.in-Some.merge.device) (sym (ap (λ x. x.device) same)) (same_device g.B.Block.may_hold g.B.Block.contents g.B.Block.layers g.B.Block.size g.met.B.Block.whole g.met.B.Block.holds_now c.in-Some.merge.device)) (ap (λ x. x.state.chunk) same) (ap (λ x. x.pairs) same) step.flushed in
    rw (← c.self.view_is) goes.stops_snaps

pub returns-else-not-can_group-clause-stops_origin : goal.returns-else-not-can_group-clause-stops_origin
returns-else-not-can_group-clause-stops_origin g c =
    let v : Volumed g.row.B.Denot = record { origin = c.self.inside.origin; snaps = c.self.inside.snaps.items; merge = c.self.inside.merge; flights = c.self.inside.flights.items; requests = c.self.inside.requests; copies = c.self.inside.copies; attached = c.self.inside.attached } in
    let (first, count, i, same) = c.form_group.ensures.fields in
    let step = (c.form_group.ensures.step true).1 in
    let w : Volumed g.row.B.Denot = record v { snaps = c.save_waiting-self-inside.new.snaps.items; merge = Some c.form_group.new.self; flights = c.save_waiting-self-inside.new.flights.items; copies = c.save_waiting-self-inside.result } in
    let goes = still_both g.B.Block.may_hold g.B.Block.contents g.B.Block.layers g.B.Block.size g.met.B.Block.whole g.met.B.Block.holds_now v c.self.invariant.whole c.self.invariant.lasting w c.form_group.new.self refl c.in-Some.merge c.in-Some.is (next_left g.B.Block.contents g.B.Block.layers _ _ _ _ _ _ _ _ _ c.save_waiting-self-inside.ensures.saved) (same_device g.B.Block.may_hold g.B.Block.contents g.B.Block.layers g.B.Block.size g.met.B.Block.whole g.met.B.Block.holds_now v.origin) (subst (IsSameDevice g.B.Block.may_hold g.B.Block.contents g.B.Block.layers g.B.Block.size c.in-Some.merge.device) (sym (ap (λ x. x.device) same)) (same_device g.B.Block.may_hold g.B.Block.contents g.B.Block.layers g.B.Block.size g.met.B.Block.whole g.met.B.Block.holds_now c.in-Some.merge.device)) (ap (λ x. x.state.chunk) same) (ap (λ x. x.pairs) same) step.flushed in
    rw (← c.self.view_is) goes.stops_origin
