-- The merge is taken out, and its store's device is given back.
use Rattle.std.proofs.Common.{◌≡◌, None, Some, map, refl, sym, ◌∙◌, ap, subst, Option}
use Rattle.merge.specs.Merging.{Merging}
use Rattle.snapshot_list.specs.Keeping.{unkept}
use Rattle.volume.specs.Finishing.{finish_refusal, finish_with}
use Rattle.volume.specs.Volumed.{Volumed, is_loud_in_all}
use Rattle.volume.proofs.Finishes.{back}
use Rattle.volume.proofs.Finished.{whole_finished, plain_finished, disk_finished, exact_finished, loud_finished}
use Rattle.volume.proofs.MergeStarts.{all_unkept}
use Rattle.volume.proofs.BeginLasts.{taken_opens, taken_finished}
use Rattle.volume.specs.Leaving.{is_quiet_of}
use Rattle.volume.specs.Stopping.{StopsVolume}
use Rattle.volume.proofs.volume.Volume.finish_merge.Goals as goal

pub invariant_of-self-2 : goal.invariant_of-self-2
invariant_of-self-2 g c = record {
  whole =
      let v : Volumed g.row.B.Denot = record { origin = c.self.inside.origin; snaps = c.self.inside.snaps.items; merge = c.self.inside.merge; flights = c.self.inside.flights.items; requests = c.self.inside.requests; copies = c.self.inside.copies; attached = c.self.inside.attached } in
      let m : Merging g.row.B.Denot = c.in-Some-take.merge in
      let is : v.merge ≡ Some m = sym c.in-Some-take.ensures.value in
      let admitted : finish_refusal v ≡ None = ap finish_refusal c.self.view_is ∙ sym c.in-None.ensures in
      let left = back c.self.inside.snaps.len c.let_go_all.new.snaps c.self.inside.snaps.items (c.let_go_all.auto.snaps ∙ c.as_mut_slice.ensures.len) ∙ c.let_go_all.ensures ∙ ap (map (unkept {B = g.row.B.Denot})) c.as_mut_slice.ensures.value in
      let gone : c.take.new.self ≡ None = c.take.ensures.after in
      rw (left, gone) (whole_finished v m is admitted g.B.Block.contents g.B.Block.layers g.B.Block.size c.self.invariant.whole);
  lasting =
      let v : Volumed g.row.B.Denot = record { origin = c.self.inside.origin; snaps = c.self.inside.snaps.items; merge = c.self.inside.merge; flights = c.self.inside.flights.items; requests = c.self.inside.requests; copies = c.self.inside.copies; attached = c.self.inside.attached } in
      let left = back c.self.inside.snaps.len c.let_go_all.new.snaps c.self.inside.snaps.items (c.let_go_all.auto.snaps ∙ c.as_mut_slice.ensures.len) ∙ c.let_go_all.ensures ∙ ap (map (unkept {B = g.row.B.Denot})) c.as_mut_slice.ensures.value in
      let gone : c.take.new.self ≡ None = c.take.ensures.after in
      rw (left, gone) (record { snaps = all_unkept g.B.Block.may_hold g.B.Block.contents g.B.Block.layers g.B.Block.size g.met.B.Block.whole g.met.B.Block.holds_now v.origin v.snaps c.self.invariant.lasting.snaps; merge = tt });
}

pub returns-clause-does : goal.returns-clause-does
returns-clause-does g c =
    let v : Volumed g.row.B.Denot = record { origin = c.self.inside.origin; snaps = c.self.inside.snaps.items; merge = c.self.inside.merge; flights = c.self.inside.flights.items; requests = c.self.inside.requests; copies = c.self.inside.copies; attached = c.self.inside.attached } in
    let m : Merging g.row.B.Denot = c.in-Some-take.merge in
    let is : v.merge ≡ Some m = sym c.in-Some-take.ensures.value in
    let admitted : finish_refusal v ≡ None = ap finish_refusal c.self.view_is ∙ sym c.in-None.ensures in
    let left = back c.self.inside.snaps.len c.let_go_all.new.snaps c.self.inside.snaps.items (c.let_go_all.auto.snaps ∙ c.as_mut_slice.ensures.len) ∙ c.let_go_all.ensures ∙ ap (map (unkept {B = g.row.B.Denot})) c.as_mut_slice.ensures.value in
    let gone : c.take.new.self ≡ None = c.take.ensures.after in
    record {
      ok = sym c.in-None.ensures;
      taken = rw (← c.self.view_is, left, gone) (record { merge = m; was = is; device = c.into_device.ensures; stale = refl; becomes = refl });
      legal = λ loud. rw (← c.self.view_is, left, gone) (plain_finished v m is admitted g.B.Block.contents g.B.Block.layers g.B.Block.size c.self.invariant.whole (ap (is_loud_in_all g.B.Block.layers) c.self.view_is ∙ loud));
      disk = λ loud. rw (← c.self.view_is) (disk_finished v m is admitted g.B.Block.contents g.B.Block.layers g.B.Block.size c.self.invariant.whole (ap (is_loud_in_all g.B.Block.layers) c.self.view_is ∙ loud));
      exact = λ replied. rw (← c.self.view_is, left, gone) (exact_finished v m is admitted g.B.Block.contents g.B.Block.layers g.B.Block.size c.self.invariant.whole replied);
      loud = rw (← c.self.view_is, left, gone, c.into_device.ensures) (loud_finished v m is admitted g.B.Block.contents g.B.Block.layers g.B.Block.size c.self.invariant.whole);
      stops = (c.look_at_stores.ensures.stops, c.look_at_stores-2.ensures.stops);
      opens =
          let w : Volumed g.row.B.Denot = record v { snaps = map unkept v.snaps; merge = None } in
          let finished = taken_finished m (is_quiet_of v) (sym (ap (λ (x : Option (Merging g.row.B.Denot)). finish_with x (is_quiet_of v)) is) ∙ admitted) in
          λ loud. rw (← c.self.view_is) (taken_opens g.B.Block.may_hold g.B.Block.size v w m is finished (subst (λ (x : Volumed g.row.B.Denot). StopsVolume g.B.Block.may_hold g.B.Block.size None x x) (sym c.self.view_is) (c.look_at_stores.ensures.stops loud)) refl);
    }
