-- The snapshot that is found leaves.
use Rattle.std.proofs.Common.{rules, ◌≡◌, List, [], get_or, nat_eq, sym, ◌∙◌, ap, arith}
use Rattle.std.proofs.lemmas.List.{get_or_default}
use Rattle.snapshot.specs.Kept.{Kept}
use Rattle.volume.specs.Leaving.{IsWithout}
use Rattle.volume.specs.Volumed.{Volumed}
use Rattle.snapshot_list.proofs.Finds.{position_within}
use Rattle.snapshot_list.specs.Finding.{place_of_snap}
use Rattle.volume.proofs.Leaves.{whole_left, plain_left_as, found_place, without_loud}
use Rattle.volume.proofs.Quieted.{quiet_flights}
use Rattle.volume.specs.SnapLasting.{SnapLasting}
use Rattle.volume_laws.proofs.Lists.{All-remove}
use Rattle.volume.proofs.volume.Volume.detach.Goals as goal

pub remove-snap-requires : goal.remove-snap-requires
remove-snap-requires g c = let within = position_within (λ (s : Kept g.row.B.Denot). nat_eq s.number c.args.number) c.self.inside.snaps.items c.in-Some.k (sym (c.in-Some.ensures ∙ ap (place_of_snap c.args.number) c.as_slice.ensures.value)) in omega (arith, within)

pub invariant_of-self : goal.invariant_of-self
invariant_of-self g c = record {
  whole =
      let v : Volumed g.row.B.Denot = record { origin = c.self.inside.origin; snaps = c.self.inside.snaps.items; merge = c.self.inside.merge; flights = c.self.inside.flights.items; requests = c.self.inside.requests; copies = c.self.inside.copies; attached = c.self.inside.attached } in
      let found = found_place c.args.number c.self.inside.snaps.items c.in-Some.k c.remove-snap.result (c.in-Some.ensures ∙ ap (place_of_snap c.args.number) c.as_slice.ensures.value) in
      let none : v.flights ≡ [] = ap (λ (x : Volumed g.row.B.Denot). x.flights) c.self.view_is ∙ quiet_flights c.args.self.now (sym c.if-not-is_quiet.ensures.value) in
      rw (c.remove-snap.ensures.items) (whole_left g.B.Block.contents g.B.Block.layers g.B.Block.size v c.in-Some.k c.remove-snap.result found.0 c.remove-snap.ensures.value none c.self.invariant.whole);
  lasting =
      let v : Volumed g.row.B.Denot = record { origin = c.self.inside.origin; snaps = c.self.inside.snaps.items; merge = c.self.inside.merge; flights = c.self.inside.flights.items; requests = c.self.inside.requests; copies = c.self.inside.copies; attached = c.self.inside.attached } in
      let found = found_place c.args.number c.self.inside.snaps.items c.in-Some.k c.remove-snap.result (c.in-Some.ensures ∙ ap (place_of_snap c.args.number) c.as_slice.ensures.value) in
      let none : v.flights ≡ [] = ap (λ (x : Volumed g.row.B.Denot). x.flights) c.self.view_is ∙ quiet_flights c.args.self.now (sym c.if-not-is_quiet.ensures.value) in
      rw (c.remove-snap.ensures.items) (record { snaps = All-remove (SnapLasting g.B.Block.may_hold g.B.Block.contents g.B.Block.layers g.B.Block.size v.origin) v.snaps c.in-Some.k c.self.invariant.lasting.snaps; merge = c.self.invariant.lasting.merge });
}

pub returns-clause-does : goal.returns-clause-does
returns-clause-does g c =
    let v : Volumed g.row.B.Denot = record { origin = c.self.inside.origin; snaps = c.self.inside.snaps.items; merge = c.self.inside.merge; flights = c.self.inside.flights.items; requests = c.self.inside.requests; copies = c.self.inside.copies; attached = c.self.inside.attached } in
    let place = c.in-Some.ensures ∙ ap (place_of_snap c.args.number) c.as_slice.ensures.value in
    let found = found_place c.args.number c.self.inside.snaps.items c.in-Some.k c.remove-snap.result place in
    let at : (d : Kept g.row.B.Denot) → c.remove-snap.result ≡ get_or c.self.inside.snaps.items c.in-Some.k d = λ d. c.remove-snap.ensures.value ∙ get_or_default c.self.inside.snaps.items c.in-Some.k c.remove-snap.result d found.0 in
    let taken : IsWithout c.args.number c.args.self.now (record v { snaps = c.remove-snap.new.self.items }) (record { device = c.into_device.result; stale = c.is_stale-stale.result }) = rw (← c.self.view_is) (record {
      place = c.in-Some.k;
      found = sym place;
      device = λ d. c.into_device.ensures ∙ ap (λ (x : Kept g.row.B.Denot). x.device) (at d);
      stale = λ d. c.is_stale-stale.ensures ∙ ap (λ (x : Kept g.row.B.Denot). x.stale) (at d);
      becomes = ap (λ (x : List (Kept g.row.B.Denot)). let w : Volumed g.row.B.Denot = record v { snaps = x } in w) c.remove-snap.ensures.items;
    }) in
    record {
      ok = search rules;
      taken = taken;
      plain =
          λ _.
          let found = found_place c.args.number c.self.inside.snaps.items c.in-Some.k c.remove-snap.result (c.in-Some.ensures ∙ ap (place_of_snap c.args.number) c.as_slice.ensures.value) in
          let none : v.flights ≡ [] = ap (λ (x : Volumed g.row.B.Denot). x.flights) c.self.view_is ∙ quiet_flights c.args.self.now (sym c.if-not-is_quiet.ensures.value) in
          let mine = ap (λ (x : Kept g.row.B.Denot). x.number) c.remove-snap.ensures.value ∙ found.1 in
          rw (← c.self.view_is) (plain_left_as g.B.Block.contents g.B.Block.layers g.B.Block.size v c.in-Some.k c.remove-snap.result found.0 c.remove-snap.ensures.value none c.args.number c.remove-snap.new.self.items c.remove-snap.ensures.items mine c.self.invariant.whole);
      loud = without_loud g.B.Block.layers c.args.number _ _ _ c.remove-snap.result taken;
      stops = (c.look_at_stores.ensures.stops, c.look_at_stores-2.ensures.stops);
    }
