-- The merging store, or that of the snapshot that is found.
use Rattle.std.proofs.Common.{◌≡◌, inl, nat_eq, sym, ◌∙◌, ap, arith}
use Rattle.snapshot.specs.Kept.{Kept}
use Rattle.snapshot_list.proofs.Finds.{position_within}
use Rattle.snapshot_list.specs.Finding.{place_of_snap}
use Rattle.merge.specs.Merging.{Merging}
use Rattle.volume.proofs.Asked.{holds_found}
use Rattle.volume.proofs.volume.Volume.store.Goals as goal

pub returns-in-Some-clause-ok : goal.returns-in-Some-clause-ok
returns-in-Some-clause-ok g c = inl (c.in-Some.merge.now, c.in-Some.ensures.some.0, c.in-Some.ensures.some.1, c.device.ensures)

pub index-requires : goal.index-requires
index-requires g c = let within = position_within (λ (s : Kept g.row.B.Denot). nat_eq s.number c.args.number) c.self.inside.snaps.items c.in-Some-snap_at.k (sym (c.in-Some-snap_at.ensures ∙ ap (place_of_snap c.args.number) c.as_slice.ensures.value)) in omega (arith, within)

pub returns-in-Some-snap_at-clause-ok : goal.returns-in-Some-snap_at-clause-ok
returns-in-Some-snap_at-clause-ok g c =
    holds_found (λ (m : Merging g.row.B.Denot). c.device-in-Some-snap_at.result.now ≡ m.device) (λ (s : Kept g.row.B.Denot). c.device-in-Some-snap_at.result.now ≡ s.device) c.args.number c.in-Some-snap_at.k c.index.result.now _ c.args.self.now c.self.view_is
    c.in_default.ensures.none (c.in-Some-snap_at.ensures ∙ ap (place_of_snap c.args.number) c.as_slice.ensures.value) c.index.ensures c.device-in-Some-snap_at.ensures
