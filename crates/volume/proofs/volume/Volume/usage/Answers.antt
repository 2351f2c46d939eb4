-- The numbers of the merging store, or of that of the snapshot that is found.
use Rattle.std.proofs.Common.{◌≡◌, inl, Some, None, nat_eq, sym, ◌∙◌, ap, arith}
use Rattle.std.specs.Prelude.{Option}
use Rattle.chunk_alloc.specs.declared.usage.Usage.{Usage}
use Rattle.snapshot.specs.Kept.{Kept}
use Rattle.snapshot_list.proofs.Finds.{position_within}
use Rattle.snapshot_list.specs.Finding.{place_of_snap}
use Rattle.merge.specs.Merging.{Merging}
use Rattle.volume.specs.Asking.{merging_usage}
use Rattle.volume.specs.Leaving.{usage_of}
use Rattle.volume.proofs.Asked.{holds_found, merge_usage_is, live_usage, no_usage}
use Rattle.volume.proofs.volume.Volume.usage.Goals as goal

pub returns-in-Some-clause-ok : goal.returns-in-Some-clause-ok
returns-in-Some-clause-ok g c =
    inl (c.in-Some.merge.now, c.in-Some.ensures.some.0, c.in-Some.ensures.some.1, merge_usage_is c.in-Some.merge.now c.usage.result c.usage.ensures.allocated c.usage.ensures.total c.usage.ensures.metadata)

pub index-snap-requires : goal.index-snap-requires
index-snap-requires g c = let within = position_within (λ (s : Kept g.row.B.Denot). nat_eq s.number c.args.number) c.self.inside.snaps.items c.in-Some-snap_at.k (sym (c.in-Some-snap_at.ensures ∙ ap (place_of_snap c.args.number) c.as_slice.ensures.value)) in omega (arith, within)

pub returns-then-is_live-clause-ok : goal.returns-then-is_live-clause-ok
returns-then-is_live-clause-ok g c =
    holds_found (λ (m : Merging g.row.B.Denot). ◌≡◌ {A = Option Usage} (Some c.usage-then-is_live.result) (Some (merging_usage m))) (λ (s : Kept g.row.B.Denot). ◌≡◌ {A = Option Usage} (Some c.usage-then-is_live.result) (usage_of s)) c.args.number c.in-Some-snap_at.k c.index-snap.result.now _ c.args.self.now c.self.view_is
    c.in_default.ensures.none (c.in-Some-snap_at.ensures ∙ ap (place_of_snap c.args.number) c.as_slice.ensures.value) c.index-snap.ensures (live_usage c.index-snap.result.now c.usage-then-is_live.result (sym c.is_live.ensures ∙ c.if-is_live.true) c.usage-then-is_live.ensures.allocated c.usage-then-is_live.ensures.total c.usage-then-is_live.ensures.metadata)

pub returns-else-is_live-clause-ok : goal.returns-else-is_live-clause-ok
returns-else-is_live-clause-ok g c =
    holds_found (λ (m : Merging g.row.B.Denot). ◌≡◌ {A = Option Usage} (None) (Some (merging_usage m))) (λ (s : Kept g.row.B.Denot). ◌≡◌ {A = Option Usage} (None) (usage_of s)) c.args.number c.in-Some-snap_at.k c.index-snap.result.now _ c.args.self.now c.self.view_is
    c.in_default.ensures.none (c.in-Some-snap_at.ensures ∙ ap (place_of_snap c.args.number) c.as_slice.ensures.value) c.index-snap.ensures (no_usage c.index-snap.result.now (sym c.is_live.ensures ∙ c.if-is_live.false))
