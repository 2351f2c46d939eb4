-- The snapshot that is found is live, and the read goes where its chunk is.
use Rattle.std.proofs.Common.{◌/◌, ℕ, refl, sym, ◌∙◌, ap, subst, arith}
use Rattle.cow_format.specs.Picture.{place_of}
use Rattle.in_flight.specs.declared.flights.Kind.TheVariants.{SnapRead}
use Rattle.in_flight.specs.Kinds.{kind_of, room_of}
use Rattle.in_flight.specs.Routes.{read_route_of}
use Rattle.plain_machine.specs.declared.request.Request.{Request}
use Rattle.snapshot.specs.Kept.{Kept}
use Rattle.volume.specs.Volumed.{Volumed, piece_with}
use Rattle.volume.specs.Whole.{IsWhole}
use Rattle.snapshot_list.specs.Finding.{place_of_snap}
use Rattle.volume.specs.Submitting.{IsAsked}
use Rattle.volume.proofs.Named.{dev_of_read, found_some, found_within, is_named, snap_read_goes}
use Rattle.volume.proofs.Accepts.{if_ok, entered_accepted}
use Rattle.volume.proofs.Unflushed.{unflushed}
use Rattle.volume.proofs.Submitted.{snap_read_submitted}
use Rattle.volume.proofs.volume.Volume.submit_snap_read.Goals as goal

pub returns-in_default-clause-err : goal.returns-in_default-clause-err
returns-in_default-clause-err g c =
    let snaps = c.as_slice.ensures.value ∙ ap (λ (x : Volumed g.row.B.Denot). x.snaps) c.self.view_is in
    absurd (found_some c.args.self.now.merge c.args.self.now.snaps c.args.request.dev c.args.id c.requires.found (dev_of_read c.args.request c.args.id c.requires.kind) (c.in_default.ensures ∙ ap (place_of_snap c.args.id) snaps))

pub index-snap-requires : goal.index-snap-requires
index-snap-requires g c =
    let below = found_within c.args.id c.as_slice.result.now c.in-Some.k c.in-Some.ensures in
    omega (arith, below, c.as_slice.ensures.len)

pub enter-requires-clause-goes : goal.enter-requires-clause-goes
enter-requires-clause-goes g c = λ f h number same route room.
    let s : Kept g.row.B.Denot = c.index-snap.result.now in
    let asked : IsAsked (g.B.Block.size c.args.self.now.origin) (piece_with c.args.self.now.merge c.args.self.now.snaps) f.request = subst (IsAsked (g.B.Block.size c.args.self.now.origin) (piece_with c.args.self.now.merge c.args.self.now.snaps)) (sym same) c.requires.asked in
    let named = is_named c.args.self.now c.self.inside.snaps.items c.args.request.dev c.args.id c.in-Some.k s (ap (λ (x : Volumed g.row.B.Denot). x.snaps) c.self.view_is) c.index-snap.ensures c.requires.found (dev_of_read c.args.request c.args.id c.requires.kind) (c.in-Some.ensures ∙ ap (place_of_snap c.args.id) c.as_slice.ensures.value) in
    let chunk = ap (λ (n : ℕ). read_route_of (place_of s.pairs n)) c.own_chunk.ensures ∙ ap (λ (r : Request). read_route_of (place_of s.pairs (r.range.first / s.state.chunk))) (sym same) in
    snap_read_goes g.B.Block.contents g.B.Block.layers g.B.Block.size c.args.self.now h f number asked (room ∙ ap room_of (sym same)) c.args.id c.in-Some.k s named (ap kind_of same ∙ c.requires.kind)
    (route ∙ c.read_route-route.ensures ∙ ap read_route_of c.place_of.ensures ∙ chunk)

pub returns-clause-ok : goal.returns-clause-ok
returns-clause-ok g c =
    let s : Kept g.row.B.Denot = c.index-snap.result.now in
    let named = is_named c.args.self.now c.self.inside.snaps.items c.args.request.dev c.args.id c.in-Some.k s (ap (λ (x : Volumed g.row.B.Denot). x.snaps) c.self.view_is) c.index-snap.ensures c.requires.found (dev_of_read c.args.request c.args.id c.requires.kind) (c.in-Some.ensures ∙ ap (place_of_snap c.args.id) c.as_slice.ensures.value) in
    let whole : IsWhole g.B.Block.contents g.B.Block.layers g.B.Block.size c.args.self.now = subst (IsWhole g.B.Block.contents g.B.Block.layers g.B.Block.size) c.self.view_is c.self.invariant.whole in
    let route = c.read_route-route.ensures ∙ ap read_route_of c.place_of.ensures ∙ ap (λ (n : ℕ). read_route_of (place_of s.pairs n)) c.own_chunk.ensures in
    if_ok c.enter.result _ _
    (λ number e. entered_accepted g.B.Block.contents g.B.Block.layers c.args.request c.read_route-route.result number c.args.self.now c.enter.new.self (SnapRead c.args.id) c.requires.kind (unflushed c.args.request (SnapRead c.args.id) c.requires.kind tt) refl refl e
    (snap_read_submitted g.B.Block.contents g.B.Block.layers g.B.Block.size c.args.self.now whole c.args.request c.read_route-route.result number c.enter.new.self e c.args.id c.in-Some.k s named c.requires.kind route)) c.enter.ensures.ok
