-- The snapshot that is found is live, and the write goes where its chunk is, or waits for its copy.
use Rattle.std.proofs.Common.{◌≡◌, ◌/◌, ℕ, List, slice_index_or, refl, sym, ◌∙◌, ap, subst, arith}
use Rattle.cow_format.specs.Picture.{place_of}
use Rattle.in_flight.specs.declared.flights.Kind.TheVariants.{SnapWrite}
use Rattle.in_flight.specs.Kinds.{kind_of, room_of}
use Rattle.in_flight.specs.Routes.{read_route_of}
use Rattle.plain_machine.specs.declared.request.Request.{Request}
use Rattle.plain_machine.specs.Plain.{did_overflow}
use Rattle.volume_laws.specs.Published.{is_published}
use Rattle.snapshot.specs.Kept.{Kept}
use Rattle.volume.specs.Volumed.{Volumed, piece_with}
use Rattle.in_flight.specs.declared.flights.Route.TheVariants.{Held}
use Rattle.volume.specs.Whole.{IsWhole}
use Rattle.snapshot_list.specs.Finding.{place_of_snap}
use Rattle.snapshot_list.specs.Starting.{lacks}
use Rattle.volume.specs.Submitting.{IsAsked}
use Rattle.volume.proofs.Named.{dev_of_write, found_open, found_some, found_within, is_named, index_same, snap_write_placed_goes, snap_write_held_goes}
use Rattle.volume.proofs.Accepts.{if_ok, entered_accepted}
use Rattle.volume.proofs.Unflushed.{unflushed}
use Rattle.volume.proofs.Submitted.{snap_placed_submitted, snap_waits_submitted}
use Rattle.volume.proofs.volume.Volume.submit_snap_write.Goals as goal

pub returns-in_default-clause-err : goal.returns-in_default-clause-err
returns-in_default-clause-err g c =
    let snaps = c.as_slice.ensures.value ∙ ap (λ (x : Volumed g.row.B.Denot). x.snaps) c.self.view_is in
    absurd (found_some c.args.self.now.merge c.args.self.now.snaps c.args.request.dev c.args.id c.requires.found (dev_of_write c.args.request c.args.id c.requires.kind) (c.in_default.ensures ∙ ap (place_of_snap c.args.id) snaps))

pub index-snap-requires : goal.index-snap-requires
index-snap-requires g c =
    let below = found_within c.args.id c.as_slice.result.now c.in-Some.k c.in-Some.ensures in
    omega (arith, below, c.as_slice.ensures.len)

pub enter-requires-clause-goes : goal.enter-requires-clause-goes
enter-requires-clause-goes g c = λ f h number same route room.
    let s : Kept g.row.B.Denot = c.index-snap.result.now in
    let asked : IsAsked (g.B.Block.size c.args.self.now.origin) (piece_with c.args.self.now.merge c.args.self.now.snaps) f.request = subst (IsAsked (g.B.Block.size c.args.self.now.origin) (piece_with c.args.self.now.merge c.args.self.now.snaps)) (sym same) c.requires.asked in
    let place = c.in-Some.ensures ∙ ap (place_of_snap c.args.id) c.as_slice.ensures.value in
    let named = is_named c.args.self.now c.self.inside.snaps.items c.args.request.dev c.args.id c.in-Some.k s (ap (λ (x : Volumed g.row.B.Denot). x.snaps) c.self.view_is) c.index-snap.ensures c.requires.found (dev_of_write c.args.request c.args.id c.requires.kind) place in
    let chunk : c.own_chunk-chunk.result ≡ f.request.range.first / s.state.chunk = c.own_chunk-chunk.ensures ∙ ap (λ (r : Request). r.range.first / s.state.chunk) (sym same) in
    let published = sym (ap (is_published s.pairs s.marks) chunk) ∙ sym c.if-is_published.ensures in
    let did = ap (λ (x : Kept g.row.B.Denot). did_overflow x.overflow) named.is ∙ found_open c.args.self.now.snaps c.args.id c.in-Some.k s c.requires.writable (place ∙ ap (λ (x : Volumed g.row.B.Denot). place_of_snap c.args.id x.snaps) c.self.view_is) in
    snap_write_placed_goes g.B.Block.contents g.B.Block.layers g.B.Block.size c.args.self.now h f number asked (room ∙ ap room_of (sym same)) c.args.id c.in-Some.k s named (ap kind_of same ∙ c.requires.kind) did published
    (route ∙ c.read_route-route.ensures ∙ ap read_route_of c.place_of.ensures ∙ ap (λ (n : ℕ). read_route_of (place_of s.pairs n)) chunk)

pub enter-requires-2-clause-goes : goal.enter-requires-2-clause-goes
enter-requires-2-clause-goes g c = λ f h number same route room.
    let s : Kept g.row.B.Denot = c.index-snap.result.now in
    let asked : IsAsked (g.B.Block.size c.args.self.now.origin) (piece_with c.args.self.now.merge c.args.self.now.snaps) f.request = subst (IsAsked (g.B.Block.size c.args.self.now.origin) (piece_with c.args.self.now.merge c.args.self.now.snaps)) (sym same) c.requires.asked in
    let place = c.in-Some.ensures ∙ ap (place_of_snap c.args.id) c.as_slice.ensures.value in
    let named = is_named c.args.self.now c.self.inside.snaps.items c.args.request.dev c.args.id c.in-Some.k s (ap (λ (x : Volumed g.row.B.Denot). x.snaps) c.self.view_is) c.index-snap.ensures c.requires.found (dev_of_write c.args.request c.args.id c.requires.kind) place in
    let chunk : c.own_chunk-chunk.result ≡ f.request.range.first / s.state.chunk = c.own_chunk-chunk.ensures ∙ ap (λ (r : Request). r.range.first / s.state.chunk) (sym same) in
    let published = sym (ap (is_published s.pairs s.marks) chunk) ∙ sym c.if-is_published.ensures in
    let has = ap (λ (r : Request). lacks r.range.first s) same ∙ sym c.if-is_lacking.ensures in
    let did = ap (λ (x : Kept g.row.B.Denot). did_overflow x.overflow) named.is ∙ found_open c.args.self.now.snaps c.args.id c.in-Some.k s c.requires.writable (place ∙ ap (λ (x : Volumed g.row.B.Denot). place_of_snap c.args.id x.snaps) c.self.view_is) in
    snap_write_held_goes g.B.Block.contents g.B.Block.layers g.B.Block.size c.args.self.now h f number asked (room ∙ ap room_of (sym same)) c.args.id c.in-Some.k s named (ap kind_of same ∙ c.requires.kind) did published has route

pub returns-then-is_published-clause-ok : goal.returns-then-is_published-clause-ok
returns-then-is_published-clause-ok g c =
    let s : Kept g.row.B.Denot = c.index-snap.result.now in
    let place = c.in-Some.ensures ∙ ap (place_of_snap c.args.id) c.as_slice.ensures.value in
    let named = is_named c.args.self.now c.self.inside.snaps.items c.args.request.dev c.args.id c.in-Some.k s (ap (λ (x : Volumed g.row.B.Denot). x.snaps) c.self.view_is) c.index-snap.ensures c.requires.found (dev_of_write c.args.request c.args.id c.requires.kind) place in
    let published = sym (ap (is_published s.pairs s.marks) c.own_chunk-chunk.ensures) ∙ sym c.if-is_published.ensures in
    let whole : IsWhole g.B.Block.contents g.B.Block.layers g.B.Block.size c.args.self.now = subst (IsWhole g.B.Block.contents g.B.Block.layers g.B.Block.size) c.self.view_is c.self.invariant.whole in
    let route = c.read_route-route.ensures ∙ ap read_route_of c.place_of.ensures ∙ ap (λ (n : ℕ). read_route_of (place_of s.pairs n)) c.own_chunk-chunk.ensures in
    let did = ap (λ (x : Kept g.row.B.Denot). did_overflow x.overflow) named.is ∙ found_open c.args.self.now.snaps c.args.id c.in-Some.k s c.requires.writable (place ∙ ap (λ (x : Volumed g.row.B.Denot). place_of_snap c.args.id x.snaps) c.self.view_is) in
    if_ok c.enter.result _ _
    (λ number e. entered_accepted g.B.Block.contents g.B.Block.layers c.args.request c.read_route-route.result number c.args.self.now c.enter.new.self (SnapWrite c.args.id) c.requires.kind (unflushed c.args.request (SnapWrite c.args.id) c.requires.kind tt) refl refl e
    (snap_placed_submitted g.B.Block.contents g.B.Block.layers g.B.Block.size c.args.self.now whole c.args.request c.read_route-route.result number c.enter.new.self e c.args.id c.in-Some.k s named c.requires.kind did (sym c.if-is_lacking.ensures) published route)) c.enter.ensures.ok

pub returns-clause-ok : goal.returns-clause-ok
returns-clause-ok g c =
    let s : Kept g.row.B.Denot = c.index-snap.result.now in
    let place = c.in-Some.ensures ∙ ap (place_of_snap c.args.id) c.as_slice.ensures.value in
    let named = is_named c.args.self.now c.self.inside.snaps.items c.args.request.dev c.args.id c.in-Some.k s (ap (λ (x : Volumed g.row.B.Denot). x.snaps) c.self.view_is) c.index-snap.ensures c.requires.found (dev_of_write c.args.request c.args.id c.requires.kind) place in
    let published = sym (ap (is_published s.pairs s.marks) c.own_chunk-chunk.ensures) ∙ sym c.if-is_published.ensures in
    let whole : IsWhole g.B.Block.contents g.B.Block.layers g.B.Block.size c.args.self.now = subst (IsWhole g.B.Block.contents g.B.Block.layers g.B.Block.size) c.self.view_is c.self.invariant.whole in
    let did = ap (λ (x : Kept g.row.B.Denot). did_overflow x.overflow) named.is ∙ found_open c.args.self.now.snaps c.args.id c.in-Some.k s c.requires.writable (place ∙ ap (λ (x : Volumed g.row.B.Denot). place_of_snap c.args.id x.snaps) c.self.view_is) in
    if_ok c.enter-2.result _ _
    (λ number e. entered_accepted g.B.Block.contents g.B.Block.layers c.args.request Held number c.args.self.now c.enter-2.new.self (SnapWrite c.args.id) c.requires.kind (unflushed c.args.request (SnapWrite c.args.id) c.requires.kind tt) refl refl e
    (snap_waits_submitted g.B.Block.contents g.B.Block.layers g.B.Block.size c.args.self.now whole c.args.request Held number c.enter-2.new.self e c.args.id c.in-Some.k s named c.requires.kind did published (sym c.if-is_lacking.ensures) refl)) c.enter-2.ensures.ok

pub start_and_enter-requires-clause-lacking : goal.start_and_enter-requires-clause-lacking
start_and_enter-requires-clause-lacking g c = λ (s : Kept g.row.B.Denot) is.
    let place = c.in-Some.ensures ∙ ap (place_of_snap c.args.id) c.as_slice.ensures.value in
    let within = found_within c.args.id c.self.inside.snaps.items c.in-Some.k place in
    let snaps : c.args.self.now.snaps ≡ c.self.inside.snaps.items = sym (ap (λ (x : Volumed g.row.B.Denot). x.snaps) c.self.view_is) in
    let at : c.index-snap.result.now ≡ s = index_same c.self.inside.snaps.items c.in-Some.k c.index-snap.result.now s within c.index-snap.ensures (is ∙ ap (λ (xs : List (Kept g.row.B.Denot)). slice_index_or xs c.in-Some.k s) snaps) in
    sym (ap (lacks c.args.request.range.first) at) ∙ sym c.if-is_lacking.ensures
