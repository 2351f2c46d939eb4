-- The snapshot that is found is live, and the flush goes to its whole store.
use Rattle.std.proofs.Common.{refl, sym, ◌∙◌, ap, subst}
use Rattle.in_flight.specs.declared.flights.Kind.TheVariants.{SnapFlush}
use Rattle.in_flight.specs.declared.flights.Route.TheVariants.{Whole}
use Rattle.in_flight.specs.Kinds.{kind_of, room_of}
use Rattle.plain_machine.specs.Kept.{kept}
use Rattle.volume.specs.Volumed.{Volumed, piece_with}
use Rattle.volume.specs.Whole.{IsWhole}
use Rattle.snapshot_list.specs.Finding.{place_of_snap}
use Rattle.volume.specs.Submitting.{IsAsked}
use Rattle.volume.proofs.Named.{dev_of_flush, found_some, found_within, is_named, snap_flush_goes}
use Rattle.volume.proofs.Accepts.{if_ok, entered_accepted}
use Rattle.volume.proofs.Refusals.{element}
use Rattle.volume.proofs.Submitted.{snap_flush_submitted}
use Rattle.volume.proofs.Unflushed.{kept_is}
use Rattle.volume.proofs.volume.Volume.submit_snap_flush.Goals as goal

pub returns-in_default-clause-err : goal.returns-in_default-clause-err
returns-in_default-clause-err g c =
    let snaps = c.as_slice.ensures.value ∙ ap (λ (x : Volumed g.row.B.Denot). x.snaps) c.self.view_is in
    absurd (found_some c.args.self.now.merge c.args.self.now.snaps c.args.request.dev c.args.id c.requires.found (dev_of_flush c.args.request c.args.id c.requires.kind) (c.in_default.ensures ∙ ap (place_of_snap c.args.id) snaps))

pub enter-requires-clause-goes : goal.enter-requires-clause-goes
enter-requires-clause-goes g c = λ f h number same route room.
    let asked : IsAsked (g.B.Block.size c.args.self.now.origin) (piece_with c.args.self.now.merge c.args.self.now.snaps) f.request = subst (IsAsked (g.B.Block.size c.args.self.now.origin) (piece_with c.args.self.now.merge c.args.self.now.snaps)) (sym same) c.requires.asked in
    let place = c.in-Some.ensures ∙ ap (place_of_snap c.args.id) c.as_slice.ensures.value in
    let (s, is) = element c.self.inside.snaps.items c.in-Some.field-0 (found_within c.args.id c.self.inside.snaps.items c.in-Some.field-0 place) in
    let named = is_named c.args.self.now c.self.inside.snaps.items c.args.request.dev c.args.id c.in-Some.field-0 s (ap (λ (x : Volumed g.row.B.Denot). x.snaps) c.self.view_is) is c.requires.found (dev_of_flush c.args.request c.args.id c.requires.kind) place in
    snap_flush_goes g.B.Block.contents g.B.Block.layers g.B.Block.size c.args.self.now h f number asked (room ∙ ap room_of (sym same)) c.args.id c.in-Some.field-0 s named (ap kept same ∙ kept_is c.args.request c.requires.whole ∙ sym same) (ap kind_of same ∙ c.requires.kind) route

pub returns-clause-ok : goal.returns-clause-ok
returns-clause-ok g c =
    let place = c.in-Some.ensures ∙ ap (place_of_snap c.args.id) c.as_slice.ensures.value in
    let (s, is) = element c.self.inside.snaps.items c.in-Some.field-0 (found_within c.args.id c.self.inside.snaps.items c.in-Some.field-0 place) in
    let named = is_named c.args.self.now c.self.inside.snaps.items c.args.request.dev c.args.id c.in-Some.field-0 s (ap (λ (x : Volumed g.row.B.Denot). x.snaps) c.self.view_is) is c.requires.found (dev_of_flush c.args.request c.args.id c.requires.kind) place in
    let whole : IsWhole g.B.Block.contents g.B.Block.layers g.B.Block.size c.args.self.now = subst (IsWhole g.B.Block.contents g.B.Block.layers g.B.Block.size) c.self.view_is c.self.invariant.whole in
    if_ok c.enter.result _ _
    (λ number e. entered_accepted g.B.Block.contents g.B.Block.layers c.args.request Whole number c.args.self.now c.enter.new.self (SnapFlush c.args.id) c.requires.kind c.requires.whole refl refl e
    (snap_flush_submitted g.B.Block.contents g.B.Block.layers g.B.Block.size c.args.self.now whole c.args.request Whole number c.enter.new.self e c.args.id c.in-Some.field-0 s named (kept_is c.args.request c.requires.whole) c.requires.kind refl)) c.enter.ensures.ok
