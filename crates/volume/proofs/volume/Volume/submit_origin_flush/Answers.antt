-- The flush goes to the merging store first where a merge is begun, or else to the origin disk.
use Rattle.std.specs.Prelude.{is_some}
use Rattle.std.proofs.Common.{refl, sym, ◌∙◌, ap, subst}
use Rattle.plain_machine.specs.Kept.{kept}
use Rattle.in_flight.specs.Kinds.{kind_of, room_of}
use Rattle.in_flight.specs.Routes.{flush_route_of}
use Rattle.in_flight.specs.declared.flights.Kind.TheVariants.{OriginFlush}
use Rattle.volume.specs.Volumed.{Volumed, piece_with}
use Rattle.volume.specs.Whole.{IsWhole}
use Rattle.volume.specs.Submitting.{IsAsked}
use Rattle.volume.proofs.Accepts.{if_ok, entered_accepted}
use Rattle.volume.proofs.MergeWrites.{origin_flush_goes}
use Rattle.volume.proofs.Submitted.{origin_flush_submitted}
use Rattle.volume.proofs.Unflushed.{kept_is}
use Rattle.volume.proofs.volume.Volume.submit_origin_flush.Goals as goal

pub enter-requires-clause-goes : goal.enter-requires-clause-goes
enter-requires-clause-goes g c = λ f h number same route room.
    let asked : IsAsked (g.B.Block.size c.args.self.now.origin) (piece_with c.args.self.now.merge c.args.self.now.snaps) f.request = subst (IsAsked (g.B.Block.size c.args.self.now.origin) (piece_with c.args.self.now.merge c.args.self.now.snaps)) (sym same) c.requires.asked in
    let begun = c.is_some.ensures ∙ ap (λ (x : Volumed g.row.B.Denot). is_some x.merge) c.self.view_is in
    origin_flush_goes g.B.Block.contents g.B.Block.layers g.B.Block.size c.args.self.now h f number asked (room ∙ ap room_of (sym same)) (ap kept same ∙ kept_is c.args.request c.requires.whole ∙ sym same) (ap kind_of same ∙ c.requires.kind)
    (route ∙ c.flush_route-route.ensures ∙ ap flush_route_of begun)

pub returns-clause-ok : goal.returns-clause-ok
returns-clause-ok g c =
    let whole : IsWhole g.B.Block.contents g.B.Block.layers g.B.Block.size c.args.self.now = subst (IsWhole g.B.Block.contents g.B.Block.layers g.B.Block.size) c.self.view_is c.self.invariant.whole in
    let route = c.flush_route-route.ensures ∙ ap flush_route_of (c.is_some.ensures ∙ ap (λ (x : Volumed g.row.B.Denot). is_some x.merge) c.self.view_is) in
    if_ok c.enter.result _ _
    (λ number e. entered_accepted g.B.Block.contents g.B.Block.layers c.args.request c.flush_route-route.result number c.args.self.now c.enter.new.self OriginFlush c.requires.kind c.requires.whole refl refl e
    (origin_flush_submitted g.B.Block.contents g.B.Block.layers g.B.Block.size c.args.self.now whole c.args.request c.flush_route-route.result number c.enter.new.self e (kept_is c.args.request c.requires.whole) c.requires.kind route)) c.enter.ensures.ok
