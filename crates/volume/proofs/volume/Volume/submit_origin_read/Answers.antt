-- The read goes where the merging store has its chunk, or to the origin disk.
use Rattle.std.proofs.Common.{refl, sym, ◌∙◌, ap, subst}
use Rattle.plain_machine.specs.declared.request.Request.{Request}
use Rattle.in_flight.specs.Kinds.{kind_of, room_of}
use Rattle.in_flight.specs.Routes.{read_route_of}
use Rattle.in_flight.specs.declared.flights.Kind.TheVariants.{OriginRead}
use Rattle.snapshot_list.specs.Routing.{place_at}
use Rattle.volume.specs.Volumed.{Volumed, piece_with}
use Rattle.volume.specs.Whole.{IsWhole}
use Rattle.volume.specs.Submitting.{IsAsked}
use Rattle.volume.proofs.Accepts.{if_ok, entered_accepted}
use Rattle.volume.proofs.Unflushed.{unflushed}
use Rattle.volume.proofs.MergeWrites.{origin_read_goes}
use Rattle.volume.proofs.Submitted.{origin_read_submitted}
use Rattle.volume.proofs.volume.Volume.submit_origin_read.Goals as goal

pub enter-requires-clause-goes : goal.enter-requires-clause-goes
enter-requires-clause-goes g c = λ f h number same route room.
    let asked : IsAsked (g.B.Block.size c.args.self.now.origin) (piece_with c.args.self.now.merge c.args.self.now.snaps) f.request = subst (IsAsked (g.B.Block.size c.args.self.now.origin) (piece_with c.args.self.now.merge c.args.self.now.snaps)) (sym same) c.requires.asked in
    let place = c.place_at.ensures ∙ ap (λ (x : Volumed g.row.B.Denot). place_at c.args.request.range.first x.merge) c.self.view_is in
    origin_read_goes g.B.Block.contents g.B.Block.layers g.B.Block.size c.args.self.now h f number asked (room ∙ ap room_of (sym same)) (ap kind_of same ∙ c.requires.kind)
    (route ∙ c.read_route-route.ensures ∙ ap read_route_of place ∙ ap (λ (r : Request). read_route_of (place_at r.range.first c.args.self.now.merge)) (sym same))

pub returns-clause-ok : goal.returns-clause-ok
returns-clause-ok g c =
    let whole : IsWhole g.B.Block.contents g.B.Block.layers g.B.Block.size c.args.self.now = subst (IsWhole g.B.Block.contents g.B.Block.layers g.B.Block.size) c.self.view_is c.self.invariant.whole in
    let route = c.read_route-route.ensures ∙ ap read_route_of (c.place_at.ensures ∙ ap (λ (x : Volumed g.row.B.Denot). place_at c.args.request.range.first x.merge) c.self.view_is) in
    if_ok c.enter.result _ _
    (λ number e. entered_accepted g.B.Block.contents g.B.Block.layers c.args.request c.read_route-route.result number c.args.self.now c.enter.new.self OriginRead c.requires.kind (unflushed c.args.request OriginRead c.requires.kind tt) refl refl e
    (origin_read_submitted g.B.Block.contents g.B.Block.layers g.B.Block.size c.args.self.now whole c.args.request c.read_route-route.result number c.enter.new.self e c.requires.kind route)) c.enter.ensures.ok
