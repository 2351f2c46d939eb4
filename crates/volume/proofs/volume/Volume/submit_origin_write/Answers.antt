-- A write that is the merge's is put in flight, and starts nothing; for any other the copies are started.
use Rattle.std.proofs.Common.{◌≡◌, true, false, sym, ◌∙◌, ap, subst, arith}
use Rattle.plain_machine.specs.declared.request.Request.{Request}
use Rattle.in_flight.specs.Kinds.{kind_of, room_of}
use Rattle.in_flight.specs.Routes.{write_route_of}
use Rattle.snapshot_list.specs.Routing.{is_grouped_at, place_at, is_merged_at}
use Rattle.volume.specs.Volumed.{Volumed, piece_with}
use Rattle.volume.specs.Whole.{IsWhole}
use Rattle.volume.specs.Submitting.{IsAsked}
use Rattle.volume.proofs.Accepts.{if_ok, if_err, same_roomed}
use Rattle.volume.proofs.MergeWrites.{merged_write_goes, merged_accepted, starting_unmerged}
use Rattle.volume.proofs.volume.Volume.submit_origin_write.Goals as goal

pub enter-requires-clause-goes : goal.enter-requires-clause-goes
enter-requires-clause-goes g c = λ f h number same route room.
    let now = c.args.self.now in
    let asked : IsAsked (g.B.Block.size c.args.self.now.origin) (piece_with c.args.self.now.merge c.args.self.now.snaps) f.request = subst (IsAsked (g.B.Block.size c.args.self.now.origin) (piece_with c.args.self.now.merge c.args.self.now.snaps)) (sym same) c.requires.asked in
    let merged : is_merged_at c.args.request.range.first c.args.self.now.merge ≡ true = ap (λ (x : Volumed g.row.B.Denot). is_merged_at c.args.request.range.first x.merge) (sym c.self.view_is) ∙ sym c.if-is_merged_at.ensures in
    let to = c.merged_route-route.ensures ∙ ap (λ (x : Volumed g.row.B.Denot). write_route_of (is_grouped_at c.args.request.range.first x.merge) (place_at c.args.request.range.first x.merge) false) c.self.view_is in
    merged_write_goes g.B.Block.contents g.B.Block.layers g.B.Block.size c.args.self.now h f number asked (room ∙ ap room_of (sym same)) (ap kind_of same ∙ c.requires.kind)
    (ap (λ (r : Request). is_merged_at r.range.first c.args.self.now.merge) same ∙ merged)
    (route ∙ to ∙ ap (λ (r : Request). write_route_of (is_grouped_at r.range.first c.args.self.now.merge) (place_at r.range.first c.args.self.now.merge) false) (sym same))

pub returns-then-is_merged_at-clause-ok : goal.returns-then-is_merged_at-clause-ok
returns-then-is_merged_at-clause-ok g c =
    let whole : IsWhole g.B.Block.contents g.B.Block.layers g.B.Block.size c.args.self.now = subst (IsWhole g.B.Block.contents g.B.Block.layers g.B.Block.size) c.self.view_is c.self.invariant.whole in
    let merged : is_merged_at c.args.request.range.first c.args.self.now.merge ≡ true = ap (λ (x : Volumed g.row.B.Denot). is_merged_at c.args.request.range.first x.merge) (sym c.self.view_is) ∙ sym c.if-is_merged_at.ensures in
    let to = c.merged_route-route.ensures ∙ ap (λ (x : Volumed g.row.B.Denot). write_route_of (is_grouped_at c.args.request.range.first x.merge) (place_at c.args.request.range.first x.merge) false) c.self.view_is in
    if_ok c.enter.result _ _ (λ number e. merged_accepted g.B.Block.contents g.B.Block.layers g.B.Block.size c.args.request c.merged_route-route.result number c.args.self.now c.enter.new.self whole c.requires.kind merged to e) c.enter.ensures.ok

pub returns-then-is_merged_at-clause-err : goal.returns-then-is_merged_at-clause-err
returns-then-is_merged_at-clause-err g c = if_err c.enter.result _ _ (λ e r. (r.0, same_roomed c.args.self.now c.enter.new.self r.1)) c.enter.ensures.err

pub submit_unmerged-requires-clause-unmerged : goal.submit_unmerged-requires-clause-unmerged
submit_unmerged-requires-clause-unmerged g c = ap (λ (x : Volumed g.row.B.Denot). is_merged_at c.args.request.range.first x.merge) (sym c.self.view_is) ∙ sym c.if-is_merged_at.ensures

pub submit_unmerged-requires-clause-few : goal.submit_unmerged-requires-clause-few
submit_unmerged-requires-clause-few g c =
    let unmerged : is_merged_at c.args.request.range.first c.args.self.now.merge ≡ false = ap (λ (x : Volumed g.row.B.Denot). is_merged_at c.args.request.range.first x.merge) (sym c.self.view_is) ∙ sym c.if-is_merged_at.ensures in
    let same = starting_unmerged c.args.request.range.first c.args.self.now unmerged in
    omega (arith, c.requires.few, same)
