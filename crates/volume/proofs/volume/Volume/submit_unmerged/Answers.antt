-- A write that waits for nothing is put in flight, and starts nothing; for any other the copies are started.
use Rattle.std.proofs.Common.{◌≡◌, ◌+◌, ◌<◌, ◌≤◌, true, List, map, sym, ◌∙◌, ap, subst}
use Rattle.std.specs.Prelude.{sum_by, count_by}
use Rattle.std.specs.List.{All}
use Rattle.in_flight.specs.Kinds.{kind_of, room_of}
use Rattle.volume_laws.specs.Published.{is_clear}
use Rattle.snapshot.specs.Kept.{Kept, books_of as snap_books}
use Rattle.snapshot_list.specs.Numbers.{count_in}
use Rattle.snapshot_list.specs.Routing.{is_merged_at}
use Rattle.snapshot_list.specs.Starting.{starts}
use Rattle.plain_machine.specs.declared.request.Request.{Request}
use Rattle.volume.specs.Volumed.{Volumed, piece_with}
use Rattle.volume.specs.Whole.{IsWhole}
use Rattle.volume.specs.Submitting.{IsAsked}
use Rattle.volume.proofs.Accepts.{if_ok, if_err, same_roomed}
use Rattle.volume.proofs.Clear.{clear_goes, clear_accepted}
use Rattle.volume.proofs.volume.Volume.submit_unmerged.Goals as goal

pub is_clear-requires : goal.is_clear-requires
is_clear-requires g c =
    subst (λ (x : List (Kept g.row.B.Denot)). All (λ s. 0 < s.state.chunk) x) (sym c.as_slice.ensures.value) (λ k d lt. (c.self.invariant.whole.snaps k d lt).some)

pub enter-requires-clause-goes : goal.enter-requires-clause-goes
enter-requires-clause-goes g c = λ f h number same route room.
    let now = c.args.self.now in
    let view = ap (λ (x : Volumed g.row.B.Denot). x.snaps) c.self.view_is in
    let clear : is_clear (map (snap_books g.B.Block.contents g.B.Block.layers) now.snaps) c.args.request.range.first ≡ true =
    ap (λ (xs : List (Kept g.row.B.Denot)). is_clear (map (snap_books g.B.Block.contents g.B.Block.layers) xs) c.args.request.range.first) (sym view ∙ sym c.as_slice.ensures.value) ∙ sym c.if-is_clear.ensures in
    let asked : IsAsked (g.B.Block.size now.origin) (piece_with now.merge now.snaps) f.request = subst (IsAsked (g.B.Block.size now.origin) (piece_with now.merge now.snaps)) (sym same) c.requires.asked in
    clear_goes g.B.Block.contents g.B.Block.layers g.B.Block.size now h f number asked (room ∙ ap room_of (sym same)) (ap kind_of same ∙ c.requires.kind) route c.requires.room
    (subst (λ (r : Request). sum_by count_in now.snaps + count_by (starts r.range.first) now.snaps ≤ 256) (sym same) c.requires.few)
    (ap (λ (r : Request). is_merged_at r.range.first now.merge) same ∙ c.requires.unmerged)
    (ap (λ (r : Request). is_clear (map (snap_books g.B.Block.contents g.B.Block.layers) now.snaps) r.range.first) same ∙ clear)

pub returns-then-is_clear-clause-ok : goal.returns-then-is_clear-clause-ok
returns-then-is_clear-clause-ok g c =
    let now = c.args.self.now in
    let view = ap (λ (x : Volumed g.row.B.Denot). x.snaps) c.self.view_is in
    let clear : is_clear (map (snap_books g.B.Block.contents g.B.Block.layers) now.snaps) c.args.request.range.first ≡ true =
    ap (λ (xs : List (Kept g.row.B.Denot)). is_clear (map (snap_books g.B.Block.contents g.B.Block.layers) xs) c.args.request.range.first) (sym view ∙ sym c.as_slice.ensures.value) ∙ sym c.if-is_clear.ensures in
    let whole : IsWhole g.B.Block.contents g.B.Block.layers g.B.Block.size now = subst (IsWhole g.B.Block.contents g.B.Block.layers g.B.Block.size) c.self.view_is c.self.invariant.whole in
    if_ok c.enter.result _ _ (λ number e. clear_accepted g.B.Block.contents g.B.Block.layers g.B.Block.size now whole c.args.request number c.enter.new.self c.requires.kind c.requires.unmerged clear e) c.enter.ensures.ok

pub returns-then-is_clear-clause-err : goal.returns-then-is_clear-clause-err
returns-then-is_clear-clause-err g c = if_err c.enter.result _ _ (λ e r. (r.0, same_roomed c.args.self.now c.enter.new.self r.1)) c.enter.ensures.err

pub save_and_enter-requires-clause-waits : goal.save_and_enter-requires-clause-waits
save_and_enter-requires-clause-waits g c =
    let view = ap (λ (x : Volumed g.row.B.Denot). x.snaps) c.self.view_is in
    ap (λ (xs : List (Kept g.row.B.Denot)). is_clear (map (snap_books g.B.Block.contents g.B.Block.layers) xs) c.args.request.range.first) (sym view ∙ sym c.as_slice.ensures.value) ∙ sym c.if-is_clear.ensures
