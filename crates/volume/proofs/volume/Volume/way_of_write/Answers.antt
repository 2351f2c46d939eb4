-- A write of the origin goes to its disk where each live snapshot has published its chunk, and waits for copies elsewhere.
use Rattle.std.proofs.Common.{◌≡◌, ◌<◌, ◌∙◌, ap, false, inl, inr, List, map, subst, sym, true}
use Rattle.std.specs.List.{All}
use Rattle.volume_laws.specs.Published.{is_clear}
use Rattle.snapshot.specs.Kept.{Kept, books_of as snap_books}
use Rattle.volume.specs.Volumed.{Volumed}
use Rattle.volume.proofs.volume.Volume.way_of_write.Goals as goal

pub is_clear-requires : goal.is_clear-requires
is_clear-requires g c =
    subst (λ (x : List (Kept g.row.B.Denot)). All (λ s. 0 < s.state.chunk) x) (sym c.as_slice.ensures.value) (λ k d lt. (c.self.invariant.whole.snaps k d lt).some)

pub returns-then-not-is_clear : goal.returns-then-not-is_clear
returns-then-not-is_clear g c =
    let view = ap (λ (x : Volumed g.row.B.Denot). x.snaps) c.self.view_is in
    let waits : is_clear (map (snap_books g.B.Block.contents g.B.Block.layers) c.args.self.now.snaps) c.args.request.now.range.first ≡ false =
    ap (λ (xs : List (Kept g.row.B.Denot)). is_clear (map (snap_books g.B.Block.contents g.B.Block.layers) xs) c.args.request.now.range.first) (sym view ∙ sym c.as_slice.ensures.value) ∙ sym c.is_clear.ensures ∙ c.if-not-is_clear.true in
    (c.requires.alone, c.requires.kind, waits)

pub returns-then-is_quiet : goal.returns-then-is_quiet
returns-then-is_quiet g c =
    let view = ap (λ (x : Volumed g.row.B.Denot). x.snaps) c.self.view_is in
    let clear : is_clear (map (snap_books g.B.Block.contents g.B.Block.layers) c.args.self.now.snaps) c.args.request.now.range.first ≡ true =
    ap (λ (xs : List (Kept g.row.B.Denot)). is_clear (map (snap_books g.B.Block.contents g.B.Block.layers) xs) c.args.request.now.range.first) (sym view ∙ sym c.as_slice.ensures.value) ∙ sym c.if-not-is_clear.ensures in
    (sym c.if-is_quiet.ensures.value, c.requires.alone, inr (inl (c.requires.kind, clear)))
