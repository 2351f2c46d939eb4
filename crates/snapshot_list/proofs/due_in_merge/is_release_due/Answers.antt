-- Where the area is written, all pairs of the group are to be released.
use Rattle.std.proofs.Common.{◌≡◌, ◌∙◌, List, true, refl, sym, ap}
use Rattle.std.specs.Prelude.{◌&&◌, not}
use Rattle.std.specs.List.{list_any}
use Rattle.sector.specs.declared.pair.Pair.{Pair}
use Rattle.volume_laws.specs.MergeDue.{is_using}
use Rattle.merge.specs.Due.{can_release_of}
use Rattle.merge.specs.Lists.{released_of}
use Rattle.snapshot_list.proofs.Using.{released_all}
use Rattle.snapshot_list.proofs.due_in_merge.is_release_due.Goals as goal

pub returns-then-can_release : goal.returns-then-can_release
returns-then-can_release g c =
    let m = c.args.merge.now in
    let looks = c.has_group.ensures.looks true in
    let over : can_release_of m.group ≡ true = sym c.can_release.ensures ∙ c.if-can_release.true in
    ap not c.is_any_using.ensures
    ∙ ap (λ (qs : List Pair). not (list_any (is_using qs) c.args.flights.now)) (released_all g.B.Block.contents m m.group refl over looks)
    ∙ sym (ap (λ b. b && not (list_any (is_using (released_of m.group)) c.args.flights.now)) (sym looks.release ∙ over))
