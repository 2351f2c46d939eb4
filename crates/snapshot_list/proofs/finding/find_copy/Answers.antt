-- One snapshot more has none.
use Rattle.std.proofs.Common.{sym, ◌∙◌, ap}
use Rattle.std.specs.List.{position}
use Rattle.snapshot_list.specs.Finding.{has_copy_at, is_copy_of}
use Rattle.snapshot_list.proofs.Finds.{position_none, any_fails}
use Rattle.snapshot_list.proofs.finding.find_copy.Goals as goal

pub loop-place-preserved : goal.loop-place-preserved
loop-place-preserved g c =
    let s = c.index-snaps-place.result in
    let none = position_none (is_copy_of c.args.stage c.args.number) s.copies (ap (position (is_copy_of c.args.stage c.args.number)) (sym c.copies.ensures) ∙ sym c.in-None.ensures) in
    c.loop-place.invariant ∙ any_fails (has_copy_at c.args.stage c.args.number) c.args.snaps.now c.loop-place.place s c.loop-place-test.true (ap (has_copy_at c.args.stage c.args.number) (sym c.index-snaps-place.is) ∙ none)
