-- One snapshot more does not pass.
use Rattle.std.proofs.Common.{◌∙◌, ◌≡◌, ap, sym, false}
use Rattle.std.specs.Prelude.{◌==◌, ◌&&◌, not}
use Rattle.snapshot_list.specs.Finding.{is_trying}
use Rattle.snapshot_list.proofs.Finds.{any_fails, number_fails, second_fails}
use Rattle.snapshot_list.proofs.finding.trying_at.Goals as goal
use Rattle.snapshot_list.proofs.finding.trying_at.Goals.{else-number-via-then-number+else-can_mark, else-number-via-else-number}

pub loop-place-preserved : goal.loop-place-preserved
loop-place-preserved g c =
    let s = c.index-snaps-place.result in
    let fails : is_trying c.args.number s ≡ false = elim c.else-number.branch [
      | else-number-via-then-number+else-can_mark w ↦ second_fails (s.number == c.args.number) (s.untried && not s.marked) (sym w.can_mark.ensures ∙ w.if-can_mark.false)
      | else-number-via-else-number w ↦ number_fails s.number c.args.number (s.untried && not s.marked) (λ same. w.if-number.false (c.number.ensures ∙ same))
    ] in
    c.loop-place.invariant ∙ any_fails (is_trying c.args.number) c.args.snaps.now c.loop-place.place s c.loop-place-test.true (ap (is_trying c.args.number) (sym c.index-snaps-place.is) ∙ fails)
