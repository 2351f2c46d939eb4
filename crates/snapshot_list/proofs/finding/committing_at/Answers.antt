-- One snapshot more does not pass.
use Rattle.std.proofs.Common.{◌∙◌, ◌≡◌, ap, sym, false}
use Rattle.std.specs.Prelude.{◌==◌, ◌&&◌, not}
use Rattle.in_flight.specs.Due.{front_ready}
use Rattle.snapshot.specs.Kept.{waits_area}
use Rattle.snapshot_list.specs.Finding.{is_committing}
use Rattle.snapshot_list.proofs.Finds.{any_fails, number_fails, second_fails}
use Rattle.snapshot_list.proofs.finding.committing_at.Goals as goal
use Rattle.snapshot_list.proofs.finding.committing_at.Goals.{else-number-via-then-number+else-can_commit, else-number-via-else-number}

pub loop-place-preserved : goal.loop-place-preserved
loop-place-preserved g c =
    let s = c.index-snaps-place.result in
    let fails : is_committing c.args.number s ≡ false = elim c.else-number.branch [
      | else-number-via-then-number+else-can_commit w ↦ second_fails (s.number == c.args.number) (front_ready s.copies && not (waits_area s.state s.copies)) (sym w.can_commit.ensures ∙ w.if-can_commit.false)
      | else-number-via-else-number w ↦ number_fails s.number c.args.number (front_ready s.copies && not (waits_area s.state s.copies)) (λ same. w.if-number.false (c.number.ensures ∙ same))
    ] in
    c.loop-place.invariant ∙ any_fails (is_committing c.args.number) c.args.snaps.now c.loop-place.place s c.loop-place-test.true (ap (is_committing c.args.number) (sym c.index-snaps-place.is) ∙ fails)
