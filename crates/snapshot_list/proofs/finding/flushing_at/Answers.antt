-- One snapshot more does not pass.
use Rattle.std.proofs.Common.{◌∙◌, ◌≡◌, ap, sym, false}
use Rattle.std.specs.Prelude.{◌==◌}
use Rattle.snapshot_list.specs.Finding.{is_flushing, waits_for_flush}
use Rattle.std.proofs.lemmas.Bool.{eq-eqb}
use Rattle.std.specs.Cmp.Derive.{both_true}
use Rattle.snapshot_list.proofs.Finds.{any_fails, number_fails, passes_at, second_fails}
use Rattle.snapshot_list.proofs.finding.flushing_at.Goals as goal
use Rattle.snapshot_list.proofs.finding.flushing_at.Goals.{else-number-via-then-number+else-can_flush_store, else-number-via-else-number}

pub loop-place-preserved : goal.loop-place-preserved
loop-place-preserved g c =
    let s = c.index-snaps-place.result in
    let fails : is_flushing c.args.number s ≡ false = elim c.else-number.branch [
      | else-number-via-then-number+else-can_flush_store w ↦ second_fails (s.number == c.args.number) (waits_for_flush s) (sym w.can_flush_store.ensures ∙ w.if-can_flush_store.false)
      | else-number-via-else-number w ↦ number_fails s.number c.args.number (waits_for_flush s) (λ same. w.if-number.false (c.number.ensures ∙ same))
    ] in
    c.loop-place.invariant ∙ any_fails (is_flushing c.args.number) c.args.snaps.now c.loop-place.place s c.loop-place-test.true (ap (is_flushing c.args.number) (sym c.index-snaps-place.is) ∙ fails)

-- the one that is told passes
pub returns-then-can_flush_store-clause-found : goal.returns-then-can_flush_store-clause-found
returns-then-can_flush_store-clause-found g c = (
  c.loop-place-test.true,
  λ s. passes_at (is_flushing c.args.number) c.args.snaps.now c.loop-place.place c.index-snaps-place.result s c.loop-place-test.true c.index-snaps-place.is
      (both_true (eq-eqb _ _ (sym c.number.ensures ∙ c.if-number.true)) (sym c.can_flush_store.ensures ∙ c.if-can_flush_store.true)),
)
