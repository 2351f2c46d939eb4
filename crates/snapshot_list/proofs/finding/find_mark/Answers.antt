-- One snapshot more has none.
use Rattle.std.proofs.Common.{sym, ◌∙◌, ap, nat_eq}
use Rattle.std.specs.Prelude.{◌&&◌}
use Rattle.in_flight.specs.Due.{is_publishable}
use Rattle.in_flight.specs.declared.copies.Mark.{Mark}
use Rattle.std.specs.List.{position}
use Rattle.snapshot_list.specs.Finding.{has_mark_at, is_mark_of}
use Rattle.snapshot_list.proofs.Finds.{position_none, any_fails}
use Rattle.snapshot_list.proofs.finding.find_mark.Goals as goal

pub loop-place-preserved : goal.loop-place-preserved
loop-place-preserved g c =
    let s = c.index-snaps-place.result in
    let none = position_none (is_mark_of s c.args.flights.now c.args.number) s.marks
    (ap (position (is_mark_of s c.args.flights.now c.args.number)) (sym c.marks.ensures)
    ∙ ap (λ n. position (λ (m : Mark). nat_eq m.number c.args.number && is_publishable n s.state.chunk c.args.flights.now m) c.marks.result.now) (sym c.number.ensures)
    ∙ ap (λ n. position (λ (m : Mark). nat_eq m.number c.args.number && is_publishable c.number.result n c.args.flights.now m) c.marks.result.now) (sym c.chunk.ensures.is) ∙ sym c.in-None.ensures) in
    c.loop-place.invariant ∙ any_fails (has_mark_at c.args.flights.now c.args.number) c.args.snaps.now c.loop-place.place s c.loop-place-test.true (ap (has_mark_at c.args.flights.now c.args.number) (sym c.index-snaps-place.is) ∙ none)
