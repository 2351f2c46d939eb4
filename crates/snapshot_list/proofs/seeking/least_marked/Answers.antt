-- One more is seen.
use Rattle.std.proofs.Common.{false, get_or, map, subst}
use Rattle.std.proofs.lemmas.List.{get_or_default, take_all}
use Rattle.in_flight.specs.declared.copies.Mark.{Mark}
use Rattle.snapshot_list.specs.MergeStarting.{IsLeastFrom}
use Rattle.snapshot_list.proofs.Sought.{least_none, least_one_more}
use Rattle.snapshot_list.proofs.seeking.least_marked.Goals as goal

pub loop-mark-init : goal.loop-mark-init
loop-mark-init c = least_none c.args.low c.args.most c.requires

pub lesser_from-least-requires : goal.lesser_from-least-requires
lesser_from-least-requires c = c.loop-mark.invariant.from

pub loop-mark-preserved : goal.loop-mark-preserved
loop-mark-preserved c =
    let none : Mark = record { number = 0; chunk = 0; safe = false } in
    let m : Mark = get_or c.args.marks.now c.loop-mark.mark-index none in
    least_one_more (λ (x : Mark). x.chunk) c.args.marks.now c.loop-mark.mark-index c.args.low c.args.most c.loop-mark.least c.lesser_from-least.result m c.loop-mark-test.true
    (get_or_default c.args.marks.now c.loop-mark.mark-index none m c.loop-mark-test.true) c.loop-mark.invariant c.lesser_from-least.ensures

pub returns : goal.returns
returns c = subst (λ xs. IsLeastFrom c.args.low c.args.most (map (λ m. m.chunk) xs) c.loop-mark.least) (take_all c.loop-mark.mark-index c.args.marks.now c.loop-mark-test.false) c.loop-mark.invariant
