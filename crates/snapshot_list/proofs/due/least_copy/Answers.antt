-- One snapshot more.
use Rattle.std.proofs.Common.{◌∙◌, sym, ap, map, drop, ◌+◌}
use Rattle.in_flight.specs.Due.{first_by, is_copy_at, least, number_of_copy}
use Rattle.volume_laws.specs.Due.{least_of, copy_of}
use Rattle.snapshot.specs.Kept.{due_of_kept}
use Rattle.snapshot_list.proofs.Firsts.{least_more}
use Rattle.snapshot_list.proofs.due.least_copy.Goals as goal

pub loop-s-preserved : goal.loop-s-preserved
loop-s-preserved g c =
    let s = c.s-item.result in
    let snaps = c.args.snaps.now in
    let i = c.loop-s.s-index in
    let f = due_of_kept g.B.Block.contents g.B.Block.layers in
    let rest = least_of (copy_of c.args.stage) (map f (drop (i + 1) snaps)) in
    let first = c.first_copy.ensures ∙ ap (first_by (is_copy_at c.args.stage) number_of_copy) c.copies.ensures ∙ ap (λ x. copy_of c.args.stage (f x)) c.s-item.is in
    c.loop-s.invariant ∙ sym (least_more f snaps i (copy_of c.args.stage) c.loop-s.found s c.loop-s-test.true) ∙ ap (λ x. least x rest) (sym (c.least-found.ensures ∙ ap (least c.loop-s.found) first))
