-- One snapshot more.
use Rattle.std.proofs.Common.{◌∙◌, sym, ap, map, drop, ◌+◌}
use Rattle.chunk.proofs.Limits.{is_chunk-some}
use Rattle.in_flight.specs.Due.{first_by, is_publishable, least, number_of_mark}
use Rattle.volume_laws.specs.Due.{least_of, publishable_of}
use Rattle.snapshot.specs.Kept.{due_of_kept}
use Rattle.snapshot_list.proofs.Firsts.{least_more}
use Rattle.snapshot_list.proofs.due.least_mark.Goals as goal

pub first_publishable-requires : goal.first_publishable-requires
first_publishable-requires g c = is_chunk-some c.chunk.result c.chunk.ensures.allowed

pub loop-s-preserved : goal.loop-s-preserved
loop-s-preserved g c =
    let s = c.s-item.result in
    let snaps = c.args.snaps.now in
    let flights = c.args.flights.now in
    let i = c.loop-s.s-index in
    let f = due_of_kept g.B.Block.contents g.B.Block.layers in
    let rest = least_of (publishable_of flights) (map f (drop (i + 1) snaps)) in
    let first = c.first_publishable.ensures ∙ ap (λ n. first_by (is_publishable n c.chunk.result flights) number_of_mark c.marks.result.now) c.number.ensures
    ∙ ap (λ n. first_by (is_publishable s.number n flights) number_of_mark c.marks.result.now) c.chunk.ensures.is
    ∙ ap (first_by (is_publishable s.number s.state.chunk flights) number_of_mark) c.marks.ensures ∙ ap (λ x. publishable_of flights (f x)) c.s-item.is in
    c.loop-s.invariant ∙ sym (least_more f snaps i (publishable_of flights) c.loop-s.found s c.loop-s-test.true) ∙ ap (λ x. least x rest) (sym (c.least-found.ensures ∙ ap (least c.loop-s.found) first))
