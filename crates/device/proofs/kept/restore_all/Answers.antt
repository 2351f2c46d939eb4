use Rattle.std.proofs.Common.{◌≡◌, inl, inr, ◌+◌, ◌-◌, ◌<◌, ◌≤◌, ℕ, length, get_or, arith, rules, ap, ◌∙◌, sym}
use Rattle.sector.specs.Bytes.{sector_at}
use Rattle.device.specs.Listed.{listed, place_in}
use Rattle.device.specs.Marks.{mark_at}
use Rattle.device.proofs.Marked.{where_is}
use Rattle.device.proofs.Spans.{span_there, span_long, span_inside, own_place, place_before}
use Rattle.device.proofs.kept.restore_all.Goals as goal

pub restore-requires-clause-inside : goal.restore-requires-clause-inside
restore-requires-clause-inside c =
    let here : get_or c.args.kept.now c.loop-span.span-index c.span-item.result ≡ c.span-item.result = search (rules, c.span-item.is) in
    span_inside c.args.kept.now c.loop-span.span-index c.span-item.result (length c.args.marks.now) c.loop-span-test.true here c.requires.inside

pub restore-requires-clause-there : goal.restore-requires-clause-there
restore-requires-clause-there c =
    let here : get_or c.args.kept.now c.loop-span.span-index c.span-item.result ≡ c.span-item.result = search (rules, c.span-item.is) in
    omega (arith, span_there c.args.kept.now c.loop-span.span-index c.span-item.result c.loop-span-test.true here, c.loop-span.invariant.place, c.requires.whole)

pub overflow_add-place : goal.overflow_add-place
overflow_add-place c =
    let here : get_or c.args.kept.now c.loop-span.span-index c.span-item.result ≡ c.span-item.result = search (rules, c.span-item.is) in
    let few : c.loop-span.place + c.span-item.result.count ≤ 16_777_216 = omega (arith, span_there c.args.kept.now c.loop-span.span-index c.span-item.result c.loop-span-test.true here, c.loop-span.invariant.place, c.requires.small) in
    search (rules, arith)

pub loop-span-preserved : goal.loop-span-preserved
loop-span-preserved c =
    let x = c.span-item.result in
    let i : ℕ = c.loop-span.span-index in
    let p : ℕ = c.loop-span.place in
    let spans = c.args.kept.now in
    let here : get_or c.args.kept.now c.loop-span.span-index c.span-item.result ≡ c.span-item.result = search (rules, c.span-item.is) in
    let at = c.loop-span.invariant.place in
    record {
      place = omega (arith, span_long spans i x c.loop-span-test.true here);
      len = c.restore.ensures.len ∙ c.loop-span.invariant.len;
      back = λ t marked hi. elim (where_is x.first x.count t) [
        | inl near ↦ (
            let k : ℕ = t - x.first in
            let is_t : x.first + k ≡ t = omega (arith, near.0) in
            let less : k < x.count = omega (arith, near.0, near.1) in
            let place_is : place_in (listed spans) t ≡ p + k = ap (place_in (listed spans)) (sym is_t) ∙ own_place spans i x k c.loop-span-test.true here c.requires.once less ∙ ap (λ q. q + k) (sym at) in
            ap (sector_at c.restore.new.now) (sym is_t) ∙ c.restore.ensures.back k less (ap (mark_at c.args.marks.now) is_t ∙ marked) ∙ ap (sector_at c.args.aside.now) (sym place_is)
            )
        | inr out ↦ c.restore.ensures.outside t out ∙ c.loop-span.invariant.back t marked (omega (arith, at, place_before spans i x t c.loop-span-test.true here out (omega (arith, at, hi))))
      ];
      others = λ t ne. c.restore.ensures.others t ne ∙ c.loop-span.invariant.others t ne;
    }
