use Rattle.std.proofs.Common.{◌≡◌, inl, inr, length, get_or, arith, rules, ◌∙◌}
use Rattle.device.proofs.Marked.{where_is}
use Rattle.device.proofs.Spans.{span_inside, more_of}
use Rattle.device.proofs.marking.settle_all.Goals as goal

pub mark_all-requires-clause-inside : goal.mark_all-requires-clause-inside
mark_all-requires-clause-inside c =
    let here : get_or c.args.spans.now c.loop-span.span-index c.span-item.result ≡ c.span-item.result = search (rules, c.span-item.is) in
    omega (arith, c.loop-span.invariant.len, span_inside c.args.spans.now c.loop-span.span-index c.span-item.result (length c.args.marks.now.items) c.loop-span-test.true here c.requires)

pub loop-span-preserved : goal.loop-span-preserved
loop-span-preserved c =
    let x = c.span-item.result in
    let here : get_or c.args.spans.now c.loop-span.span-index c.span-item.result ≡ c.span-item.result = search (rules, c.span-item.is) in
    record {
      len = c.mark_all.ensures.len ∙ c.loop-span.invariant.len;
      settled = λ t at. elim (where_is x.first x.count t) [
        | inl near ↦ c.mark_all.ensures.set t near.0 near.1
        | inr out ↦ c.mark_all.ensures.others t out ∙ elim (more_of c.args.spans.now c.loop-span.span-index x t c.loop-span-test.true here at) [
          | inl before ↦ c.loop-span.invariant.settled t before
          | inr near ↦ absurd (elim out [ inl low ↦ omega (arith, near.0) | inr high ↦ omega (arith, near.1) ])
        ]
      ];
      others = λ t. elim (where_is x.first x.count t) [
        | inl near ↦ inl (c.mark_all.ensures.set t near.0 near.1)
        | inr out ↦ elim (c.loop-span.invariant.others t) [
          | inl same ↦ inl (c.mark_all.ensures.others t out ∙ same)
          | inr was ↦ inr (c.mark_all.ensures.others t out ∙ was)
        ]
      ];
    }
