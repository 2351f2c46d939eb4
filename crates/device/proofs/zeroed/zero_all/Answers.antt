use Rattle.std.proofs.Common.{◌≡◌, inl, inr, length, get_or, rules, ◌∙◌}
use Rattle.device.proofs.Spans.{span_inside, more_of}
use Rattle.device.proofs.zeroed.zero_all.Goals as goal

pub zero_span-requires-clause-inside : goal.zero_span-requires-clause-inside
zero_span-requires-clause-inside c =
    let here : get_or c.args.zeroed.now c.loop-span.span-index c.span-item.result ≡ c.span-item.result = search (rules, c.span-item.is) in
    span_inside c.args.zeroed.now c.loop-span.span-index c.span-item.result (length c.args.marks.now) c.loop-span-test.true here c.requires.inside

pub loop-span-preserved : goal.loop-span-preserved
loop-span-preserved c =
    let here : get_or c.args.zeroed.now c.loop-span.span-index c.span-item.result ≡ c.span-item.result = search (rules, c.span-item.is) in
    record {
      len = c.zero_span.ensures.len ∙ c.loop-span.invariant.len;
      zero = λ t is at. elim (more_of c.args.zeroed.now c.loop-span.span-index c.span-item.result t c.loop-span-test.true here at) [
        | inl before ↦ c.zero_span.ensures.still t (c.loop-span.invariant.zero t is before)
        | inr near ↦ c.zero_span.ensures.zero t is near.0 near.1
      ];
      others = λ t ne. c.zero_span.ensures.others t ne ∙ c.loop-span.invariant.others t ne;
    }
