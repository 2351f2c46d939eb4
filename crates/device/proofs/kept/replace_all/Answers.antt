use Rattle.std.proofs.Common.{◌≡◌, inl, inr, ◌+◌, ◌-◌, ◌<◌, ◌≤◌, ℕ, get_or, arith, rules, ap, ◌∙◌, sym}
use Rattle.std.proofs.lemmas.Bool.{cases_lt}
use Rattle.sector.specs.Bytes.{sector_at}
use Rattle.device.specs.Listed.{listed}
use Rattle.device.proofs.Spans.{span_there, span_long, span_at}
use Rattle.device.proofs.kept.replace_all.Goals as goal

pub replace-requires-clause-there : goal.replace-requires-clause-there
replace-requires-clause-there c =
    let here : get_or c.args.kept.now c.loop-span.span-index c.span-item.result ≡ c.span-item.result = search (rules, c.span-item.is) in
    omega (arith, span_there c.args.kept.now c.loop-span.span-index c.span-item.result c.loop-span-test.true here, c.loop-span.invariant.place, c.loop-span.invariant.len, c.requires.whole)

pub overflow_add-place : goal.overflow_add-place
overflow_add-place c =
    let here : get_or c.args.kept.now c.loop-span.span-index c.span-item.result ≡ c.span-item.result = search (rules, c.span-item.is) in
    let few : c.loop-span.place + c.span-item.result.count ≤ 16_777_216 = omega (arith, span_there c.args.kept.now c.loop-span.span-index c.span-item.result c.loop-span-test.true here, c.loop-span.invariant.place, c.requires.small) in
    search (rules, arith)

pub loop-span-preserved : goal.loop-span-preserved
loop-span-preserved c =
    let x = c.span-item.result in
    let i : ℕ = c.loop-span.span-index in
    let p : ℕ = c.loop-span.place in
    let here : get_or c.args.kept.now c.loop-span.span-index c.span-item.result ≡ c.span-item.result = search (rules, c.span-item.is) in
    let at = c.loop-span.invariant.place in
    let own : (k : ℕ) → k < x.count → get_or (listed c.args.kept.now) (p + k) 0 ≡ x.first + k = λ k less. ap (λ q. get_or (listed c.args.kept.now) (q + k) 0) at ∙ span_at c.args.kept.now i x k c.loop-span-test.true here less in
    record {
      place = omega (arith, span_long c.args.kept.now i x c.loop-span-test.true here);
      len = c.replace.ensures.len ∙ c.loop-span.invariant.len;
      replaced = λ j lt lo hi. elim (cases_lt j p) [
        | inl below ↦ c.replace.ensures.others j (inl below) ∙ c.loop-span.invariant.replaced j below lo hi
        | inr from ↦ (
            let k : ℕ = j - p in
            let is_j : p + k ≡ j = omega arith in
            let less : k < x.count = omega arith in
            let is : get_or (listed c.args.kept.now) j 0 ≡ x.first + k = ap (λ q. get_or (listed c.args.kept.now) q 0) (sym is_j) ∙ own k less in
            ap (sector_at c.replace.new.aside) (sym is_j) ∙ c.replace.ensures.replaced k less (omega arith) (omega arith) ∙ ap (sector_at c.args.now.now) (sym is)
            )
      ];
      later = λ j ge. c.replace.ensures.others j (inr ge) ∙ c.loop-span.invariant.later j (omega arith);
      others = λ j lt out. elim (cases_lt j p) [
        | inl below ↦ c.replace.ensures.others j (inl below) ∙ c.loop-span.invariant.others j below out
        | inr from ↦ (
            let k : ℕ = j - p in
            let is_j : p + k ≡ j = omega arith in
            let less : k < x.count = omega arith in
            let is : get_or (listed c.args.kept.now) j 0 ≡ x.first + k = ap (λ q. get_or (listed c.args.kept.now) q 0) (sym is_j) ∙ own k less in
            ap (sector_at c.replace.new.aside) (sym is_j) ∙ c.replace.ensures.outside k less (elim out [ inl low ↦ inl (omega arith) | inr high ↦ inr (omega arith) ]) ∙ ap (sector_at c.loop-span.aside) is_j ∙ c.loop-span.invariant.later j from
            )
      ];
    }
