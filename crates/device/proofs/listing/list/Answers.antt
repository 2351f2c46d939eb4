use Rattle.std.proofs.Common.{◌++◌, ap, ◌∙◌, sym, arith, refl}
use Rattle.std.specs.List.{range_with_len}
use Rattle.device.specs.Listed.{listed}
use Rattle.device.proofs.Spans.{longer, listed_push}
use Rattle.device.proofs.listing.list.Goals as goal

pub returns-then-last-first-clause-listed : goal.returns-then-last-first-clause-listed
returns-then-last-first-clause-listed c =
    longer c.args.spans.now.items _ c.index-last.result.now _ c.args.count (omega (arith, c.if-len-gt0.true, c.len-len.ensures)) (sym c.index-last.ensures) refl refl
    ∙ ap (λ k. listed c.args.spans.now.items ++ range_with_len k c.args.count) c.if-last-first.true

pub returns-clause-listed : goal.returns-clause-listed
returns-clause-listed c = ap listed c.push_reserved.ensures.items ∙ listed_push c.args.spans.now.items _
