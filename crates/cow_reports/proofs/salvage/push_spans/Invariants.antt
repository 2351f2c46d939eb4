use Rattle.std.proofs.Common.{◌≡◌, ◌++◌, take}
use Rattle.cow_reports.specs.Salvage.{spans_text}
use Rattle.cow_reports.proofs.salvage.push_spans.Given as goal

abbrev pub invariant-loop-span : goal.invariant-loop-span
invariant-loop-span l = l.text.items ≡ l.initial.text.items ++ spans_text l.key (take l.span-index l.spans)
