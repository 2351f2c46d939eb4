use Rattle.std.proofs.Common.{◌≡◌, ◌++◌, take}
use Rattle.cow_reports.specs.Json.{spans_objects}
use Rattle.cow_reports.proofs.json.push_spans_json.Given as goal

abbrev pub invariant-loop-span : goal.invariant-loop-span
invariant-loop-span l = l.text.items ≡ l.initial.text.items ++ spans_objects (take l.span-index l.spans)
