use Rattle.std.proofs.Common.{◌≡◌, ◌++◌, take}
use Rattle.cow_reports.specs.Salvage.{doubtful_text}
use Rattle.cow_reports.proofs.salvage.push_doubtful.Given as goal

abbrev pub invariant-loop-pair : goal.invariant-loop-pair
invariant-loop-pair l = l.text.items ≡ l.initial.text.items ++ doubtful_text (take l.pair-index l.pairs)
