use Rattle.std.proofs.Common.{◌≡◌, ◌+◌, drop}
use Rattle.explain_syntax.specs.Near.{alike}
use Rattle.explain_syntax.proofs.near.alike.Given as goal

abbrev pub invariant-loop-at : goal.invariant-loop-at
invariant-loop-at l = l.at + alike (drop l.at l.one) (drop l.at l.other) ≡ alike l.one l.other
