use Rattle.std.proofs.Common.{◌≡◌, ◌+◌, drop, reverse}
use Rattle.explain_syntax.specs.Near.{alike}
use Rattle.explain_syntax.proofs.near.alike_at_end.Given as goal

abbrev pub invariant-loop-at : goal.invariant-loop-at
invariant-loop-at l = l.at + alike (drop l.at (reverse l.one)) (drop l.at (reverse l.other)) ≡ alike (reverse l.one) (reverse l.other)
