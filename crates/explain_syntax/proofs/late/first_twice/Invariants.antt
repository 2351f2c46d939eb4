use Rattle.std.proofs.Common.{◌≡◌, ℕ, List, drop, nat_lt}
use Rattle.std.specs.Prelude.{find}
use Rattle.words.specs.Texts.{texts}
use Rattle.explain_syntax.specs.Late.{times}
use Rattle.explain_syntax.proofs.late.first_twice.Given as goal

abbrev pub invariant-loop-feature : goal.invariant-loop-feature
invariant-loop-feature l =
    let is_twice = λ (feature : List ℕ). nat_lt 1 (times feature (texts l.features)) in
    find is_twice (texts (drop l.feature-index l.features)) ≡ find is_twice (texts l.features)
