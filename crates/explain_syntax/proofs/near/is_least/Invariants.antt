use Rattle.std.proofs.Common.{◌≡◌, ℕ, List, drop}
use Rattle.std.specs.Prelude.{nat_le}
use Rattle.std.specs.List.{list_all}
use Rattle.words.specs.Texts.{texts}
use Rattle.explain_syntax.specs.Near.{distance}
use Rattle.explain_syntax.proofs.near.is_least.Given as goal

abbrev pub invariant-loop-other : goal.invariant-loop-other
invariant-loop-other l =
    let is_as_far = λ (other : List ℕ). nat_le l.far (distance l.word other) in
    list_all is_as_far (texts (drop l.other-index l.all)) ≡ list_all is_as_far (texts l.all)
