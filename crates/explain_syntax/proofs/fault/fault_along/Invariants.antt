use Rattle.std.proofs.Common.{◌≡◌, drop}
use Rattle.words.specs.Texts.{texts}
use Rattle.explain_syntax.specs.Faults.{fault_along}
use Rattle.explain_syntax.proofs.fault.fault_along.Given as goal

abbrev pub invariant-loop-word : goal.invariant-loop-word
invariant-loop-word l = fault_along l.wants (texts (drop l.word-index l.words)) ≡ fault_along l.wants (texts l.words)
