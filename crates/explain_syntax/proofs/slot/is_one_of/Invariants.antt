use Rattle.std.proofs.Common.{◌≡◌, drop}
use Rattle.words.specs.Texts.{texts}
use Rattle.explain_syntax.specs.Slots.{is_one_of}
use Rattle.explain_syntax.proofs.slot.is_one_of.Given as goal

abbrev pub invariant-loop-one : goal.invariant-loop-one
invariant-loop-one l = is_one_of (texts (drop l.one-index l.ones)) l.word ≡ is_one_of (texts l.ones) l.word
