use Rattle.std.proofs.Common.{◌≡◌, ◌+◌, ◌-◌, ◌^◌, ◌≤◌, drop, min}
use Rattle.words.specs.Texts.{texts}
use Rattle.command.specs.DataWords.{total}
use Rattle.explain_syntax.proofs.late.bytes_of.Given as goal

abbrev pub invariant-loop-word : goal.invariant-loop-word
invariant-loop-word l = record {
  all : min (l.bytes + total (texts (drop l.word-index l.words))) (2 ^ 64 - 1) ≡ min (total (texts l.words)) (2 ^ 64 - 1);
  small : l.bytes ≤ 2 ^ 64 - 1;
}
