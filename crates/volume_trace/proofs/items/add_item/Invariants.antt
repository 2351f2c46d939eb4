use Rattle.std.proofs.Common.{◌≡◌, ◌++◌, take}
use Rattle.words.specs.Texts.{texts}
use Rattle.words.specs.Words.{spaced}
use Rattle.volume_trace.proofs.items.add_item.Given as goal

abbrev pub invariant-loop-word : goal.invariant-loop-word
invariant-loop-word l = l.out.items ≡ l.initial.out.items ++ spaced (texts (take l.word-index l.words))
