use Rattle.std.proofs.Common.{take, Ok}
use Rattle.words.specs.Texts.{texts}
use Rattle.words.specs.Words.{spaced}
use Rattle.table.specs.Printed.{Adds}
use Rattle.table.proofs.printing.add_words.Given as goal

abbrev pub invariant-loop-word : goal.invariant-loop-word
invariant-loop-word l = Adds (Ok tt) l.initial.out l.out (spaced (texts (take l.word-index l.words)))
