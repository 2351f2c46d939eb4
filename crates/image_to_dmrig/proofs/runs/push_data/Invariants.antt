use Rattle.std.proofs.Common.{◌≡◌, ◌++◌, length}
use Rattle.command.specs.DataWords.{data_of}
use Rattle.words.specs.Words.{words_of}
use Rattle.image_to_dmrig.proofs.runs.push_data.Given as goal

abbrev pub invariant-loop-word : goal.invariant-loop-word
invariant-loop-word l = l.out.items ++ data_of (words_of l.rest) ≡ l.initial.out.items ++ data_of (words_of l.text)

abbrev pub decreases-loop-word : goal.decreases-loop-word
decreases-loop-word l = length l.rest
