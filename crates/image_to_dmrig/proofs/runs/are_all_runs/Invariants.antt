use Rattle.std.proofs.Common.{◌≡◌, length}
use Rattle.command.specs.DataWords.{are_runs}
use Rattle.words.specs.Words.{words_of}
use Rattle.image_to_dmrig.proofs.runs.are_all_runs.Given as goal

abbrev pub invariant-loop-word : goal.invariant-loop-word
invariant-loop-word l = are_runs (words_of l.rest) ≡ are_runs (words_of l.text)

abbrev pub decreases-loop-word : goal.decreases-loop-word
decreases-loop-word l = length l.rest
