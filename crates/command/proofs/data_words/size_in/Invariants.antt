use Rattle.std.proofs.Common.{◌≡◌, ◌+◌, ◌-◌, ◌*◌, ◌≤◌, length}
use Rattle.command.specs.DataWords.{are_runs, total}
use Rattle.words.specs.Words.{words_of}
use Rattle.command.proofs.data_words.size_in.Given as goal

abbrev pub invariant-loop-word : goal.invariant-loop-word
invariant-loop-word l = record {
  runs : are_runs (words_of l.rest) ≡ are_runs (words_of l.text);
  size : l.size + total (words_of l.rest) ≡ total (words_of l.text);
  shorter : length l.rest ≤ length l.text;
  small : l.size ≤ 1048576 * (length l.text - length l.rest);
}

abbrev pub decreases-loop-word : goal.decreases-loop-word
decreases-loop-word l = length l.rest
