use Rattle.std.proofs.Common.{◌≡◌, ◌++◌, ◌-◌, ◌*◌, ◌≤◌, length, vec_len}
use Rattle.command.specs.DataWords.{data_of}
use Rattle.words.specs.Words.{words_of}
use Rattle.command.proofs.data_words.data_in.Given as goal

abbrev pub invariant-loop-word : goal.invariant-loop-word
invariant-loop-word l = record {
  rest : l.out.items ++ data_of (words_of l.rest) ≡ data_of (words_of l.text);
  shorter : length l.rest ≤ length l.text;
  small : vec_len l.out ≤ 1048576 * (length l.text - length l.rest);
}

abbrev pub decreases-loop-word : goal.decreases-loop-word
decreases-loop-word l = length l.rest
