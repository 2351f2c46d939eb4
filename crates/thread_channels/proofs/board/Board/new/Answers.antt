use Rattle.std.proofs.Common.{rules, []}
use Rattle.thread_channels.proofs.BoardMoves.{begins}
use Rattle.thread_channels.proofs.board.Board.new.Goals as goal

pub of_words-requires : goal.of_words-requires
of_words-requires c = begins _ [] (search rules)
