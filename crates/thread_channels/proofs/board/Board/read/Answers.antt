use Rattle.std.proofs.Common.{rules}
use Rattle.thread_channels.proofs.BoardMoves.{reads}
use Rattle.thread_channels.proofs.board.Board.read.Goals as goal

pub load-requires : goal.load-requires
load-requires c = (search rules, search rules, reads _ _ _)
