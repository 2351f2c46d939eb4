use Rattle.std.proofs.Common.{rules}
use Rattle.thread_channels.proofs.BoardMoves.{joins, reads}
use Rattle.thread_channels.proofs.board.Board.absorb.Goals as goal

pub join_seat-requires : goal.join_seat-requires
join_seat-requires c = (search rules, search rules, search rules, search rules, joins _ _ _ _)

pub load-word-requires : goal.load-word-requires
load-word-requires c = (search rules, search rules, reads _ _ _)
