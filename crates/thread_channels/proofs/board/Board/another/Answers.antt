use Rattle.std.proofs.Common.{rules}
use Rattle.thread_channels.proofs.BoardMoves.{splits}
use Rattle.thread_channels.proofs.board.Board.another.Goals as goal

pub split_seat-seat-requires : goal.split_seat-seat-requires
split_seat-seat-requires c = (search rules, search rules, splits _ _)
