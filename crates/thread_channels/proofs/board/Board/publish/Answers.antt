use Rattle.std.proofs.Common.{rules}
use Rattle.thread_channels.proofs.BoardMoves.{publishes}
use Rattle.thread_channels.proofs.board.Board.publish.Goals as goal

pub store-requires : goal.store-requires
store-requires c = (search rules, search rules, publishes _ _ _ c.args.usage _ (search rules) c.requires.narrow (search rules))
