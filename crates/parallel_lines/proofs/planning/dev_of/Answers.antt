-- A snapshot goes by its number.
use Rattle.parallel_lines.proofs.Asks.{dev_there}
use Rattle.parallel_lines.proofs.planning.dev_of.Goals as goal

pub returns-in-Snapshot : goal.returns-in-Snapshot
returns-in-Snapshot c = dev_there c.in-Snapshot.k c.args.role c.args.volume.now.shown.state c.number.result c.in-Snapshot.is c.number.ensures
