-- A snapshot goes by its number.
use Rattle.std.proofs.Common.{refl}
use Rattle.parallel_lines.proofs.Asks.{merge_there}
use Rattle.parallel_lines.proofs.planning.merge_job.Goals as goal

pub returns-in-Snapshot : goal.returns-in-Snapshot
returns-in-Snapshot c = (refl, merge_there c.in-Snapshot.k c.args.role c.args.volume.now.shown c.number.result c.in-Snapshot.is c.number.ensures)
