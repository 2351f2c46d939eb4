-- A merge tells the size of its own chunks.
use Rattle.volume_commands.proofs.Begun.{chunk_merging, chunk_of_none}
use Rattle.volume_commands.proofs.resting.Resting.merging_chunk.Goals as goal

pub returns-clause-some : goal.returns-clause-some
returns-clause-some g c = rw (← c.self.view_is) (chunk_merging c.self.inside.volume.volume.merge c.merging_chunk.result c.merging_chunk.ensures)

pub returns-clause-none : goal.returns-clause-none
returns-clause-none g c = rw (← c.self.view_is) (chunk_of_none c.self.inside.volume.volume.merge c.merging_chunk.result c.merging_chunk.ensures)
