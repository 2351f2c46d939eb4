use Rattle.device_list.proofs.Merges.{chunk_of_one}
use Rattle.device_list.proofs.stored.merging_chunk.Goals as goal

pub returns-clause-some : goal.returns-clause-some
returns-clause-some c = chunk_of_one c.args.volume.now.rested c.merging_chunk.result c.merging_chunk.ensures.some
