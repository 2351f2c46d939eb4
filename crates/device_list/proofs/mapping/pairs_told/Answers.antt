use Rattle.chunk.proofs.Limits.{is_chunk-some}
use Rattle.device_list.proofs.mapping.pairs_told.Goals as goal

pub chunks_of-requires : goal.chunks_of-requires
chunks_of-requires c = is_chunk-some c.chunk.result c.chunk.ensures.allowed
