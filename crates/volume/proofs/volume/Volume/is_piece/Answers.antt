-- A piece has a sector at least.
use Rattle.chunk.proofs.Limits.{is_chunk-some}
use Rattle.volume.proofs.volume.Volume.is_piece.Goals as goal

pub rest_of-requires : goal.rest_of-requires
rest_of-requires g c = is_chunk-some c.piece-piece.result c.piece-piece.ensures.allowed
