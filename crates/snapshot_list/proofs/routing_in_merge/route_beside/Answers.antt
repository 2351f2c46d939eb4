-- A chunk of the merging store has sectors.
use Rattle.std.proofs.Common.{arith}
use Rattle.chunk.proofs.Limits.{is_chunk-some}
use Rattle.snapshot_list.proofs.routing_in_merge.route_beside.Goals as goal

pub nonzero_div-chunk : goal.nonzero_div-chunk
nonzero_div-chunk g c = let some = is_chunk-some c.chunk.result c.chunk.ensures.allowed in omega (arith, some)
