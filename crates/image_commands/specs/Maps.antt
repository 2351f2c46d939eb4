-- The pairs of a store of which this is told, and the sectors of a chunk: a fresh one has no pairs, and a kernel is given 8 for it.
use Rattle.std.specs.Prelude.{ℕ, List, []}
use Rattle.sector.specs.declared.pair.Pair.{Pair}
use Rattle.cow_image.specs.declared.found.Told.{Told}
use Rattle.cow_image.specs.declared.found.Told.TheVariants.{Fresh, Refused, Written}

abbrev pub chunk_told : Told → ℕ
chunk_told (Written map) = map.chunk
chunk_told Fresh = 8
chunk_told (Refused reason) = 8

abbrev pub pairs_told : Told → List Pair
pairs_told (Written map) = map.pairs.items
pairs_told Fresh = []
pairs_told (Refused reason) = []
