-- A pair for lists that need one.
use Rattle.sector.specs.declared.pair.Pair.{Pair}

-- a pair of no chunks
unfoldable pub no_chunks : Pair
no_chunks = record { old = 0; new = 0 }
