-- What is true of the store that is being merged.
use Rattle.std.specs.Prelude.{◌≡◌, ◌≢◌, ◌⊎◌, ℕ, ◌*◌, true, List, ◌++◌, Some, None, length, take}
use Rattle.std.specs.List.{All}
use Rattle.sector.specs.Bytes.{sectors_at}
use Rattle.sector.specs.declared.pair.Pair.{Pair}
use Rattle.cow_format.specs.Pairs.{pairs_of}
use Rattle.cow_format.specs.Picture.{place_of, IsCopied}
use Rattle.in_flight.specs.Copies.{count_of}
use Rattle.in_flight.specs.Kinds.{kind_of}
use Rattle.in_flight.specs.declared.flights.Flight.{Flight}
use Rattle.in_flight.specs.declared.flights.Kind.TheVariants.{OriginRead, OriginWrite, OriginFlush, SnapRead, SnapWrite, SnapFlush}
use Rattle.in_flight.specs.declared.flights.Route.TheVariants.{Origin, Store, Whole}
use Rattle.volume_laws.specs.Books.{MergeBooks, listed, taken}
use Rattle.volume_laws.specs.Published.{chunk_of, IsPiece}
use Rattle.volume_laws.specs.Held.{StoreHolds}

-- where a request goes, as to the merge. all: the listed pairs; done: the taken ones
pub record MergeRouteHolds (number chunk : ℕ) (pairs all done : List Pair) (r : Flight) : Type 0 where
  pub piece : IsPiece chunk r.request.range
  pub read : kind_of r.request ≡ OriginRead → r.route ≡ Origin → place_of pairs (chunk_of chunk r) ≡ None
  pub read_stored : (place : ℕ) → kind_of r.request ≡ OriginRead → r.route ≡ Store place → place_of all (chunk_of chunk r) ≡ Some place
  pub write : kind_of r.request ≡ OriginWrite → r.route ≡ Origin → place_of all (chunk_of chunk r) ≡ None
  pub write_stored : (place : ℕ) → kind_of r.request ≡ OriginWrite → r.route ≡ Store place → place_of all (chunk_of chunk r) ≡ Some place
  pub untaken : (place : ℕ) → kind_of r.request ≡ OriginWrite → r.route ≡ Store place → All (λ q. q.old ≢ chunk_of chunk r) done
  pub no_read : kind_of r.request ≢ SnapRead number
  pub no_write : kind_of r.request ≢ SnapWrite number
  pub flush : kind_of r.request ≡ OriginFlush → (r.route ≡ Whole) ⊎ (r.route ≡ Origin)
  pub no_flush : kind_of r.request ≢ SnapFlush number

-- The merge over the origin disk's bytes and the requests in flight. What is said of bytes, but how many they are, is said
-- where the stacks under both disks are loud, which is what `m.loud` says.
pub record MergeHolds (origin : List ℕ) (rs : List Flight) (m : MergeBooks) : Type 0 where
  pub text : StoreHolds m.chunk m.sectors m.size m.store (listed m)
  pub stored : m.loud ≡ true → pairs_of m.chunk m.store ≡ m.pairs
  pub fits : length origin ≡ 512 * m.sectors
  pub ending : (kept : List Pair) × (m.pairs ≡ kept ++ (m.waiting ++ (m.reading ++ m.copied)))
  pub room : length m.buffer ≡ 512 * m.chunk
  pub buffered : m.loud ≡ true → All (λ q. take (512 * count_of m.chunk m.sectors q.old) m.buffer ≡ sectors_at m.store (m.chunk * q.new) (count_of m.chunk m.sectors q.old)) m.reading
  pub back : m.loud ≡ true → All (IsCopied m.chunk origin m.store) (m.copied ++ m.released)
  pub routes : All (MergeRouteHolds m.number m.chunk m.pairs (listed m) (taken m)) rs
