-- To be believed: `run`'s output, a volume's steps or its attach are said in these words.
-- What a volume keeps, as plain records: the bytes of its devices, and what it has in memory. This project's own.
use Rattle.std.specs.Prelude.{ℕ, Bool, List, [], ◌++◌, Option, Some, None}
use Rattle.sector.specs.declared.pair.Pair.{Pair}
use Rattle.plain_machine.specs.declared.request.Overflowing.{Overflowing}
use Rattle.in_flight.specs.declared.copies.ChunkCopy.{ChunkCopy}
use Rattle.in_flight.specs.declared.copies.Mark.{Mark}
use Rattle.in_flight.specs.declared.flights.Flight.{Flight}

-- A snapshot that is not being merged. `loud`: a write to its store that answers Ok is done. `untried`: it is spoiled, and
-- its store's header was not yet marked invalid for good. `marked`: the mark was written; it counts as tried only after the
-- flush of the store that follows. `overflow`: what a write of it does that finds its store full.
pub record SnapBooks : Type 0 where
  pub number : ℕ
  pub live : Bool
  pub untried : Bool
  pub marked : Bool
  pub loud : Bool
  pub overflow : Overflowing
  -- sectors of a chunk, of the origin, and of the store
  pub chunk : ℕ
  pub sectors : ℕ
  pub size : ℕ
  -- the store's bytes
  pub store : List ℕ
  -- the committed pairs, and those that the store began and did not commit
  pub pairs : List Pair
  pub begun : List Pair
  -- how many of the committed pairs were flushed: the first ones
  pub sure : ℕ
  -- the copies that are not committed, in order of handing out, and those that are not published
  pub copies : List ChunkCopy
  pub marks : List Mark

-- the committed pairs, and then the others
abbrev pub given : SnapBooks → List Pair
given v = v.pairs ++ v.begun

-- A merge: the store, its committed pairs, and the present group in four lists. Before the commit the pairs end with
-- waiting, reading and copied; the commit takes the copied ones to released. loud: writes to the store and to the origin
-- disk that answer Ok are done.
pub record MergeBooks : Type 0 where
  pub number : ℕ
  pub loud : Bool
  pub chunk : ℕ
  pub sectors : ℕ
  pub size : ℕ
  pub store : List ℕ
  pub pairs : List Pair
  pub waiting : List Pair
  pub reading : List Pair
  pub buffer : List ℕ
  pub copied : List Pair
  pub released : List Pair

-- the pairs by which requests in flight were routed: the committed ones, and those whose slots are cleared but which are
-- not released
abbrev pub listed : MergeBooks → List Pair
listed m = m.pairs ++ m.released

-- the pairs whose chunks no write may change at their place
abbrev pub taken : MergeBooks → List Pair
taken m = m.reading ++ (m.copied ++ m.released)

-- the present group
abbrev pub group_of : MergeBooks → List Pair
group_of m = m.waiting ++ taken m

-- a whole volume: the origin disk's bytes, sectors and loudness, the snapshots in order of attaching, the merge, and the
-- requests in flight in order of acceptance
pub record Books : Type 0 where
  pub origin : List ℕ
  pub sectors : ℕ
  pub loud : Bool
  pub snaps : List SnapBooks
  pub merge : Option MergeBooks
  pub requests : List Flight

abbrev pub number_of : SnapBooks → ℕ
number_of v = v.number

-- the pairs and the group by which origin requests are routed
abbrev pub pairs_in : Option MergeBooks → List Pair
pairs_in None = []
pairs_in (Some m) = m.pairs

abbrev pub group_in : Option MergeBooks → List Pair
group_in None = []
group_in (Some m) = group_of m
