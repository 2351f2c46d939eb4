-- What is true of a snapshot that is not being merged, over the origin disk's bytes and the requests in flight.
use Rattle.std.specs.Prelude.{◌≡◌, ◌≢◌, ◌&&◌, ℕ, ◌+◌, ◌*◌, ◌/◌, ◌<◌, ◌≤◌, Bool, true, false, List, [], None, Some, Any, length, map, take, drop, AllPairs, slice_index}
use Rattle.std.specs.List.{All}
use Rattle.sector.specs.Bytes.{sectors_at}
use Rattle.sector.specs.declared.pair.Pair.{Pair}
use Rattle.cow_format.specs.Pairs.{pairs_of, IsApart, IsInside}
use Rattle.cow_format.specs.Picture.{place_of, picture_at, IsCopied}
use Rattle.plain_machine.specs.declared.request.Op.TheVariants.{Write, Flush}
use Rattle.in_flight.specs.Copies.{count_of, pair_of}
use Rattle.in_flight.specs.Kinds.{kind_of, room_of}
use Rattle.in_flight.specs.declared.copies.ChunkCopy.{ChunkCopy}
use Rattle.in_flight.specs.declared.copies.Mark.{Mark}
use Rattle.in_flight.specs.declared.copies.Stage.{Stage}
use Rattle.in_flight.specs.declared.copies.Stage.TheVariants.{Waiting, Read, Written, Flushed}
use Rattle.in_flight.specs.declared.flights.Flight.{Flight}
use Rattle.in_flight.specs.declared.flights.Kind.TheVariants.{OriginWrite, SnapRead, SnapWrite, SnapFlush}
use Rattle.in_flight.specs.declared.flights.Route.TheVariants.{Origin, Store, Whole, Refused}
use Rattle.volume_laws.specs.Books.{SnapBooks, given}
use Rattle.volume_laws.specs.Published.{chunk_of, IsPiece, IsPublished, IsUnpublished}

-- A store's pairs by themselves, for a store of `size` sectors; `all` has the committed ones and what else must stay apart
-- from them. Nothing here is said of the store's bytes but how many they are.
pub record StoreHolds (chunk sectors size : ℕ) (store : List ℕ) (all : List Pair) : Type 0 where
  pub some : 0 < chunk
  pub allowed : chunk ≤ 1024
  pub whole : length store ≡ 512 * size
  pub inside : All (IsInside chunk sectors size) all
  pub apart : AllPairs IsApart all

-- whether a copy at a stage is in its place on the store
abbrev pub is_stored : Stage → Bool
is_stored Waiting = false
is_stored Read = false
is_stored Written = true
is_stored Flushed = true

-- What a copy has in its buffer, and then on the store. Its bytes are compared with the origin's, so that is said where both
-- stacks are loud: a layer that drops writes holds bytes that nobody wrote there. loud: whether both are.
pub record CopyHolds (loud : Bool) (chunk sectors : ℕ) (origin store : List ℕ) (p : ChunkCopy) : Type 0 where
  pub room : length p.buffer.items ≡ 512 * count_of chunk sectors p.pair.old
  pub read : loud ≡ true → p.stage ≡ Read → p.buffer.items ≡ sectors_at origin (chunk * p.pair.old) (count_of chunk sectors p.pair.old)
  pub written : loud ≡ true → is_stored p.stage ≡ true → IsCopied chunk origin store p.pair

-- the chunk of a committed copy that is not published: the origin's bytes are the picture's
pub record MarkHolds (chunk : ℕ) (origin store : List ℕ) (pairs : List Pair) (m : Mark) : Type 0 where
  pub same : (i : ℕ) → i < length origin → i / (512 * chunk) ≡ m.chunk → picture_at chunk origin store pairs i ≡ slice_index origin i

-- Where a request goes, as to one live snapshot: an origin write that goes to the origin disk needs that snapshot's copy.
pub record RouteHolds (number chunk : ℕ) (pairs : List Pair) (marks : List Mark) (r : Flight) : Type 0 where
  pub piece : IsPiece chunk r.request.range
  pub origin_write : kind_of r.request ≡ OriginWrite → r.route ≡ Origin → IsPublished pairs marks (chunk_of chunk r)
  pub read : kind_of r.request ≡ SnapRead number → r.route ≡ Origin → IsUnpublished pairs marks (chunk_of chunk r)
  pub read_stored : (place : ℕ) → kind_of r.request ≡ SnapRead number → r.route ≡ Store place → place_of pairs (chunk_of chunk r) ≡ Some place
  pub write : kind_of r.request ≡ SnapWrite number → r.route ≢ Origin
  pub write_stored : (place : ℕ) → kind_of r.request ≡ SnapWrite number → r.route ≡ Store place → (place_of pairs (chunk_of chunk r) ≡ Some place) × IsPublished pairs marks (chunk_of chunk r)
  pub read_alive : kind_of r.request ≡ SnapRead number → r.route ≢ Refused
  pub write_alive : kind_of r.request ≡ SnapWrite number → r.route ≢ Refused
  pub flush : kind_of r.request ≡ SnapFlush number → r.route ≡ Whole

-- a committed pair that was not flushed bears a mark that is not safe
abbrev pub IsLinked : List Mark → Pair → Type 0
IsLinked marks q = Any (λ m. (m.chunk ≡ q.old) × (m.safe ≡ false)) marks

-- A live snapshot. What is said of the store's bytes alone is said where its stack is loud; what compares them with the
-- origin's, where both stacks are loud; the rest always. heard: whether the origin's stack is loud.
pub record LiveHolds (heard : Bool) (origin : List ℕ) (rs : List Flight) (v : SnapBooks) : Type 0 where
  pub text : StoreHolds v.chunk v.sectors v.size v.store (given v)
  pub stored : v.loud ≡ true → pairs_of v.chunk v.store ≡ v.pairs
  pub fits : length origin ≡ 512 * v.sectors
  pub tried : v.untried ≡ false
  pub agree : v.begun ≡ map pair_of v.copies
  pub few : v.sure ≤ length v.pairs
  pub link : All (IsLinked v.marks) (drop v.sure v.pairs)
  pub copies : All (CopyHolds (heard && v.loud) v.chunk v.sectors origin v.store) v.copies
  pub unpublished : (heard && v.loud) ≡ true → All (MarkHolds v.chunk origin v.store v.pairs) v.marks
  pub routes : All (RouteHolds v.number v.chunk v.pairs v.marks) rs

-- where a request of a spoiled snapshot goes
pub record RefusedHolds (number : ℕ) (r : Flight) : Type 0 where
  pub read : kind_of r.request ≡ SnapRead number → r.route ≡ Refused
  pub write : kind_of r.request ≡ SnapWrite number → r.route ≡ Refused
  pub flush : kind_of r.request ≡ SnapFlush number → r.route ≡ Refused

-- Where an origin write goes, as to a spoiled snapshot whose invalid mark is untried: to the origin disk only in a chunk of
-- these pairs: those that were flushed. So its store, if it is loaded again, still shows the array that the snapshot had.
pub record UntriedHolds (chunk : ℕ) (pairs : List Pair) (r : Flight) : Type 0 where
  pub piece : kind_of r.request ≡ OriginWrite → r.route ≡ Origin → IsPiece chunk r.request.range
  pub placed : kind_of r.request ≡ OriginWrite → r.route ≡ Origin → place_of pairs (chunk_of chunk r) ≢ None

-- A spoiled snapshot: no copies, and its requests are refused. Until its mark was tried, origin writes go where it has the
-- chunk for sure.
pub record SpoiltHolds (rs : List Flight) (v : SnapBooks) : Type 0 where
  pub copies : v.copies ≡ []
  pub unpublished : v.marks ≡ []
  pub routes : All (RefusedHolds v.number) rs
  pub waited : v.untried ≡ true → All (UntriedHolds v.chunk (take v.sure v.pairs)) rs

-- a snapshot, live or spoiled; heard: whether the origin's stack is loud
pub record SnapHolds (heard : Bool) (origin : List ℕ) (rs : List Flight) (v : SnapBooks) : Type 0 where
  pub alive : v.live ≡ true → LiveHolds heard origin rs v
  pub spoilt : v.live ≡ false → SpoiltHolds rs v

-- of each request, whatever became of the snapshots, for an origin of so many sectors
pub record RequestHolds (sectors : ℕ) (r : Flight) : Type 0 where
  pub some : 0 < r.request.range.count
  pub inside : r.request.range.first + r.request.range.count ≤ sectors
  pub room : length r.room.items ≡ room_of r.request
  pub bytes : (bytes : List ℕ) → r.request.op ≡ Write bytes → length bytes ≡ 512 * r.request.range.count
  pub whole : r.route ≡ Whole → r.request.op ≡ Flush
