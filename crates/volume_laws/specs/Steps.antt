-- What each event does to a snapshot, and what to the whole volume, as relations of the books before and after. A record's
-- fields are what the code shows: which lists change and how, and what the device's call said of the bytes.
use Rattle.std.specs.Prelude.{◌≡◌, ◌≢◌, ◌==◌, ◌⊎◌, ℕ, ◌+◌, ◌*◌, ◌/◌, ◌%◌, ◌<◌, ◌≤◌, true, false, List, [], ◌∷◌, ◌++◌, Option, Some, None, length, map, take, drop, slice_index, slice_index_or, slice_set}
use Rattle.std.specs.List.{All, remove, position}
use Rattle.sector.specs.Bytes.{sectors_at, with_sectors}
use Rattle.cow_format.specs.Places.{area_place, ChangesOnly}
use Rattle.cow_format.specs.Pairs.{pairs_of}
use Rattle.in_flight.specs.Copies.{count_of}
use Rattle.in_flight.specs.Flushed.{flushed_copy, safe_mark}
use Rattle.in_flight.specs.Routes.{refused_of}
use Rattle.plain_machine.specs.declared.request.Op.TheVariants.{Write}
use Rattle.plain_machine.specs.declared.request.Overflowing.TheVariants.{May, Did}
use Rattle.plain_machine.specs.Plain.{did_overflow}
use Rattle.in_flight.specs.declared.copies.ChunkCopy.{ChunkCopy}
use Rattle.in_flight.specs.declared.copies.Mark.{Mark}
use Rattle.in_flight.specs.declared.copies.Stage.TheVariants.{Waiting, Read, Written, Flushed}
use Rattle.in_flight.specs.declared.flights.Flight.{Flight}
use Rattle.in_flight.specs.declared.flights.Route.TheVariants.{Origin}
use Rattle.volume_laws.specs.Books.{SnapBooks, MergeBooks, Books, listed, taken, number_of}
use Rattle.volume_laws.specs.Held.{StoreHolds, RouteHolds, RefusedHolds, UntriedHolds}
use Rattle.volume_laws.specs.Merging.{MergeRouteHolds}
use Rattle.volume_laws.specs.Whole.{UnmergedHolds}

-- what no event of a snapshot changes while it stays live
pub record IsSame (v w : SnapBooks) : Type 0 where
  pub number : w.number ≡ v.number
  pub live : w.live ≡ v.live
  pub untried : w.untried ≡ v.untried
  pub marked : w.marked ≡ v.marked
  pub loud : w.loud ≡ v.loud
  pub overflow : w.overflow ≡ v.overflow
  pub chunk : w.chunk ≡ v.chunk
  pub sectors : w.sectors ≡ v.sectors
  pub size : w.size ≡ v.size

-- the store's bytes and pairs are as before
pub record SameStore (v w : SnapBooks) : Type 0 where
  pub store : w.store ≡ v.store
  pub pairs : w.pairs ≡ v.pairs
  pub begun : w.begun ≡ v.begun
  pub sure : w.sure ≡ v.sure

-- copy k goes from p to q, with its pair
pub record CopyGoesOn (k : ℕ) (p q : ChunkCopy) (v w : SnapBooks) : Type 0 where
  pub within : k < length v.copies
  pub was : p ≡ slice_index_or v.copies k p
  pub pair : q.pair ≡ p.pair
  pub copies : w.copies ≡ slice_set v.copies k q

-- CopyRead: the chunk is read from the origin disk
pub record ReadsCopy (origin : List ℕ) (k : ℕ) (p q : ChunkCopy) (v w : SnapBooks) : Type 0 where
  pub same : IsSame v w
  pub store : SameStore v w
  pub copy : CopyGoesOn k p q v w
  pub marks : w.marks ≡ v.marks
  pub stage : q.stage ≡ Read
  pub room : length q.buffer.items ≡ length p.buffer.items
  pub read : q.buffer.items ≡ sectors_at origin (v.chunk * p.pair.old) (count_of v.chunk v.sectors p.pair.old)

-- CopyWrite: it is written to its place
pub record WritesCopy (k : ℕ) (p q : ChunkCopy) (v w : SnapBooks) : Type 0 where
  pub same : IsSame v w
  pub pairs : w.pairs ≡ v.pairs
  pub begun : w.begun ≡ v.begun
  pub sure : w.sure ≡ v.sure
  pub copy : CopyGoesOn k p q v w
  pub marks : w.marks ≡ v.marks
  pub was_read : p.stage ≡ Read
  pub stage : q.stage ≡ Written
  pub buffer : q.buffer.items ≡ p.buffer.items
  pub only : ChangesOnly v.chunk p.pair.new v.store w.store
  pub written : v.loud ≡ true → w.store ≡ with_sectors v.store (v.chunk * p.pair.new) p.buffer.items

-- ZeroNext: area a, which the pairs do not reach, is written
pub record ZeroesArea (a : ℕ) (v w : SnapBooks) : Type 0 where
  pub same : IsSame v w
  pub pairs : w.pairs ≡ v.pairs
  pub begun : w.begun ≡ v.begun
  pub sure : w.sure ≡ v.sure
  pub copies : w.copies ≡ v.copies
  pub marks : w.marks ≡ v.marks
  pub only : ChangesOnly v.chunk (area_place v.chunk a) v.store w.store
  pub stored : v.loud ≡ true → pairs_of v.chunk w.store ≡ v.pairs

-- a copy whose pair is committed: the store was not flushed since
abbrev pub mark_of : ChunkCopy → Mark
mark_of p = record { number = p.number; chunk = p.pair.old; safe = false }

-- WriteArea: the first copies, all of them written and flushed, are committed by a write of area a
pub record Commits (count a : ℕ) (v w : SnapBooks) : Type 0 where
  pub same : IsSame v w
  pub few : count ≤ length v.copies
  pub ready : All (λ p. p.stage ≡ Flushed) (take count v.copies)
  pub pairs : w.pairs ≡ v.pairs ++ take count v.begun
  pub begun : w.begun ≡ drop count v.begun
  pub sure : w.sure ≡ v.sure
  pub copies : w.copies ≡ drop count v.copies
  pub marks : w.marks ≡ v.marks ++ map mark_of (take count v.copies)
  pub only : ChangesOnly v.chunk (area_place v.chunk a) v.store w.store
  pub stored : v.loud ≡ true → pairs_of v.chunk w.store ≡ w.pairs

-- FlushStore of a live snapshot, or a flush that is asked of one: what is written counts as written, and what is committed is
-- sure, and may be published
pub record FlushesStore (v w : SnapBooks) : Type 0 where
  pub same : IsSame v w
  pub store : w.store ≡ v.store
  pub pairs : w.pairs ≡ v.pairs
  pub begun : w.begun ≡ v.begun
  pub sure : w.sure ≡ length v.pairs
  pub copies : w.copies ≡ map flushed_copy v.copies
  pub marks : w.marks ≡ map safe_mark v.marks

-- Publish: mark k, which is safe, is taken away
pub record Unmarks (k : ℕ) (m : Mark) (v w : SnapBooks) : Type 0 where
  pub same : IsSame v w
  pub store : SameStore v w
  pub copies : w.copies ≡ v.copies
  pub within : k < length v.marks
  pub was : m ≡ slice_index_or v.marks k m
  pub safe : m.safe ≡ true
  pub marks : w.marks ≡ remove v.marks k

-- a copy is started: its pair is the store's last begun one
pub record StartsCopy (p : ChunkCopy) (v w : SnapBooks) : Type 0 where
  pub same : IsSame v w
  pub pairs : w.pairs ≡ v.pairs
  pub store : w.store ≡ v.store
  pub begun : w.begun ≡ v.begun ++ p.pair ∷ []
  pub sure : w.sure ≡ v.sure
  pub copies : w.copies ≡ v.copies ++ p ∷ []
  pub marks : w.marks ≡ v.marks
  pub stage : p.stage ≡ Waiting
  pub room : length p.buffer.items ≡ 512 * count_of v.chunk v.sectors p.pair.old
  pub text : StoreHolds v.chunk v.sectors v.size v.store (v.pairs ++ (v.begun ++ p.pair ∷ []))

-- a write of a snapshot at the place of its chunk c, `off` sectors from the chunk's beginning
pub record WritesPlace (c place off : ℕ) (bytes : List ℕ) (v w : SnapBooks) : Type 0 where
  pub same : IsSame v w
  pub pairs : w.pairs ≡ v.pairs
  pub begun : w.begun ≡ v.begun
  pub sure : w.sure ≡ v.sure
  pub copies : w.copies ≡ v.copies
  pub marks : w.marks ≡ v.marks
  pub only : ChangesOnly v.chunk place v.store w.store
  pub written : v.loud ≡ true → w.store ≡ with_sectors v.store (v.chunk * place + off) bytes

-- a spoil of a live snapshot: no copies and no marks are left, and the committed pairs stay
pub record SpoilsSnap (v w : SnapBooks) : Type 0 where
  pub number : w.number ≡ v.number
  pub was : v.live ≡ true
  pub live : w.live ≡ false
  pub overflow : w.overflow ≡ v.overflow
  pub chunk : w.chunk ≡ v.chunk
  pub pairs : w.pairs ≡ v.pairs
  pub sure : w.sure ≡ v.sure
  pub copies : w.copies ≡ []
  pub marks : w.marks ≡ []

-- WriteInvalid: a spoiled snapshot's mark is written, and still keeps origin writes back
pub record WritesMark (v w : SnapBooks) : Type 0 where
  pub number : w.number ≡ v.number
  pub was : v.live ≡ false
  pub live : w.live ≡ false
  pub overflow : w.overflow ≡ v.overflow
  pub untried : w.untried ≡ v.untried
  pub marked : w.marked ≡ true
  pub chunk : w.chunk ≡ v.chunk
  pub pairs : w.pairs ≡ v.pairs
  pub sure : w.sure ≡ v.sure
  pub copies : w.copies ≡ v.copies
  pub marks : w.marks ≡ v.marks

-- A spoiled snapshot's mark is tried: its write failed; or it was written, and the flush after it was done or failed.
pub record TriesMark (v w : SnapBooks) : Type 0 where
  pub number : w.number ≡ v.number
  pub was : v.live ≡ false
  pub live : w.live ≡ false
  pub overflow : w.overflow ≡ v.overflow
  pub tried : w.untried ≡ false
  pub copies : w.copies ≡ v.copies
  pub marks : w.marks ≡ v.marks

-- a write finds the full store of a live snapshot that may overflow: that it did is all that changes
pub record Overflows (v w : SnapBooks) : Type 0 where
  pub was : v.live ≡ true
  pub may : v.overflow ≡ May
  pub becomes : w ≡ record v { overflow = Did }

-- a write of `count` sectors of the origin disk, from sector `first` on
pub record WritesDisk (first count : ℕ) (old new : List ℕ) : Type 0 where
  pub len : length new ≡ length old
  pub rest : (i : ℕ) → (i < 512 * first) ⊎ (512 * (first + count) ≤ i) → slice_index new i ≡ slice_index old i

-- snapshot k changes, and nothing else
pub record ChangesSnap (k : ℕ) (s s' : SnapBooks) (v w : Books) : Type 0 where
  pub within : k < length v.snaps
  pub was : s ≡ slice_index_or v.snaps k s
  pub snaps : w.snaps ≡ slice_set v.snaps k s'
  pub origin : w.origin ≡ v.origin
  pub sectors : w.sectors ≡ v.sectors
  pub loud : w.loud ≡ v.loud
  pub merge : w.merge ≡ v.merge
  pub requests : w.requests ≡ v.requests

-- snapshot k changes, and its requests are refused
pub record SpoilsOne (k : ℕ) (s s' : SnapBooks) (v w : Books) : Type 0 where
  pub within : k < length v.snaps
  pub was : s ≡ slice_index_or v.snaps k s
  pub spoils : SpoilsSnap s s'
  pub snaps : w.snaps ≡ slice_set v.snaps k s'
  pub origin : w.origin ≡ v.origin
  pub sectors : w.sectors ≡ v.sectors
  pub loud : w.loud ≡ v.loud
  pub merge : w.merge ≡ v.merge
  pub requests : w.requests ≡ map (refused_of (s.number ∷ [])) v.requests

-- a request is taken out, and its devices and snapshots may change
pub record TakesOut (number k : ℕ) (r : Flight) (v w : Books) : Type 0 where
  pub found : position (λ (f : Flight). f.number == number) v.requests ≡ Some k
  pub was : r ≡ slice_index_or v.requests k r
  pub requests : w.requests ≡ remove v.requests k
  pub sectors : w.sectors ≡ v.sectors
  pub loud : w.loud ≡ v.loud
  pub merge : w.merge ≡ v.merge

-- a request is taken out, and nothing else changes
pub record OnlyTakesOut (number k : ℕ) (r : Flight) (v w : Books) : Type 0 where
  pub out : TakesOut number k r v w
  pub origin : w.origin ≡ v.origin
  pub snaps : w.snaps ≡ v.snaps

-- an origin write goes to the origin disk
pub record WritesOut (number k : ℕ) (r : Flight) (bytes : List ℕ) (v w : Books) : Type 0 where
  pub out : TakesOut number k r v w
  pub op : r.request.op ≡ Write bytes
  pub snaps : w.snaps ≡ v.snaps
  pub disk : WritesDisk r.request.range.first r.request.range.count v.origin w.origin
  pub written : v.loud ≡ true → w.origin ≡ with_sectors v.origin r.request.range.first bytes

-- a snapshot write goes to its place on the store of snapshot j
pub record WritesSnapOut (number k : ℕ) (r : Flight) (bytes : List ℕ) (j place : ℕ) (s s' : SnapBooks) (v w : Books) : Type 0 where
  pub out : TakesOut number k r v w
  pub op : r.request.op ≡ Write bytes
  pub origin : w.origin ≡ v.origin
  pub within : j < length v.snaps
  pub was : s ≡ slice_index_or v.snaps j s
  pub snaps : w.snaps ≡ slice_set v.snaps j s'
  pub store : WritesPlace (r.request.range.first / s.chunk) place (r.request.range.first % s.chunk) bytes s s'

-- a flush of snapshot j is answered: its store was flushed
pub record FlushesSnapOut (number k : ℕ) (r : Flight) (j : ℕ) (s s' : SnapBooks) (v w : Books) : Type 0 where
  pub out : TakesOut number k r v w
  pub origin : w.origin ≡ v.origin
  pub within : j < length v.snaps
  pub was : s ≡ slice_index_or v.snaps j s
  pub snaps : w.snaps ≡ slice_set v.snaps j s'
  pub flush : FlushesStore s s'

-- the first Issue of a flush of the origin beside a merge: the merging store was flushed, and the request goes on to the origin
-- disk
pub record RoutesOn (number k : ℕ) (r : Flight) (v w : Books) : Type 0 where
  pub found : position (λ (f : Flight). f.number == number) v.requests ≡ Some k
  pub was : r ≡ slice_index_or v.requests k r
  pub requests : w.requests ≡ slice_set v.requests k (record r { route = Origin })
  pub origin : w.origin ≡ v.origin
  pub sectors : w.sectors ≡ v.sectors
  pub loud : w.loud ≡ v.loud
  pub snaps : w.snaps ≡ v.snaps
  pub merge : w.merge ≡ v.merge

-- an accepted request is the last in flight
pub record Accepts (f : Flight) (v w : Books) : Type 0 where
  pub requests : w.requests ≡ v.requests ++ f ∷ []
  pub origin : w.origin ≡ v.origin
  pub sectors : w.sectors ≡ v.sectors
  pub loud : w.loud ≡ v.loud
  pub snaps : w.snaps ≡ v.snaps
  pub merge : w.merge ≡ v.merge

-- where it goes, as to a snapshot, and as to the merge
pub record FitsSnap (f : Flight) (s : SnapBooks) : Type 0 where
  pub alive : s.live ≡ true → RouteHolds s.number s.chunk s.pairs s.marks f
  pub spoilt : s.live ≡ false → RefusedHolds s.number f
  pub waited : s.untried ≡ true → UntriedHolds s.chunk (take s.sure s.pairs) f

abbrev pub FitsMerge : Flight → Option MergeBooks → Type 0
FitsMerge f None = UnmergedHolds f
FitsMerge f (Some m) = MergeRouteHolds m.number m.chunk m.pairs (listed m) (taken m) f

-- a new snapshot over an origin disk: live, not overflowed, with the pairs that its store holds
pub record IsNewSnap (origin : List ℕ) (s : SnapBooks) : Type 0 where
  pub live : s.live ≡ true
  pub strict : did_overflow s.overflow ≡ false
  pub tried : s.untried ≡ false
  pub begun : s.begun ≡ []
  pub sure : s.sure ≡ length s.pairs
  pub copies : s.copies ≡ []
  pub marks : s.marks ≡ []
  pub fits : length origin ≡ 512 * s.sectors
  pub text : StoreHolds s.chunk s.sectors s.size s.store s.pairs
  pub stored : s.loud ≡ true → pairs_of s.chunk s.store ≡ s.pairs

-- a quiet volume takes it, under a new number
pub record Attaches (s : SnapBooks) (v w : Books) : Type 0 where
  pub quiet : v.requests ≡ []
  pub requests : w.requests ≡ v.requests
  pub fresh : All (λ n. n ≢ s.number) (map number_of v.snaps)
  pub snaps : w.snaps ≡ v.snaps ++ s ∷ []
  pub origin : w.origin ≡ v.origin
  pub sectors : w.sectors ≡ v.sectors
  pub loud : w.loud ≡ v.loud
  pub merge : w.merge ≡ v.merge

-- a quiet volume lets snapshot k go
pub record Detaches (k : ℕ) (s : SnapBooks) (v w : Books) : Type 0 where
  pub quiet : v.requests ≡ []
  pub requests : w.requests ≡ v.requests
  pub within : k < length v.snaps
  pub was : s ≡ slice_index_or v.snaps k s
  pub snaps : w.snaps ≡ remove v.snaps k
  pub origin : w.origin ≡ v.origin
  pub sectors : w.sectors ≡ v.sectors
  pub loud : w.loud ≡ v.loud
  pub merge : w.merge ≡ v.merge
