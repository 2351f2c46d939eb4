-- The laws' premises over the devices of an origin and of a store, both with caches: what a call of one operation says of itself.
-- holds, contents: what a device may hold in a sector after a stop, and what is there. This project's own; the bytes are those of
-- dm-snap-persistent.c.
use Rattle.std.specs.Prelude.{◌≡◌, ◌⊎◌, ℕ, ◌+◌, ◌-◌, ◌*◌, ◌/◌, ◌%◌, ◌<◌, ◌≤◌, Bool, true, List, ◌++◌, length, Some, None, slice_index_or}
use Rattle.std.specs.List.{All}
use Rattle.sector.specs.Bytes.{sector_at, with_sectors}
use Rattle.sector.specs.declared.pair.Pair.{Pair}
use Rattle.cow_format.specs.Places.{area_place, slot, ChangesOnly}
use Rattle.cow_format.specs.Pairs.{pairs_of, AreWellFormed}
use Rattle.cow_format.specs.Picture.{place_of, IsCopied}
use Rattle.crash_laws.specs.Stop.{MayLeave}
use Rattle.crash_laws.specs.Firm.{IsFirm, AddsNow}
use Rattle.cache_loss_laws.specs.Lasting.{ClearsSlots}
use Rattle.cache_loss_laws.specs.Kept.{Kept, last_of, IsThere, SnapLasts}
use Rattle.cache_loss_laws.specs.Calm.{IsCalmSnap, StopsSnapLost}
use Rattle.cache_loss_laws.specs.Merging.{Merging, IsMergeThere, MergeLasts, StopsMergeLost, KeepsBack}
use Rattle.cache_loss_laws.specs.Closing.{Closes}

-- no value is given
abbrev pub NoneGiven : ℕ → List ℕ → Type 0
NoneGiven s v = ⊥

-- what a write of so many sectors of an array's chunk `named`, from its r-th on, gives to a sector of the array
abbrev pub GivesPlace : ℕ → ℕ → ℕ → ℕ → List ℕ → ℕ → List ℕ → Type 0
GivesPlace chunk named r count bytes s v = (s / chunk ≡ named) × (r ≤ s % chunk) × (s % chunk < r + count) × (v ≡ sector_at bytes (s % chunk - r))

-- one of these pairs
abbrev pub IsOneOf : List Pair → Pair → Type 0
IsOneOf pairs q = (k : ℕ) × (k < length pairs) × ((d : Pair) → slice_index_or pairs k d ≡ q)

-- one operation of either device, or none: each may hold what it might hold before, or what is there now
pub record IsOneCall {B : Type 0} (holds : B → ℕ → List ℕ → Type 0) (contents : B → List ℕ) (origin origin' store store' : B) : Type 0 where
  pub origin_adds : AddsNow (holds origin) (holds origin') (contents origin')
  pub store_adds : AddsNow (holds store) (holds store') (contents store')

-- what is there may be left, in so many sectors of either
pub record IsLeftOn {B : Type 0} (holds : B → ℕ → List ℕ → Type 0) (contents : B → List ℕ) (sectors size : ℕ) (origin store : B) : Type 0 where
  pub origin_left : MayLeave (holds origin) sectors (contents origin)
  pub store_left : MayLeave (holds store) size (contents store)

-- What is kept of a snapshot, and its invariant, where these are the pairs of copies that were flushed and are not committed.
pub record IsSnapOn {B : Type 0} (holds : B → ℕ → List ℕ → Type 0) (contents : B → List ℕ) (copies : List Pair) (v : Kept) (origin store : B) : Type 0 where
  pub there : IsThere (holds origin) (holds store) (contents origin) (contents store) (IsOneOf copies) v
  pub lasts : SnapLasts (holds origin) (holds store) (contents origin) (contents store) (IsOneOf copies) v

abbrev pub SnapLastsOn : {B : Type 0} → (B → ℕ → List ℕ → Type 0) → (B → List ℕ) → List Pair → Kept → B → B → Type 0
SnapLastsOn holds contents copies v origin store = SnapLasts (holds origin) (holds store) (contents origin) (contents store) (IsOneOf copies) v

abbrev pub IsCalmOn : {B : Type 0} → (B → List ℕ) → List Pair → List Pair → Bool → Bool → (ℕ → List ℕ → Type 0) → Kept → B → B → B → B → Type 0
IsCalmOn contents copies copies' zeroed marked given v origin origin' store store' =
    IsCalmSnap (contents origin) (contents origin') (contents store) (contents store') (IsOneOf copies) (IsOneOf copies') zeroed marked given v

abbrev pub StopsSnapOn : {B : Type 0} → (B → ℕ → List ℕ → Type 0) → Bool → (ℕ → List ℕ → Type 0) → Kept → B → B → B → B → Type 0
StopsSnapOn holds marked given v origin origin' store store' = StopsSnapLost (holds origin) (holds store) (holds origin') (holds store') marked given v

-- The current area is written with the pairs of flushed copies behind those that are there, and no other chunk. They fit before
-- the last slot that is known.
pub record IsCommit {B : Type 0} (contents : B → List ℕ) (copies copies' : List Pair) (v : Kept) (qs : List Pair) (origin origin' store store' : B) : Type 0 where
  pub same : contents origin' ≡ contents origin
  pub only : ChangesOnly v.chunk (area_place v.chunk v.current) (contents store) (contents store')
  pub now : pairs_of v.chunk (contents store') ≡ v.pairs ++ qs
  pub formed : AreWellFormed v.chunk v.sectors v.size (v.pairs ++ qs)
  pub flushed : All (IsOneOf copies) qs
  pub rest : (k : ℕ) → length (v.pairs ++ qs) ≤ k → k < (v.current + 1) * (32 * v.chunk) → (slot v.chunk (contents store') k).new ≡ 0
  pub reach : length v.pairs + length qs ≤ last_of v
  pub fewer : (q : Pair) → IsOneOf copies' q → IsOneOf copies q

-- The store is flushed, and no byte changes. The pairs of all copies that are written have the origin's bytes at their places.
pub record IsFlush {B : Type 0} (holds : B → ℕ → List ℕ → Type 0) (contents : B → List ℕ) (copies' : List Pair) (v : Kept) (origin origin' store store' : B) : Type 0 where
  pub origin_same : contents origin' ≡ contents origin
  pub store_same : contents store' ≡ contents store
  pub firm : IsFirm (holds store') (contents store') v.size
  pub reach : length v.pairs < (v.current + 1) * (32 * v.chunk)
  pub written : (q : Pair) → IsOneOf copies' q → IsCopied v.chunk (contents origin) (contents store) q × (v.chunk * (q.new + 1) ≤ v.size)

-- what is kept of a merge, and its invariant
pub record IsMergeOn {B : Type 0} (holds : B → ℕ → List ℕ → Type 0) (contents : B → List ℕ) (m : Merging) (origin store : B) : Type 0 where
  pub there : IsMergeThere (holds origin) (holds store) (contents origin) (contents store) m
  pub lasts : MergeLasts (holds origin) (holds store) (contents origin) (contents store) m

abbrev pub MergeLastsOn : {B : Type 0} → (B → ℕ → List ℕ → Type 0) → (B → List ℕ) → Merging → B → B → Type 0
MergeLastsOn holds contents m origin store = MergeLasts (holds origin) (holds store) (contents origin) (contents store) m

abbrev pub StopsMergeOn : {B : Type 0} → (B → ℕ → List ℕ → Type 0) → (ℕ → List ℕ → Type 0) → Merging → B → B → B → B → Type 0
StopsMergeOn holds given m origin origin' store store' = StopsMergeLost (holds origin) (holds store) (holds origin') (holds store') given m

-- Area a of a merging store is written without the pairs of a group, whose chunks were copied back and the disk flushed.
pub record IsClearing {B : Type 0} (contents : B → List ℕ) (m : Merging) (kept : List Pair) (a : ℕ) (origin origin' store store' : B) : Type 0 where
  pub same : contents origin' ≡ contents origin
  pub parts : m.pairs ≡ kept ++ m.copied
  pub flushed : m.flushed ≡ true
  pub only : ChangesOnly m.chunk (area_place m.chunk a) (contents store) (contents store')
  pub now : pairs_of m.chunk (contents store') ≡ kept
  pub zero : (k : ℕ) → length kept ≤ k → k < length (kept ++ m.copied) → (slot m.chunk (contents store') k).new ≡ 0
  pub others : (k : ℕ) → length (kept ++ m.copied) ≤ k → slot m.chunk (contents store') k ≡ slot m.chunk (contents store) k
  pub clears : ClearsSlots m.chunk m.size (length kept) (length (kept ++ m.copied)) (contents store) (contents store')
  pub copied : All (IsCopied m.chunk (contents origin) (contents store)) m.copied

-- Of the chunk `named` so many sectors from its r-th on are written at its place n of a merging store.
pub record IsPlaceWrite {B : Type 0} (contents : B → List ℕ) (m : Merging) (named n r count : ℕ) (bytes : List ℕ) (origin origin' store store' : B) : Type 0 where
  pub same : contents origin' ≡ contents origin
  pub at : place_of m.pairs named ≡ Some n
  pub within : r + count ≤ m.chunk
  pub long : length bytes ≡ 512 * count
  pub written : contents store' ≡ with_sectors (contents store) (m.chunk * n + r) bytes

-- So many sectors of the origin's disk are written where the merging store has no copy, or any where it has. The chunks that are
-- said to be copied back and flushed are left.
pub record IsDiskWrite {B : Type 0} (contents : B → List ℕ) (m : Merging) (first count : ℕ) (copied : List Pair) (flushed : Bool) (origin origin' store store' : B) : Type 0 where
  pub store_same : contents store' ≡ contents store
  pub beside : (s : ℕ) → s < m.sectors → place_of m.pairs (s / m.chunk) ≡ None → (s < first) ⊎ (first + count ≤ s) → sector_at (contents origin') s ≡ sector_at (contents origin) s
  pub back : KeepsBack (contents origin) (contents origin') copied flushed m

abbrev pub GivesDisk : {B : Type 0} → (B → List ℕ) → ℕ → ℕ → B → ℕ → List ℕ → Type 0
GivesDisk contents first count origin' s v = (first ≤ s) × (s < first + count) × (v ≡ sector_at (contents origin') s)

-- in the sectors that every content takes from the one device no value is open any more but the present one
abbrev pub ClosesOn : {B : Type 0} → Bool → (B → ℕ → List ℕ → Type 0) → (B → List ℕ) → (B → ℕ) → ℕ → B → B → Type 0
ClosesOn from holds contents size chunk origin store = Closes from chunk (holds origin) (holds store) (size origin) (size store) (contents origin) (contents store)

abbrev pub IsFirmOn : {B : Type 0} → (B → ℕ → List ℕ → Type 0) → (B → List ℕ) → (B → ℕ) → B → Type 0
IsFirmOn holds contents size device = IsFirm (holds device) (contents device) (size device)
