-- What holds of an origin and its store at each moment of a merge.
use Rattle.std.specs.Prelude.{◌≡◌, ◌⊎◌, ℕ, ◌+◌, ◌*◌, ◌/◌, ◌<◌, ◌≤◌, List, length, replicate, slice_index_or, Ok}
use Rattle.std.specs.List.{Contains}
use Rattle.sector.specs.Bytes.{sector_at}
use Rattle.sector.specs.declared.pair.Pair.{Pair}
use Rattle.cow_format.specs.Places.{area_place}
use Rattle.cow_format.specs.Pairs.{pairs_of, AreWellFormed}
use Rattle.cow_format.specs.Picture.{picture}
use Rattle.cow_header.specs.HeaderText.{found_in}
use Rattle.cow_header.specs.declared.found.Found.TheVariants.{Header}
use Rattle.image.specs.Stops.{AreLeft}
use Rattle.cow_merge.specs.Merges.{IsOriginOf, IsStoreOf, StillShows}

-- an origin and a store, as a merge begins
pub record Begin : Type 0 where
  pub chunk : ℕ
  pub sectors : ℕ
  pub size : ℕ
  pub origin : List ℕ
  pub store : List ℕ

abbrev pub pairs : Begin → List Pair
pairs b = pairs_of b.chunk b.store

abbrev pub array : Begin → List ℕ
array b = picture b.chunk b.origin b.store

-- the store is loaded
pub record IsBegin (b : Begin) : Type 0 where
  pub some : 0 < b.chunk
  pub origin : length b.origin ≡ 512 * b.sectors
  pub store : length b.store ≡ 512 * b.size
  pub header : found_in (sector_at b.store 0) ≡ Ok (Header b.chunk)
  pub formed : AreWellFormed b.chunk b.sectors b.size (pairs b)

-- a sector of the origin, where the pairs of the areas from one on are copied back
abbrev pub OriginMay : Begin → ℕ → ℕ → List ℕ → Type 0
OriginMay b from s v = IsOriginOf b.chunk (from * (32 * b.chunk)) b.origin b.store s v

-- a sector of the store, where slots of the areas from one on may be zero
abbrev pub StoreMay : Begin → ℕ → ℕ → List ℕ → Type 0
StoreMay b from s v = IsStoreOf b.chunk from b.store s v

-- what may be left
pub record Leaves (b : Begin) (from : ℕ) (bytes : ℕ → List ℕ) (may_hold : ℕ → ℕ → List ℕ → Type 0) : Type 0 where
  pub begin : IsBegin b
  pub origin : length (bytes 0) ≡ 512 * b.sectors
  pub store : length (bytes 1) ≡ 512 * b.size
  pub origin_may : (s : ℕ) (v : List ℕ) → s < b.sectors → may_hold 0 s v → OriginMay b from s v
  pub store_may : (s : ℕ) (v : List ℕ) → s < b.size → may_hold 1 s v → StoreMay b from s v

-- what may be left, and what reads give
pub record Rolls (b : Begin) (from : ℕ) (known : Type 0) (bytes : ℕ → List ℕ) (may_hold : ℕ → ℕ → List ℕ → Type 0) : Type 0 where
  pub is_known : known
  pub reach : from ≤ length (pairs b) / (32 * b.chunk) + 1
  pub leaves : Leaves b from bytes may_hold
  pub origin_now : (s : ℕ) → s < b.sectors → OriginMay b from s (sector_at (bytes 0) s)
  pub store_now : (s : ℕ) → s < b.size → StoreMay b from s (sector_at (bytes 1) s)

-- each stop since left what a stop before might have left, or what still shows the snapshot, and so does one now
pub record Passes (b : Begin) (before now : ℕ) (past since : ℕ → (ℕ → List ℕ) → Type 0) (known : Type 0) (bytes : ℕ → List ℕ) (may_hold : ℕ → ℕ → List ℕ → Type 0) : Type 0 where
  pub is_known : known
  pub from : ℕ
  pub reach : from ≤ length (pairs b) / (32 * b.chunk) + 1
  pub leaves : Leaves b from bytes may_hold
  pub later : before ≤ now
  pub only : (t : ℕ) (left : ℕ → List ℕ) → t ≤ before → since t left → past t left ⊎ StillShows b.chunk b.sectors b.size b.origin b.store left

-- it is one of the store's pairs
abbrev pub IsPairOf : Begin → Pair → Type 0
IsPairOf b pair = (k : ℕ) × (k < length (pairs b)) × ((d : Pair) → slice_index_or (pairs b) k d ≡ pair)

-- so many copies in a row, of which a pair has the first, are those of the store's pairs
abbrev pub AreInRow : Begin → Pair → ℕ → Type 0
AreInRow b pair count = (q : ℕ) → q < count → (p : Pair) × IsPairOf b p × (p.old ≡ pair.old + q) × (p.new ≡ pair.new + q)

-- the pairs of areas below one, from slot `low` on and below `high`, stand in a list
abbrev pub AreGathered : Begin → ℕ → List Pair → ℕ → ℕ → Type 0
AreGathered b from list low high = (k : ℕ) (d : Pair) → low ≤ k → k < high → k < from * (32 * b.chunk) → k < length (pairs b) → Contains list (slice_index_or (pairs b) k d)

-- a sector of the origin is the array's, and a sync makes it last
abbrev pub IsSafe : Begin → List ℕ → (ℕ → ℕ → Type 0) → ℕ → Type 0
IsSafe b origin will_last s = (sector_at origin s ≡ sector_at (array b) s) × will_last 0 s

-- so are the sectors of a chunk
abbrev pub IsBack : Begin → List ℕ → (ℕ → ℕ → Type 0) → ℕ → Type 0
IsBack b origin will_last c = (s : ℕ) → s < b.sectors → s / b.chunk ≡ c → IsSafe b origin will_last s

-- so are those of all chunks that the pairs of areas below one name, from slot `low` on and below `high`
abbrev pub AreBack : Begin → ℕ → List ℕ → (ℕ → ℕ → Type 0) → ℕ → ℕ → Type 0
AreBack b from origin will_last low high = (k : ℕ) (d : Pair) → low ≤ k → k < high → k < from * (32 * b.chunk) → k < length (pairs b) → IsBack b origin will_last (slice_index_or (pairs b) k d).old

-- the origin is written, so that sectors that are safe stay so
pub record Copies (b : Begin) (from : ℕ) (known : Type 0) (bytes bytes' : ℕ → List ℕ) (may_hold may_hold' : ℕ → ℕ → List ℕ → Type 0) (will_last will_last' : ℕ → ℕ → Type 0) : Type 0 where
  pub rolls : Rolls b from known bytes' may_hold'
  pub store : (s : ℕ) (v : List ℕ) → may_hold' 1 s v → may_hold 1 s v
  pub keeps : (s : ℕ) → s < b.sectors → IsSafe b (bytes 0) will_last s → IsSafe b (bytes' 0) will_last' s

-- an area is zeros, and a sync makes it last
abbrev pub IsZero : ℕ → List ℕ → (ℕ → ℕ → Type 0) → ℕ → Type 0
IsZero chunk store will_last area = (s : ℕ) → s < chunk → (sector_at store (chunk * area_place chunk area + s) ≡ replicate 512 0) × will_last 1 (chunk * area_place chunk area + s)

-- the store's areas are zeroed, so that zeros stay zeros
pub record Clears (b : Begin) (from : ℕ) (known : Type 0) (bytes bytes' : ℕ → List ℕ) (may_hold may_hold' : ℕ → ℕ → List ℕ → Type 0) (will_last will_last' : ℕ → ℕ → Type 0) : Type 0 where
  pub rolls : Rolls b from known bytes' may_hold'
  pub stop : (s : ℕ) (v : List ℕ) → may_hold' 1 s v → may_hold 1 s v ⊎ (v ≡ replicate 512 0)
  pub keeps : (area : ℕ) → IsZero b.chunk (bytes 1) will_last area → IsZero b.chunk (bytes' 1) will_last' area

-- a stop leaves zeros of an area
abbrev pub IsGone : ℕ → (ℕ → ℕ → List ℕ → Type 0) → ℕ → Type 0
IsGone chunk may_hold area = (s : ℕ) (v : List ℕ) → s < chunk → may_hold 1 (chunk * area_place chunk area + s) v → v ≡ replicate 512 0

-- each value that a stop may leave of a sector that a sync made last is what is there
abbrev pub IsSynced : (ℕ → List ℕ) → (ℕ → ℕ → List ℕ → Type 0) → (ℕ → ℕ → Type 0) → ℕ → Type 0
IsSynced bytes may_hold will_last file = (s : ℕ) (v : List ℕ) → 512 * s < length (bytes file) → will_last file s → may_hold file s v → v ≡ sector_at (bytes file) s

-- files that hold what they held, and are synced
pub record Settles (known : Type 0) (bytes bytes' : ℕ → List ℕ) (may_hold may_hold' : ℕ → ℕ → List ℕ → Type 0) (will_last : ℕ → ℕ → Type 0) : Type 0 where
  pub is_known : known
  pub origin : bytes' 0 ≡ bytes 0
  pub store : bytes' 1 ≡ bytes 1
  pub stop : (f s : ℕ) (v : List ℕ) → may_hold' f s v → may_hold f s v
  pub origin_synced : IsSynced bytes may_hold' will_last 0
  pub store_synced : IsSynced bytes may_hold' will_last 1

-- each stop since left what a stop might have left before
pub record Stays (before now : ℕ) (past since : ℕ → (ℕ → List ℕ) → Type 0) (bytes : ℕ → List ℕ) (may_hold : ℕ → ℕ → List ℕ → Type 0) : Type 0 where
  pub later : before ≤ now
  pub only : (t : ℕ) (left : ℕ → List ℕ) → t ≤ before → since t left → past t left ⊎ AreLeft bytes may_hold left

-- no pair is left: the origin is the array, and the store's areas up to one are zeros, whatever a stop leaves
pub record Ends (b : Begin) (last : ℕ) (known : Type 0) (bytes : ℕ → List ℕ) (may_hold : ℕ → ℕ → List ℕ → Type 0) : Type 0 where
  pub rolls : Rolls b 0 known bytes may_hold
  pub gone : (area : ℕ) → area ≤ last → IsGone b.chunk may_hold area
