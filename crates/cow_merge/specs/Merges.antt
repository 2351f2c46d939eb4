-- To be believed: a merge's clauses are said in these words.
-- What a stop may leave of an origin and its store while the store's copies are taken back, and what is there in the end. The
-- files are an origin's under 0 and a store's under 1. The format is that of dm-snap-persistent.c; the rest is this project's.
use Rattle.std.specs.Prelude.{◌≡◌, ◌≢◌, ◌⊎◌, ℕ, ◌+◌, ◌*◌, ◌/◌, ◌<◌, ◌≤◌, List, [], length, replicate, take, None}
use Rattle.sector.specs.Bytes.{sector_at}
use Rattle.cow_format.specs.Places.{area_place}
use Rattle.cow_format.specs.Pairs.{pairs_of}
use Rattle.cow_format.specs.Picture.{place_of, picture}
use Rattle.crash_laws.specs.Again.{LoadsAgain}

-- a sector of one of the areas from one on
pub record IsInArea (chunk from s : ℕ) : Type 0 where
  pub area : ℕ
  pub sector : ℕ
  pub low : from ≤ area
  pub inside : sector < chunk
  pub is : s ≡ chunk * area_place chunk area + sector

-- A sector of the origin, of whose store the pairs from slot n on are copied back: it is the snapshot's, or as it was where
-- one of the first n pairs is its chunk's.
abbrev pub IsOriginOf : ℕ → ℕ → List ℕ → List ℕ → ℕ → List ℕ → Type 0
IsOriginOf chunk n origin store s v = (v ≡ sector_at (picture chunk origin store) s) ⊎ ((v ≡ sector_at origin s) × (place_of (take n (pairs_of chunk store)) (s / chunk) ≢ None))

-- A sector of the store, whose areas from one on may be zeroed.
abbrev pub IsStoreOf : ℕ → ℕ → List ℕ → ℕ → List ℕ → Type 0
IsStoreOf chunk from store s v = (v ≡ sector_at store s) ⊎ ((v ≡ replicate 512 0) × IsInArea chunk from s)

-- Files of an origin and a store in the middle of their merge, which has come down to the area `from`: so they are as reads
-- give them, and so is all that a stop may leave, but for what the next sync does away with. Before the merge `from` comes
-- behind the last area that has pairs.
pub record IsMerging (chunk sectors size from : ℕ) (origin store : List ℕ) (bytes : ℕ → List ℕ) (may_hold : ℕ → ℕ → List ℕ → Type 0) (will_last : ℕ → ℕ → Type 0) : Type 0 where
  pub loads : LoadsAgain chunk sectors size store
  pub origin_whole : length origin ≡ 512 * sectors
  pub store_whole : length store ≡ 512 * size
  pub reach : from ≤ length (pairs_of chunk store) / (32 * chunk) + 1
  pub origin_long : length (bytes 0) ≡ 512 * sectors
  pub store_long : length (bytes 1) ≡ 512 * size
  pub origin_now : (s : ℕ) → s < sectors → IsOriginOf chunk (from * (32 * chunk)) origin store s (sector_at (bytes 0) s)
  pub store_now : (s : ℕ) → s < size → IsStoreOf chunk from store s (sector_at (bytes 1) s)
  pub origin_may : (s : ℕ) (v : List ℕ) → s < sectors → may_hold 0 s v → will_last 0 s ⊎ IsOriginOf chunk (from * (32 * chunk)) origin store s v
  pub store_may : (s : ℕ) (v : List ℕ) → s < size → may_hold 1 s v → will_last 1 s ⊎ IsStoreOf chunk from store s v

-- Files that still show the snapshot that an origin and a store showed, whose sectors are so many: the store is loaded, with
-- the first of its pairs; the array is the same; of the origin only chunks that have pairs are changed, and only to what
-- the snapshot shows there; of the store only sectors of areas, and only to zeros.
pub record StillShows (chunk sectors size : ℕ) (origin store : List ℕ) (left : ℕ → List ℕ) : Type 0 where
  pub loads : LoadsAgain chunk sectors size (left 1)
  pub pairs : (m : ℕ) × (m ≤ length (pairs_of chunk store)) × (pairs_of chunk (left 1) ≡ take m (pairs_of chunk store))
  pub shows : picture chunk (left 0) (left 1) ≡ picture chunk origin store
  pub origin_only : (s : ℕ) → s < sectors → (sector_at (left 0) s ≡ sector_at origin s) ⊎ ((place_of (pairs_of chunk store) (s / chunk) ≢ None) × (sector_at (left 0) s ≡ sector_at (picture chunk origin store) s))
  pub store_only : (s : ℕ) → s < size → (sector_at (left 1) s ≡ sector_at store s) ⊎ (IsInArea chunk 0 s × (sector_at (left 1) s ≡ replicate 512 0))

-- Files after the whole merge: the origin is the array, the store has no pair, its areas up to the one that had the first
-- empty slot are zeros, and every other sector of it is as it was, or zero in a later area.
pub record IsMerged (chunk size last : ℕ) (origin store : List ℕ) (left : ℕ → List ℕ) : Type 0 where
  pub array : left 0 ≡ picture chunk origin store
  pub none : pairs_of chunk (left 1) ≡ []
  pub zeros : (area s : ℕ) → area ≤ last → s < chunk → sector_at (left 1) (chunk * area_place chunk area + s) ≡ replicate 512 0
  pub rest : (s : ℕ) → s < size → (sector_at (left 1) s ≡ sector_at store s) ⊎ (IsInArea chunk 0 s × (sector_at (left 1) s ≡ replicate 512 0))
