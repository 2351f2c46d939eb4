-- To be believed: `run`'s output, a volume's steps or its attach are said in these words.
-- The pairs that a store holds, read from its raw bytes: the format of dm-snap-persistent.c.
use Rattle.std.specs.Prelude.{◌≡◌, ◌≢◌, ◌==◌, ℕ, zero, suc, ◌+◌, ◌*◌, ◌/◌, ◌<◌, ◌≤◌, List, [], ◌∷◌, length, if◌then◌else◌, slice_index_or, AllPairs, false}
use Rattle.std.specs.List.{All}
use Rattle.sector.specs.declared.pair.Pair.{Pair}
use Rattle.cow_format.specs.Places.{slot, is_area_place, area_place}

-- the slots from k on up to the first whose new chunk is 0, at most n of them
abbrev pub listed : (ℕ → Pair) → ℕ → ℕ → List Pair
listed slot zero k = []
listed slot (suc n) k = if (slot k).new == 0 then [] else (slot k ∷ listed slot n (k + 1))

-- The pairs of a store: areas 0, 1, .. joined, up to the first slot whose new chunk is 0. Bytes past the end count as 0,
-- so a store has fewer pairs than bytes.
unfoldable pub pairs_of : ℕ → List ℕ → List Pair
pairs_of chunk bytes = listed (slot chunk bytes) (length bytes) 0

-- slots that hold this list and then end
pub record IsListed (slot : ℕ → Pair) (pairs : List Pair) : Type 0 where
  pub each : (k : ℕ) (d : Pair) → k < length pairs → slot k ≡ slice_index_or pairs k d
  pub valid : (k : ℕ) → k < length pairs → (slot k).new ≢ 0
  pub ends : (slot (length pairs)).new ≡ 0

-- two pairs have no chunk in common
pub record IsApart (p q : Pair) : Type 0 where
  pub old : p.old ≢ q.old
  pub new : p.new ≢ q.new

-- A pair's chunks are there, for an origin and a store of so many sectors: the old one begins inside the origin, whose last
-- chunk may be short; the new one lies wholly inside the store, and is neither the header nor an area's place.
pub record IsInside (chunk origin store : ℕ) (pair : Pair) : Type 0 where
  pub old : chunk * pair.old < origin
  pub new : chunk * (pair.new + 1) ≤ store
  pub low : 0 < pair.new
  pub free : is_area_place chunk pair.new ≡ false

-- Pairs that a load accepts (this project's own rule; the kernel tests none of it).
pub record AreWellFormed (chunk origin store : ℕ) (pairs : List Pair) : Type 0 where
  pub inside : All (IsInside chunk origin store) pairs
  pub apart : AllPairs IsApart pairs
  -- each full area is followed by an area wholly inside the store: the one that the next pair goes to is there
  pub room : chunk * (area_place chunk (length pairs / (32 * chunk)) + 1) ≤ store
