-- What a store's memory and its bytes have in common.
use Rattle.std.specs.Prelude.{◌≡◌, ◌==◌, ℕ, ◌+◌, ◌*◌, ◌/◌, ◌<◌, ◌≤◌, Bool, true, false, List, ◌++◌, length, map, replicate, slice_index_or, AllPairs, if◌then◌else◌}
use Rattle.std.specs.List.{All}
use Rattle.sector.specs.declared.pair.Pair.{Pair}
use Rattle.cow_format.specs.Slots.{pair_in}
use Rattle.cow_format.specs.Places.{chunk_at, area_place}
use Rattle.cow_format.specs.Pairs.{pairs_of, IsApart, IsInside}
use Rattle.cow_format.specs.NextPlace.{IsNextPlace}
use Rattle.metadata_area.specs.Cleared.{zero_from}
use Rattle.sector.specs.Bytes.{sector_at}
use Rattle.chunk.specs.Sizes.{is_chunk}
use Rattle.cow_header.specs.HeaderText.{found_in}
use Rattle.store.specs.Headed.{head_of}
use Rattle.store.specs.Loading.{is_begun, is_settled}
use Rattle.store.specs.declared.state.Left.TheVariants.{Tail, Nothing}
use Rattle.store.specs.declared.state.State.{State}

-- The memory by itself: the committed pairs fill the areas below the current one and its first slots.
pub record IsFront (pairs : List Pair) (s : State) (area : List ℕ) : Type 0 where
  pub some : 0 < s.chunk
  pub allowed : s.chunk ≤ 1024
  pub size : is_chunk s.chunk ≡ true
  pub whole : length area ≡ 512 * s.chunk
  -- the current area lies in the store
  pub place : s.chunk * (area_place s.chunk s.current + 1) ≤ s.size
  pub count : length pairs ≡ s.current * (32 * s.chunk) + s.filled
  pub fits : s.filled ≤ 32 * s.chunk
  -- the slots after those in use are empty
  pub empty : (i : ℕ) → s.filled ≤ i → i < 32 * s.chunk → (pair_in area i).new ≡ 0
  -- while the area is to be written it has an empty slot
  pub part : is_settled s.left ≡ false → s.filled < 32 * s.chunk
  -- while copies may start there is an empty slot, to which the next pair goes
  pub next : s.copying ≡ true → s.filled < 32 * s.chunk
  pub none : is_begun s.left ≡ false → length pairs ≡ 0
  pub blank : is_begun s.left ≡ false → area ≡ replicate (512 * s.chunk) 0
  pub room : s.zeroed ≡ true → s.chunk * (area_place s.chunk (s.current + 1) + 1) ≤ s.size
  -- the next area is zeroed where it was flushed since
  pub firm : s.firm ≡ true → s.zeroed ≡ true
  -- it is marked invalid only once no write of its load is left
  pub early : s.valid ≡ false → s.left ≡ Nothing

-- The memory's area and pairs are those of the store's bytes, and the first sector says what the memory says.
pub record IsStored (bytes : List ℕ) (pairs : List Pair) (s : State) (area : List ℕ) : Type 0 where
  pub head : found_in (sector_at bytes 0) ≡ head_of s.left s.valid s.chunk
  pub listed : is_begun s.left ≡ true → pairs_of s.chunk bytes ≡ pairs
  pub holds : (i : ℕ) (d : Pair) → i < s.filled → pair_in area i ≡ slice_index_or pairs (s.current * (32 * s.chunk) + i) d
  pub here : is_settled s.left ≡ true → chunk_at s.chunk bytes (area_place s.chunk s.current) ≡ area
  pub tail : s.left ≡ Tail → zero_from (chunk_at s.chunk bytes (area_place s.chunk s.current)) (s.filled + 1) ≡ area
  pub next : s.zeroed ≡ true → chunk_at s.chunk bytes (area_place s.chunk (s.current + 1)) ≡ replicate (512 * s.chunk) 0

-- the old chunk of a pair, and the new one
abbrev pub old_of : Pair → ℕ
old_of pair = pair.old

abbrev pub new_of : Pair → ℕ
new_of pair = pair.new

-- The places that a store of so many sectors has given away, to the committed pairs and to those of copies that are under
-- way; `place` is the next, while copies may start.
pub record AreGiven (chunk origin size place : ℕ) (copying : Bool) (committed pending : List Pair) : Type 0 where
  pub inside : All (IsInside chunk origin size) (committed ++ pending)
  pub apart : AllPairs IsApart (committed ++ pending)
  -- the area of the next pair to be committed lies in the store
  pub room : chunk * (area_place chunk (length committed / (32 * chunk)) + 1) ≤ size
  pub least : copying ≡ true → IsNextPlace chunk (map new_of (committed ++ pending)) place

-- a store after so many pairs were put into its area: where they fill it, the next area is the current one
abbrev pub after_commit : State → ℕ → State
after_commit s count = if s.filled + count == 32 * s.chunk then record s { current = s.current + 1; filled = 0; zeroed = false; firm = false } else record s { filled = s.filled + count }
