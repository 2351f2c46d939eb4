-- To be believed: what `repair` and `store` write is said in these words.
-- A new store, of pairs whose new chunks are chunks of another image. The format is that of dm-snap-persistent.c; that places
-- are handed out in the order of the slots is its allocator's way.
use Rattle.std.specs.Prelude.{◌≡◌, ℕ, ◌+◌, ◌*◌, ◌/◌, ◌<◌, ◌≤◌, List, [], ◌∷◌, length, slice_index_or, true}
use Rattle.std.specs.List.{All}
use Rattle.sector.specs.declared.pair.Pair.{Pair}
use Rattle.cow_format.specs.Places.{chunk_at, slot}
use Rattle.cow_format.specs.Pairs.{pairs_of, AreWellFormed}
use Rattle.cow_format.specs.Picture.{picture}
use Rattle.cow_header.specs.HeaderText.{header_bytes}
use Rattle.metadata_area.specs.Cleared.{no_pair}
use Rattle.cow_image.specs.Shown.{shown}
use Rattle.cow_image.specs.Maps.{IsSound}
use Rattle.cow_image.specs.Sorted.{old_of}
use Rattle.cow_salvage.specs.Order.{StandOnce}

-- the place of the copy in slot k: the chunks from 2 on, but the areas', in their order
abbrev pub place_at : ℕ → ℕ → ℕ
place_at chunk k = k + k / (32 * chunk) + 2

-- these pairs with their places, the first of them in slot k
abbrev pub placed_from : ℕ → ℕ → List Pair → List Pair
placed_from chunk k [] = []
placed_from chunk k (pair ∷ pairs) = record { old = pair.old; new = place_at chunk k } ∷ placed_from chunk (k + 1) pairs

-- The store of these pairs, with its copies from an image's chunks. Each of its bytes is one of a header, a slot or a copy.
pub record IsStoreOf (chunk : ℕ) (image : List ℕ) (pairs : List Pair) (bytes : List ℕ) : Type 0 where
  pub whole : length bytes ≡ 512 * (chunk * place_at chunk (length pairs))
  pub header : chunk_at chunk bytes 0 ≡ header_bytes (512 * chunk) true chunk
  pub listed : pairs_of chunk bytes ≡ placed_from chunk 0 pairs
  -- the other slots of the last area are empty
  pub clean : (k : ℕ) → length pairs ≤ k → k < length pairs / (32 * chunk) * (32 * chunk) + 32 * chunk → slot chunk bytes k ≡ no_pair
  pub copied : (k : ℕ) (d : Pair) → k < length pairs → chunk_at chunk bytes (place_at chunk k) ≡ chunk_at chunk image (slice_index_or pairs k d).new

-- A load accepts it, for each origin in which all old chunks begin, where none stands twice; and over each origin it shows what
-- the pairs show over the image.
pub record IsGoodStore (chunk : ℕ) (image : List ℕ) (pairs : List Pair) (bytes : List ℕ) : Type 0 where
  pub sound : IsSound bytes chunk (chunk * place_at chunk (length pairs))
  pub formed : (origin : ℕ) → All (λ pair. chunk * pair.old < origin) pairs → StandOnce old_of pairs → AreWellFormed chunk origin (chunk * place_at chunk (length pairs)) (pairs_of chunk bytes)
  pub shows : (origin : List ℕ) → picture chunk origin bytes ≡ shown chunk origin image pairs 0 (length origin)

-- The store of the pairs that are kept of a damaged one: no old chunk stands twice.
pub record IsRepairOf (chunk : ℕ) (image : List ℕ) (kept : List Pair) (bytes : List ℕ) : Type 0 where
  pub store : IsStoreOf chunk image kept bytes
  pub good : IsGoodStore chunk image kept bytes
  pub once : StandOnce old_of kept
