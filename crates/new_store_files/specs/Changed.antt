-- To be believed: what `store` writes is said in these words.
-- Chunks in which two arrays differ.
use Rattle.std.specs.Prelude.{◌≡◌, ◌≢◌, ℕ, ◌<◌, List, None}
use Rattle.std.specs.List.{All}
use Rattle.sector.specs.declared.pair.Pair.{Pair}
use Rattle.cow_format.specs.Places.{chunk_at}
use Rattle.cow_format.specs.Pairs.{pairs_of, AreWellFormed}
use Rattle.cow_format.specs.Picture.{place_of, picture}
use Rattle.cow_image.specs.Sorted.{IsRisingBy, old_of}
use Rattle.cow_image.specs.Maps.{IsSound}

-- a chunk is the same in both, or another; the last one may be short
abbrev pub IsKept : ℕ → List ℕ → List ℕ → ℕ → Type 0
IsKept chunk origin array c = chunk_at chunk array c ≡ chunk_at chunk origin c

abbrev pub IsChanged : ℕ → List ℕ → List ℕ → ℕ → Type 0
IsChanged chunk origin array c = chunk_at chunk array c ≢ chunk_at chunk origin c

-- a pair of a chunk that differs with itself
pub record IsOwnPair (chunk : ℕ) (origin array : List ℕ) (end : ℕ) (pair : Pair) : Type 0 where
  pub same : pair.new ≡ pair.old
  pub inside : pair.old < end
  pub changed : IsChanged chunk origin array pair.old

-- the chunks below an end in which two arrays differ, in their order, each as a pair with itself
pub record AreChanged (chunk : ℕ) (origin array : List ℕ) (end : ℕ) (pairs : List Pair) : Type 0 where
  pub rising : IsRisingBy old_of pairs
  pub each : All (IsOwnPair chunk origin array end) pairs
  pub others : (c : ℕ) → c < end → place_of pairs c ≡ None → IsKept chunk origin array c

-- A store whose snapshot over an origin of so many sectors is an array, with copies of just the chunks that differ.
pub record IsStoreBetween (chunk size : ℕ) (origin array bytes : List ℕ) : Type 0 where
  pub shows : picture chunk origin bytes ≡ array
  pub only : All (λ pair. IsChanged chunk origin array pair.old) (pairs_of chunk bytes)
  pub loads : (sectors : ℕ) × IsSound bytes chunk sectors × AreWellFormed chunk size sectors (pairs_of chunk bytes)
