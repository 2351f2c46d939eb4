-- What a snapshot shows, by its pairs.
use Rattle.std.specs.Prelude.{◌≡◌, ℕ, List, ◌++◌, map}
use Rattle.std.specs.List.{range_with_len}
use Rattle.sector.specs.declared.pair.Pair.{Pair}
use Rattle.cow_format.specs.Picture.{picture_at}

-- so many bytes of the picture by these pairs, from one on
abbrev pub shown : ℕ → List ℕ → List ℕ → List Pair → ℕ → ℕ → List ℕ
shown chunk origin store pairs from count = map (picture_at chunk origin store pairs) (range_with_len from count)

-- the front of a list
abbrev pub IsFrontOf : List ℕ → List ℕ → Type 0
IsFrontOf front whole = (rest : List ℕ) × (front ++ rest ≡ whole)
