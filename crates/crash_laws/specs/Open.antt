-- What a sector of a snapshot's array may be after a stop, of what the origin disk and the store may hold.
use Rattle.std.specs.Prelude.{◌⊎◌, ℕ, ◌+◌, ◌*◌, ◌/◌, ◌%◌, List, take, Option, Some, None}
use Rattle.sector.specs.declared.pair.Pair.{Pair}
use Rattle.cow_format.specs.Picture.{place_of}

-- A sector whose chunk surely has a copy at this place, or else may have one, or has none.
abbrev pub MayShowAt : (ℕ → List ℕ → Type 0) → (ℕ → List ℕ → Type 0) → ℕ → ℕ → Option ℕ → Option ℕ → List ℕ → Type 0
MayShowAt origin_holds store_holds chunk s (Some n) maybe v = store_holds (chunk * n + s % chunk) v
MayShowAt origin_holds store_holds chunk s None (Some n) v = store_holds (chunk * n + s % chunk) v ⊎ origin_holds s v
MayShowAt origin_holds store_holds chunk s None None v = origin_holds s v

-- by the pairs that are surely there, the first of these
abbrev pub MayShow : (ℕ → List ℕ → Type 0) → (ℕ → List ℕ → Type 0) → ℕ → ℕ → List Pair → ℕ → List ℕ → Type 0
MayShow origin_holds store_holds chunk certain pairs s v =
    MayShowAt origin_holds store_holds chunk s (place_of (take certain pairs) (s / chunk)) (place_of pairs (s / chunk)) v
