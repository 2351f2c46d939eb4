-- How the areas of a store end.
use Rattle.std.specs.Prelude.{◌≡◌, ℕ, ◌<◌, List, ⊤}
use Rattle.sector.specs.declared.pair.Pair.{Pair}
use Rattle.cow_format.specs.Pairs.{pairs_of}
use Rattle.cow_image.specs.declared.reading.Listed.{Listed}
use Rattle.cow_image.specs.declared.reading.Listed.TheVariants.{Ends, Lacks}
use Rattle.cow_image.specs.Judged.{IsLacking}
use Rattle.cow_image.specs.Loaded.{IsRead}

-- a list of pairs that ends in an area, or goes on where no area is
abbrev pub IsListedIn : ℕ → ℕ → List ℕ → List Pair → List ℕ → Listed → Type 0
IsListedIn chunk size bytes pairs area (Ends current) = IsRead chunk size bytes current pairs area
IsListedIn chunk size bytes pairs area (Lacks a) = IsLacking chunk size (pairs_of chunk bytes) a

-- these are all pairs of a store, or an area is not there
abbrev pub IsListedBy : ℕ → ℕ → List ℕ → List Pair → Listed → Type 0
IsListedBy chunk size bytes pairs (Ends current) = pairs_of chunk bytes ≡ pairs
IsListedBy chunk size bytes pairs (Lacks a) = IsLacking chunk size (pairs_of chunk bytes) a

-- the area where a list ends has a number less than this
abbrev pub EndsBelow : ℕ → Listed → Type 0
EndsBelow size (Ends current) = current < size
EndsBelow size (Lacks a) = ⊤
