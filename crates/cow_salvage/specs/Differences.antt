-- To be believed: what `diff` tells is said in these words.
-- In which sectors two arrays differ.
use Rattle.std.specs.Prelude.{◌≡◌, ℕ, List}
use Rattle.sector.specs.Bytes.{sector_at}
use Rattle.cow_salvage.specs.declared.span.Span.{Span}
use Rattle.cow_salvage.specs.Spans.{AreJust}

-- a sector is the same in both, or another
abbrev pub IsSame : List ℕ → List ℕ → ℕ → Type 0
IsSame array origin s = sector_at array s ≡ sector_at origin s

abbrev pub Differs : List ℕ → List ℕ → ℕ → Type 0
Differs array origin s = sector_at array s ≡ sector_at origin s → ⊥

-- these spans, neighbours joined, have just the sectors below one in which the arrays differ
abbrev pub AreDifferences : List ℕ → List ℕ → ℕ → List Span → Type 0
AreDifferences array origin end spans = AreJust (Differs array origin) (IsSame array origin) end spans
