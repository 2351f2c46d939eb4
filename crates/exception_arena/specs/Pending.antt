-- Pending pairs, by their numbers. All is said by the first that has a number, so no fact on distinct numbers is needed.
use Rattle.std.specs.Prelude.{◌==◌, ℕ, List, [], ◌∷◌, Option, Some, None, if◌then◌else◌, map}
use Rattle.sector.specs.declared.pair.Pair.{Pair}
use Rattle.exception_arena.specs.declared.begun.Begun.{Begun}

-- the pair that has a number
abbrev pub begun_under : ℕ → List Begun → Option Pair
begun_under id [] = None
begun_under id (begun ∷ others) = if begun.id == id then Some begun.pair else begun_under id others

-- the others
abbrev pub without : ℕ → List Begun → List Begun
without id [] = []
without id (begun ∷ others) = if begun.id == id then others else (begun ∷ without id others)

-- the pairs alone
abbrev pub pair_of : Begun → Pair
pair_of begun = begun.pair

abbrev pub pairs : List Begun → List Pair
pairs all = map pair_of all
