-- The bytes of a text, wherever they stand.
use Rattle.std.specs.Prelude.{ℕ, List, [], ◌∷◌}

abbrev pub bytes_in : List ℕ → List ℕ → List ℕ
bytes_in short [] = short
bytes_in short (byte ∷ more) = byte ∷ more
