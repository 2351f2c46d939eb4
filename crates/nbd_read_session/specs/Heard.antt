-- What a reader has left, where that is known.
use Rattle.std.specs.Prelude.{◌≡◌, ℕ, ◌<◌, List, length, Option, IfSome}
use Rattle.std.specs.Io.KnownBytes.{Consumes}

-- fewer bytes than so many
abbrev pub IsShort : Option (List ℕ) → ℕ → Type 0
IsShort known n = IfSome known (λ bytes. length bytes < n)

-- so many bytes were read
abbrev pub IsRead : Option (List ℕ) → Option (List ℕ) → ℕ → Type 0
IsRead old new n = (bytes : List ℕ) × (length bytes ≡ n) × Consumes old new bytes
