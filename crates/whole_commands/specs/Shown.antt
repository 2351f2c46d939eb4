-- What snapshots show before and after a request: a snapshot that is live afterwards shows what it showed. The kernel's
-- admin-guide page on snapshots says in words that a snapshot keeps the origin's old contents.
use Rattle.std.specs.Prelude.{◌≡◌, ℕ, true, List, [], ◌∷◌}
use Rattle.whole_commands.specs.Snaps.{Snap, shown}

-- over an origin disk with these bytes before, and with those after
abbrev pub ShowTheSame : List ℕ → List ℕ → List Snap → List Snap → Type 0
ShowTheSame before after [] [] = Unit {0}
ShowTheSame before after [] (t ∷ ts) = ⊥
ShowTheSame before after (s ∷ ss) [] = ⊥
ShowTheSame before after (s ∷ ss) (t ∷ ts) = (t.live ≡ true → shown after t ≡ shown before s) × ShowTheSame before after ss ts
