-- How the calls of a file end.
use Rattle.std.specs.Prelude.{◌≡◌, Bool, false, List, ◌∷◌}
use Rattle.file_calls.specs.Calls.{Call, Sync}

-- the newest call is a sync that was answered
abbrev pub is_synced : List Call → Bool
is_synced (Sync done promised ∷ calls) = done
is_synced calls = false

-- one call more was made, a sync
abbrev pub IsAsked : List Call → List Call → Type 0
IsAsked old new = new ≡ Sync (is_synced new) false ∷ old
