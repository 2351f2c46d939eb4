-- What is asked of the file of a new store. This project's own.
use Rattle.std.specs.Prelude.{◌≡◌, ◌⊎◌, ℕ, true, false, List, ◌∷◌, Some, None}
use Rattle.file_calls.specs.Calls.{Call, Len, SetLen, Sync}

-- It was found empty, given its length, and synced, and each was answered.
abbrev pub IsMade : ℕ → List Call → List Call → Type 0
IsMade bytes old new = new ≡ Sync true false ∷ SetLen bytes true ∷ Len (Some 0) ∷ old

-- One of the three was not answered, and nothing was asked after it.
abbrev pub IsLeft : ℕ → List Call → List Call → Type 0
IsLeft bytes old new =
    (new ≡ Len None ∷ old)
    ⊎ (new ≡ SetLen bytes false ∷ Len (Some 0) ∷ old)
    ⊎ (new ≡ Sync false false ∷ SetLen bytes true ∷ Len (Some 0) ∷ old)
