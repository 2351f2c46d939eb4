-- When the program has no room for what is asked. That a full journal is one of two such reasons is this project's own.
use Rattle.std.specs.Prelude.{◌≡◌, Bool, true, false}
use Rattle.sector.specs.declared.refusal.Refusal.{Refusal}
use Rattle.sector.specs.declared.refusal.Refusal.TheVariants.{NoMemory, JournalFull}

-- memory was refused, or the journal is full
abbrev pub is_starved : Refusal → Bool
is_starved NoMemory = true
is_starved JournalFull = true
is_starved other = false

-- a call was refused for that, and changed nothing
abbrev pub IsStarved : {A : Type 0} → Refusal → A → A → Type 0
IsStarved refusal old new = (is_starved refusal ≡ true) × (new ≡ old)
