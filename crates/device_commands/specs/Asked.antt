-- Of which volume a journal is full, and how much that was asked for. This project's own.
use Rattle.std.specs.Prelude.{◌≡◌, ℕ, Bool, true, false, List, Option, Some, None, Result, Ok, Err, IfErr}
use Rattle.sector.specs.declared.refusal.Refusal.{Refusal}
use Rattle.sector.specs.declared.refusal.Refusal.TheVariants.{JournalFull}
use Rattle.command_semantics.specs.State.{Volume, Table}
use Rattle.command_semantics.specs.Places.{place_of, found, volume_at}
use Rattle.device_list.specs.Asked.{has_asked_much}
use Rattle.device_list.specs.Tables.{table_of}
use Rattle.device_list.specs.declared.held.Devices.{Devices}
use Rattle.device_commands.specs.Ruled.{volume_with}

-- a volume that is there was asked for so much that its journal may be full
abbrev pub has_asked_much_in : Result Volume Refusal → Bool
has_asked_much_in (Err refusal) = false
has_asked_much_in (Ok volume) = has_asked_much volume

-- so was, by the end of a command, the one that had the device of a name
abbrev pub has_asked_much_for : List ℕ → Table → Table → Bool
has_asked_much_for name old new = has_asked_much_in (volume_with new (found (place_of name old)))

-- A command that takes places in the journal of the volume that has the device of a name may find that full only once that was asked for
-- so much. One that takes none, and so has no such name, never does.
abbrev pub IsAskedMuch : Option (List ℕ) → Table → Table → Type 0
IsAskedMuch None old new = ⊥
IsAskedMuch (Some name) old new = has_asked_much_for name old new ≡ true

-- JournalFull is answered only where the volume at a place, as the call leaves it, was asked for so much
abbrev pub IsFullAt : {A : Type 0} → ℕ → Result A Refusal → Devices → Type 0
IsFullAt v result held = IfErr result (λ e. e ≡ JournalFull → has_asked_much_in (volume_at v (table_of held)) ≡ true)

-- or the one that had the device of a name
abbrev pub IsFullFor : {A : Type 0} → List ℕ → Result A Refusal → Devices → Devices → Type 0
IsFullFor name result old new = IfErr result (λ e. e ≡ JournalFull → has_asked_much_for name (table_of old) (table_of new) ≡ true)
