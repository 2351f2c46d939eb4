-- Which store was found to have overflowed, by a write that was refused.
use Rattle.std.specs.Prelude.{◌≡◌, ◌⊎◌, ◌==◌, ◌&&◌, ℕ, Bool, true, false, List, [], ◌∷◌, ◌++◌, Some, map, slice_index_or, slice_set}
use Rattle.std.specs.List.{position}
use Rattle.plain_machine.specs.Plain.{Entry as ShownEntry, did_overflow}
use Rattle.plain_machine.specs.declared.request.Dev.{Dev}
use Rattle.plain_machine.specs.declared.request.Dev.TheVariants.{Snap}
use Rattle.audited_volume.specs.declared.entry.Entry.{Entry}
use Rattle.audited_volume.specs.declared.entry.Entry.TheVariants.{Overflowed}

-- whether a snapshot's store overflowed
abbrev pub is_marked : ShownEntry → Bool
is_marked e = did_overflow e.overflow

-- whether that of the snapshot at a place did, which was live when it was looked at last, and could overflow
abbrev pub is_new_mark : List ShownEntry → List Bool → List Bool → ℕ → Bool
is_new_mark saved lives may place =
    slice_index_or lives place false && slice_index_or may place false && slice_index_or (map is_marked saved) place false

-- a device is the snapshot with a number, which stands at a place
abbrev pub IsPlaced : Dev → List ShownEntry → ℕ → ℕ → Type 0
IsPlaced dev saved number place = (dev ≡ Snap number) × (position (λ e. e.number == number) saved ≡ Some place)

-- The mark of a device is noted, if it is new.
abbrev pub IsMarkNoted : Dev → List ShownEntry → List Bool → List Bool → List Bool → List Entry → List Entry → Type 0
IsMarkNoted dev saved lives may may' entries entries' =
    ((number : ℕ) × (place : ℕ) × IsPlaced dev saved number place × (is_new_mark saved lives may place ≡ true) × (may' ≡ slice_set may place false) × (entries' ≡ entries ++ Overflowed number ∷ []))
    ⊎ (((number : ℕ) (place : ℕ) → IsPlaced dev saved number place → is_new_mark saved lives may place ≡ false) × (may' ≡ may) × (entries' ≡ entries))
