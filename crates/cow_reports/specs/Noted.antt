-- What is noted of a store's slots: of those that are not empty, in their order, in areas of so many slots.
use Rattle.std.specs.Prelude.{ℕ, ◌+◌, ◌*◌, ◌==◌, Bool, List, [], ◌∷◌, length, drop, Option, Some, None, if◌then◌else◌}
use Rattle.cow_salvage.specs.declared.using.Slot.{Slot}
use Rattle.cow_reports.specs.declared.notes.Notes.{Notes}
use Rattle.cow_reports.specs.declared.notes.Behind.{Behind}

-- how many of them follow one another, the first of which has this number
abbrev pub row_from : ℕ → List Slot → ℕ
row_from number [] = 0
row_from number (slot ∷ slots) = if slot.number == number then row_from (number + 1) slots + 1 else 0

-- how many stand before the first empty slot
abbrev pub front_by : List Slot → ℕ
front_by used = row_from 0 used

-- where all slots of so many areas stand there, the next area lacks: it would have the first empty slot
abbrev pub lacks_by : ℕ → ℕ → ℕ → Option ℕ
lacks_by areas slots front = if areas * slots == front then Some areas else None

-- how many these are, and the number of the first
abbrev pub first_by : List Slot → Option Behind
first_by [] = None
first_by (slot ∷ slots) = Some (record { count = length (slot ∷ slots); first = slot.number })

-- those behind the first empty slot, where they are not taken
abbrev pub behind_by : List Slot → Bool → Option Behind
behind_by used taken = if taken then None else first_by (drop (front_by used) used)

abbrev pub notes_by : ℕ → List Slot → ℕ → Bool → Notes
notes_by areas used slots taken = record {
  lacks = lacks_by areas slots (front_by used);
  behind = behind_by used taken;
}
