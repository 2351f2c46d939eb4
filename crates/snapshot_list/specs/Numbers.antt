-- The numbers of snapshots and of their copies.
use Rattle.std.specs.Prelude.{ℕ, ◌-◌, List, ◌++◌, length, map, Option, None, Some}
use Rattle.in_flight.specs.Due.{number_of_copy, number_of_mark}
use Rattle.snapshot.specs.Kept.{Kept}

abbrev pub number_of_snap : {B : Type 0} → Kept B → ℕ
number_of_snap s = s.number

-- the numbers of a snapshot's copies that are not published, those that are committed first
abbrev pub numbers_in : {B : Type 0} → Kept B → List ℕ
numbers_in s = map number_of_mark s.marks ++ map number_of_copy s.copies

-- whether one of them is a merge's, which a snapshot has one of at most
abbrev pub merged_count : Option ℕ → ℕ
merged_count None = 0
merged_count (Some n) = 1

-- how many requests started: a merge's is none of them
abbrev pub count_in : {B : Type 0} → Kept B → ℕ
count_in s = length (numbers_in s) - merged_count s.merging
