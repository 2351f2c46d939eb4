-- A volume with the names of its devices, taken apart into the names and the volume, and made of both again. This project's own.
use Rattle.std.specs.Prelude.{◌≡◌, ◌+◌, ◌≤◌, ℕ, suc, sum_by, max, Bool, true, List, length, slice_get, Option, None, is_some}
use Rattle.std.specs.List.{remove}
use Rattle.layers.specs.declared.stack.Stack.{Stack}
use Rattle.layers.specs.Stack.{stack_layers}
use Rattle.volume.specs.Asking.{merging_number}
use Rattle.volume.specs.Leaving.{is_quiet_of}
use Rattle.volume_commands.specs.Rested.{Rested, is_loud_in}
use Rattle.command_semantics.specs.Naming.{merging_sum, names_sum}
use Rattle.command_semantics.specs.State.{Names, Volume}
use Rattle.device_list.specs.Backed.{Backed}
use Rattle.device_list.specs.Held.{flying_in, merging_with, settled_in}
use Rattle.device_list.specs.Stopping.{earlier_than}

-- the names, the mark and the count of sectors, and whether no device drops writes
pub record Parts : Type 0 where
  pub origin : List ℕ
  pub under : List (List ℕ)
  pub stale : Bool
  pub snaps : List Names
  pub merging : Option Names
  pub asked : ℕ
  pub sound : Bool

-- a number for each name, added up over all of them
abbrev pub parts_sum : (List ℕ → ℕ) → Parts → ℕ
parts_sum f p = f p.origin + sum_by f p.under + sum_by (names_sum f) p.snaps + merging_sum f p.merging

-- a volume under these names
abbrev pub named_with : Parts → Rested Stack → Volume
named_with p v = record { origin = p.origin; under = p.under; stale = p.stale; snaps = p.snaps; merging = merging_with p.merging v; state = settled_in v; given = v.attached; asked = p.asked; sound = p.sound; quiet = is_quiet_of v.events; flying = flying_in v.events }

abbrev pub backed_with : Parts → Rested Stack → Backed
backed_with p v = record { shown = named_with p v; events = v.events }

-- There is a name for each snapshot, and names for the merge exactly where one is begun.
pub record HasAll (p : Parts) (v : Rested Stack) : Type 0 where
  pub many : length p.snaps ≡ length v.snaps
  pub begun : is_some p.merging ≡ is_some v.events.merge

-- There is one name more than there are snapshots: one of them is being merged, and none was.
pub record HasBegun (p : Parts) (v : Rested Stack) : Type 0 where
  pub many : length p.snaps ≡ suc (length v.snaps)
  pub was : p.merging ≡ None
  pub begun : is_some v.events.merge ≡ true

-- how the parts of a volume fit each other
pub record IsParted (p : Parts) (v : Rested Stack) : Type 0 where
  pub all : HasAll p v
  pub requests : v.requests ≤ p.asked
  pub loud : p.sound ≡ true → is_loud_in stack_layers v ≡ true

-- no fewer sectors were asked for than there were requests
abbrev pub with_requests : ℕ → Parts → Parts
with_requests requests p = record p { asked = max p.asked requests }

-- how many of the snapshots were attached before the one that is being merged: its place among their names
abbrev pub place_begun : Rested Stack → ℕ
place_begun v = earlier_than (merging_number v.events.merge) v.snaps

-- the name of the snapshot at that place is the merge's now
abbrev pub with_begun : ℕ → Parts → Parts
with_begun k p = record p { snaps = remove p.snaps k; merging = slice_get p.snaps k }

-- there are names for each of its snapshots
abbrev pub NamesAll : {A B : Type 0} → List A → Rested B → Type 0
NamesAll names volume = length names ≡ length volume.snaps
