-- Which names devices have. That they differ, and that there are at most 64 devices, is this project's own.
use Rattle.std.specs.Prelude.{ℕ, ◌+◌, ◌≤◌, List, sum_by, if◌then◌else◌, Option, Some, None}
use Rattle.std.specs.Str.{bytes_eq}
use Rattle.command_semantics.specs.State.{Stacked, Names, Volume, Table, names_in}
use Rattle.command_semantics.specs.Disks.{device_count}

-- a number for each name, added up over the devices of a stack
abbrev pub stack_sum : (List ℕ → ℕ) → Stacked → ℕ
stack_sum f stacked = sum_by f stacked.names

-- over a snapshot and its store
abbrev pub names_sum : (List ℕ → ℕ) → Names → ℕ
names_sum f names = f names.snapshot + sum_by f names.store

-- over the snapshot that is being merged and its store, if there is one
abbrev pub merging_sum : (List ℕ → ℕ) → Option Names → ℕ
merging_sum f None = 0
merging_sum f (Some names) = names_sum f names

-- over the devices of a volume
abbrev pub volume_sum : (List ℕ → ℕ) → Volume → ℕ
volume_sum f volume = f volume.origin + sum_by f volume.under + sum_by (names_sum f) volume.snaps + merging_sum f (names_in volume.merging)

-- over all devices
abbrev pub table_sum : (List ℕ → ℕ) → Table → ℕ
table_sum f table = sum_by (stack_sum f) table.stacks + sum_by (volume_sum f) table.volumes

-- how many devices have a name
abbrev pub uses : List ℕ → Table → ℕ
uses name table = table_sum (λ n. if bytes_eq n name then 1 else 0) table

-- no two devices have one name, and there are at most 64
pub record AreNamed (table : Table) : Type 0 where
  pub apart : (name : List ℕ) → uses name table ≤ 1
  pub few : device_count table ≤ 64
