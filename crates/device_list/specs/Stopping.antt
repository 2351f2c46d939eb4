-- A volume that was stopped, as far as its stacks are not taken yet. This project's own.
use Rattle.std.specs.Prelude.{◌≡◌, ℕ, zero, suc, nat_lt, List, [], ◌∷◌, map, Option, Some, None, if◌then◌else◌}
use Rattle.layers.specs.declared.stack.Stack.{Stack}
use Rattle.layers.specs.Stack.{stack_durable}
use Rattle.volume_commands.specs.Rested.{Attached}
use Rattle.command_semantics.specs.Stacks.{device_of}
use Rattle.command_semantics.specs.State.{Stacked, Names}
use Rattle.command_semantics.specs.Losing.{lasting}
use Rattle.command_semantics.specs.Stopping.{freed}
use Rattle.device_list.specs.Backed.{Left}

abbrev pub store_names : Names → List (List ℕ)
store_names names = names.store

-- the names of the stores, those of the one that is being merged after so many others, or last
abbrev pub names_among : ℕ → List (List ℕ) → List Names → List (List (List ℕ))
names_among before merging [] = merging ∷ []
names_among zero merging (n ∷ names) = merging ∷ store_names n ∷ map store_names names
names_among (suc before) merging (n ∷ names) = store_names n ∷ names_among before merging names

abbrev pub names_with : ℕ → Option Names → List Names → List (List (List ℕ))
names_with before None names = map store_names names
names_with before (Some merging) names = names_among before merging.store names

-- the same after those of the stack under the origin, while it is left
abbrev pub names_left : Option (List (List ℕ)) → List (List (List ℕ)) → List (List (List ℕ))
names_left None stores = stores
names_left (Some under) stores = under ∷ stores

-- stacks by their names and their devices
abbrev pub freed_by : List (List (List ℕ)) → List Stack → List Stacked
freed_by [] devices = []
freed_by (n ∷ names) [] = []
freed_by (n ∷ names) (d ∷ devices) = freed n (device_of d) ∷ freed_by names devices

-- how many of the snapshots were attached before the one of a number
abbrev pub earlier : ℕ → List (Attached Stack) → ℕ
earlier number [] = 0
earlier number (s ∷ snaps) = if nat_lt number s.number then 0 else suc (earlier number snaps)

abbrev pub earlier_than : Option ℕ → List (Attached Stack) → ℕ
earlier_than None snaps = 0
earlier_than (Some number) snaps = earlier number snaps

-- The first stack of those that are left is taken, and its bytes are what was durable in its device: it has its names and its layers,
-- and no mark.
pub record IsTakenLost (stack : Stacked) (old new : Left) : Type 0 where
  pub was : Stacked
  pub device : Stack
  pub shown : old.shown ≡ was ∷ new.shown
  pub devices : old.devices ≡ device ∷ new.devices
  pub lasts : lasting stack ≡ lasting was
  pub bytes : stack.device.bytes ≡ stack_durable device
