-- To be believed: `run`'s output, a volume's steps or its attach are said in these words.
-- Where a name stands. The look-up is this project's own.
use Rattle.std.specs.Prelude.{◌≡◌, ℕ, ◌<◌, Bool, true, List, length, position, slice_get, is_some, if◌then◌else◌, Option, Some, None, Result, Ok, Err}
use Rattle.std.specs.Str.{bytes_eq}
use Rattle.sector.specs.declared.refusal.Refusal.{Refusal}
use Rattle.sector.specs.declared.refusal.Refusal.TheVariants.{NoSuchDevice}
use Rattle.command_semantics.specs.declared.place.Role.{Role}
use Rattle.command_semantics.specs.declared.place.Role.TheVariants.{Origin, Under, Snapshot, Store, Merging, MergingStore}
use Rattle.command_semantics.specs.declared.place.Place.{Place}
use Rattle.command_semantics.specs.declared.place.Place.TheVariants.{Free, In}
use Rattle.command_semantics.specs.State.{Stacked, Names, Merging as Begun, Volume, Table, names_in}

-- how deep a name stands among the names of a stack
abbrev pub depth_in : List ℕ → List (List ℕ) → Option ℕ
depth_in name names = position (λ n. bytes_eq n name) names

-- whether it stands there
abbrev pub is_among : List ℕ → List (List ℕ) → Bool
is_among name names = is_some (depth_in name names)

-- so deep in stack i
abbrev pub free_at_depth : ℕ → Option ℕ → Option Place
free_at_depth i None = None
free_at_depth i (Some depth) = Some (Free i depth)

-- the depth in a stack that is there
abbrev pub named_free : ℕ → List ℕ → Option Stacked → Option Place
named_free i name None = None
named_free i name (Some stacked) = free_at_depth i (depth_in name stacked.names)

-- in the first stack that has the name
abbrev pub in_first_stack : List ℕ → List Stacked → Option ℕ → Option Place
in_first_stack name stacks None = None
in_first_stack name stacks (Some i) = named_free i name (slice_get stacks i)

-- where a name stands among the stacks that nothing uses
unfoldable pub place_free : List ℕ → List Stacked → Option Place
place_free name stacks = in_first_stack name stacks (position (λ s. is_among name s.names) stacks)

-- so deep in the store of snapshot k
abbrev pub store_at_depth : ℕ → Option ℕ → Option Role
store_at_depth k None = None
store_at_depth k (Some depth) = Some (Store k depth)

-- the depth in the store of a snapshot that is there
abbrev pub named_store : ℕ → List ℕ → Option Names → Option Role
named_store k name None = None
named_store k name (Some names) = store_at_depth k (depth_in name names.store)

-- in the first store that has the name
abbrev pub in_first_store : List ℕ → List Names → Option ℕ → Option Role
in_first_store name snaps None = None
in_first_store name snaps (Some k) = named_store k name (slice_get snaps k)

-- what a name is among the stores
unfoldable pub store_among : List ℕ → List Names → Option Role
store_among name snaps = in_first_store name snaps (position (λ n. is_among name n.store) snaps)

-- a snapshot at a place, else among the stores
abbrev pub snapshot_or_store : List ℕ → List Names → Option ℕ → Option Role
snapshot_or_store name snaps (Some k) = Some (Snapshot k)
snapshot_or_store name snaps None = store_among name snaps

-- what a name is among the snapshots of a volume and their stores
unfoldable pub role_among : List ℕ → List Names → Option Role
role_among name snaps = snapshot_or_store name snaps (position (λ n. bytes_eq n.snapshot name) snaps)

-- so deep in the store of the snapshot that is being merged
abbrev pub merging_at_depth : Option ℕ → Option Role
merging_at_depth None = None
merging_at_depth (Some depth) = Some (MergingStore depth)

-- what a name is of the snapshot that is being merged and its store, if there is one
unfoldable pub role_merging : List ℕ → Option Names → Option Role
role_merging name None = None
role_merging name (Some names) = if bytes_eq names.snapshot name then Some Merging else merging_at_depth (depth_in name names.store)

-- among the snapshots, else of the one that is being merged
abbrev pub among_or_merging : List ℕ → Option Names → Option Role → Option Role
among_or_merging name merging (Some role) = Some role
among_or_merging name merging None = role_merging name merging

-- under the origin, else among the snapshots
abbrev pub under_or_among : List ℕ → List Names → Option Names → Option ℕ → Option Role
under_or_among name snaps merging (Some depth) = Some (Under depth)
under_or_among name snaps merging None = among_or_merging name merging (role_among name snaps)

-- what a name is in a volume
unfoldable pub role_of : List ℕ → Volume → Option Role
role_of name volume =
    if bytes_eq volume.origin name then Some Origin else under_or_among name volume.snaps (names_in volume.merging) (depth_in name volume.under)

-- a role in volume v
abbrev pub in_volume : ℕ → Option Role → Option Place
in_volume v None = None
in_volume v (Some role) = Some (In v role)

-- the role in a volume that is there
abbrev pub named_in : ℕ → List ℕ → Option Volume → Option Place
named_in v name None = None
named_in v name (Some volume) = in_volume v (role_of name volume)

-- in the first volume that has the name
abbrev pub in_first : List ℕ → List Volume → Option ℕ → Option Place
in_first name volumes None = None
in_first name volumes (Some v) = named_in v name (slice_get volumes v)

-- where a name stands among the volumes
unfoldable pub place_among : List ℕ → List Volume → Option Place
place_among name volumes = in_first name volumes (position (λ v. is_some (role_of name v)) volumes)

-- in a stack that nothing uses, else among the volumes
abbrev pub free_or_among : List ℕ → List Volume → Option Place → Option Place
free_or_among name volumes (Some place) = Some place
free_or_among name volumes None = place_among name volumes

-- where a name stands, the first place that has it
unfoldable pub place_of : List ℕ → Table → Option Place
place_of name table = free_or_among name table.volumes (place_free name table.stacks)

-- so deep in a stack that is there
abbrev pub IsDepthAt : ℕ → Option Stacked → Type 0
IsDepthAt depth None = ⊥
IsDepthAt depth (Some stacked) = depth < length stacked.names

abbrev pub IsStoreDepth : ℕ → Option Names → Type 0
IsStoreDepth depth None = ⊥
IsStoreDepth depth (Some names) = depth < length names.store

-- a role among these snapshots
abbrev pub IsRoleAmong : Role → List Names → Type 0
IsRoleAmong Origin snaps = ⊥
IsRoleAmong (Under depth) snaps = ⊥
IsRoleAmong (Snapshot k) snaps = k < length snaps
IsRoleAmong (Store k depth) snaps = (k < length snaps) × IsStoreDepth depth (slice_get snaps k)
IsRoleAmong Merging snaps = ⊥
IsRoleAmong (MergingStore depth) snaps = ⊥

-- a role of the snapshot that is being merged, if there is one
abbrev pub IsRoleMerging : Role → Option Names → Type 0
IsRoleMerging Origin merging = ⊥
IsRoleMerging (Under depth) merging = ⊥
IsRoleMerging (Snapshot k) merging = ⊥
IsRoleMerging (Store k depth) merging = ⊥
IsRoleMerging Merging merging = is_some merging ≡ true
IsRoleMerging (MergingStore depth) merging = IsStoreDepth depth merging

-- a role in a volume with so many snapshots, in which a merge is begun or not
abbrev pub HasRole : Role → ℕ → Bool → Type 0
HasRole Origin snaps begun = Unit {0}
HasRole (Under depth) snaps begun = Unit {0}
HasRole (Snapshot k) snaps begun = k < snaps
HasRole (Store k depth) snaps begun = k < snaps
HasRole Merging snaps begun = begun ≡ true
HasRole (MergingStore depth) snaps begun = begun ≡ true

-- a role in a volume
abbrev pub IsRoleIn : Role → Volume → Type 0
IsRoleIn Origin volume = Unit {0}
IsRoleIn (Under depth) volume = depth < length volume.under
IsRoleIn (Snapshot k) volume = IsRoleAmong (Snapshot k) volume.snaps
IsRoleIn (Store k depth) volume = IsRoleAmong (Store k depth) volume.snaps
IsRoleIn Merging volume = IsRoleMerging Merging (names_in volume.merging)
IsRoleIn (MergingStore depth) volume = IsRoleMerging (MergingStore depth) (names_in volume.merging)

abbrev pub IsRoleAt : Role → Option Volume → Type 0
IsRoleAt role None = ⊥
IsRoleAt role (Some volume) = IsRoleIn role volume

-- a place that is there
abbrev pub IsPlaceIn : Place → Table → Type 0
IsPlaceIn (Free i depth) table = (i < length table.stacks) × IsDepthAt depth (slice_get table.stacks i)
IsPlaceIn (In v role) table = (v < length table.volumes) × IsRoleAt role (slice_get table.volumes v)

-- a place, or a name that no device has
abbrev pub found : Option Place → Result Place Refusal
found None = Err NoSuchDevice
found (Some place) = Ok place

-- the stack at a place of those that nothing uses
abbrev pub stack_at : ℕ → Table → Result Stacked Refusal
stack_at i table = there (slice_get table.stacks i)
  where
    there : Option Stacked → Result Stacked Refusal
    there None = Err NoSuchDevice
    there (Some stacked) = Ok stacked

-- the volume at a place
abbrev pub volume_at : ℕ → Table → Result Volume Refusal
volume_at v table = there (slice_get table.volumes v)
  where
    there : Option Volume → Result Volume Refusal
    there None = Err NoSuchDevice
    there (Some volume) = Ok volume

-- the merge of a volume, and the names of the snapshot that is merged
abbrev pub merging_at : Volume → Result Begun Refusal
merging_at volume = there volume.merging
  where
    there : Option Begun → Result Begun Refusal
    there None = Err NoSuchDevice
    there (Some g) = Ok g
