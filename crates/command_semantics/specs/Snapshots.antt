-- To be believed: `run`'s output, a volume's steps or its attach are said in these words.
-- Snapshots: taken over an origin, with a stack that nothing uses as their store, and taken away again. The line is the
-- kernel's `snapshot`; the order of the refusals is this project's own. What an attach reads, writes and answers is the
-- settled machine's.
use Rattle.std.specs.Prelude.{ℕ, zero, suc, ◌+◌, Bool, ◌&&◌, List, [], ◌∷◌, ◌++◌, slice_set, is_some, if◌then◌else◌, Option, Some, None, Result, Ok, Err}
use Rattle.std.specs.List.{remove}
use Rattle.sector.specs.declared.refusal.Refusal.{Refusal}
use Rattle.sector.specs.declared.refusal.Refusal.TheVariants.{NoSuchDevice, Stale, MergeInProgress}
use Rattle.device.specs.Layers.{is_loud}
use Rattle.plain_machine.specs.Plain.{overflow_of}
use Rattle.words.specs.Given.{◌>>=◌}
use Rattle.whole_commands.specs.Devices.{sectors_of}
use Rattle.whole_commands.specs.Snaps.{Volume as Settled}
use Rattle.whole_commands.specs.Attaching.{Store, Attached, attached, refused_attach, detached, given_back}
use Rattle.command_semantics.specs.declared.place.Role.TheVariants.{Origin, Under, Snapshot, Store as InStore, Merging, MergingStore}
use Rattle.command_semantics.specs.declared.place.Place.{Place}
use Rattle.command_semantics.specs.declared.place.Place.TheVariants.{Free, In}
use Rattle.command_semantics.specs.State.{Stacked, Names, Volume, Table}
use Rattle.command_semantics.specs.Places.{place_of, stack_at, volume_at}
use Rattle.command_semantics.specs.Changes.{Did, refused}
use Rattle.command_semantics.specs.Layers.{top, put}
use Rattle.command_semantics.specs.Messages.{snap_at, with_device}
use Rattle.command_semantics.specs.Raw.{names_at}
use Rattle.command_semantics.specs.Origins.{same_size, still}

-- the origin that stands on a device
abbrev pub over : Option Place → Result ℕ Refusal
over None = Err NoSuchDevice
over (Some (Free i depth)) = Err NoSuchDevice
over (Some (In v Origin)) = Err NoSuchDevice
over (Some (In v (Under zero))) = Ok v
over (Some (In v (Under (suc depth)))) = Err NoSuchDevice
over (Some (In v (Snapshot k))) = Err NoSuchDevice
over (Some (In v (InStore k depth))) = Err NoSuchDevice
over (Some (In v Merging)) = Err NoSuchDevice
over (Some (In v (MergingStore depth))) = Err NoSuchDevice

-- a stack as a store that nothing uses
abbrev pub store_of : Stacked → Store
store_of stacked = record { device = stacked.device; stale = stacked.stale }

-- one snapshot more, whose store may overflow or not, in this state
abbrev pub with_snapshot : List ℕ → Bool → Stacked → Settled → Volume → Volume
with_snapshot name overflow stacked state volume = record volume {
  snaps = volume.snaps ++ (record { snapshot = name; store = stacked.names; overflow = overflow }) ∷ [];
  state = state;
  given = volume.given + 1;
  sound = volume.sound && is_loud stacked.device.layers;
}

-- a stack after an attach that was refused: some operations met its layers, and area 0 or a tail may be zeroed
abbrev pub stack_back : Stacked → Option Store → Stacked
stack_back stacked None = stacked
stack_back stacked (Some store) = with_device store.device stacked

-- a stack and a volume, and why the one was not attached to the other, if it was not
pub record Met : Type 0 where
  pub refused : Option Refusal
  pub stacked : Stacked
  pub volume : Volume

abbrev pub met_by : List ℕ → Bool → Stacked → Volume → Attached → Met
met_by name overflow stacked volume a =
    record { refused = a.refused; stacked = stack_back stacked a.back; volume = with_snapshot name overflow stacked a.volume volume }

-- why no stack is attached while a merge is begun: one with a mark is refused for the mark
abbrev pub kept_out : Stacked → Refusal
kept_out stacked = if stacked.stale then Stale else MergeInProgress

-- The attach of a stack, by a table line with this chunk size that says whether it may overflow. While a merge is begun the
-- stack is left as it is.
unfoldable pub attached_to : ℕ → Bool → Stacked → Volume → Attached
attached_to chunk overflow stacked volume =
    if is_some volume.merging then refused_attach (kept_out stacked) (store_of stacked) volume.state
    else attached (volume.given + 1) chunk (overflow_of overflow) (store_of stacked) volume.state

-- a stack is attached to a volume, by a table line with this chunk size that says whether it may overflow
unfoldable pub meet : List ℕ → ℕ → Bool → Stacked → Volume → Met
meet name chunk overflow stacked volume = met_by name overflow stacked volume (attached_to chunk overflow stacked volume)

-- stack i is a store of volume v now, or is left where it was
abbrev pub snapshot_left : ℕ → ℕ → Option Refusal → Stacked → Volume → Table → Did (Unit {0}) Table
snapshot_left i v None stacked volume table =
    record { answer = Ok tt; left = record { stacks = remove table.stacks i; volumes = slice_set table.volumes v volume } }
snapshot_left i v (Some refusal) stacked volume table = record { answer = Err refusal; left = put i stacked table }

abbrev pub snapshot_met : ℕ → ℕ → Met → Table → Did (Unit {0}) Table
snapshot_met i v met table = snapshot_left i v met.refused met.stacked met.volume table

-- what a snapshot's line names: its volume, and the stack that nothing uses for its store
pub record Named : Type 0 where
  pub v : ℕ
  pub i : ℕ
  pub stacked : Stacked
  pub volume : Volume

unfoldable pub named_in : ℕ → List ℕ → List ℕ → Table → Result Named Refusal
named_in sectors device store table = do
  v ← over (place_of device table)
  i ← top store table
  stacked ← stack_at i table
  volume ← volume_at v table
  _ ← same_size sectors (sectors_of volume.state.origin)
  Ok (record { v = v; i = i; stacked = stacked; volume = volume })

abbrev pub snapshot_by : List ℕ → ℕ → Bool → Table → Result Named Refusal → Did (Unit {0}) Table
snapshot_by name chunk overflow table (Err refusal) = refused table refusal
snapshot_by name chunk overflow table (Ok n) = snapshot_met n.i n.v (meet name chunk overflow n.stacked n.volume) table

-- a snapshot of so many sectors of the origin on a device, over a store that may overflow or not
unfoldable pub snapshot_made : List ℕ → ℕ → List ℕ → List ℕ → ℕ → Bool → Table → Did (Unit {0}) Table
snapshot_made name sectors device store chunk overflow table = snapshot_by name chunk overflow table (named_in sectors device store table)

-- the store that a detach gives back, under its names
abbrev pub stack_of : Names → Option Store → Result Stacked Refusal
stack_of names None = Err NoSuchDevice
stack_of names (Some store) = Ok (record { names = names.store; device = store.device; stale = store.stale })

-- one snapshot less
abbrev pub without_snapshot : ℕ → ℕ → Volume → Volume
without_snapshot k number volume =
    record volume { snaps = remove volume.snaps k; state = record { origin = volume.state.origin; snaps = detached number volume.state.snaps } }

-- the store of snapshot k, and the volume without that snapshot
unfoldable pub parted : ℕ → Volume → Result (Stacked × Volume) Refusal
parted k volume = do
  names ← names_at k volume
  snap ← snap_at k volume.state
  _ ← still volume
  stacked ← stack_of names (given_back snap.number volume.state.snaps)
  Ok (stacked, without_snapshot k snap.number volume)

-- a snapshot goes, and nothing uses its store any more
unfoldable pub left_by : ℕ → ℕ → Table → Result Table Refusal
left_by v k table = do
  volume ← volume_at v table
  parts ← parted k volume
  Ok (record { stacks = table.stacks ++ parts.0 ∷ []; volumes = slice_set table.volumes v parts.1 })
