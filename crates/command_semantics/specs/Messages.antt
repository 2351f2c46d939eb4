-- To be believed: `run`'s output, a volume's steps or its attach are said in these words.
-- Messages to dust layers, and the time. Sources: the kernel's pages on dm-dust and dm-flakey; the order of the refusals is
-- this project's own.
use Rattle.std.specs.Prelude.{ℕ, List, map, slice_get, slice_set, Option, Some, None, Result, Ok, Err}
use Rattle.sector.specs.declared.refusal.Refusal.{Refusal}
use Rattle.sector.specs.declared.refusal.Refusal.TheVariants.{BadTable, NoSuchDevice}
use Rattle.device.specs.Layers.{Layer}
use Rattle.layers.specs.declared.message.Message.{Message}
use Rattle.layers.specs.declared.message.Answer.{Answer}
use Rattle.layers.specs.Messages.{Told, Refused, Answered, told}
use Rattle.layers.specs.Ticks.{layers_ticked}
use Rattle.words.specs.Given.{◌>>=◌}
use Rattle.whole_commands.specs.Devices.{Device}
use Rattle.whole_commands.specs.Snaps.{Snap, Volume as Settled}
use Rattle.whole_commands.specs.Moments.{relayered}
use Rattle.whole_commands.specs.Merges.{Merge, Merged}
use Rattle.whole_commands.specs.MergedMoments.{merged_relayered}
use Rattle.command_semantics.specs.declared.place.Role.{Role}
use Rattle.command_semantics.specs.declared.place.Role.TheVariants.{Origin, Under, Snapshot, Store, Merging, MergingStore}
use Rattle.command_semantics.specs.declared.place.Place.{Place}
use Rattle.command_semantics.specs.declared.place.Place.TheVariants.{Free, In}
use Rattle.command_semantics.specs.State.{Stacked, Volume, Table, merged_in, with_merged}
use Rattle.command_semantics.specs.Places.{place_of, found, stack_at, volume_at}
use Rattle.command_semantics.specs.Layers.{put}

-- an answer with the device whose layers it leaves
abbrev pub with_layers : Device → Told (List Layer) → Result (Answer × Device) Refusal
with_layers device (Refused refusal) = Err refusal
with_layers device (Answered answer layers) = Ok (answer, record { bytes = device.bytes; layers = layers })

-- a message to the layer so deep in a device
unfoldable pub told_in : Device → ℕ → Message → Result (Answer × Device) Refusal
told_in device depth message = with_layers device (told device.layers depth message)

-- a stack with another device
abbrev pub with_device : Device → Stacked → Stacked
with_device device stacked = record { names = stacked.names; device = device; stale = stacked.stale }

-- a message to the layer so deep in a stack that nothing uses
unfoldable pub told_free : ℕ → Message → Stacked → Result (Answer × Stacked) Refusal
told_free depth message stacked = told_in stacked.device depth message >>= λ done. Ok (done.0, with_device done.1 stacked)

-- a message to the layer so deep under an origin
unfoldable pub told_under : ℕ → Message → Settled → Result (Answer × Settled) Refusal
told_under depth message state = told_in state.origin depth message >>= λ done. Ok (done.0, record { origin = done.1; snaps = state.snaps })

-- the snapshot at a place
abbrev pub snap_at : ℕ → Settled → Result Snap Refusal
snap_at k state = there (slice_get state.snaps k)
  where
    there : Option Snap → Result Snap Refusal
    there None = Err NoSuchDevice
    there (Some snap) = Ok snap

-- a snapshot with another device as its store
abbrev pub with_store : Device → Snap → Snap
with_store device snap = record snap { store = device }

-- a message to the layer so deep in a snapshot's store
unfoldable pub told_snap : ℕ → Message → Snap → Result (Answer × Snap) Refusal
told_snap depth message snap = told_in snap.store depth message >>= λ done. Ok (done.0, with_store done.1 snap)

-- a message to the layer so deep in the store of snapshot k
unfoldable pub told_store : ℕ → ℕ → Message → Settled → Result (Answer × Settled) Refusal
told_store k depth message state = do
  snap ← snap_at k state
  done ← told_snap depth message snap
  Ok (done.0, record { origin = state.origin; snaps = slice_set state.snaps k done.1 })

-- a message to a device beside the merge
abbrev pub told_beside : Option Merge → Result (Answer × Settled) Refusal → Result (Answer × Merged) Refusal
told_beside merge told = told >>= λ done. Ok (done.0, record { volume = done.1; merge = merge })

-- a message to the layer so deep in the merging store
unfoldable pub told_merge : ℕ → Message → Merge → Result (Answer × Merge) Refusal
told_merge depth message g = told_in g.store depth message >>= λ done. Ok (done.0, record g { store = done.1 })

unfoldable pub told_merging : ℕ → Message → Option Merge → Settled → Result (Answer × Merged) Refusal
told_merging depth message None state = Err NoSuchDevice
told_merging depth message (Some g) state = told_merge depth message g >>= λ done. Ok (done.0, record { volume = state; merge = Some done.1 })

-- an origin and a snapshot are no layers
abbrev pub told_role : Role → Message → Merged → Result (Answer × Merged) Refusal
told_role Origin message m = Err BadTable
told_role (Under depth) message m = told_beside m.merge (told_under depth message m.volume)
told_role (Snapshot k) message m = Err BadTable
told_role (Store k depth) message m = told_beside m.merge (told_store k depth message m.volume)
told_role Merging message m = Err BadTable
told_role (MergingStore depth) message m = told_merging depth message m.merge m.volume

-- another volume at a place
abbrev pub put_volume : ℕ → Volume → Table → Table
put_volume v volume table = record { stacks = table.stacks; volumes = slice_set table.volumes v volume }

unfoldable pub told_mounted : Role → Message → Volume → Result (Answer × Volume) Refusal
told_mounted role message volume = told_role role message (merged_in volume) >>= λ done. Ok (done.0, with_merged done.1 volume)

-- a message to a device at a place
unfoldable pub told_at : Place → Message → Table → Result (Answer × Table) Refusal
told_at (Free i depth) message table = do
  stacked ← stack_at i table
  done ← told_free depth message stacked
  Ok (done.0, put i done.1 table)
told_at (In v role) message table = do
  volume ← volume_at v table
  done ← told_mounted role message volume
  Ok (done.0, put_volume v done.1 table)

-- `message DEV 0 WORDS`
unfoldable pub tell : List ℕ → Message → Table → Result (Answer × Table) Refusal
tell name message table = do
  place ← found (place_of name table)
  told_at place message table

-- so many seconds later
abbrev pub stack_ticked : ℕ → Stacked → Stacked
stack_ticked seconds stacked = with_device (relayered (layers_ticked seconds) stacked.device) stacked

abbrev pub volume_ticked : ℕ → Volume → Volume
volume_ticked seconds volume = with_merged (merged_relayered (layers_ticked seconds) (merged_in volume)) volume

-- `tick N`
unfoldable pub ticked : ℕ → Table → Table
ticked seconds table = record { stacks = map (stack_ticked seconds) table.stacks; volumes = map (volume_ticked seconds) table.volumes }
