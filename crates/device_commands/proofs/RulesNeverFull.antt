-- No command that takes no place in a journal is refused because one is full: its rule does not say so.
use Rattle.std.proofs.Common.{◌≡◌, ◌≢◌, ℕ, List, [], ◌∷◌, Option, Some, None, refl, inl, inr, subst}
use Rattle.std.specs.Prelude.{Result, Ok, Err, Bool, true, false, slice_get, if◌then◌else◌, ◌==◌, ◌-◌}
use Rattle.sector.specs.declared.refusal.Refusal.{Refusal}
use Rattle.sector.specs.declared.refusal.Refusal.TheVariants.{BadTable, JournalFull, NoMemory, OutOfRange}
use Rattle.device.specs.Layers.{Layer, Flaky, Dusty, Broken, Window}
use Rattle.layers.specs.declared.message.Message.{Message}
use Rattle.layers.specs.declared.message.Message.TheVariants as messages
use Rattle.layers.specs.declared.message.Answer.{Answer}
use Rattle.layers.specs.Messages.{Told, Refused, Answered, dust_told, flakey_told, layer_told, told, told_with}
use Rattle.words.specs.Given.{Gives}
use Rattle.table.specs.declared.lines.Target.{Target}
use Rattle.command.specs.declared.events.EventWords.{EventWords}
use Rattle.event_machine.specs.Held.{Moving, SnapHeld}
use Rattle.whole_commands.specs.Devices.{Device}
use Rattle.whole_commands.specs.Merges.{Merge, Merged}
use Rattle.whole_commands.specs.Snaps.{Snap, Volume as Settled}
use Rattle.command_semantics.specs.declared.place.Role.{Role}
use Rattle.command_semantics.specs.declared.place.Role.TheVariants.{Origin, Under, Snapshot, Store, Merging, MergingStore}
use Rattle.command_semantics.specs.declared.place.Place.{Place}
use Rattle.command_semantics.specs.declared.place.Place.TheVariants.{Free, In}
use Rattle.command_semantics.specs.State.{Stacked, Names, Merging as Begun, Volume, Table}
use Rattle.command_semantics.specs.Places.{found, stack_at, volume_at, merging_at}
use Rattle.command_semantics.specs.Changes.{Changes, Steps}
use Rattle.command_semantics.specs.Disks.{make}
use Rattle.command_semantics.specs.Layers.{unused, top, laid, broken}
use Rattle.command_semantics.specs.Origins.{origin_made}
use Rattle.command_semantics.specs.Raw.{copied, names_at, raw_in, raw_in_store, raw_in_merging, raw_under, raw_at, save, loaded_under, loaded_free, in_use, loaded_at, load}
use Rattle.command_semantics.specs.Messages.{with_layers, told_in, told_free, told_under, snap_at, told_snap, told_store, told_merge, told_merging, told_role, told_mounted, told_at, tell}
use Rattle.command_semantics.specs.Lines.{named, over, target_of, line_if, line_in, line_in_store, line_in_merging, origin_target, origin_line, snapshot_line, merging_line, line_of_role, line_at, line_text}
use Rattle.command_semantics.specs.Events.{origin_at, snapshot_at, origin_by, event_at, event_asked, none_due, step_event}
use Rattle.command_semantics.specs.Journal.{checkpointed}
use Rattle.command_semantics.specs.Losing.{StopsLosing}
use Rattle.command_semantics.specs.Merging.{resumed_by, resumed, merge_resumed}
use Rattle.command_semantics.specs.Status.{state_at, status_in}
use Rattle.command_semantics.specs.Stopping.{volume_stopped}
use Rattle.command_semantics.proofs.Starving.{memory_or_not}
use Rattle.device_list.specs.Status.{IsStatusOf, held_at, status_flying}
use Rattle.device_commands.proofs.NeverFull.{IsNeverFull, never}

-- want of memory is another refusal
memory_other : (e : Refusal) → e ≡ NoMemory → e ≢ JournalFull
memory_other e is full = absurd (cc)

-- a call that is refused by its rule, or for want of memory
pub gives_never : {A : Type 0} (r rule : Result A Refusal) → Gives r rule → IsNeverFull rule → IsNeverFull r
gives_never (Ok x) rule h other = record { other = tt }
gives_never {A = A} (Err e) rule h other = elim (memory_or_not e) [
  | inl memory ↦ record { other = memory_other e memory }
  | inr not ↦ let P : Result A Refusal → Type 0 = λ r. IsNeverFull r in subst P (h not) other
]

-- the same of one that only changes something, and of one that answers
pub changes_never : {T : Type 0} (r : Result (Unit {0}) Refusal) (old new : T) (rule : Result T Refusal) → Changes r old new rule → IsNeverFull rule → IsNeverFull r
changes_never (Ok done) old new rule h other = record { other = tt }
changes_never {T = T} (Err e) old new rule h other = elim (memory_or_not e) [
  | inl memory ↦ record { other = memory_other e memory }
  | inr not ↦ let P : Result T Refusal → Type 0 = λ r. IsNeverFull r in let is : IsNeverFull (Err e) = subst P (h.1 not) other in record { other = is.other }
]

pub steps_never : {A T : Type 0} (r : Result A Refusal) (old new : T) (rule : Result (A × T) Refusal) → Steps r old new rule → IsNeverFull rule → IsNeverFull r
steps_never (Ok answer) old new rule h other = record { other = tt }
steps_never {A = A} {T = T} (Err e) old new rule h other = elim (memory_or_not e) [
  | inl memory ↦ record { other = memory_other e memory }
  | inr not ↦ let P : Result (A × T) Refusal → Type 0 = λ r. IsNeverFull r in let is : IsNeverFull (Err e) = subst P (h.1 not) other in record { other = is.other }
]

-- what is looked for among the devices
found_never : (place : Option Place) → IsNeverFull (found place)
found_never None = search never
found_never (Some place) = search never

stack_never : (i : ℕ) (table : Table) → IsNeverFull (stack_at i table)
stack_never i table = go (slice_get table.stacks i) refl
  where
    go : (o : Option Stacked) → slice_get table.stacks i ≡ o → IsNeverFull (stack_at i table)
    go None is = rw is (search never)
    go (Some stacked) is = rw is (search never)

volume_never : (v : ℕ) (table : Table) → IsNeverFull (volume_at v table)
volume_never v table = go (slice_get table.volumes v) refl
  where
    go : (o : Option Volume) → slice_get table.volumes v ≡ o → IsNeverFull (volume_at v table)
    go None is = rw is (search never)
    go (Some volume) is = rw is (search never)

merging_never : (volume : Volume) → IsNeverFull (merging_at volume)
merging_never volume = go volume.merging refl
  where
    go : (o : Option Begun) → volume.merging ≡ o → IsNeverFull (merging_at volume)
    go None is = rw is (search never)
    go (Some g) is = rw is (search never)

names_never : (k : ℕ) (volume : Volume) → IsNeverFull (names_at k volume)
names_never k volume = go (slice_get volume.snaps k) refl
  where
    go : (o : Option Names) → slice_get volume.snaps k ≡ o → IsNeverFull (names_at k volume)
    go None is = rw is (search never)
    go (Some names) is = rw is (search never)

snap_never : (k : ℕ) (state : Settled) → IsNeverFull (snap_at k state)
snap_never k state = go (slice_get state.snaps k) refl
  where
    go : (o : Option Snap) → slice_get state.snaps k ≡ o → IsNeverFull (snap_at k state)
    go None is = rw is (search never)
    go (Some snap) is = rw is (search never)

origin_never : (place : Place) → IsNeverFull (origin_at place)
origin_never (Free i depth) = search never
origin_never (In v Origin) = search never
origin_never (In v (Under depth)) = search never
origin_never (In v (Snapshot k)) = search never
origin_never (In v (Store k depth)) = search never
origin_never (In v Merging) = search never
origin_never (In v (MergingStore depth)) = search never

pub origin_by_never : (name : List ℕ) (table : Table) → IsNeverFull (origin_by name table)
unfolding origin_by
origin_by_never name table = search (never, found_never, origin_never)

-- disks, layers and origins
pub make_never : (name : List ℕ) (sectors : ℕ) (table : Table) → IsNeverFull (make name sectors table)
unfolding make
make_never name sectors table = search never depth 12

unused_never : (place : Place) → IsNeverFull (unused place)
unused_never (Free i depth) = search never
unused_never (In v Origin) = search never
unused_never (In v (Under depth)) = search never
unused_never (In v (Snapshot k)) = search never
unused_never (In v (Store k depth)) = search never
unused_never (In v Merging) = search never
unused_never (In v (MergingStore depth)) = search never

top_never : (name : List ℕ) (table : Table) → IsNeverFull (top name table)
unfolding top
top_never name table = search (never, found_never, unused_never)

pub laid_never : (name : List ℕ) (layer : Layer) (first count : ℕ) (below : List ℕ) (table : Table) → IsNeverFull (laid name layer first count below table)
unfolding laid
laid_never name layer first count below table = search (never, top_never, stack_never) depth 12

pub broken_never : (name : List ℕ) (sectors : ℕ) (table : Table) → IsNeverFull (broken name sectors table)
broken_never name sectors table = search never

pub origin_made_never : (name : List ℕ) (sectors : ℕ) (device : List ℕ) (table : Table) → IsNeverFull (origin_made name sectors device table)
unfolding origin_made
origin_made_never name sectors device table = search (never, top_never, stack_never) depth 12

-- raw sectors
raw_in_never : (depth : ℕ) (names : List (List ℕ)) (device : Device) → IsNeverFull (raw_in depth names device)
unfolding raw_in
raw_in_never depth names device = search never

raw_under_never : (role : Role) (volume : Volume) → IsNeverFull (raw_under role volume)
unfolding raw_in_store raw_in_merging
raw_under_never Origin volume = search never
raw_under_never (Under depth) volume = search raw_in_never
raw_under_never (Snapshot k) volume = search never
raw_under_never (Store k depth) volume = search (never, names_never, snap_never, raw_in_never) depth 12
raw_under_never Merging volume = search never
raw_under_never (MergingStore depth) volume = search (never, merging_never, raw_in_never) depth 12

raw_at_never : (place : Place) (table : Table) → IsNeverFull (raw_at place table)
unfolding raw_at
raw_at_never (Free i depth) table = search (never, stack_never, raw_in_never)
raw_at_never (In v role) table = search (never, volume_never, raw_under_never)

pub save_never : (name : List ℕ) (first count : ℕ) (table : Table) → IsNeverFull (save name first count table)
unfolding save
save_never name first count table = search (never, found_never, raw_at_never) depth 12

loaded_under_never : (layers : List Layer) (first : ℕ) (bytes : List ℕ) (stacked : Stacked) → IsNeverFull (loaded_under layers first bytes stacked)
loaded_under_never [] first bytes stacked = search never
loaded_under_never (layer ∷ layers) first bytes stacked = search never

loaded_at_never : (place : Place) (first count : ℕ) (bytes : List ℕ) (table : Table) → IsNeverFull (loaded_at place first count bytes table)
unfolding loaded_at loaded_free in_use
loaded_at_never (Free i depth) first count bytes table = search (never, stack_never, raw_in_never, loaded_under_never) depth 16
loaded_at_never (In v role) first count bytes table = search (never, volume_never, raw_under_never) depth 12

pub load_never : (name : List ℕ) (first : ℕ) (bytes : List ℕ) (table : Table) → IsNeverFull (load name first bytes table)
unfolding load
load_never name first bytes table = search (never, found_never, loaded_at_never) depth 12

pub copied_never : (from : List ℕ) (first : ℕ) (to : List ℕ) (count : ℕ) (table : Table) → IsNeverFull (copied from first to count table)
unfolding copied
copied_never from first to count table = search (never, save_never, load_never) depth 12

-- messages to layers
abbrev IsOther : {X : Type 0} → Told X → Type 0
IsOther (Refused e) = e ≢ JournalFull
IsOther (Answered answer x) = Unit {0}

record IsTold {X : Type 0} (t : Told X) : Type 0 where
  other : IsOther t

answered_told : {X : Type 0} {answer : Answer} {x : X} → IsTold (Answered answer x)
answered_told = record { other = tt }

bad_told : {X : Type 0} → IsTold {X = X} (Refused BadTable)
bad_told = record { other = λ h. cc }

past_told : {X : Type 0} → IsTold {X = X} (Refused OutOfRange)
past_told = record { other = λ h. cc }

either_told : {X : Type 0} (b : Bool) {s t : Told X} → IsTold s → IsTold t → IsTold (if b then s else t)
either_told true p q = p
either_told false p q = q

with_told : {X Y : Type 0} (f : X → Y) {t : Told X} → IsTold t → IsTold (told_with f t)
with_told f {t = Refused e} is = record { other = is.other }
with_told f {t = Answered answer x} is = record { other = tt }

dust_other : (sectors size : ℕ) (on : Bool) (bad : List ℕ) (message : Message) → IsTold (dust_told sectors size on bad message)
dust_other sectors size on bad (messages.AddBadBlock k) = search (answered_told, past_told, either_told)
dust_other sectors size on bad (messages.RemoveBadBlock k) = search (answered_told, past_told, either_told)
dust_other sectors size on bad (messages.QueryBlock k) = search (answered_told, past_told, either_told)
dust_other sectors size on bad messages.CountBadBlocks = answered_told
dust_other sectors size on bad messages.ClearBadBlocks = answered_told
dust_other sectors size on bad messages.Enable = answered_told
dust_other sectors size on bad messages.Disable = answered_told
dust_other sectors size on bad (messages.Tick n) = bad_told

flakey_other : (layer : Layer) (message : Message) → IsTold (flakey_told layer message)
flakey_other layer (messages.AddBadBlock k) = bad_told
flakey_other layer (messages.RemoveBadBlock k) = bad_told
flakey_other layer (messages.QueryBlock k) = bad_told
flakey_other layer messages.CountBadBlocks = bad_told
flakey_other layer messages.ClearBadBlocks = bad_told
flakey_other layer messages.Enable = bad_told
flakey_other layer messages.Disable = bad_told
flakey_other layer (messages.Tick n) = answered_told

layer_other : (layer : Layer) (message : Message) → IsTold (layer_told layer message)
layer_other (Dusty sectors size on bad) message = dust_other sectors size on bad message
layer_other (Flaky moment up down features offset) message = flakey_other (Flaky moment up down features offset) message
layer_other layer message = bad_told

layers_other : (layers : List Layer) (depth : ℕ) (message : Message) → IsTold (told layers depth message)
layers_other [] depth message = bad_told
layers_other (Window aside ∷ layers) depth message = with_told (λ ls. Window aside ∷ ls) (layers_other layers depth message)
layers_other (layer ∷ layers) depth message = either_told (depth == 0) (with_told (λ l. l ∷ layers) (layer_other layer message)) (with_told (λ ls. layer ∷ ls) (layers_other layers (depth - 1) message))

with_layers_never : (device : Device) (t : Told (List Layer)) → IsTold t → IsNeverFull (with_layers device t)
with_layers_never device (Refused e) is = record { other = is.other }
with_layers_never device (Answered answer layers) is = record { other = tt }

told_in_never : (device : Device) (depth : ℕ) (message : Message) → IsNeverFull (told_in device depth message)
unfolding told_in
told_in_never device depth message = with_layers_never device (told device.layers depth message) (layers_other device.layers depth message)

told_merging_never : (depth : ℕ) (message : Message) (merge : Option Merge) (state : Settled) → IsNeverFull (told_merging depth message merge state)
unfolding told_merging told_merge
told_merging_never depth message None state = search never
told_merging_never depth message (Some g) state = search (never, told_in_never) depth 12

told_role_never : (role : Role) (message : Message) (m : Merged) → IsNeverFull (told_role role message m)
unfolding told_under told_store told_snap
told_role_never Origin message m = search never
told_role_never (Under depth) message m = search (never, told_in_never) depth 12
told_role_never (Snapshot k) message m = search never
told_role_never (Store k depth) message m = search (never, snap_never, told_in_never) depth 16
told_role_never Merging message m = search never
told_role_never (MergingStore depth) message m = told_merging_never depth message m.merge m.volume

told_at_never : (place : Place) (message : Message) (table : Table) → IsNeverFull (told_at place message table)
unfolding told_at told_free told_mounted
told_at_never (Free i depth) message table = search (never, stack_never, told_in_never) depth 12
told_at_never (In v role) message table = search (never, volume_never, told_role_never) depth 12

pub tell_never : (name : List ℕ) (message : Message) (table : Table) → IsNeverFull (tell name message table)
unfolding tell
tell_never name message table = search (never, found_never, told_at_never) depth 12

-- table lines
named_never : (name : Option (List ℕ)) → IsNeverFull (named name)
named_never None = search never
named_never (Some name) = search never

over_never : (below : Option (List ℕ)) (target : List ℕ → Target) → IsNeverFull (over below target)
over_never below target = search (never, named_never)

target_never : (layers : List Layer) (below : Option (List ℕ)) → IsNeverFull (target_of layers below)
target_never (Flaky moment up down features offset ∷ layers) below = search over_never
target_never (Dusty sectors size enabled bad ∷ layers) below = search over_never
target_never (Broken ∷ layers) below = search never
target_never layers below = search never

line_if_never : (device : Option Device) (below : Option (List ℕ)) → IsNeverFull (line_if device below)
line_if_never None below = search never
line_if_never (Some device) below = search (never, target_never)

line_in_never : (depth : ℕ) (names : List (List ℕ)) (device : Device) → IsNeverFull (line_in depth names device)
unfolding line_in
line_in_never depth names device = line_if_never _ _

origin_target_never : (merging : Option Begun) (volume : Volume) → IsNeverFull (origin_target merging volume)
unfolding origin_target
origin_target_never None volume = search (never, named_never) depth 12
origin_target_never (Some g) volume = search (never, named_never) depth 12

line_of_role_never : (role : Role) (volume : Volume) → IsNeverFull (line_of_role role volume)
unfolding origin_line snapshot_line merging_line line_in_store line_in_merging
line_of_role_never Origin volume = search (never, origin_target_never) depth 12
line_of_role_never (Under depth) volume = search line_in_never
line_of_role_never (Snapshot k) volume = search (never, names_never, snap_never, named_never) depth 16
line_of_role_never (Store k depth) volume = search (never, names_never, snap_never, line_in_never) depth 12
line_of_role_never Merging volume = search (never, merging_never, named_never) depth 16
line_of_role_never (MergingStore depth) volume = search (never, merging_never, line_in_never) depth 12

line_at_never : (place : Place) (table : Table) → IsNeverFull (line_at place table)
unfolding line_at
line_at_never (Free i depth) table = search (never, stack_never, line_in_never) depth 12
line_at_never (In v role) table = search (never, volume_never, line_of_role_never) depth 12

pub line_text_never : (name : List ℕ) (table : Table) → IsNeverFull (line_text name table)
unfolding line_text
line_text_never name table = search (never, found_never, line_at_never) depth 12

-- status lines
state_at_never : (k : ℕ) (volume : Volume) → IsNeverFull (state_at k volume)
unfolding state_at
state_at_never k volume = search (never, snap_never) depth 12

status_in_never : (role : Role) (volume : Volume) → IsNeverFull (status_in role volume)
unfolding status_in
status_in_never Origin volume = search never
status_in_never (Under depth) volume = search never
status_in_never (Snapshot k) volume = search (never, state_at_never) depth 12
status_in_never (Store k depth) volume = search never
status_in_never Merging volume = search never
status_in_never (MergingStore depth) volume = search never

held_never : (k : ℕ) (moving : Moving) → IsNeverFull (held_at k moving)
held_never k moving = go (slice_get moving.snaps k) refl
  where
    go : (o : Option SnapHeld) → slice_get moving.snaps k ≡ o → IsNeverFull (held_at k moving)
    go None is = rw is (search never)
    go (Some held) is = rw is (search never)

snapshot_status_never : (k : ℕ) (volume : Volume) (moving : Moving) → IsNeverFull (status_flying (Snapshot k) volume moving)
unfolding status_flying
snapshot_status_never k volume moving = search (never, snap_never, held_never) depth 12

pub status_never : (result : Result (List ℕ) Refusal) (role : Role) (volume : Volume) → IsStatusOf result role volume → IsNeverFull result
status_never result Origin volume is = gives_never result _ is (status_in_never Origin volume)
status_never result (Under depth) volume is = gives_never result _ is (status_in_never (Under depth) volume)
status_never result (Snapshot k) volume is = gives_never result _ is.2 (snapshot_status_never k volume _)
status_never result (Store k depth) volume is = gives_never result _ is (status_in_never (Store k depth) volume)
status_never result Merging volume is = gives_never result _ is (status_in_never Merging volume)
status_never result (MergingStore depth) volume is = gives_never result _ is (status_in_never (MergingStore depth) volume)

-- a merge that goes on, a journal that is folded, a volume that is stopped
resumed_by_never : (merging : Option Begun) (volume : Volume) → IsNeverFull (resumed_by merging volume)
resumed_by_never None volume = search never
resumed_by_never (Some g) volume = search never

pub merge_resumed_never : (name : List ℕ) (table : Table) → IsNeverFull (merge_resumed name table)
unfolding merge_resumed resumed
merge_resumed_never name table = search (never, origin_by_never, volume_never, resumed_by_never) depth 12

pub checkpointed_never : (name : List ℕ) (table : Table) → IsNeverFull (checkpointed name table)
unfolding checkpointed
checkpointed_never name table = search (never, origin_by_never) depth 12

pub volume_stopped_never : (name : List ℕ) (table : Table) → IsNeverFull (volume_stopped name table)
unfolding volume_stopped
volume_stopped_never name table = search (never, origin_by_never, volume_never) depth 12

pub stops_never : (did : Result (Unit {0}) Refusal) (name : List ℕ) (old new : Table) → StopsLosing did name old new → IsNeverFull did
stops_never (Ok done) name old new h = record { other = tt }
stops_never (Err e) name old new h = elim (memory_or_not e) [
  | inl memory ↦ record { other = memory_other e memory }
  | inr not ↦ let P : Result Table Refusal → Type 0 = λ r. IsNeverFull r in let is : IsNeverFull (Err e) = subst P (h.1 not) (volume_stopped_never name old) in record { other = is.other }
]

-- an event that is not done
snapshot_at_never : (place : Place) → IsNeverFull (snapshot_at place)
snapshot_at_never (Free i depth) = search never
snapshot_at_never (In v Origin) = search never
snapshot_at_never (In v (Under depth)) = search never
snapshot_at_never (In v (Snapshot k)) = search never
snapshot_at_never (In v (Store k depth)) = search never
snapshot_at_never (In v Merging) = search never
snapshot_at_never (In v (MergingStore depth)) = search never

event_at_never : (place : Place) (snapshot : Option (List ℕ)) (table : Table) → IsNeverFull (event_at place snapshot table)
event_at_never place None table = origin_never place
event_at_never place (Some snapshot) table = search (never, found_never, origin_never, snapshot_at_never) depth 16

event_asked_never : (name : List ℕ) (event : EventWords) (table : Table) → IsNeverFull (event_asked name event table)
unfolding event_asked
event_asked_never name event table = search (never, found_never, event_at_never) depth 12

none_due_other : (asked : Result ℕ Refusal) → IsNeverFull asked → none_due asked ≢ JournalFull
none_due_other (Ok v) is = λ h. cc
none_due_other (Err e) is = is.other

pub step_event_other : (name : List ℕ) (event : EventWords) (table : Table) → step_event name event table ≢ JournalFull
unfolding step_event
step_event_other name event table = none_due_other (event_asked name event table) (event_asked_never name event table)
