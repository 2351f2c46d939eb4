-- Each command that makes no layer that drops writes leaves a sound table.
use Rattle.std.proofs.Common.{◌≡◌, ℕ, ◌+◌, ◌<◌, ◌&&◌, Bool, true, false, List, [], ◌∷◌, length, get_or, refl, sym, ap, ◌∙◌}
use Rattle.std.specs.Prelude.{Option, Some, None, Result, Ok, Err, is_some, not, nat_le, if◌then◌else◌}
use Rattle.sector.specs.declared.refusal.Refusal.{Refusal}
use Rattle.sector.specs.declared.refusal.Refusal.TheVariants.{OutOfRange, Busy, TooMany, BadTable}
use Rattle.device.specs.Layers.{Layer, Flaky, Dusty, is_loud, is_loud_layer}
use Rattle.layers.specs.declared.message.Message.{Message}
use Rattle.layers.specs.declared.message.Answer.{Answer}
use Rattle.layers.specs.Messages.{Told, Refused, Answered, told}
use Rattle.layers.specs.Loudness.{loud_ticked, loud_told}
use Rattle.layers.specs.Windows.{layers_below, bytes_below}
use Rattle.words.specs.Given.{◌>>=◌}
use Rattle.table.specs.declared.lines.Line.{Line}
use Rattle.table.specs.declared.lines.Target.{Target}
use Rattle.table.specs.declared.lines.Target.TheVariants as targets
use Rattle.command.specs.Words.{sectors_of}
use Rattle.whole_commands.specs.Devices.{Device, sectors_of as size_of}
use Rattle.whole_commands.specs.Attaching.{Store}
use Rattle.command_semantics.specs.declared.place.Role.{Role}
use Rattle.command_semantics.specs.declared.place.Place.{Place}
use Rattle.command_semantics.specs.declared.place.Place.TheVariants.{Free, In}
use Rattle.command_semantics.specs.State.{Stacked, Volume, Table, merged_in}
use Rattle.command_semantics.specs.Places.{place_of, found, stack_at, volume_at}
use Rattle.command_semantics.specs.Changes.{Did, kept, changed}
use Rattle.command_semantics.specs.Disks.{device_count, with_stack, alone, blank, failing, is_size, make}
use Rattle.command_semantics.specs.Layers.{top, put, covered, layered, laid, broken, features_of}
use Rattle.command_semantics.specs.Messages.{with_layers, told_in, told_free, told_role, told_mounted, told_at, tell, put_volume, stack_ticked, volume_ticked, ticked}
use Rattle.command_semantics.specs.Raw.{raw_in, raw_under, fits, whole, loaded_under, loaded_free, in_use, loaded_at, load}
use Rattle.command_semantics.specs.Origins.{same_size, origin_on, moved_under, origin_made}
use Rattle.command_semantics.specs.Snapshots.{attached_to, stack_back, meet, snapshot_met, snapshot_left, named_in, snapshot_by, snapshot_made, Named}
use Rattle.command_semantics.specs.Creating.{made, is_merge, create}
use Rattle.command_semantics.specs.Removing.{left_with, lowered_device, left_as, lowered_to, with_left, lowered}
use Rattle.command_semantics.specs.Sectors.{Asked, asked_of, read_by, read_in, write_by, written_in, in_volume, at_role, read_some, read, write_some, write}
use Rattle.command_semantics.specs.Sound.{is_sound_stack, is_sound_volume, is_sound, drops_writes}
use Rattle.command_semantics.proofs.Keeping.{keeps_if, keeps_unless, keeps_then, answers_then, same_ok, not_ok, came_by, stack_there, volume_there}
use Rattle.command_semantics.proofs.NamedRules.{AreThere, named_there}
use Rattle.command_semantics.proofs.LoudAttach.{IsBackLoud, loud_to}
use Rattle.command_semantics.proofs.SoundFrames.{both, of_both, all_mapped, stack_sound, volume_whole, with_stack_sound, put_sound, removed_sound, put_volume_sound, moved_under_sound, taken_by_sound, loud_below}

-- a table of which no device drops writes, with nothing in flight
abbrev pub IsSound : Table → Type 0
IsSound table = is_sound table ≡ true

-- Making devices.

-- `disk`
pub make_sound : (name : List ℕ) (sectors : ℕ) (table : Table) → IsSound table → IsSound (changed table (make name sectors table)).left
unfolding make
make_sound name sectors table sound =
    keeps_if IsSound (is_some (place_of name table)) Busy _ table sound (λ free.
    keeps_if IsSound (not (is_size sectors)) OutOfRange _ table sound (λ size.
    keeps_if IsSound (nat_le 64 (device_count table)) TooMany (Ok (with_stack (alone name (blank sectors)) table)) table sound (λ room.
    with_stack_sound table (alone name (blank sectors)) refl sound)))

layered_loud : (name : List ℕ) (layer : Layer) (first count : ℕ) (old new : Stacked) → is_loud_layer layer ≡ true → is_loud old.device.layers ≡ true → layered name layer first count old ≡ Ok new → is_loud new.device.layers ≡ true
layered_loud name layer first count old new one rest h = by (nat_le (first + count) (size_of old.device)) h
  where
    by : (b : Bool) → (if b then Ok (covered name layer first count old) else Err BadTable) ≡ Ok new → is_loud new.device.layers ≡ true
    by true h = sym (ap (λ (s : Stacked). is_loud s.device.layers) (same_ok _ new h)) ∙ of_both (is_loud_layer layer) _ one rest
    by false h = absurd (not_ok BadTable new h)

-- a layer
pub laid_sound : (name : List ℕ) (layer : Layer) (first count : ℕ) (below : List ℕ) (table : Table) → is_loud_layer layer ≡ true → IsSound table → IsSound (changed table (laid name layer first count below table)).left
unfolding laid
laid_sound name layer first count below table one sound =
    keeps_then IsSound (top below table) _ table sound (λ i is.
    keeps_then IsSound (stack_at i table) (λ old. layered name layer first count old >>= λ new. Ok (put i new table)) table sound (λ old at.
    keeps_then IsSound (layered name layer first count old) (λ new. Ok (put i new table)) table sound (λ new did.
    let there = stack_there i table old at in
    put_sound table i new (layered_loud name layer first count old new one (stack_sound table i old sound there.0 there.1) did) sound)))

-- an error layer
pub broken_sound : (name : List ℕ) (sectors : ℕ) (table : Table) → IsSound table → IsSound (changed table (broken name sectors table)).left
broken_sound name sectors table sound =
    keeps_unless IsSound (is_size sectors) BadTable (Ok (with_stack (alone name (failing sectors)) table)) table sound (λ size.
    with_stack_sound table (alone name (failing sectors)) refl sound)

-- an origin
pub origin_made_sound : (name : List ℕ) (sectors : ℕ) (device : List ℕ) (table : Table) → IsSound table → IsSound (changed table (origin_made name sectors device table)).left
unfolding origin_made
origin_made_sound name sectors device table sound =
    keeps_then IsSound (top device table) _ table sound (λ i is.
    keeps_then IsSound (stack_at i table) (λ old. same_size sectors (size_of old.device) >>= λ _. Ok (moved_under i (origin_on name old) table)) table sound (λ old at.
    keeps_then IsSound (same_size sectors (size_of old.device)) (λ _. Ok (moved_under i (origin_on name old) table)) table sound (λ one same.
    let there = stack_there i table old at in
    moved_under_sound table i (origin_on name old) (of_both _ true (stack_sound table i old sound there.0 there.1) refl) sound)))

-- what a refused attach gives back
pub back_loud : (name : List ℕ) (chunk : ℕ) (overflow : Bool) (stacked : Stacked) (volume : Volume) → is_loud (meet name chunk overflow stacked volume).stacked.device.layers ≡ is_loud stacked.device.layers
unfolding meet
back_loud name chunk overflow stacked volume =
    by (attached_to chunk overflow stacked volume).back (loud_to chunk overflow stacked volume)
  where
    by : (back : Option Store) → IsBackLoud (is_loud stacked.device.layers) back → is_loud (stack_back stacked back).device.layers ≡ is_loud stacked.device.layers
    by None h = refl
    by (Some store) h = h

-- a volume that took it
pub met_whole : (name : List ℕ) (chunk : ℕ) (overflow : Bool) (stacked : Stacked) (volume : Volume) → is_sound_volume volume ≡ true → is_loud stacked.device.layers ≡ true → is_sound_volume (meet name chunk overflow stacked volume).volume ≡ true
unfolding meet
met_whole name chunk overflow stacked volume whole loud =
    let h = both volume.sound volume.quiet whole in
    of_both (volume.sound && is_loud stacked.device.layers) volume.quiet (of_both volume.sound _ h.0 loud) h.1

pub snapshot_left_sound : (i v : ℕ) (refused : Option Refusal) (left : Stacked) (new : Volume) (table : Table) → is_loud left.device.layers ≡ true → is_sound_volume new ≡ true → IsSound table → IsSound (snapshot_left i v refused left new table).left
snapshot_left_sound i v None left new table loud whole sound = taken_by_sound table i v new whole sound
snapshot_left_sound i v (Some refusal) left new table loud whole sound = put_sound table i left loud sound

-- a snapshot
pub snapshot_made_sound : (name : List ℕ) (sectors : ℕ) (device store : List ℕ) (chunk : ℕ) (overflow : Bool) (table : Table) → IsSound table → IsSound (snapshot_made name sectors device store chunk overflow table).left
unfolding snapshot_made
snapshot_made_sound name sectors device store chunk overflow table sound = by (named_in sectors device store table) (named_there sectors device store table)
  where
    on : (n : Named) → AreThere table n → IsSound (snapshot_met n.i n.v (meet name chunk overflow n.stacked n.volume) table).left
    on n there =
        let loud = stack_sound table n.i n.stacked sound there.i_lt there.i_at in
        let whole = volume_whole table n.v n.volume sound there.v_lt there.v_at in
        snapshot_left_sound n.i n.v _ _ _ table (back_loud name chunk overflow n.stacked n.volume ∙ loud) (met_whole name chunk overflow n.stacked n.volume whole loud) sound

    by : (r : Result Named Refusal) → ((n : Named) → r ≡ Ok n → AreThere table n) → IsSound (snapshot_by name chunk overflow table r).left
    by (Err e) there = sound
    by (Ok n) there = on n (there n refl)

-- the device of a line
pub made_sound : (name : List ℕ) (sectors : ℕ) (target : Target) (table : Table) → drops_writes target ≡ false → IsSound table → IsSound (made name sectors target table).left
unfolding made
made_sound name sectors (targets.Origin device) table none sound = origin_made_sound name sectors device table sound
made_sound name sectors (targets.Snapshot device store chunk overflow) table none sound = snapshot_made_sound name sectors device store chunk overflow table sound
made_sound name sectors (targets.Merge device store chunk overflow) table none sound = sound
made_sound name sectors (targets.Flakey device offset up down features) table none sound =
    laid_sound name (Flaky 0 up down (features_of features) offset) offset sectors device table (ap not none) sound
made_sound name sectors (targets.Dust device block) table none sound = laid_sound name (Dusty sectors block false []) 0 sectors device table refl sound
made_sound name sectors targets.Error table none sound = broken_sound name sectors table sound

did_if : {A : Type 0} (b : Bool) (e : Refusal) (did : Did A Table) (table : Table) → IsSound table → IsSound did.left → IsSound (if b then record { answer = Err e; left = table } else did).left
did_if true e did table before after = before
did_if false e did table before after = after

-- `create`
pub create_sound : (name : List ℕ) (line : Line) (table : Table) → drops_writes line.target ≡ false → IsSound table → IsSound (create name line table).left
unfolding create
create_sound name line table none sound =
    did_if (is_merge line.target) BadTable _ table sound
    (did_if (is_some (place_of name table)) Busy _ table sound
    (did_if (nat_le 64 (device_count table)) TooMany _ table sound
    (made_sound name line.sectors line.target table none sound)))

-- Taking devices away.

left_loud : (device left : Device) → lowered_device device ≡ Some left → is_loud device.layers ≡ true → is_loud left.layers ≡ true
unfolding lowered_device
left_loud device left is loud = by (layers_below device.layers) refl is
  where
    by : (o : Option (List Layer)) → layers_below device.layers ≡ o → left_with (bytes_below device.layers device.bytes) o ≡ Some left → is_loud left.layers ≡ true
    by None at h = absurd (cc)
    by (Some layers) at h =
        let same : ◌≡◌ {A = Device} (record { bytes = bytes_below device.layers device.bytes; layers = layers }) left = cc in
        sym (ap (λ (d : Device). is_loud d.layers) same) ∙ loud_below device.layers layers at loud

-- the top of a stack goes
pub lowered_sound : (i : ℕ) (table : Table) → IsSound table → IsSound (changed table (lowered i table)).left
unfolding lowered lowered_to
lowered_sound i table sound =
    keeps_then IsSound (stack_at i table) (λ old. Ok (with_left i (lowered_to old) table)) table sound (λ old at.
    let there = stack_there i table old at in
    by old (lowered_device old.device) refl (stack_sound table i old sound there.0 there.1))
  where
    by : (old : Stacked) (left : Option Device) → lowered_device old.device ≡ left → is_loud old.device.layers ≡ true → IsSound (with_left i (left_as old left) table)
    by old None is loud = removed_sound table i sound
    by old (Some device) is loud = put_sound table i _ (left_loud old.device device is loud) sound

-- Raw sectors, messages and the time.

under_loud : (layers : List Layer) (first : ℕ) (bytes : List ℕ) (old new : Stacked) → loaded_under layers first bytes old ≡ Ok new → is_loud new.device.layers ≡ is_loud old.device.layers
under_loud [] first bytes old new h = sym (ap (λ (s : Stacked). is_loud s.device.layers) (same_ok _ new h))
under_loud (layer ∷ layers) first bytes old new h = absurd (not_ok Busy new h)

loaded_loud : (depth first count : ℕ) (bytes : List ℕ) (old new : Stacked) → loaded_free depth first count bytes old ≡ Ok new → is_loud new.device.layers ≡ is_loud old.device.layers
unfolding loaded_free
loaded_loud depth first count bytes old new h =
    let a = came_by (raw_in depth old.names old.device) _ new h in
    let b = came_by (fits _ first count) _ new a.2 in
    under_loud old.device.layers first bytes old new b.2

pub loaded_at_sound : (place : Place) (first count : ℕ) (bytes : List ℕ) (table : Table) → IsSound table → IsSound (changed table (loaded_at place first count bytes table)).left
unfolding loaded_at in_use
loaded_at_sound (Free i depth) first count bytes table sound =
    keeps_then IsSound (stack_at i table) _ table sound (λ old at.
    keeps_then IsSound (loaded_free depth first count bytes old) (λ new. Ok (put i new table)) table sound (λ new did.
    let there = stack_there i table old at in
    put_sound table i new (loaded_loud depth first count bytes old new did ∙ stack_sound table i old sound there.0 there.1) sound))
loaded_at_sound (In v role) first count bytes table sound =
    keeps_then IsSound (volume_at v table) _ table sound (λ old at.
    keeps_then IsSound (raw_under role old) _ table sound (λ raw is.
    keeps_then IsSound (fits _ first count) (λ _. Err Busy) table sound (λ one inside. sound)))

-- `load`
pub load_sound : (name : List ℕ) (first : ℕ) (bytes : List ℕ) (table : Table) → IsSound table → IsSound (changed table (load name first bytes table)).left
unfolding load
load_sound name first bytes table sound =
    keeps_then IsSound (whole bytes) _ table sound (λ count is.
    keeps_then IsSound (found (place_of name table)) (λ place. loaded_at place first count bytes table) table sound (λ place at.
    loaded_at_sound place first count bytes table sound))

-- a device that answered a message
pub told_in_loud : (device : Device) (depth : ℕ) (message : Message) (done : Answer × Device) → told_in device depth message ≡ Ok done → is_loud done.1.layers ≡ is_loud device.layers
unfolding told_in
told_in_loud device depth message done h = by (told device.layers depth message) refl h
  where
    by : (t : Told (List Layer)) → told device.layers depth message ≡ t → with_layers device t ≡ Ok done → is_loud done.1.layers ≡ is_loud device.layers
    by (Refused refusal) is h = absurd (not_ok refusal done h)
    by (Answered answer layers) is h =
        sym (ap (λ (d : Answer × Device). is_loud d.1.layers) (same_ok _ done h)) ∙ loud_told device.layers depth message answer layers is

told_free_loud : (depth : ℕ) (message : Message) (old : Stacked) (done : Answer × Stacked) → told_free depth message old ≡ Ok done → is_loud done.1.device.layers ≡ is_loud old.device.layers
unfolding told_free
told_free_loud depth message old done h =
    let a = came_by (told_in old.device depth message) _ done h in
    sym (ap (λ (d : Answer × Stacked). is_loud d.1.device.layers) (same_ok _ done a.2)) ∙ told_in_loud old.device depth message a.0 a.1

told_whole : (role : Role) (message : Message) (old : Volume) (done : Answer × Volume) → told_mounted role message old ≡ Ok done → is_sound_volume done.1 ≡ is_sound_volume old
unfolding told_mounted
told_whole role message old done h =
    let a = came_by (told_role role message (merged_in old)) _ done h in
    sym (ap (λ (d : Answer × Volume). is_sound_volume d.1) (same_ok _ done a.2))

pub told_at_sound : (place : Place) (message : Message) (table : Table) → IsSound table → IsSound (kept table (told_at place message table)).left
unfolding told_at
told_at_sound (Free i depth) message table sound =
    answers_then IsSound (stack_at i table) _ table sound (λ old at.
    answers_then IsSound (told_free depth message old) (λ done. Ok (done.0, put i done.1 table)) table sound (λ done did.
    let there = stack_there i table old at in
    put_sound table i done.1 (told_free_loud depth message old done did ∙ stack_sound table i old sound there.0 there.1) sound))
told_at_sound (In v role) message table sound =
    answers_then IsSound (volume_at v table) _ table sound (λ old at.
    answers_then IsSound (told_mounted role message old) (λ done. Ok (done.0, put_volume v done.1 table)) table sound (λ done did.
    let there = volume_there v table old at in
    put_volume_sound table v done.1 (told_whole role message old done did ∙ volume_whole table v old sound there.0 there.1) sound))

-- `message`
pub tell_sound : (name : List ℕ) (message : Message) (table : Table) → IsSound table → IsSound (kept table (tell name message table)).left
unfolding tell
tell_sound name message table sound = answers_then IsSound (found (place_of name table)) _ table sound (λ place at. told_at_sound place message table sound)

-- `tick`
pub ticked_same_sound : (seconds : ℕ) (table : Table) → is_sound (ticked seconds table) ≡ is_sound table
unfolding ticked
ticked_same_sound seconds table =
    let stacks = all_mapped is_sound_stack (stack_ticked seconds) table.stacks (λ s. loud_ticked seconds s.device.layers) in
    let volumes = all_mapped is_sound_volume (volume_ticked seconds) table.volumes (λ v. refl) in
    rw stacks (rw volumes refl)

pub ticked_sound : (seconds : ℕ) (table : Table) → IsSound table → IsSound (ticked seconds table)
ticked_sound seconds table sound = ticked_same_sound seconds table ∙ sound

-- Reads and writes.

in_volume_sound : {A : Type 0} (v : ℕ) (table : Table) (command : Volume → Did A Volume) → ((old : Volume) → is_sound_volume (command old).left ≡ is_sound_volume old) → IsSound table → IsSound (in_volume v table command (volume_at v table)).left
in_volume_sound v table command same sound = by (volume_at v table) (volume_there v table)
  where
    by : (r : Result Volume Refusal) → ((old : Volume) → r ≡ Ok old → (v < length table.volumes) × (old ≡ get_or table.volumes v old)) → IsSound (in_volume v table command r).left
    by (Err e) there = sound
    by (Ok old) there = let at = there old refl in put_volume_sound table v (command old).left (same old ∙ volume_whole table v old sound at.0 at.1) sound

at_role_sound : {A : Type 0} (table : Table) (command : Role → Volume → Did A Volume) (r : Result Place Refusal) → ((role : Role) (old : Volume) → is_sound_volume (command role old).left ≡ is_sound_volume old) → IsSound table → IsSound (at_role table command r).left
at_role_sound table command (Err e) same sound = sound
at_role_sound table command (Ok (Free i depth)) same sound = sound
at_role_sound table command (Ok (In v role)) same sound = in_volume_sound v table (command role) (same role) sound

read_whole : (count : ℕ) (old : Volume) (asked : Result Asked Refusal) → is_sound_volume (read_by count old asked).left ≡ is_sound_volume old
read_whole count old (Err e) = refl
read_whole count old (Ok asks) = refl

write_whole : (count : ℕ) (bytes : List ℕ) (old : Volume) (asked : Result Asked Refusal) → is_sound_volume (write_by count bytes old asked).left ≡ is_sound_volume old
write_whole count bytes old (Err e) = refl
write_whole count bytes old (Ok asks) = refl

-- `read`
pub read_sound : (name : List ℕ) (first count : ℕ) (table : Table) → IsSound table → IsSound (read name first count table).left
unfolding read read_in
read_sound name first count table sound = by (sectors_of count)
  where
    by : (r : Result ℕ Refusal) → IsSound (read_some name first table r).left
    by (Err e) = sound
    by (Ok count) = at_role_sound table _ (found (place_of name table)) (λ role old. read_whole count old (asked_of role first count old)) sound

-- `write`
pub write_sound : (name : List ℕ) (first : ℕ) (bytes : List ℕ) (table : Table) → IsSound table → IsSound (write name first bytes table).left
unfolding write written_in
write_sound name first bytes table sound = by (whole bytes)
  where
    by : (r : Result ℕ Refusal) → IsSound (write_some name first bytes table r).left
    by (Err e) = sound
    by (Ok count) = at_role_sound table _ (found (place_of name table)) (λ role old. write_whole count bytes old (asked_of role first count old)) sound
