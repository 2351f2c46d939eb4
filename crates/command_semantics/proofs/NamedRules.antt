-- Each command keeps the names of devices apart, and their number within its limit.
use Rattle.std.proofs.Common.{◌≡◌, ℕ, ◌+◌, ◌<◌, Bool, true, false, List, [], ◌∷◌, ◌++◌, length, get_or, refl, sym, ap, arith, subst}
use Rattle.std.specs.Prelude.{Option, Some, None, Result, Ok, Err, is_some, not, nat_le, nat_lt, ◌||◌, if◌then◌else◌}
use Rattle.std.specs.List.{remove}
use Rattle.sector.specs.declared.refusal.Refusal.{Refusal}
use Rattle.sector.specs.declared.refusal.Refusal.TheVariants.{NoSuchDevice, OutOfRange, Busy, TooMany, BadTable}
use Rattle.device.specs.Layers.{Layer, Flaky, Dusty}
use Rattle.layers.specs.declared.message.Message.{Message}
use Rattle.layers.specs.declared.message.Answer.{Answer}
use Rattle.words.specs.Given.{◌>>=◌}
use Rattle.table.specs.declared.lines.Line.{Line}
use Rattle.table.specs.declared.lines.Target.{Target}
use Rattle.table.specs.declared.lines.Target.TheVariants as targets
use Rattle.command.specs.Words.{sectors_of}
use Rattle.whole_commands.specs.Devices.{Device, sectors_of as size_of}
use Rattle.whole_commands.specs.Attaching.{Store, given_back}
use Rattle.whole_commands.specs.Merges.{Merged}
use Rattle.command_semantics.specs.declared.place.Role.{Role}
use Rattle.command_semantics.specs.declared.place.Role.TheVariants.{Origin, Under, Snapshot, Store as InStore, Merging, MergingStore}
use Rattle.command_semantics.specs.declared.place.Place.{Place}
use Rattle.command_semantics.specs.declared.place.Place.TheVariants.{Free, In}
use Rattle.command_semantics.specs.State.{Stacked, Names, Volume, Table, names_in, merged_in, with_merged}
use Rattle.command_semantics.specs.Places.{place_of, found, stack_at, volume_at}
use Rattle.command_semantics.specs.Changes.{Did, kept, changed}
use Rattle.command_semantics.specs.Disks.{device_count, with_stack, alone, blank, failing, is_size, make}
use Rattle.command_semantics.specs.Layers.{top, top_of, put, covered, layered, laid, broken, features_of}
use Rattle.command_semantics.specs.Messages.{told_in, told_free, told_role, told_mounted, told_at, tell, put_volume, snap_at, stack_ticked, volume_ticked, ticked}
use Rattle.command_semantics.specs.Raw.{names_at, raw_in, raw_under, fits, whole, loaded_under, loaded_free, in_use, loaded_at, load}
use Rattle.command_semantics.specs.Origins.{same_size, origin_on, moved_under, origin_made, stack_under, still, closed}
use Rattle.command_semantics.specs.Snapshots.{meet, snapshot_met, snapshot_left, stack_back, named_in, snapshot_by, snapshot_made, over, Named, stack_of, without_snapshot, parted, left_by}
use Rattle.command_semantics.specs.Creating.{made, is_merge, create}
use Rattle.command_semantics.specs.Removing.{left_as, lowered_device, lowered_to, with_left, lowered, removed_at, take_away}
use Rattle.command_semantics.specs.Sectors.{Asked, asked_of, read_by, read_in, write_by, written_in, in_volume, at_role, read_some, read, write_some, write}
use Rattle.command_semantics.specs.Naming.{stack_sum, volume_sum, AreNamed}
use Rattle.command_semantics.proofs.Sums.{map_sum}
use Rattle.command_semantics.proofs.Begun.{names_stay}
use Rattle.command_semantics.proofs.NamedFrames.{no_more_named, same_volume_names, put_named, put_volume_named, alone_named, covered_named, lowered_named, removed_named, moved_under_named, left_over_named, taken_by_named, given_by_named, left_over, given_by}
use Rattle.command_semantics.proofs.Keeping.{keeps_if, keeps_unless, keeps_then, answers_then, same_ok, not_ok, no_place, came_by, stack_there, volume_there, names_there}

-- Making devices.

-- `disk`
pub make_named : (name : List ℕ) (sectors : ℕ) (table : Table) → AreNamed table → AreNamed (changed table (make name sectors table)).left
unfolding make
make_named name sectors table named =
    keeps_if AreNamed (is_some (place_of name table)) Busy _ table named (λ free.
    keeps_if AreNamed (not (is_size sectors)) OutOfRange _ table named (λ size.
    keeps_if AreNamed (nat_le 64 (device_count table)) TooMany (Ok (with_stack (alone name (blank sectors)) table)) table named (λ room.
    alone_named table name (blank sectors) (no_place (place_of name table) free) room named)))

-- the names under a new layer
pub layered_names : (name : List ℕ) (layer : Layer) (first count : ℕ) (old new : Stacked) → layered name layer first count old ≡ Ok new → new.names ≡ name ∷ old.names
layered_names name layer first count old new h = by (nat_le (first + count) (size_of old.device)) h
  where
    by : (b : Bool) → (if b then Ok (covered name layer first count old) else Err BadTable) ≡ Ok new → new.names ≡ name ∷ old.names
    by true h = sym (ap (λ (s : Stacked). s.names) (same_ok _ new h))
    by false h = absurd (not_ok BadTable new h)

-- a layer
pub laid_named : (name : List ℕ) (layer : Layer) (first count : ℕ) (below : List ℕ) (table : Table) → place_of name table ≡ None → nat_le 64 (device_count table) ≡ false → AreNamed table → AreNamed (changed table (laid name layer first count below table)).left
unfolding laid
laid_named name layer first count below table none room named =
    keeps_then AreNamed (top below table) _ table named (λ i is.
    keeps_then AreNamed (stack_at i table) (λ old. layered name layer first count old >>= λ new. Ok (put i new table)) table named (λ old at.
    keeps_then AreNamed (layered name layer first count old) (λ new. Ok (put i new table)) table named (λ new did.
    let there = stack_there i table old at in
    covered_named table name i old new none room there.0 there.1 (layered_names name layer first count old new did) named)))

-- an error layer
pub broken_named : (name : List ℕ) (sectors : ℕ) (table : Table) → place_of name table ≡ None → nat_le 64 (device_count table) ≡ false → AreNamed table → AreNamed (changed table (broken name sectors table)).left
broken_named name sectors table none room named =
    keeps_unless AreNamed (is_size sectors) BadTable (Ok (with_stack (alone name (failing sectors)) table)) table named (λ size.
    alone_named table name (failing sectors) none room named)

-- an origin
pub origin_made_named : (name : List ℕ) (sectors : ℕ) (device : List ℕ) (table : Table) → place_of name table ≡ None → nat_le 64 (device_count table) ≡ false → AreNamed table → AreNamed (changed table (origin_made name sectors device table)).left
unfolding origin_made
origin_made_named name sectors device table none room named =
    keeps_then AreNamed (top device table) _ table named (λ i is.
    keeps_then AreNamed (stack_at i table) (λ old. same_size sectors (size_of old.device) >>= λ _. Ok (moved_under i (origin_on name old) table)) table named (λ old at.
    keeps_then AreNamed (same_size sectors (size_of old.device)) (λ _. Ok (moved_under i (origin_on name old) table)) table named (λ one same.
    let there = stack_there i table old at in
    moved_under_named table name i old (origin_on name old) none room there.0 there.1 refl refl refl refl named)))

-- what a line of a snapshot names is there
pub record AreThere (table : Table) (n : Named) : Type 0 where
  pub i_lt : n.i < length table.stacks
  pub i_at : n.stacked ≡ get_or table.stacks n.i n.stacked
  pub v_lt : n.v < length table.volumes
  pub v_at : n.volume ≡ get_or table.volumes n.v n.volume

pub named_there : (sectors : ℕ) (device store : List ℕ) (table : Table) (n : Named) → named_in sectors device store table ≡ Ok n → AreThere table n
unfolding named_in
named_there sectors device store table n h =
    let a = came_by (over (place_of device table)) _ n h in
    let b = came_by (top store table) _ n a.2 in
    let c = came_by (stack_at b.0 table) _ n b.2 in
    let d = came_by (volume_at a.0 table) _ n c.2 in
    let e = came_by (same_size sectors (size_of d.0.state.origin)) _ n d.2 in
    let is : ◌≡◌ {A = Named} (record { v = a.0; i = b.0; stacked = c.0; volume = d.0 }) n = same_ok _ n e.2 in
    let i = stack_there b.0 table c.0 c.1 in
    let v = volume_there a.0 table d.0 d.1 in
    subst (AreThere table) is (record { i_lt = i.0; i_at = i.1; v_lt = v.0; v_at = v.1 })

met_named : (name : List ℕ) (overflow : Bool) (i v : ℕ) (refused : Option Refusal) (old left : Stacked) (was new : Volume) (table : Table) → place_of name table ≡ None → nat_le 64 (device_count table) ≡ false → i < length table.stacks → old ≡ get_or table.stacks i old → v < length table.volumes → was ≡ get_or table.volumes v was → left.names ≡ old.names → new.origin ≡ was.origin → new.under ≡ was.under → new.snaps ≡ was.snaps ++ (record { snapshot = name; store = old.names; overflow = overflow }) ∷ [] → names_in new.merging ≡ names_in was.merging → AreNamed table → AreNamed (snapshot_left i v refused left new table).left
met_named name overflow i v None old left was new table none room i_lt i_at v_lt v_at names origin under snaps merging named =
    taken_by_named table name overflow i v old was new none room i_lt i_at v_lt v_at origin under snaps merging named
met_named name overflow i v (Some refusal) old left was new table none room i_lt i_at v_lt v_at names origin under snaps merging named =
    put_named table i old left i_lt i_at names named

back_names : (name : List ℕ) (chunk : ℕ) (overflow : Bool) (stacked : Stacked) (volume : Volume) → (meet name chunk overflow stacked volume).stacked.names ≡ stacked.names
unfolding meet
back_names name chunk overflow stacked volume = by (_)
  where
    by : (back : Option Store) → (stack_back stacked back).names ≡ stacked.names
    by None = refl
    by (Some store) = refl

-- a snapshot
pub snapshot_made_named : (name : List ℕ) (sectors : ℕ) (device store : List ℕ) (chunk : ℕ) (overflow : Bool) (table : Table) → place_of name table ≡ None → nat_le 64 (device_count table) ≡ false → AreNamed table → AreNamed (snapshot_made name sectors device store chunk overflow table).left
unfolding snapshot_made meet
snapshot_made_named name sectors device store chunk overflow table none room named = by (named_in sectors device store table) (named_there sectors device store table)
  where
    on : (n : Named) → AreThere table n → AreNamed (snapshot_met n.i n.v (meet name chunk overflow n.stacked n.volume) table).left
    on n there = met_named name overflow n.i n.v _ n.stacked _ n.volume _ table none room there.i_lt there.i_at there.v_lt there.v_at (back_names name chunk overflow n.stacked n.volume) refl refl refl refl named

    by : (r : Result Named Refusal) → ((n : Named) → r ≡ Ok n → AreThere table n) → AreNamed (snapshot_by name chunk overflow table r).left
    by (Err e) there = named
    by (Ok n) there = on n (there n refl)

-- the device of a line
pub made_named : (name : List ℕ) (sectors : ℕ) (target : Target) (table : Table) → place_of name table ≡ None → nat_le 64 (device_count table) ≡ false → AreNamed table → AreNamed (made name sectors target table).left
unfolding made
made_named name sectors (targets.Origin device) table none room named = origin_made_named name sectors device table none room named
made_named name sectors (targets.Snapshot device store chunk overflow) table none room named = snapshot_made_named name sectors device store chunk overflow table none room named
made_named name sectors (targets.Merge device store chunk overflow) table none room named = named
made_named name sectors (targets.Flakey device offset up down features) table none room named = laid_named name (Flaky 0 up down (features_of features) offset) offset sectors device table none room named
made_named name sectors (targets.Dust device block) table none room named = laid_named name (Dusty sectors block false []) 0 sectors device table none room named
made_named name sectors targets.Error table none room named = broken_named name sectors table none room named

did_if : {A : Type 0} (b : Bool) (e : Refusal) (did : Did A Table) (table : Table) → AreNamed table → (b ≡ false → AreNamed did.left) → AreNamed (if b then record { answer = Err e; left = table } else did).left
did_if true e did table named goes = named
did_if false e did table named goes = goes refl

-- `create`
pub create_named : (name : List ℕ) (line : Line) (table : Table) → AreNamed table → AreNamed (create name line table).left
unfolding create
create_named name line table named =
    did_if (is_merge line.target) BadTable _ table named (λ other.
    did_if (is_some (place_of name table)) Busy _ table named (λ free.
    did_if (nat_le 64 (device_count table)) TooMany _ table named (λ room.
    made_named name line.sectors line.target table (no_place (place_of name table) free) room named)))

-- Taking devices away.

-- an origin goes
pub closed_named : (v : ℕ) (table : Table) → AreNamed table → AreNamed (changed table (closed v table)).left
unfolding closed
closed_named v table named =
    keeps_then AreNamed (volume_at v table) _ table named (λ old at.
    keeps_if AreNamed (nat_lt 0 (length old.snaps) || is_some old.merging) Busy (still old >>= λ _. Ok (left_over (stack_under old) v table)) table named (λ none.
    keeps_then AreNamed (still old) (λ _. Ok (left_over (stack_under old) v table)) table named (λ one quiet.
    let there = volume_there v table old at in
    left_over_named table v old (stack_under old) there.0 there.1 refl named)))

-- what is parted
record ArePartNames (k : ℕ) (old : Volume) (parts : Stacked × Volume) : Type 0 where
  names : Names
  within : k < length old.snaps
  at : names ≡ get_or old.snaps k names
  store : parts.0.names ≡ names.store
  origin : parts.1.origin ≡ old.origin
  under : parts.1.under ≡ old.under
  snaps : parts.1.snaps ≡ remove old.snaps k
  merging : names_in parts.1.merging ≡ names_in old.merging

stack_names : (names : Names) (back : Option Store) (stacked : Stacked) → stack_of names back ≡ Ok stacked → stacked.names ≡ names.store
stack_names names None stacked h = absurd (not_ok NoSuchDevice stacked h)
stack_names names (Some store) stacked h = sym (ap (λ (s : Stacked). s.names) (same_ok _ stacked h))

part_names : (k : ℕ) (old : Volume) (parts : Stacked × Volume) → parted k old ≡ Ok parts → ArePartNames k old parts
unfolding parted
part_names k old parts h =
    let a = came_by (names_at k old) _ parts h in
    let b = came_by (snap_at k old.state) _ parts a.2 in
    let q = came_by (still old) _ parts b.2 in
    let c = came_by (stack_of a.0 (given_back b.0.number old.state.snaps)) _ parts q.2 in
    let is : ◌≡◌ {A = Stacked × Volume} (c.0, without_snapshot k b.0.number old) parts = same_ok _ parts c.2 in
    let there = names_there k old a.0 a.1 in
    subst (ArePartNames k old) is (record { names = a.0; within = there.0; at = there.1; store = stack_names a.0 _ c.0 c.1; origin = refl; under = refl; snaps = refl; merging = refl })

-- a snapshot goes
pub left_by_named : (v k : ℕ) (table : Table) → AreNamed table → AreNamed (changed table (left_by v k table)).left
unfolding left_by
left_by_named v k table named =
    keeps_then AreNamed (volume_at v table) _ table named (λ old at.
    keeps_then AreNamed (parted k old) (λ parts. Ok (given_by parts.0 v parts.1 table)) table named (λ parts did.
    let there = volume_there v table old at in
    let n = part_names k old parts did in
    given_by_named table v k n.names parts.0 old parts.1 there.0 there.1 n.within n.at n.store n.origin n.under n.snaps n.merging named))

with_left_named : (i : ℕ) (old : Stacked) (left : Option Device) (table : Table) → i < length table.stacks → old ≡ get_or table.stacks i old → AreNamed table → AreNamed (with_left i (left_as old left) table)
with_left_named i old None table lt at named = removed_named table i named
with_left_named i old (Some device) table lt at named = lowered_named table i old _ lt at refl named

-- the top of a stack goes
pub lowered_top_named : (i : ℕ) (table : Table) → AreNamed table → AreNamed (changed table (lowered i table)).left
unfolding lowered lowered_to
lowered_top_named i table named =
    keeps_then AreNamed (stack_at i table) (λ old. Ok (with_left i (lowered_to old) table)) table named (λ old at.
    let there = stack_there i table old at in
    with_left_named i old (lowered_device old.device) table there.0 there.1 named)

pub removed_at_named : (place : Place) (table : Table) → AreNamed table → AreNamed (changed table (removed_at place table)).left
removed_at_named (Free i depth) table named = keeps_then AreNamed (top_of i depth) _ table named (λ j is. lowered_top_named j table named)
removed_at_named (In v Origin) table named = closed_named v table named
removed_at_named (In v (Under depth)) table named = named
removed_at_named (In v (Snapshot k)) table named = left_by_named v k table named
removed_at_named (In v (InStore k depth)) table named = named
removed_at_named (In v Merging) table named = named
removed_at_named (In v (MergingStore depth)) table named = named

-- `remove`
pub take_away_named : (name : List ℕ) (table : Table) → AreNamed table → AreNamed (changed table (take_away name table)).left
unfolding take_away
take_away_named name table named = keeps_then AreNamed (found (place_of name table)) _ table named (λ place at. removed_at_named place table named)

-- Raw sectors, messages and the time.

under_names : (layers : List Layer) (first : ℕ) (bytes : List ℕ) (old new : Stacked) → loaded_under layers first bytes old ≡ Ok new → new.names ≡ old.names
under_names [] first bytes old new h = sym (ap (λ (s : Stacked). s.names) (same_ok _ new h))
under_names (layer ∷ layers) first bytes old new h = absurd (not_ok Busy new h)

loaded_names : (depth first count : ℕ) (bytes : List ℕ) (old new : Stacked) → loaded_free depth first count bytes old ≡ Ok new → new.names ≡ old.names
unfolding loaded_free
loaded_names depth first count bytes old new h =
    let a = came_by (raw_in depth old.names old.device) _ new h in
    let b = came_by (fits _ first count) _ new a.2 in
    under_names old.device.layers first bytes old new b.2

pub loaded_at_named : (place : Place) (first count : ℕ) (bytes : List ℕ) (table : Table) → AreNamed table → AreNamed (changed table (loaded_at place first count bytes table)).left
unfolding loaded_at in_use
loaded_at_named (Free i depth) first count bytes table named =
    keeps_then AreNamed (stack_at i table) _ table named (λ old at.
    keeps_then AreNamed (loaded_free depth first count bytes old) (λ new. Ok (put i new table)) table named (λ new did.
    let there = stack_there i table old at in
    put_named table i old new there.0 there.1 (loaded_names depth first count bytes old new did) named))
loaded_at_named (In v role) first count bytes table named =
    keeps_then AreNamed (volume_at v table) _ table named (λ old at.
    keeps_then AreNamed (raw_under role old) _ table named (λ raw is.
    keeps_then AreNamed (fits _ first count) (λ _. Err Busy) table named (λ one inside. named)))

-- `load`
pub load_named : (name : List ℕ) (first : ℕ) (bytes : List ℕ) (table : Table) → AreNamed table → AreNamed (changed table (load name first bytes table)).left
unfolding load
load_named name first bytes table named =
    keeps_then AreNamed (whole bytes) _ table named (λ count is.
    keeps_then AreNamed (found (place_of name table)) (λ place. loaded_at place first count bytes table) table named (λ place at.
    loaded_at_named place first count bytes table named))

told_free_names : (depth : ℕ) (message : Message) (old : Stacked) (done : Answer × Stacked) → told_free depth message old ≡ Ok done → done.1.names ≡ old.names
unfolding told_free
told_free_names depth message old done h =
    let a = came_by (told_in old.device depth message) _ done h in
    sym (ap (λ (d : Answer × Stacked). d.1.names) (same_ok _ done a.2))

-- names of a volume that are the same
pub record HasSameNames (old new : Volume) : Type 0 where
  pub origin : new.origin ≡ old.origin
  pub under : new.under ≡ old.under
  pub snaps : new.snaps ≡ old.snaps
  pub merging : names_in new.merging ≡ names_in old.merging

-- devices and a merge that change
pub merged_names : (m : Merged) (old : Volume) → HasSameNames old (with_merged m old)
merged_names m old = record { origin = refl; under = refl; snaps = refl; merging = names_stay old.merging m.merge }

told_names : (role : Role) (message : Message) (old : Volume) (done : Answer × Volume) → told_mounted role message old ≡ Ok done → HasSameNames old done.1
unfolding told_mounted
told_names role message old done h =
    let a = came_by (told_role role message (merged_in old)) _ done h in
    subst (λ (d : Answer × Volume). HasSameNames old d.1) (same_ok _ done a.2) (merged_names a.0.1 old)

pub told_at_named : (place : Place) (message : Message) (table : Table) → AreNamed table → AreNamed (kept table (told_at place message table)).left
unfolding told_at
told_at_named (Free i depth) message table named =
    answers_then AreNamed (stack_at i table) _ table named (λ old at.
    answers_then AreNamed (told_free depth message old) (λ done. Ok (done.0, put i done.1 table)) table named (λ done did.
    let there = stack_there i table old at in
    put_named table i old done.1 there.0 there.1 (told_free_names depth message old done did) named))
told_at_named (In v role) message table named =
    answers_then AreNamed (volume_at v table) _ table named (λ old at.
    answers_then AreNamed (told_mounted role message old) (λ done. Ok (done.0, put_volume v done.1 table)) table named (λ done did.
    let there = volume_there v table old at in
    let n = told_names role message old done did in
    put_volume_named table v old done.1 there.0 there.1 n.origin n.under n.snaps n.merging named))

-- `message`
pub tell_named : (name : List ℕ) (message : Message) (table : Table) → AreNamed table → AreNamed (kept table (tell name message table)).left
unfolding tell
tell_named name message table named = answers_then AreNamed (found (place_of name table)) _ table named (λ place at. told_at_named place message table named)

-- `tick`
pub ticked_named : (seconds : ℕ) (table : Table) → AreNamed table → AreNamed (ticked seconds table)
unfolding ticked
ticked_named seconds table named =
    no_more_named table _ (λ f.
    let stacks = map_sum (stack_sum f) (stack_ticked seconds) table.stacks (λ s. refl) in
    let volumes = map_sum (volume_sum f) (volume_ticked seconds) table.volumes (ticked_same f) in
    omega (arith, stacks, volumes)) named
  where
    ticked_same : (f : List ℕ → ℕ) (v : Volume) → volume_sum f (volume_ticked seconds v) ≡ volume_sum f v
    ticked_same f v = same_volume_names f v (volume_ticked seconds v) refl refl refl (names_stay v.merging _)

-- Reads and writes.

in_volume_named : {A : Type 0} (v : ℕ) (table : Table) (command : Volume → Did A Volume) → ((old : Volume) → HasSameNames old (command old).left) → AreNamed table → AreNamed (in_volume v table command (volume_at v table)).left
in_volume_named v table command same named = by (volume_at v table) (volume_there v table)
  where
    by : (r : Result Volume Refusal) → ((old : Volume) → r ≡ Ok old → (v < length table.volumes) × (old ≡ get_or table.volumes v old)) → AreNamed (in_volume v table command r).left
    by (Err e) there = named
    by (Ok old) there =
        let at = there old refl in
        let n = same old in
        put_volume_named table v old (command old).left at.0 at.1 n.origin n.under n.snaps n.merging named

at_role_named : {A : Type 0} (table : Table) (command : Role → Volume → Did A Volume) (r : Result Place Refusal) → ((role : Role) (old : Volume) → HasSameNames old (command role old).left) → AreNamed table → AreNamed (at_role table command r).left
at_role_named table command (Err e) same named = named
at_role_named table command (Ok (Free i depth)) same named = named
at_role_named table command (Ok (In v role)) same named = in_volume_named v table (command role) (same role) named

read_names : (count : ℕ) (old : Volume) (asked : Result Asked Refusal) → HasSameNames old (read_by count old asked).left
read_names count old (Err e) = record { origin = refl; under = refl; snaps = refl; merging = refl }
read_names count old (Ok asks) = record { origin = refl; under = refl; snaps = refl; merging = names_stay old.merging _ }

write_names : (count : ℕ) (bytes : List ℕ) (old : Volume) (asked : Result Asked Refusal) → HasSameNames old (write_by count bytes old asked).left
write_names count bytes old (Err e) = record { origin = refl; under = refl; snaps = refl; merging = refl }
write_names count bytes old (Ok asks) = record { origin = refl; under = refl; snaps = refl; merging = names_stay old.merging _ }

-- `read`
pub read_named : (name : List ℕ) (first count : ℕ) (table : Table) → AreNamed table → AreNamed (read name first count table).left
unfolding read read_in
read_named name first count table named = by (sectors_of count)
  where
    by : (r : Result ℕ Refusal) → AreNamed (read_some name first table r).left
    by (Err e) = named
    by (Ok count) = at_role_named table _ (found (place_of name table)) (λ role old. read_names count old (asked_of role first count old)) named

-- `write`
pub write_named : (name : List ℕ) (first : ℕ) (bytes : List ℕ) (table : Table) → AreNamed table → AreNamed (write name first bytes table).left
unfolding write written_in
write_named name first bytes table named = by (whole bytes)
  where
    by : (r : Result ℕ Refusal) → AreNamed (write_some name first bytes table r).left
    by (Err e) = named
    by (Ok count) = at_role_named table _ (found (place_of name table)) (λ role old. write_names count bytes old (asked_of role first count old)) named
