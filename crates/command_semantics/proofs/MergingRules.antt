-- The commands of a merge keep the names of devices apart, and leave a sound table sound.
use Rattle.std.proofs.Common.{◌≡◌, ℕ, ◌<◌, List, length, get_or, refl, sym, ap, ◌∙◌, subst}
use Rattle.std.specs.Prelude.{Option, Some, None, Result, Ok, Err, is_some, if◌then◌else◌}
use Rattle.sector.specs.declared.refusal.Refusal.{Refusal}
use Rattle.sector.specs.declared.refusal.Refusal.TheVariants.{MergeInProgress, NotMerging, NotFinished}
use Rattle.words.specs.Given.{◌>>=◌}
use Rattle.whole_commands.specs.Snaps.{Snap}
use Rattle.whole_commands.specs.Merges.{merged}
use Rattle.command_semantics.specs.declared.place.Role.TheVariants.{Origin, Under, Snapshot, Store, Merging, MergingStore}
use Rattle.command_semantics.specs.declared.place.Place.{Place}
use Rattle.command_semantics.specs.declared.place.Place.TheVariants.{Free, In}
use Rattle.command_semantics.specs.State.{Stacked, Names, Merging as Begun, Volume, Table, names_in, merged_in}
use Rattle.command_semantics.specs.Places.{place_of, found, volume_at}
use Rattle.command_semantics.specs.Changes.{changed}
use Rattle.command_semantics.specs.Messages.{put_volume, snap_at}
use Rattle.command_semantics.specs.Raw.{names_at}
use Rattle.command_semantics.specs.Origins.{still}
use Rattle.command_semantics.specs.Events.{origin_by, merge_done, settle}
use Rattle.command_semantics.specs.Merging.{unmerged, alive, with_begun, begun, begun_at, merge_begun, resumed_by, resumed, merge_resumed, all_merged, store_left, finished_by, finished, merge_finished}
use Rattle.command_semantics.specs.Naming.{AreNamed}
use Rattle.command_semantics.specs.Sound.{is_sound_volume}
use Rattle.command_semantics.proofs.Keeping.{keeps_then, same_ok, not_ok, came_by, volume_there, names_there}
use Rattle.command_semantics.proofs.NamedFrames.{given_by, put_volume_named, begun_named, finished_named}
use Rattle.command_semantics.proofs.NamedRules.{HasSameNames, merged_names}
use Rattle.command_semantics.proofs.SoundFrames.{volume_whole, put_volume_sound}
use Rattle.command_semantics.proofs.SoundRules.{IsSound}

-- `settle`
pub settle_named : (name : List ℕ) (table : Table) → AreNamed table → AreNamed (changed table (settle name table)).left
unfolding settle
settle_named name table named =
    keeps_then AreNamed (origin_by name table) _ table named (λ v is.
    keeps_then AreNamed (volume_at v table) (λ old. Ok (put_volume v (merge_done old) table)) table named (λ old at.
    let there = volume_there v table old at in
    let n = merged_names (merged (merged_in old)) old in
    put_volume_named table v old (merge_done old) there.0 there.1 n.origin n.under n.snaps n.merging named))

pub settle_sound : (name : List ℕ) (table : Table) → IsSound table → IsSound (changed table (settle name table)).left
unfolding settle
settle_sound name table sound =
    keeps_then IsSound (origin_by name table) _ table sound (λ v is.
    keeps_then IsSound (volume_at v table) (λ old. Ok (put_volume v (merge_done old) table)) table sound (λ old at.
    let there = volume_there v table old at in
    put_volume_sound table v (merge_done old) (volume_whole table v old sound there.0 there.1) sound))

-- What begins.
pub record IsBegun (k : ℕ) (old new : Volume) : Type 0 where
  pub names : Names
  pub snap : Snap
  pub named : names_at k old ≡ Ok names
  pub before : names_in old.merging ≡ None
  pub becomes : new ≡ with_begun k names snap old

none_begun : (g : Option Begun) → (let r : Result (Unit {0}) Refusal = if is_some g then Err MergeInProgress else Ok tt in r) ≡ Ok tt → names_in g ≡ None
none_begun None h = refl
none_begun (Some g) h = absurd (not_ok MergeInProgress tt h)

pub begun_as : (k : ℕ) (old new : Volume) → begun k old ≡ Ok new → IsBegun k old new
unfolding begun
begun_as k old new h =
    let a = came_by (unmerged old) _ new h in
    let b = came_by (names_at k old) _ new a.2 in
    let c = came_by (snap_at k old.state) _ new b.2 in
    let d = came_by (alive c.0) _ new c.2 in
    let e = came_by (still old) _ new d.2 in
    record { names = b.0; snap = c.0; named = b.1; before = none_begun old.merging a.1; becomes = sym (same_ok _ new e.2) }

-- `merge`
put_begun_named : (v k : ℕ) (table : Table) (old new : Volume) → v < length table.volumes → old ≡ get_or table.volumes v old → IsBegun k old new → AreNamed table → AreNamed (put_volume v new table)
put_begun_named v k table old new lt at b named =
    let there = names_there k old b.names b.named in
    subst (λ (w : Volume). AreNamed (put_volume v w table)) (sym b.becomes)
    (begun_named table v k b.names old (with_begun k b.names b.snap old) lt at there.0 there.1 refl refl refl b.before refl named)

begun_at_named : (place : Place) (table : Table) → AreNamed table → AreNamed (changed table (begun_at place table)).left
unfolding begun_at
begun_at_named (Free i depth) table named = named
begun_at_named (In v Origin) table named = named
begun_at_named (In v (Under depth)) table named = named
begun_at_named (In v (Snapshot k)) table named =
    keeps_then AreNamed (volume_at v table) _ table named (λ old at.
    keeps_then AreNamed (begun k old) (λ new. Ok (put_volume v new table)) table named (λ new did.
    let there = volume_there v table old at in put_begun_named v k table old new there.0 there.1 (begun_as k old new did) named))
begun_at_named (In v (Store k depth)) table named = named
begun_at_named (In v Merging) table named = named
begun_at_named (In v (MergingStore depth)) table named = named

pub merge_begun_named : (name : List ℕ) (table : Table) → AreNamed table → AreNamed (changed table (merge_begun name table)).left
unfolding merge_begun
merge_begun_named name table named = keeps_then AreNamed (found (place_of name table)) _ table named (λ place at. begun_at_named place table named)

pub begun_whole : (k : ℕ) (old new : Volume) → IsBegun k old new → is_sound_volume new ≡ is_sound_volume old
begun_whole k old new b = ap is_sound_volume b.becomes

begun_at_sound : (place : Place) (table : Table) → IsSound table → IsSound (changed table (begun_at place table)).left
unfolding begun_at
begun_at_sound (Free i depth) table sound = sound
begun_at_sound (In v Origin) table sound = sound
begun_at_sound (In v (Under depth)) table sound = sound
begun_at_sound (In v (Snapshot k)) table sound =
    keeps_then IsSound (volume_at v table) _ table sound (λ old at.
    keeps_then IsSound (begun k old) (λ new. Ok (put_volume v new table)) table sound (λ new did.
    let there = volume_there v table old at in
    put_volume_sound table v new (begun_whole k old new (begun_as k old new did) ∙ volume_whole table v old sound there.0 there.1) sound))
begun_at_sound (In v (Store k depth)) table sound = sound
begun_at_sound (In v Merging) table sound = sound
begun_at_sound (In v (MergingStore depth)) table sound = sound

pub merge_begun_sound : (name : List ℕ) (table : Table) → IsSound table → IsSound (changed table (merge_begun name table)).left
unfolding merge_begun
merge_begun_sound name table sound = keeps_then IsSound (found (place_of name table)) _ table sound (λ place at. begun_at_sound place table sound)

-- What goes on: its names and flags are as they were.
pub record IsGoingOn (old new : Volume) : Type 0 where
  pub names : HasSameNames old new
  pub whole : is_sound_volume new ≡ is_sound_volume old

resumed_from : (g : Option Begun) (old new : Volume) → old.merging ≡ g → resumed_by g old ≡ Ok new → IsGoingOn old new
resumed_from None old new was h = absurd (not_ok NotMerging new h)
resumed_from (Some g) old new was h =
    subst (λ (w : Volume). IsGoingOn old w) (same_ok _ new h) (record { names = record { origin = refl; under = refl; snaps = refl; merging = sym (ap names_in was) }; whole = refl })

pub resumed_as : (old new : Volume) → resumed old ≡ Ok new → IsGoingOn old new
unfolding resumed
resumed_as old new h = resumed_from old.merging old new refl h

-- `resume`
pub merge_resumed_named : (name : List ℕ) (table : Table) → AreNamed table → AreNamed (changed table (merge_resumed name table)).left
unfolding merge_resumed
merge_resumed_named name table named =
    keeps_then AreNamed (origin_by name table) _ table named (λ v is.
    keeps_then AreNamed (volume_at v table) (λ old. resumed old >>= λ new. Ok (put_volume v new table)) table named (λ old at.
    keeps_then AreNamed (resumed old) (λ new. Ok (put_volume v new table)) table named (λ new did.
    let there = volume_there v table old at in
    let n = (resumed_as old new did).names in
    put_volume_named table v old new there.0 there.1 n.origin n.under n.snaps n.merging named)))

pub merge_resumed_sound : (name : List ℕ) (table : Table) → IsSound table → IsSound (changed table (merge_resumed name table)).left
unfolding merge_resumed
merge_resumed_sound name table sound =
    keeps_then IsSound (origin_by name table) _ table sound (λ v is.
    keeps_then IsSound (volume_at v table) (λ old. resumed old >>= λ new. Ok (put_volume v new table)) table sound (λ old at.
    keeps_then IsSound (resumed old) (λ new. Ok (put_volume v new table)) table sound (λ new did.
    let there = volume_there v table old at in
    put_volume_sound table v new ((resumed_as old new did).whole ∙ volume_whole table v old sound there.0 there.1) sound)))

-- What is finished.
pub record IsFinished (old : Volume) (parts : Stacked × Volume) : Type 0 where
  pub merge : Begun
  pub was : old.merging ≡ Some merge
  pub stacked : parts.0 ≡ store_left merge
  pub becomes : parts.1 ≡ record old { merging = None }

finished_from : (g : Option Begun) (old : Volume) (parts : Stacked × Volume) → old.merging ≡ g → finished_by g old ≡ Ok parts → IsFinished old parts
finished_from None old parts was h = absurd (not_ok NotFinished parts h)
finished_from (Some g) old parts was h =
    let a = came_by (all_merged g.merge) _ parts h in
    let b = came_by (still old) _ parts a.2 in
    let is : ◌≡◌ {A = Stacked × Volume} (store_left g, record old { merging = None }) parts = same_ok _ parts b.2 in
    subst (IsFinished old) is (record { merge = g; was = was; stacked = refl; becomes = refl })

pub finished_as : (old : Volume) (parts : Stacked × Volume) → finished old ≡ Ok parts → IsFinished old parts
unfolding finished
finished_as old parts h = finished_from old.merging old parts refl h

-- `finish`
pub put_finished_named : (v : ℕ) (table : Table) (old : Volume) (parts : Stacked × Volume) → v < length table.volumes → old ≡ get_or table.volumes v old → IsFinished old parts → AreNamed table → AreNamed (given_by parts.0 v parts.1 table)
put_finished_named v table old parts lt at b named =
    let now = b.becomes in
    finished_named table v b.merge.names parts.0 old parts.1 lt at (ap (λ (s : Stacked). s.names) b.stacked)
    (ap (λ (w : Volume). w.origin) now) (ap (λ (w : Volume). w.under) now) (ap (λ (w : Volume). w.snaps) now) (ap names_in b.was) (ap (λ (w : Volume). names_in w.merging) now) named

pub merge_finished_named : (name : List ℕ) (table : Table) → AreNamed table → AreNamed (changed table (merge_finished name table)).left
unfolding merge_finished
merge_finished_named name table named =
    keeps_then AreNamed (origin_by name table) _ table named (λ v is.
    keeps_then AreNamed (volume_at v table) (λ old. finished old >>= λ parts. Ok (given_by parts.0 v parts.1 table)) table named (λ old at.
    keeps_then AreNamed (finished old) (λ parts. Ok (given_by parts.0 v parts.1 table)) table named (λ parts did.
    let there = volume_there v table old at in put_finished_named v table old parts there.0 there.1 (finished_as old parts did) named)))

-- the volume is as sound without the merge
pub finished_whole : (old : Volume) (parts : Stacked × Volume) → IsFinished old parts → is_sound_volume parts.1 ≡ is_sound_volume old
finished_whole old parts b = ap is_sound_volume b.becomes
