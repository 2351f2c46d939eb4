-- A merge of the volume at a place begins, or goes on after a fault.
use Rattle.std.proofs.Common.{◌≡◌, ℕ, ◌<◌, true, false, List, length, get_or, refl, sym, ap, ◌∙◌, subst}
use Rattle.std.specs.Prelude.{Result, Ok, Err, IfErr, OnOk}
use Rattle.sector.specs.declared.refusal.Refusal.{Refusal}
use Rattle.whole_commands.specs.Refusals.{is_starved}
use Rattle.command_semantics.specs.declared.place.Role.TheVariants.{Snapshot}
use Rattle.command_semantics.specs.declared.place.Place.TheVariants.{In}
use Rattle.command_semantics.specs.State.{Volume, Table}
use Rattle.command_semantics.specs.Places.{volume_at}
use Rattle.command_semantics.specs.Changes.{Changes, Enters}
use Rattle.command_semantics.specs.Messages.{put_volume}
use Rattle.command_semantics.specs.Merging.{begun, begun_at, resumed}
use Rattle.command_semantics.specs.Naming.{AreNamed}
use Rattle.command_semantics.specs.Sectors.{IsInVolume}
use Rattle.command_semantics.specs.Sound.{is_sound, is_sound_volume}
use Rattle.command_semantics.proofs.AtPlace.{changes_at, enters_at, volume_here}
use Rattle.command_semantics.proofs.Keeping.{names_there}
use Rattle.command_semantics.proofs.MergingRules.{resumed_as}
use Rattle.command_semantics.proofs.NamedFrames.{begun_named, put_volume_named}
use Rattle.command_semantics.proofs.SoundFrames.{of_both, put_volume_sound, volume_quiet, volume_sound, volume_whole}
use Rattle.device_list.specs.Names.{IsNamedBegun}
use Rattle.device_commands.specs.Merging.{IsBegunIn, resumed_at}
use Rattle.device_commands.proofs.InVolume.{changed_in, idle_in}

-- it begins, or is refused
pub begins : (r : Result (Unit {0}) Refusal) (v k : ℕ) (table : Table) (old new : Volume) → v < length table.volumes → old ≡ get_or table.volumes v old → Enters r old new (begun k old) → Enters r table (put_volume v new table) (begun_at (In v (Snapshot k)) table)
unfolding begun_at
begins r v k table old new lt at h =
    let there = volume_here table v old lt at in
    rw there (enters_at (λ (volumes : List Volume). record { stacks = table.stacks; volumes = volumes }) table.volumes v old new r (begun k old) at h)

-- it is refused, whatever its devices do
pub not_begun : (r : Result (Unit {0}) Refusal) (v k : ℕ) (table : Table) (old new : Volume) → v < length table.volumes → old ≡ get_or table.volumes v old → IfErr r (λ e. (new ≡ old) × (is_starved e ≡ false → begun k old ≡ Err e)) → IfErr r (λ e. (put_volume v new table ≡ table) × (is_starved e ≡ false → begun_at (In v (Snapshot k)) table ≡ Err e))
unfolding begun_at
not_begun (Ok done) v k table old new lt at h = tt
not_begun (Err e) v k table old new lt at h = (
  idle_in v table old new at h.0,
  λ other. let there = volume_here table v old lt at in rw there (let is = h.1 other in rw is refl),
)

-- its names then
pub begun_in : (r : Result (Unit {0}) Refusal) (v k : ℕ) (table : Table) (old new : Volume) → v < length table.volumes → old ≡ get_or table.volumes v old → OnOk r (IsNamedBegun k old new) → OnOk r (IsInVolume IsBegunIn v table (put_volume v new table) (volume_at v table))
begun_in (Ok done) v k table old new lt at h = changed_in IsBegunIn v table old new lt at (k, h)
begun_in (Err e) v k table old new lt at h = tt

pub begins_named : (r : Result (Unit {0}) Refusal) (v k : ℕ) (table : Table) (old new : Volume) → v < length table.volumes → old ≡ get_or table.volumes v old → OnOk r (IsNamedBegun k old new) → IfErr r (λ e. (new ≡ old) × (is_starved e ≡ false → begun k old ≡ Err e)) → AreNamed table → AreNamed (put_volume v new table)
begins_named (Ok done) v k table old new lt at h refused named =
    let there = names_there k old h.names h.named in
    begun_named table v k h.names old new lt at there.0 there.1 h.origin h.under h.snaps h.before h.merging named
begins_named (Err e) v k table old new lt at h refused named = subst AreNamed (sym (idle_in v table old new at refused.0)) named

-- a volume that keeps what is said of its devices and of what is in flight
pub same_sound : (v : ℕ) (table : Table) (old new : Volume) → v < length table.volumes → old ≡ get_or table.volumes v old → new.sound ≡ old.sound → new.quiet ≡ old.quiet → is_sound table ≡ true → is_sound (put_volume v new table) ≡ true
same_sound v table old new lt at loud quiet sound =
    put_volume_sound table v new (of_both new.sound new.quiet (loud ∙ volume_sound table v old sound lt at) (quiet ∙ volume_quiet table v old sound lt at)) sound

-- it goes on
pub goes_on : (r : Result (Unit {0}) Refusal) (v : ℕ) (table : Table) (old new : Volume) → v < length table.volumes → old ≡ get_or table.volumes v old → Changes r old new (resumed old) → Changes r table (put_volume v new table) (resumed_at v table)
goes_on r v table old new lt at h =
    let there = volume_here table v old lt at in
    rw there (changes_at (λ (volumes : List Volume). record { stacks = table.stacks; volumes = volumes }) table.volumes v old new r (resumed old) at h)

pub goes_named : (r : Result (Unit {0}) Refusal) (v : ℕ) (table : Table) (old new : Volume) → v < length table.volumes → old ≡ get_or table.volumes v old → Changes r old new (resumed old) → AreNamed table → AreNamed (put_volume v new table)
goes_named (Ok done) v table old new lt at h named =
    let n = (resumed_as old new h).names in put_volume_named table v old new lt at n.origin n.under n.snaps n.merging named
goes_named (Err e) v table old new lt at h named = subst AreNamed (sym (idle_in v table old new at h.0)) named

goes_whole : (r : Result (Unit {0}) Refusal) (old new : Volume) → Changes r old new (resumed old) → is_sound_volume new ≡ is_sound_volume old
goes_whole (Ok done) old new h = (resumed_as old new h).whole
goes_whole (Err e) old new h = ap is_sound_volume h.0

pub goes_sound : (r : Result (Unit {0}) Refusal) (v : ℕ) (table : Table) (old new : Volume) → v < length table.volumes → old ≡ get_or table.volumes v old → Changes r old new (resumed old) → is_sound table ≡ true → is_sound (put_volume v new table) ≡ true
goes_sound r v table old new lt at h sound = put_volume_sound table v new (goes_whole r old new h ∙ volume_whole table v old sound lt at) sound
