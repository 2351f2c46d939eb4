-- All that is left to do in the volume at a place is done.
use Rattle.std.proofs.Common.{◌≡◌, ℕ, ◌<◌, true, length, get_or, refl, sym, ap, ◌∙◌}
use Rattle.std.specs.Prelude.{not, is_some, Option, Some, None, Result, Ok, Err, IfErr, OnOk}
use Rattle.sector.specs.declared.refusal.Refusal.{Refusal}
use Rattle.sector.specs.declared.refusal.Refusal.TheVariants.{NoMemory}
use Rattle.command_semantics.specs.State.{Merging, Volume, Table}
use Rattle.command_semantics.specs.Places.{volume_at}
use Rattle.command_semantics.specs.Changes.{Changes}
use Rattle.command_semantics.specs.Messages.{put_volume}
use Rattle.command_semantics.specs.Events.{merge_done}
use Rattle.command_semantics.specs.Sectors.{IsInVolume}
use Rattle.command_semantics.specs.Sound.{is_sound, is_sound_volume}
use Rattle.command_semantics.proofs.AtPlace.{volume_here}
use Rattle.command_semantics.proofs.SoundFrames.{both, put_volume_sound, volume_whole}
use Rattle.device_commands.specs.Merging.{settled_at}
use Rattle.device_commands.specs.Ruled.{is_alone_in}
use Rattle.device_commands.proofs.InVolume.{changed_in, idle_in}

-- what was refused changed nothing
abbrev pub IsStarved : Refusal → Volume → Volume → Type 0 → Type 0
IsStarved e old new told = (e ≡ NoMemory) × (new ≡ old) × told

pub settles : (r : Result (Unit {0}) Refusal) (told : Type 0) (v : ℕ) (table : Table) (old new : Volume) → v < length table.volumes → old ≡ get_or table.volumes v old → OnOk r (new ≡ merge_done old) → IfErr r (λ e. IsStarved e old new told) → Changes r table (put_volume v new table) (settled_at v table)
settles (Ok done) told v table old new lt at did starved =
    let there = volume_here table v old lt at in
    let left : Volume → Result Table Refusal = λ w. Ok (put_volume v w table) in rw there (ap left (sym did))
settles (Err e) told v table old new lt at did starved = (idle_in v table old new at starved.1, λ other. absurd (other starved.0))

-- nothing of the table is changed
pub starved_as : (r : Result (Unit {0}) Refusal) (told : Type 0) (v : ℕ) (table : Table) (old new : Volume) → old ≡ get_or table.volumes v old → IfErr r (λ e. IsStarved e old new told) → IfErr r (λ e. (e ≡ NoMemory) × (put_volume v new table ≡ table) × told)
starved_as (Ok done) told v table old new at starved = tt
starved_as (Err e) told v table old new at starved = (starved.0, idle_in v table old new at starved.1, starved.2)

no_merge : (g : Option Merging) → not (is_some g) ≡ true → g ≡ None
no_merge None h = refl
no_merge (Some g) h = absurd (cc)

pub alone_in : (v : ℕ) (table : Table) (old new : Volume) → v < length table.volumes → old ≡ get_or table.volumes v old → (old.quiet ≡ true → old.merging ≡ None → new ≡ old) → is_alone_in (volume_at v table) ≡ true → put_volume v new table ≡ table
alone_in v table old new lt at alone h =
    let is = both old.quiet (not (is_some old.merging)) (sym (ap is_alone_in (volume_here table v old lt at)) ∙ h) in
    idle_in v table old new at (alone is.0 (no_merge old.merging is.1))

pub drained_in : (holds : Volume → Volume → Type 0) (r : Result (Unit {0}) Refusal) (v : ℕ) (table : Table) (old new : Volume) → v < length table.volumes → old ≡ get_or table.volumes v old → OnOk r (holds old new) → OnOk r (IsInVolume holds v table (put_volume v new table) (volume_at v table))
drained_in holds (Ok done) v table old new lt at h = changed_in holds v table old new lt at h
drained_in holds (Err e) v table old new lt at h = tt

-- a sound table stays so
settled_whole : (r : Result (Unit {0}) Refusal) (told : Type 0) (old new : Volume) → OnOk r (new ≡ merge_done old) → IfErr r (λ e. IsStarved e old new told) → is_sound_volume new ≡ is_sound_volume old
settled_whole (Ok done) told old new did starved = ap is_sound_volume did
settled_whole (Err e) told old new did starved = ap is_sound_volume starved.1

pub settles_sound : (r : Result (Unit {0}) Refusal) (told : Type 0) (v : ℕ) (table : Table) (old new : Volume) → v < length table.volumes → old ≡ get_or table.volumes v old → OnOk r (new ≡ merge_done old) → IfErr r (λ e. IsStarved e old new told) → is_sound table ≡ true → is_sound (put_volume v new table) ≡ true
settles_sound r told v table old new lt at did starved sound =
    put_volume_sound table v new (settled_whole r told old new did starved ∙ volume_whole table v old sound lt at) sound
