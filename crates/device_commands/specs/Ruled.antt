-- Of which volumes a command's rule speaks: of those alone that it is asked of. A layer that drops writes, or a request that
-- is in flight, says nothing of any other volume.
use Rattle.std.specs.Prelude.{◌&&◌, ℕ, Bool, true, not, is_some, List, Result, Ok, Err}
use Rattle.sector.specs.declared.refusal.Refusal.{Refusal}
use Rattle.sector.specs.declared.refusal.Refusal.TheVariants.{BadTable}
use Rattle.words.specs.Given.{◌>>=◌}
use Rattle.table.specs.declared.lines.Target.{Target}
use Rattle.table.specs.declared.lines.Target.TheVariants.{Origin, Snapshot, Merge, Flakey, Dust, Error}
use Rattle.command_semantics.specs.declared.place.Place.{Place}
use Rattle.command_semantics.specs.declared.place.Place.TheVariants.{Free, In}
use Rattle.command_semantics.specs.State.{Volume, Table}
use Rattle.command_semantics.specs.Places.{place_of, found, volume_at}
use Rattle.command_semantics.specs.Origins.{still}
use Rattle.command_semantics.specs.Snapshots.{Named, named_in}
use Rattle.command_semantics.specs.Sound.{is_sound_stack, is_sound_volume}

-- the volume that has the device at a place
abbrev pub volume_with : Table → Result Place Refusal → Result Volume Refusal
volume_with table (Err refusal) = Err refusal
volume_with table (Ok (Free i depth)) = Err BadTable
volume_with table (Ok (In v role)) = volume_at v table

-- and the device of a name
abbrev pub volume_for : List ℕ → Table → Result Volume Refusal
volume_for name table = volume_with table (found (place_of name table))

-- nothing is left to do in the volume at a place
abbrev pub rests_at : ℕ → Table → Result (Unit {0}) Refusal
rests_at v table = volume_at v table >>= λ volume. still volume

-- nothing is in flight in a volume, if there is one
abbrev pub is_quiet_in : Result Volume Refusal → Bool
is_quiet_in (Err refusal) = true
is_quiet_in (Ok volume) = volume.quiet

-- and no merge is begun in it
abbrev pub is_alone_in : Result Volume Refusal → Bool
is_alone_in (Err refusal) = true
is_alone_in (Ok volume) = volume.quiet && not (is_some volume.merging)

-- nothing is in flight, nor does a device of it drop writes
abbrev pub is_sound_in : Result Volume Refusal → Bool
is_sound_in (Err refusal) = true
is_sound_in (Ok volume) = is_sound_volume volume

-- no device of it drops writes, whatever is in flight
abbrev pub is_loud_in : Result Volume Refusal → Bool
is_loud_in (Err refusal) = true
is_loud_in (Ok volume) = volume.sound

-- the same of the volume and the stack that a snapshot's line names
abbrev pub is_sound_for : Result Named Refusal → Bool
is_sound_for (Err refusal) = true
is_sound_for (Ok n) = is_sound_volume n.volume && is_sound_stack n.stacked

-- and of a target: no other asks anything of a volume
abbrev pub is_sound_target : ℕ → Target → Table → Bool
is_sound_target sectors (Snapshot device store chunk overflow) table = is_sound_for (named_in sectors device store table)
is_sound_target sectors (Origin device) table = true
is_sound_target sectors (Merge device store chunk overflow) table = true
is_sound_target sectors (Flakey device offset up down features) table = true
is_sound_target sectors (Dust device block) table = true
is_sound_target sectors Error table = true
