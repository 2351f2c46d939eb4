-- Of which devices contracts say what is read and written. A layer that drops writes answers Ok and does nothing (dm-flakey's
-- `drop_writes`), so nothing is said of volumes over such layers but that they are safe. While requests are in flight, what a
-- command reads and writes depends on them too: then each event's own contract says what it does (`volume`), and these rules
-- speak again once nothing is left to do.
use Rattle.std.specs.Prelude.{◌&&◌, Bool, false}
use Rattle.std.specs.List.{list_all}
use Rattle.device.specs.Layers.{is_loud}
use Rattle.table.specs.declared.lines.Target.{Target}
use Rattle.table.specs.declared.lines.Target.TheVariants.{Origin, Snapshot, Merge, Flakey, Dust, Error}
use Rattle.command_semantics.specs.State.{Stacked, Volume, Table}

abbrev pub is_sound_stack : Stacked → Bool
is_sound_stack stacked = is_loud stacked.device.layers

abbrev pub is_sound_volume : Volume → Bool
is_sound_volume volume = volume.sound && volume.quiet

-- no device drops writes, and nothing is in flight
abbrev pub is_sound : Table → Bool
is_sound table = list_all is_sound_stack table.stacks && list_all is_sound_volume table.volumes

-- whether a device drops writes
abbrev pub drops_writes : Target → Bool
drops_writes (Flakey device offset up down features) = features.drop_writes
drops_writes (Origin device) = false
drops_writes (Snapshot device store chunk overflow) = false
drops_writes (Merge device store chunk overflow) = false
drops_writes (Dust device block) = false
drops_writes Error = false
