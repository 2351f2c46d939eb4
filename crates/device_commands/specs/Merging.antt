-- What the commands of a merge do to the volume at a place.
use Rattle.std.specs.Prelude.{◌≡◌, ℕ, [], ◌∷◌, ◌++◌, slice_set, Result, Ok, Err}
use Rattle.sector.specs.declared.refusal.Refusal.{Refusal}
use Rattle.words.specs.Given.{◌>>=◌}
use Rattle.command_semantics.specs.State.{Stacked, Volume, Table}
use Rattle.command_semantics.specs.Places.{volume_at}
use Rattle.command_semantics.specs.Messages.{put_volume}
use Rattle.command_semantics.specs.Events.{merge_done}
use Rattle.command_semantics.specs.Merging.{resumed, finished}
use Rattle.device_list.specs.Names.{IsNamedBegun, IsNamedLess}
use Rattle.device_list.specs.Flights.{IsUnfinished}

-- its merge goes on after a fault
abbrev pub resumed_at : ℕ → Table → Result Table Refusal
resumed_at v table = do
  volume ← volume_at v table
  new ← resumed volume
  Ok (put_volume v new table)

-- its merge is finished
abbrev pub finished_at : ℕ → Table → Result Table Refusal
finished_at v table = do
  volume ← volume_at v table
  parts ← finished volume
  Ok (record { stacks = table.stacks ++ parts.0 ∷ []; volumes = slice_set table.volumes v parts.1 })

-- all that is left to do in it is done
abbrev pub settled_at : ℕ → Table → Result Table Refusal
settled_at v table = do
  volume ← volume_at v table
  Ok (put_volume v (merge_done volume) table)

-- one of its snapshots is merged now
abbrev pub IsBegunIn : Volume → Volume → Type 0
IsBegunIn old new = (k : ℕ) × IsNamedBegun k old new

-- its merge is not finished, for this reason
abbrev pub IsUnfinishedIn : Refusal → Result Volume Refusal → Type 0
IsUnfinishedIn e (Err refusal) = Unit {0}
IsUnfinishedIn e (Ok volume) = IsUnfinished e volume

-- its merge is finished: all else of the table is as it was, and the store is a stack that nothing uses
abbrev pub IsFinishedIn : ℕ → Table → Table → Result Volume Refusal → Type 0
IsFinishedIn v old new (Err refusal) = ⊥
IsFinishedIn v old new (Ok volume) =
    (stacked : Stacked) × (after : Volume) × IsNamedLess stacked volume after
    × (new ≡ record { stacks = old.stacks ++ stacked ∷ []; volumes = slice_set old.volumes v after })
