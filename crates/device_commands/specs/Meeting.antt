-- What `create` answers and leaves where its line asks for a snapshot, whatever is in flight in the volume, and whichever device
-- drops writes.
use Rattle.std.specs.Prelude.{◌≡◌, ℕ, Bool, true, false, List, nat_le, is_some, slice_set, Option, Some, None, Result, Ok, Err, MatchResult, if◌then◌else◌}
use Rattle.std.specs.List.{remove}
use Rattle.sector.specs.declared.refusal.Refusal.{Refusal}
use Rattle.sector.specs.declared.refusal.Refusal.TheVariants.{BadTable, Busy, TooMany}
use Rattle.table.specs.declared.lines.Line.{Line}
use Rattle.table.specs.declared.lines.Target.{Target}
use Rattle.table.specs.declared.lines.Target.TheVariants.{Origin, Snapshot, Merge, Flakey, Dust, Error}
use Rattle.whole_commands.specs.Refusals.{is_starved}
use Rattle.command_semantics.specs.Creating.{is_merge}
use Rattle.command_semantics.specs.Disks.{device_count}
use Rattle.command_semantics.specs.Layers.{put}
use Rattle.command_semantics.specs.Places.{place_of}
use Rattle.command_semantics.specs.Snapshots.{Named, named_in}
use Rattle.command_semantics.specs.State.{Stacked, Volume, Table}
use Rattle.device_list.specs.Names.{IsNamedMore}
use Rattle.device_list.specs.Taking.{IsNotMet}

-- The stack is the store of a snapshot of this name, the last of its volume, in which nothing was left to do; all else is as it
-- was.
pub record IsMetIn (name : List ℕ) (overflow : Bool) (old new : Table) (n : Named) : Type 0 where
  pub after : Volume
  pub more : IsNamedMore name overflow n.stacked n.volume after
  pub quiet : n.volume.quiet ≡ true
  pub left : new ≡ record { stacks = remove old.stacks n.i; volumes = slice_set old.volumes n.v after }

-- No snapshot was taken, for this reason: all is as it was, but that the bytes and layers of the stack may be changed. Those are as
-- they were too where memory or room ran out, and where anything was left to do in the volume.
pub record IsUnmetIn (chunk : ℕ) (refusal : Refusal) (old new : Table) (n : Named) : Type 0 where
  pub cause : IsNotMet chunk n.stacked refusal n.volume
  pub back : Stacked
  pub names : back.names ≡ n.stacked.names
  pub left : new ≡ put n.i back old
  pub starved : is_starved refusal ≡ true → back ≡ n.stacked
  pub busy : n.volume.quiet ≡ false → back ≡ n.stacked

-- the volume and the stack that the line names met, or not; a line that names none is refused for that
abbrev pub IsMetBy : List ℕ → ℕ → Bool → Result (Unit {0}) Refusal → Table → Table → Result Named Refusal → Type 0
IsMetBy name chunk overflow result old new (Err e) = (result ≡ Err e) × (new ≡ old)
IsMetBy name chunk overflow result old new (Ok n) = MatchResult result (λ _. IsMetIn name overflow old new n) (λ e. IsUnmetIn chunk e old new n)

-- of a target: no other asks anything of a volume
abbrev pub IsMadeBy : List ℕ → ℕ → Target → Result (Unit {0}) Refusal → Table → Table → Type 0
IsMadeBy name sectors (Snapshot device store chunk overflow) result old new = IsMetBy name chunk overflow result old new (named_in sectors device store old)
IsMadeBy name sectors (Origin device) result old new = Unit {0}
IsMadeBy name sectors (Merge device store chunk overflow) result old new = Unit {0}
IsMadeBy name sectors (Flakey device offset up down features) result old new = Unit {0}
IsMadeBy name sectors (Dust device block) result old new = Unit {0}
IsMadeBy name sectors Error result old new = Unit {0}

-- why nothing is made before the devices are looked at that a line names
abbrev pub name_refusal : List ℕ → Target → Table → Option Refusal
name_refusal name target table =
    if is_merge target then Some BadTable else
    if is_some (place_of name table) then Some Busy else
    if nat_le 64 (device_count table) then Some TooMany else None

abbrev pub IsCreatedBy : List ℕ → ℕ → Target → Result (Unit {0}) Refusal → Table → Table → Option Refusal → Type 0
IsCreatedBy name sectors target result old new (Some e) = (result ≡ Err e) × (new ≡ old)
IsCreatedBy name sectors target result old new None = IsMadeBy name sectors target result old new

unfoldable pub IsCreated : List ℕ → Line → Result (Unit {0}) Refusal → Table → Table → Type 0
IsCreated name line result old new = IsCreatedBy name line.sectors line.target result old new (name_refusal name line.target old)
