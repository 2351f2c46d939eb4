-- To be believed: what commands do to what volumes show is said in these words.
-- What each command does to what is shown, by its answer. Volumes are told apart by their order, which no command changes but
-- one that takes an origin away, alone or with its snapshots; places and names are those of the table before the command.
use Rattle.std.specs.Prelude.{◌≡◌, ◌⊎◌, ℕ, List, [], ◌∷◌, ◌++◌, Option, Some, None, Result, Ok, Err}
use Rattle.std.specs.List.{remove}
use Rattle.sector.specs.declared.refusal.Refusal.{Refusal}
use Rattle.plain_machine.specs.Plain.{Live}
use Rattle.table.specs.declared.lines.Target.{Target}
use Rattle.table.specs.declared.lines.Target.TheVariants as targets
use Rattle.command.specs.declared.grammar.Command.{Command}
use Rattle.command.specs.declared.grammar.Command.TheVariants as commands
use Rattle.command_semantics.specs.declared.place.Role.{Role}
use Rattle.command_semantics.specs.declared.place.Role.TheVariants.{Origin, Under, Snapshot, Store, Merging, MergingStore}
use Rattle.command_semantics.specs.declared.place.Place.{Place}
use Rattle.command_semantics.specs.declared.place.Place.TheVariants.{Free, In}
use Rattle.words.specs.Given.{◌>>=◌}
use Rattle.snapshot.specs.Opening.{shown_array}
use Rattle.command_semantics.specs.State.{Stacked, Table}
use Rattle.command_semantics.specs.Places.{place_of, stack_at}
use Rattle.command_semantics.specs.Layers.{top}
use Rattle.command_semantics.specs.Events.{origin_by}
use Rattle.command_semantics.specs.Snapshots.{over}
use Rattle.commands_on_saved_arrays.specs.Arrays.{Arrays}
use Rattle.commands_on_saved_arrays.specs.Shown.{IsChangedAt, IsGoneOn, IsMergedBack, IsWrittenTo, IsWriteRefused}

-- Snapshot k is gone.
pub record IsTakenAway (k : ℕ) (old new : Arrays) : Type 0 where
  pub name : new.name ≡ old.name
  pub array : new.array ≡ old.array
  pub snaps : new.snaps ≡ remove old.snaps k

-- There is one snapshot more, over a store with these bytes: it shows what the origin shows, with the chunks that a written store
-- has in place.
pub record IsSnapshotMade (name store : List ℕ) (old new : Arrays) : Type 0 where
  pub same : new.name ≡ old.name
  pub array : new.array ≡ old.array
  pub snaps : new.snaps ≡ old.snaps ++ (record { name = name; saved = Live (shown_array old.array store) }) ∷ []

-- a device at a place is taken away: no origin with snapshots, and nothing that another stands on
abbrev pub IsRemoved : Option Place → List Arrays → List Arrays → Type 0
IsRemoved None old new = ⊥
IsRemoved (Some (Free i depth)) old new = new ≡ old
IsRemoved (Some (In v Origin)) old new = new ≡ remove old v
IsRemoved (Some (In v (Under depth))) old new = ⊥
IsRemoved (Some (In v (Snapshot k))) old new = IsChangedAt v (IsTakenAway k) old new
IsRemoved (Some (In v (Store k depth))) old new = ⊥
IsRemoved (Some (In v Merging)) old new = ⊥
IsRemoved (Some (In v (MergingStore depth))) old new = ⊥

-- the stack that nothing uses, and that the device of a name is the top of
abbrev pub stack_named : List ℕ → Table → Result Stacked Refusal
stack_named name table = top name table >>= λ i. stack_at i table

-- a device is made: an origin shows the bytes of the stack that it stands on
abbrev pub IsMade : List ℕ → Target → Table → List Arrays → List Arrays → Type 0
IsMade name (targets.Origin device) table old new =
    (under : Stacked) × (stack_named device table ≡ Ok under) × (new ≡ old ++ (record { name = name; array = under.device.bytes; snaps = [] }) ∷ [])
IsMade name (targets.Snapshot device store chunk overflow) table old new =
    (v : ℕ) × (under : Stacked) × (over (place_of device table) ≡ Ok v) × (stack_named store table ≡ Ok under) × IsChangedAt v (IsSnapshotMade name under.device.bytes) old new
IsMade name (targets.Merge device store chunk overflow) table old new = ⊥
IsMade name (targets.Flakey device offset up down features) table old new = new ≡ old
IsMade name (targets.Dust device block) table old new = new ≡ old
IsMade name targets.Error table old new = new ≡ old

-- A command that is not refused. What is not named here shows what it showed.
abbrev pub IsAnswered : Command → Table → List Arrays → List Arrays → Type 0
IsAnswered (commands.Create name line) table old new = IsMade name line.target table old new
IsAnswered (commands.Remove name) table old new = IsRemoved (place_of name table) old new
IsAnswered (commands.Write name first bytes) table old new = (v : ℕ) × (role : Role) × (place_of name table ≡ Some (In v role)) × IsChangedAt v (IsWrittenTo role first bytes) old new
IsAnswered (commands.Settle name) table old new = (v : ℕ) × (origin_by name table ≡ Ok v) × IsChangedAt v IsGoneOn old new
IsAnswered (commands.Merge name) table old new = (v : ℕ) × (k : ℕ) × (place_of name table ≡ Some (In v (Snapshot k))) × IsChangedAt v (IsMergedBack k) old new
IsAnswered (commands.Disk name sectors) table old new = new ≡ old
IsAnswered (commands.Load disk first bytes) table old new = new ≡ old
IsAnswered (commands.Save disk first count) table old new = new ≡ old
IsAnswered (commands.Copy from first to count) table old new = new ≡ old
IsAnswered commands.List table old new = new ≡ old
IsAnswered (commands.Message device message) table old new = new ≡ old
IsAnswered (commands.Tick seconds) table old new = new ≡ old
IsAnswered (commands.Read device first count) table old new = new ≡ old
IsAnswered (commands.Flush device) table old new = new ≡ old
IsAnswered (commands.StartRead device first count) table old new = new ≡ old
IsAnswered (commands.StartWrite device first bytes) table old new = new ≡ old
IsAnswered (commands.Step volume event) table old new = new ≡ old
IsAnswered (commands.Resume volume) table old new = new ≡ old
IsAnswered (commands.Finish volume) table old new = new ≡ old
IsAnswered (commands.Checkpoint volume) table old new = new ≡ old
IsAnswered (commands.Stop volume) table old new = (v : ℕ) × (origin_by volume table ≡ Ok v) × (new ≡ remove old v)
IsAnswered (commands.StopLosing volume) table old new = (v : ℕ) × (origin_by volume table ≡ Ok v) × (new ≡ remove old v)
IsAnswered (commands.Status device) table old new = new ≡ old
IsAnswered (commands.Table device) table old new = new ≡ old
IsAnswered (commands.Map device) table old new = new ≡ old

-- one that is refused: what a write leaves
abbrev pub IsRefused : Command → Table → Refusal → List Arrays → List Arrays → Type 0
IsRefused (commands.Write name first bytes) table refusal old new =
    (new ≡ old) ⊎ ((v : ℕ) × (role : Role) × (place_of name table ≡ Some (In v role)) × IsChangedAt v (IsWriteRefused role first bytes refusal) old new)
IsRefused (commands.Create name line) table refusal old new = new ≡ old
IsRefused (commands.Remove name) table refusal old new = new ≡ old
IsRefused (commands.Settle name) table refusal old new = new ≡ old
IsRefused (commands.Merge name) table refusal old new = new ≡ old
IsRefused (commands.Disk name sectors) table refusal old new = new ≡ old
IsRefused (commands.Load disk first bytes) table refusal old new = new ≡ old
IsRefused (commands.Save disk first count) table refusal old new = new ≡ old
IsRefused (commands.Copy from first to count) table refusal old new = new ≡ old
IsRefused commands.List table refusal old new = new ≡ old
IsRefused (commands.Message device message) table refusal old new = new ≡ old
IsRefused (commands.Tick seconds) table refusal old new = new ≡ old
IsRefused (commands.Read device first count) table refusal old new = new ≡ old
IsRefused (commands.Flush device) table refusal old new = new ≡ old
IsRefused (commands.StartRead device first count) table refusal old new = new ≡ old
IsRefused (commands.StartWrite device first bytes) table refusal old new = new ≡ old
IsRefused (commands.Step volume event) table refusal old new = new ≡ old
IsRefused (commands.Resume volume) table refusal old new = new ≡ old
IsRefused (commands.Finish volume) table refusal old new = new ≡ old
IsRefused (commands.Checkpoint volume) table refusal old new = new ≡ old
IsRefused (commands.Stop volume) table refusal old new = new ≡ old
IsRefused (commands.StopLosing volume) table refusal old new = new ≡ old
IsRefused (commands.Status device) table refusal old new = new ≡ old
IsRefused (commands.Table device) table refusal old new = new ≡ old
IsRefused (commands.Map device) table refusal old new = new ≡ old

-- by its answer
abbrev pub IsShown : {A : Type 0} → Command → Table → Result A Refusal → List Arrays → List Arrays → Type 0
IsShown command table (Ok answer) old new = IsAnswered command table old new
IsShown command table (Err refusal) old new = IsRefused command table refusal old new
