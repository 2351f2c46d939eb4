-- Events that are done one after another, each of them the one that is due first: how far the event machine gets by them,
-- and what a volume has answered when none is left.
use Rattle.std.specs.Prelude.{◌≡◌, ℕ, ◌+◌, true, List, Option}
use Rattle.device.specs.Layers.{Layer}
use Rattle.plain_machine.specs.declared.event.Event.{Event}
use Rattle.plain_machine.specs.declared.request.Reply.{Reply}
use Rattle.event_machine.specs.Due.{due}
use Rattle.event_machine.specs.Held.{Moving}
use Rattle.event_machine.specs.MergeDue.{due_all}
use Rattle.event_machine.specs.MergeRest.{IsBetween}
use Rattle.event_machine.specs.MergeStepping.{stepped_all}
use Rattle.event_machine.specs.Settles.{settle_by}
use Rattle.event_machine.specs.Stepping.{stepped}
use Rattle.whole_commands.specs.Merges.{Merged}
use Rattle.volume.specs.Volumed.{Volumed, is_loud_in_all}
use Rattle.volume.specs.Moved.{moving_of}
use Rattle.volume.specs.Telling.{merged_in}

-- the machine gets there by some events, each chosen so, and each doing this
pub record ReachesBy (choose : Moving → Option Event) (step : Event → Moving → Moving) (m w : Moving) : Type 0 where
  pub steps : ℕ
  pub settles : (more : ℕ) → settle_by choose step (steps + more) m ≡ settle_by choose step more w

-- by those that are due of the snapshots and requests; and by those of the merge too
abbrev pub Reaches : Moving → Moving → Type 0
Reaches m w = ReachesBy due stepped m w

abbrev pub ReachesAll : Moving → Moving → Type 0
ReachesAll m w = ReachesBy due_all stepped_all m w

-- and so does a volume with no device that drops writes; before and after: the last replies
pub record IsRunBy {B : Type 0} (choose : Moving → Option Event) (step : Event → Moving → Moving) (contents : B → List ℕ) (layers : B → List Layer) (before after : Option Reply) (old new : Volumed B) : Type 0 where
  pub reaches : is_loud_in_all layers old ≡ true → ReachesBy choose step (moving_of contents layers before old) (moving_of contents layers after new)
  pub loud : is_loud_in_all layers new ≡ is_loud_in_all layers old

abbrev pub IsRun : {B : Type 0} → (B → List ℕ) → (B → List Layer) → Option Reply → Option Reply → Volumed B → Volumed B → Type 0
IsRun contents layers before after old new = IsRunBy due stepped contents layers before after old new

abbrev pub IsRunAll : {B : Type 0} → (B → List ℕ) → (B → List Layer) → Option Reply → Option Reply → Volumed B → Volumed B → Type 0
IsRunAll contents layers before after old new = IsRunBy due_all stepped_all contents layers before after old new

-- The volume's devices, snapshots and merge are those of the answer; nothing is under way, and no reply was given.
pub record IsMergedTo {B : Type 0} (contents : B → List ℕ) (layers : B → List Layer) (sectors : ℕ) (before after : Option Reply) (v : Volumed B) (answer : Merged) : Type 0 where
  pub is : merged_in contents layers v ≡ answer
  pub silent : after ≡ before
  pub rest : IsBetween sectors (moving_of contents layers after v)
