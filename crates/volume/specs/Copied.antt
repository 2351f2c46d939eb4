-- To be believed: a volume's steps are said in these words.
-- The chunks of a merge's group, copied back at once: each is read and written as `step` does it, one after another.
use Rattle.std.specs.Prelude.{◌≡◌, ◌&&◌, ℕ, zero, suc, Bool, true, false, List, Option, Some, None, Ok}
use Rattle.device.specs.Layers.{Layer}
use Rattle.device.specs.Bare.{can_copy_run}
use Rattle.plain_machine.specs.declared.event.Event.{Event}
use Rattle.plain_machine.specs.declared.event.Event.TheVariants.{MergeRead, MergeWrite}
use Rattle.plain_machine.specs.declared.event.Outcome.TheVariants.{Done}
use Rattle.plain_machine.specs.declared.request.Reply.{Reply}
use Rattle.volume_laws.specs.MergeDue.{is_none}
use Rattle.event_machine.specs.MergeDue.{due_all}
use Rattle.merge.specs.Due.{can_copy_of}
use Rattle.merge.specs.Merging.{Merging}
use Rattle.volume.specs.DoesStep.{DoesStep}
use Rattle.volume.specs.Moved.{moving_of}
use Rattle.volume.specs.Volumed.{Volumed, next_of}

-- no other snapshot is attached, nothing is in flight, devices of this kind copy runs, no layer stands above one, and the chunks of a
-- group wait that lie whole on the origin, two at least
abbrev pub can_copy_to : {B : Type 0} → Bool → (B → List Layer) → B → Option (Merging B) → Bool
can_copy_to copies_runs layers origin None = false
can_copy_to copies_runs layers origin (Some m) = can_copy_of m.group m.state.chunk m.state.origin && can_copy_run copies_runs (layers origin) (layers m.device)

abbrev pub can_copy_group : {B : Type 0} → Bool → (B → List Layer) → Volumed B → Bool
can_copy_group copies_runs layers v = is_none v.snaps && (is_none v.flights && can_copy_to copies_runs layers v.origin v.merge)

-- an event that is due first was done, and nothing failed
pub record IsDoneInTurn {B : Type 0} (holds : B → ℕ → List ℕ → Type 0) (contents : B → List ℕ) (layers : B → List Layer) (size faults done : B → ℕ) (event : Event) (old new : Volumed B) : Type 0 where
  pub does : DoesStep holds contents layers size faults done true event (Ok Done) old new
  pub first : next_of contents layers old ≡ Some event
  pub machine : (replied : Option Reply) → due_all (moving_of contents layers replied old) ≡ Some event

-- so many chunks were read and written
abbrev pub AreCopied : {B : Type 0} → (B → ℕ → List ℕ → Type 0) → (B → List ℕ) → (B → List Layer) → (B → ℕ) → (B → ℕ) → (B → ℕ) → ℕ → Volumed B → Volumed B → Type 0
AreCopied holds contents layers size faults done zero old new = new ≡ old
AreCopied holds contents layers size faults done (suc n) old new =
    (read : Volumed _) × (written : Volumed _) × IsDoneInTurn holds contents layers size faults done MergeRead old read
    × IsDoneInTurn holds contents layers size faults done MergeWrite read written × AreCopied holds contents layers size faults done n written new
