-- What callers of a volume by commands see of a call of `resume_merge`, beside what it does to the volume of events that it is
-- (`DoesResumeMerge`).
use Rattle.std.specs.Prelude.{◌≡◌, ℕ, List, OnErr, OnOk, Result, Some}
use Rattle.sector.specs.declared.refusal.Refusal.{Refusal}
use Rattle.device.specs.Layers.{Layer}
use Rattle.whole_commands.specs.Merges.{resumed}
use Rattle.event_machine.specs.Merging.{resumed as machine_resumed}
use Rattle.merge.specs.Merging.{Merging}
use Rattle.volume.specs.Leaving.{is_quiet_of}
use Rattle.volume_commands.specs.Flying.{flying_of}
use Rattle.volume_commands.specs.Kept.{KeepsDevices}
use Rattle.volume_commands.specs.Rested.{Rested, merged_of, IsSettled}
use Rattle.volume_commands.specs.Showing.{arrays_in}

-- A merge that is begun goes on, whatever is in flight: in big steps and single events it is the machines' own, and changes nothing that
-- is shown. Where none is begun nothing changed.
pub record SeesResumeMerge {A B : Type 0} (contents : B → List ℕ) (layers : B → List Layer) (size : B → ℕ) (result : Result A Refusal) (old new : Rested B) : Type 0 where
  pub merged : OnOk result (resumed (merged_of contents layers old) ≡ merged_of contents layers new)
  pub shows : OnOk result (arrays_in contents layers new ≡ arrays_in contents layers old)
  pub flying : OnOk result (machine_resumed (flying_of contents layers old.events) ≡ flying_of contents layers new.events)
  pub begun : OnOk result ((m : Merging B) × (old.events.merge ≡ Some m))
  pub settled : IsSettled layers old → IsSettled layers new
  pub quiet : is_quiet_of new.events ≡ is_quiet_of old.events
  pub kept : KeepsDevices layers size old new
  pub requests : new.requests ≡ old.requests
  pub same : OnErr result (new ≡ old)
