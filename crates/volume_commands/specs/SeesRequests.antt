-- What callers of a volume by commands see of a request that is started and of an event, beside what these do to the volume of events
-- that it is (`DoesSubmit`, `DoesStep`).
use Rattle.std.specs.Prelude.{◌≡◌, ◌≢◌, ◌+◌, ◌≤◌, ℕ, List, IfErr, OnErr, Result}
use Rattle.sector.specs.declared.refusal.Refusal.{Refusal}
use Rattle.sector.specs.declared.refusal.Refusal.TheVariants.{Invalid, Overflow}
use Rattle.device.specs.Layers.{Layer}
use Rattle.plain_machine.specs.declared.event.NotDue.{NotDue}
use Rattle.plain_machine.specs.declared.event.Outcome.{Outcome}
use Rattle.volume.specs.Leaving.{is_quiet_of}
use Rattle.volume_commands.specs.Kept.{KeepsDevices}
use Rattle.volume_commands.specs.Rested.{Rested, merged_of}

-- The devices stay as they are, but for layers and bytes, and one number at most is given. Refused for another reason than its
-- snapshot, nothing changes in big steps; and the volume is as quiet as before where its snapshot is not spoiled.
pub record SeesStart {B : Type 0} (contents : B → List ℕ) (layers : B → List Layer) (size : B → ℕ) (result : Result ℕ Refusal) (old new : Rested B) : Type 0 where
  pub same : IfErr result (λ refusal. refusal ≢ Invalid → refusal ≢ Overflow → merged_of contents layers new ≡ merged_of contents layers old)
  pub still : IfErr result (λ refusal. refusal ≢ Invalid → is_quiet_of new.events ≡ is_quiet_of old.events)
  pub kept : KeepsDevices layers size old new
  pub requests : new.requests ≤ old.requests + 1

-- An event keeps the devices, but for layers and bytes, and gives no number; one that is not due changes nothing.
pub record SeesStep {B : Type 0} (layers : B → List Layer) (size : B → ℕ) (result : Result Outcome NotDue) (old new : Rested B) : Type 0 where
  pub same : OnErr result (new ≡ old)
  pub kept : KeepsDevices layers size old new
  pub requests : new.requests ≡ old.requests
