-- What the time and a message to a layer leave of a volume by commands. This project's own.
use Rattle.std.specs.Prelude.{◌≡◌, ℕ, List}
use Rattle.device.specs.Layers.{Layer}
use Rattle.volume.specs.Leaving.{is_quiet_of}
use Rattle.volume_commands.specs.Flying.{flying_of}
use Rattle.volume_commands.specs.Kept.{KeepsDevices}
use Rattle.volume_commands.specs.Rested.{Rested, IsSettled}

-- Layers alone changed: the devices and all that is in flight stay, no number is given, and the volume is as quiet, and as settled.
pub record ChangesLayers {B : Type 0} (contents : B → List ℕ) (layers : B → List Layer) (size : B → ℕ) (old new : Rested B) : Type 0 where
  pub settled : IsSettled layers old → IsSettled layers new
  pub kept : KeepsDevices layers size old new
  pub requests : new.requests ≡ old.requests
  pub quiet : is_quiet_of new.events ≡ is_quiet_of old.events
  pub flying : flying_of contents layers new.events ≡ flying_of contents layers old.events
