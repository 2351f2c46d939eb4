-- What a volume keeps true between its calls, and so what a stop then leaves. This project's own.
use Rattle.std.specs.Prelude.{◌≡◌, ℕ, true, List, None}
use Rattle.device.specs.Layers.{Layer}
use Rattle.volume.specs.Lasting.{IsKept}
use Rattle.volume.specs.Stopping.{StopsVolume}
use Rattle.volume.specs.Volumed.{Volumed, is_loud_in_all}

pub record IsLookedAt {B : Type 0} (holds : B → ℕ → List ℕ → Type 0) (contents : B → List ℕ) (layers : B → List Layer) (size : B → ℕ) (v : Volumed B) : Type 0 where
  pub kept : IsKept holds contents layers size v
  pub stops : is_loud_in_all layers v ≡ true → StopsVolume holds size None v v
