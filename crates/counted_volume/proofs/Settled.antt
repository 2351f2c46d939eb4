-- What events and requests keep of a volume, one after another.
use Rattle.std.proofs.Common.{ℕ, refl, ◌∙◌}
use Rattle.volume.specs.Volumed.{Volumed}
use Rattle.volume.specs.Stepping.{KeepsAll}

pub keeps_none : {B : Type 0} (size : B → ℕ) (v : Volumed B) → KeepsAll size v v
keeps_none size v = record { attached = refl; numbers = refl; chunks = refl; merged = refl; sizes = refl }

pub keeps_more : {B : Type 0} (size : B → ℕ) (u v w : Volumed B) → KeepsAll size u v → KeepsAll size v w → KeepsAll size u w
keeps_more size u v w h k = record { attached = k.attached ∙ h.attached; numbers = k.numbers ∙ h.numbers; chunks = k.chunks ∙ h.chunks; merged = k.merged ∙ h.merged; sizes = k.sizes ∙ h.sizes }
