-- A store that is refused before the volume is asked leaves it as it was.
use Rattle.std.proofs.Common.{inl, ℕ, List, refl}
use Rattle.sector.specs.declared.refusal.Refusal.{Refusal}
use Rattle.device.specs.Layers.{Layer}
use Rattle.volume.specs.Attached.{IsRefusedOver}
use Rattle.volume.specs.Volumed.{Volumed}

pub refused_same : {B : Type 0} (contents : B → List ℕ) (layers : B → List Layer) (size : B → ℕ) (refusal : Refusal) (v : Volumed B) → IsRefusedOver contents layers size refusal v v
refused_same contents layers size refusal v = record {
  becomes = refl;
  origin = record { contents_are = refl; size_is = refl; loud_is = refl; layers_are = inl refl };
  kept = λ answered. refl;
  shown = refl;
  loud = refl;
  rests = λ sectors replied rests. rests;
}
