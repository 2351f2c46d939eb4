-- To be believed: that a volume came by deeds is said in these words.
-- The life of a volume: it began over a device, without snapshots and requests, and all that was done to it since is one list of deeds,
-- each with the volume's own answer. This project's own.
use Rattle.std.specs.Prelude.{ℕ, List, [], None}
use Rattle.device.specs.Layers.{Layer}
use Rattle.volume.specs.Layering.{Measures}
use Rattle.volume.specs.Volumed.{Volumed}
use Rattle.volume_lifetime.specs.declared.deed.Deed.{Deed}
use Rattle.volume_lifetime.specs.declared.deed.Done.{Done}
use Rattle.volume_lifetime.specs.Answered.{AreAnswered}

-- a volume over a device, to which nothing was done
abbrev pub begun_over : {B : Type 0} → B → Volumed B
begun_over origin = record { origin = origin; snaps = []; merge = None; flights = []; requests = 0; copies = 0; attached = 0 }

pub record HasLife {B : Type 0} (holds : B → ℕ → List ℕ → Type 0) (m : Measures B) (layers : B → List Layer) (v : Volumed B) : Type 0 where
  pub origin : B
  pub deeds : List (Deed B)
  pub dones : List (Done B)
  pub lived : AreAnswered holds m layers deeds dones (begun_over origin) v
