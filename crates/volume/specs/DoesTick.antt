-- What a call of `tick` does to a volume, as one record: a layer that passes it on says the same record of the volume below it.
use Rattle.std.specs.Prelude.{◌≡◌, ℕ, List, Option}
use Rattle.device.specs.Layers.{Layer}
use Rattle.layers.specs.Ticks.{layers_ticked}
use Rattle.plain_machine.specs.declared.request.Reply.{Reply}
use Rattle.volume.specs.Adding.{OpensNothing}
use Rattle.volume.specs.Layering.{IsTicked, Measures, moving_relayered}
use Rattle.volume.specs.Moved.{moving_of}
use Rattle.volume.specs.Volumed.{Volumed, books_of, is_loud_in_all, plain_of}

-- The layers of every device are so many seconds later, and so they are in the event machine. Nothing else changes, nothing is
-- seen of it, and a stop leaves nothing then but what it might have left before.
pub record DoesTick {B : Type 0} (holds : B → ℕ → List ℕ → Type 0) (m : Measures B) (layers : B → List Layer) (seconds : ℕ) (old new : Volumed B) : Type 0 where
  pub ticked : IsTicked m layers seconds old new
  pub moving : (replied : Option Reply) → moving_of m.contents layers replied new ≡ moving_relayered (layers_ticked seconds) (moving_of m.contents layers replied old)
  pub books : books_of m.contents layers m.size new ≡ books_of m.contents layers m.size old
  pub plain : plain_of m.contents layers new ≡ plain_of m.contents layers old
  pub loud : is_loud_in_all layers new ≡ is_loud_in_all layers old
  pub opens : OpensNothing holds m.size old new
