-- What a call of `message` does to a volume, as one record: a layer that passes it on says the same record of the volume below it.
use Rattle.std.specs.Prelude.{◌≡◌, ℕ, List, IfErr, IfOk, OnErr, OnOk, Option, Result}
use Rattle.sector.specs.declared.refusal.Refusal.{Refusal}
use Rattle.device.specs.Layers.{Layer}
use Rattle.layers.specs.declared.message.Answer.{Answer}
use Rattle.layers.specs.declared.message.Message.{Message}
use Rattle.plain_machine.specs.declared.request.Dev.{Dev}
use Rattle.plain_machine.specs.declared.request.Reply.{Reply}
use Rattle.volume.specs.Adding.{OpensNothing}
use Rattle.volume.specs.Layering.{Measures}
use Rattle.volume.specs.Moved.{moving_of}
use Rattle.volume.specs.Telling.{IsNotTold, IsTold, dev_relayered, layers_told}
use Rattle.volume.specs.Volumed.{Volumed, books_of, is_loud_in_all, plain_of}

-- A layer of one device was told something and answered, or was not, and why; in the event machine the device's layers are those that
-- were told. Nothing else changes, nothing is seen of it, and a stop leaves nothing then but what it might have left before.
pub record DoesMessage {B : Type 0} (holds : B → ℕ → List ℕ → Type 0) (m : Measures B) (layers : B → List Layer) (dev : Dev) (depth : ℕ) (message : Message) (result : Result Answer Refusal) (old new : Volumed B) : Type 0 where
  pub ok : IfOk result (λ answer. IsTold m layers dev depth message answer old new)
  pub err : IfErr result (λ refusal. IsNotTold m layers dev depth message refusal old new)
  pub moving : OnOk result ((replied : Option Reply) → moving_of m.contents layers replied new ≡ dev_relayered dev (layers_told depth message) (moving_of m.contents layers replied old))
  pub still : OnErr result ((replied : Option Reply) → moving_of m.contents layers replied new ≡ moving_of m.contents layers replied old)
  pub books : books_of m.contents layers m.size new ≡ books_of m.contents layers m.size old
  pub plain : plain_of m.contents layers new ≡ plain_of m.contents layers old
  pub loud : is_loud_in_all layers new ≡ is_loud_in_all layers old
  pub opens : OpensNothing holds m.size old new
