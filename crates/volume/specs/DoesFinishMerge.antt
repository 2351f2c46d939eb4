-- What a call of `finish_merge` does to a volume, as one record: a layer that passes it on says the same record of the volume below it.
use Rattle.std.specs.Prelude.{◌≡◌, ◌&&◌, true, ℕ, List, IfOk, None, OnOk, Option, Result}
use Rattle.sector.specs.declared.refusal.Refusal.{Refusal}
use Rattle.device.specs.Layers.{Layer, is_loud}
use Rattle.plain_machine.specs.Legal.{IsFinished}
use Rattle.plain_machine.specs.declared.request.Reply.{Reply}
use Rattle.event_machine.specs.Merging.{finished}
use Rattle.snapshot.specs.declared.opening.StoreDev.{StoreDev}
use Rattle.volume.specs.Finishing.{IsTakenOut, finish_refusal}
use Rattle.volume.specs.Handing.{OpensTaken}
use Rattle.volume.specs.Moved.{moving_of}
use Rattle.volume.specs.Stopping.{StopsAround}
use Rattle.volume.specs.Volumed.{Volumed, is_loud_in_all, plain_of}

-- A merge is taken out that has neither a pair nor a group left, and its store's device is given back. Where no device drops
-- writes, it is a legal step of the plain machine, and the origin disk's own bytes are then what the origin shows. It is the event
-- machine's own; so are what a stop may leave, and what may still be lost of the origin.
pub record DoesFinishMerge {B : Type 0} (holds : B → ℕ → List ℕ → Type 0) (contents : B → List ℕ) (layers : B → List Layer) (size : B → ℕ) (result : Result (StoreDev B) Refusal) (old new : Volumed B) : Type 0 where
  pub ok : IfOk result (λ store. finish_refusal old ≡ None)
  pub taken : IfOk result (λ store. IsTakenOut old new store)
  pub legal : IfOk result (λ store. is_loud_in_all layers old ≡ true → IsFinished (plain_of contents layers old) (plain_of contents layers new))
  pub disk : IfOk result (λ store. is_loud_in_all layers old ≡ true → (plain_of contents layers old).origin ≡ contents new.origin)
  pub exact : IfOk result (λ store. (replied : Option Reply) → finished (moving_of contents layers replied old) ≡ moving_of contents layers replied new)
  pub loud : IfOk result (λ store. is_loud_in_all layers old ≡ (is_loud_in_all layers new && is_loud (layers store.device)))
  pub stops : OnOk result (StopsAround holds layers size old new)
  pub opens : OnOk result (is_loud_in_all layers old ≡ true → OpensTaken holds size old new)
