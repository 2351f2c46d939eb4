-- What a call of `detach` does to a volume, as one record: a layer that passes it on says the same record of the volume below it.
use Rattle.std.specs.Prelude.{◌≡◌, ◌&&◌, true, ℕ, List, IfOk, None, OnOk, Result}
use Rattle.sector.specs.declared.refusal.Refusal.{Refusal}
use Rattle.device.specs.Layers.{Layer, is_loud}
use Rattle.plain_machine.specs.Legal.{IsDetached}
use Rattle.snapshot.specs.declared.opening.StoreDev.{StoreDev}
use Rattle.volume.specs.Leaving.{IsWithout, detach_refusal}
use Rattle.volume.specs.Stopping.{StopsAround}
use Rattle.volume.specs.Volumed.{Volumed, is_loud_in_all, plain_of}

-- A snapshot left that there was no reason to keep, and its store's device is given back; no other changes. Where no device drops
-- writes, it is a legal step of the plain machine; and a stop leaves of the volume what it might have left before.
pub record DoesDetach {B : Type 0} (holds : B → ℕ → List ℕ → Type 0) (contents : B → List ℕ) (layers : B → List Layer) (size : B → ℕ) (number : ℕ) (result : Result (StoreDev B) Refusal) (old new : Volumed B) : Type 0 where
  pub ok : IfOk result (λ store. detach_refusal number old ≡ None)
  pub taken : IfOk result (λ store. IsWithout number old new store)
  pub plain : IfOk result (λ store. is_loud_in_all layers old ≡ true → IsDetached (plain_of contents layers old) number (plain_of contents layers new))
  pub loud : IfOk result (λ store. is_loud_in_all layers old ≡ (is_loud_in_all layers new && is_loud (layers store.device)))
  pub stops : OnOk result (StopsAround holds layers size old new)
