-- To be believed: a volume's steps are said in these words.
-- What a call of `submit` does to a volume, as one record: a layer that passes a request on says the same record of the volume below it.
use Rattle.std.specs.Prelude.{◌≡◌, ◌≢◌, ℕ, List, IfErr, IfOk, None, Option, Result, Some}
use Rattle.device.specs.Layers.{Layer}
use Rattle.sector.specs.declared.refusal.Refusal.{Refusal}
use Rattle.sector.specs.declared.refusal.Refusal.TheVariants.{Invalid, Overflow}
use Rattle.plain_machine.specs.Failures.{refusal_of}
use Rattle.plain_machine.specs.declared.request.Failure.{Failure}
use Rattle.plain_machine.specs.declared.request.Failure.TheVariants.{Io as IsIo}
use Rattle.plain_machine.specs.declared.request.Reply.{Reply}
use Rattle.plain_machine.specs.declared.request.Reply.TheVariants.{Refused}
use Rattle.plain_machine.specs.declared.request.Request.{Request}
use Rattle.event_machine.specs.Submitting.{submitted}
use Rattle.volume.specs.Moved.{moving_of}
use Rattle.volume.specs.Stepping.{KeepsAll, KeepsDevices}
use Rattle.volume.specs.Submitting.{IsAcceptedAs, submit_refusal}
use Rattle.volume.specs.Volumed.{Volumed, is_loud_in_all}

-- An accepted request is in flight, by its number, and there was no reason to refuse it. Whether it is or not, no device changes, nor whether
-- one drops writes, and the event machine's own function says what does: of a refusal that is also a reply, as if that had been given;
-- of any other nothing.
pub record DoesSubmit {B : Type 0} (contents : B → List ℕ) (layers : B → List Layer) (size : B → ℕ) (request : Request) (result : Result ℕ Refusal) (old new : Volumed B) : Type 0 where
  pub ok : IfOk result (λ number. IsAcceptedAs contents layers request number old new)
  pub kept : KeepsAll size old new
  pub untouched : KeepsDevices old new
  pub loud : is_loud_in_all layers new ≡ is_loud_in_all layers old
  pub admitted : IfOk result (λ _. submit_refusal size request old ≡ None)
  pub exact : IfOk result (λ number. (replied : Option Reply) → submitted number request (moving_of contents layers replied old) ≡ moving_of contents layers replied new)
  pub declined : IfErr result (λ refusal. (failure : Failure) → refusal ≡ refusal_of failure → failure ≢ IsIo → (number : ℕ) (replied : Option Reply) → submitted number request (moving_of contents layers replied old) ≡ moving_of contents layers (Some (Refused failure)) new)
  pub starved : IfErr result (λ refusal. refusal ≢ Invalid → refusal ≢ Overflow → (replied : Option Reply) → moving_of contents layers replied new ≡ moving_of contents layers replied old)
