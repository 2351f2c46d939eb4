-- What a call of `resume_merge` does to a volume, as one record: a layer that passes it on says the same record of the volume below it.
use Rattle.std.specs.Prelude.{◌≡◌, List, ℕ, IfErr, None, OnOk, Option, Result}
use Rattle.sector.specs.declared.refusal.Refusal.{Refusal}
use Rattle.sector.specs.declared.refusal.Refusal.TheVariants.{NotMerging}
use Rattle.device.specs.Layers.{Layer}
use Rattle.plain_machine.specs.declared.request.Reply.{Reply}
use Rattle.event_machine.specs.Merging.{resumed as resumed_by}
use Rattle.volume.specs.Beginning.{IsResumed}
use Rattle.volume.specs.Moved.{moving_of}
use Rattle.volume.specs.Volumed.{Volumed, is_loud_in_all, plain_of}

-- A merge that failed goes on, which is the event machine's own, and nothing is seen of it. Refused is this where none is begun, and
-- then nothing changed.
pub record DoesResumeMerge {A B : Type 0} (contents : B → List ℕ) (layers : B → List Layer) (result : Result A Refusal) (old new : Volumed B) : Type 0 where
  pub resumed : OnOk result (IsResumed old new)
  pub exact : OnOk result ((replied : Option Reply) → resumed_by (moving_of contents layers replied old) ≡ moving_of contents layers replied new)
  pub plain : plain_of contents layers new ≡ plain_of contents layers old
  pub loud : is_loud_in_all layers new ≡ is_loud_in_all layers old
  pub err : IfErr result (λ refusal. (refusal ≡ NotMerging) × (old.merge ≡ None) × (new ≡ old))
