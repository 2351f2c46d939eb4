-- To be believed: `live`'s clause is said in these words.
-- The answer of each deed is the volume's own, and so is the volume that it leaves to the next: when an event is due, what a layer
-- answers, which store is given back, and why something is refused, whatever devices do. holds: what a device may hold in a
-- sector after a stop. This project's own.
use Rattle.std.specs.Prelude.{◌≡◌, ℕ, true, List, [], ◌∷◌, Some, IfErr, IfOk}
use Rattle.device.specs.Layers.{Layer}
use Rattle.volume.specs.DoesAttach.{DoesAttach}
use Rattle.volume.specs.Finishing.{IsTakenOut, finish_refusal}
use Rattle.volume.specs.Layering.{IsTicked, Measures}
use Rattle.volume.specs.Leaving.{IsWithout, detach_refusal}
use Rattle.volume.specs.Running.{IsBeginReturned, IsMessageReturned, IsResumeReturned, IsStepReturned, IsSubmitReturned}
use Rattle.volume.specs.Taking.{IsNotTaken}
use Rattle.volume.specs.Volumed.{Volumed, is_loud_in_all}
use Rattle.volume_lifetime.specs.declared.deed.Deed.{Deed}
use Rattle.volume_lifetime.specs.declared.deed.Deed.TheVariants.{Submit, Step, Tick, Tell, Attach, Detach, BeginMerge, ResumeMerge, FinishMerge}
use Rattle.volume_lifetime.specs.declared.deed.Done.{Done}
use Rattle.volume_lifetime.specs.declared.deed.Done.TheVariants.{Submitted, Stepped, Ticked, Told, Attached, Detached, Begun, Resumed, Finished}
use Rattle.volume_lifetime.specs.Lived.{IsLoudDeed, IsSeen}

-- a deed with its answer, as the volume's own call says it
abbrev pub IsAnswered : {B : Type 0} → (B → ℕ → List ℕ → Type 0) → Measures B → (B → List Layer) → Deed B → Done B → Volumed B → Volumed B → Type 0
IsAnswered holds m layers (Submit request) (Submitted result) old new = IsSubmitReturned m layers request result old new
IsAnswered holds m layers (Step event) (Stepped result) old new = IsStepReturned m layers event result old new
IsAnswered holds m layers (Tick seconds) Ticked old new = IsTicked m layers seconds old new
IsAnswered holds m layers (Tell dev depth message) (Told result) old new = IsMessageReturned m layers dev depth message result old new
IsAnswered holds m layers (Attach store chunk overflow) (Attached result) old new = DoesAttach holds m layers store chunk overflow result old new × IfErr result (λ e. IsNotTaken store.stale chunk (m.size old.origin) (m.size store.device) (m.contents store.device) old e.0)
IsAnswered holds m layers (Detach number) (Detached result) old new = IfOk result (λ store. IsWithout number old new store) × IfErr result (λ refusal. (detach_refusal number old ≡ Some refusal) × (new ≡ old))
IsAnswered holds m layers (BeginMerge number) (Begun result) old new = IsBeginReturned m layers number result old new
IsAnswered holds m layers ResumeMerge (Resumed result) old new = IsResumeReturned m layers result old new
IsAnswered holds m layers FinishMerge (Finished result) old new = IfOk result (λ store. IsTakenOut old new store) × IfErr result (λ refusal. (finish_refusal old ≡ Some refusal) × (new ≡ old))
IsAnswered holds m layers deed done old new = ⊥

-- What one deed promises: with it the volume has no device that drops writes, if it had none and the deed brings none; what is
-- seen of it then; and its answer, whatever devices do.
pub record IsDone {B : Type 0} (holds : B → ℕ → List ℕ → Type 0) (m : Measures B) (layers : B → List Layer) (deed : Deed B) (done : Done B) (old new : Volumed B) : Type 0 where
  pub loud : is_loud_in_all layers old ≡ true → IsLoudDeed layers deed → is_loud_in_all layers new ≡ true
  pub seen : is_loud_in_all layers old ≡ true → IsLoudDeed layers deed → IsSeen m layers deed done old new
  pub answered : IsAnswered holds m layers deed done old new

-- all of these deeds, one after another: each begins with the volume that the one before it leaves
abbrev pub AreAnswered : {B : Type 0} → (B → ℕ → List ℕ → Type 0) → Measures B → (B → List Layer) → List (Deed B) → List (Done B) → Volumed B → Volumed B → Type 0
AreAnswered holds m layers [] [] old new = new ≡ old
AreAnswered {B} holds m layers (deed ∷ deeds) (done ∷ dones) old new = (mid : Volumed B) × IsDone holds m layers deed done old mid × AreAnswered holds m layers deeds dones mid new
AreAnswered holds m layers [] (done ∷ dones) old new = ⊥
AreAnswered holds m layers (deed ∷ deeds) [] old new = ⊥
