-- What the volume's own call says of a deed: `one` hands it on, so that all that `live` promises is said over values.
use Rattle.std.specs.Prelude.{◌≡◌, ℕ, true, List, Some, IfErr}
use Rattle.device.specs.Layers.{Layer}
use Rattle.volume.specs.Beginning.{IsNotBegun}
use Rattle.volume.specs.DoesAttach.{DoesAttach}
use Rattle.volume.specs.DoesBeginMerge.{DoesBeginMerge}
use Rattle.volume.specs.DoesDetach.{DoesDetach}
use Rattle.volume.specs.DoesFinishMerge.{DoesFinishMerge}
use Rattle.volume.specs.DoesMessage.{DoesMessage}
use Rattle.volume.specs.DoesResumeMerge.{DoesResumeMerge}
use Rattle.volume.specs.DoesStep.{DoesStep}
use Rattle.volume.specs.DoesSubmit.{DoesSubmit}
use Rattle.volume.specs.DoesTick.{DoesTick}
use Rattle.volume.specs.Finishing.{finish_refusal}
use Rattle.volume.specs.Layering.{Measures}
use Rattle.volume.specs.Leaving.{detach_refusal}
use Rattle.volume.specs.Submitting.{IsRefusedAs}
use Rattle.volume.specs.Volumed.{Volumed}
use Rattle.volume_lifetime.specs.declared.deed.Deed.{Deed}
use Rattle.volume_lifetime.specs.declared.deed.Deed.TheVariants.{Submit, Step, Tick, Tell, Attach, Detach, BeginMerge, ResumeMerge, FinishMerge}
use Rattle.volume_lifetime.specs.declared.deed.Done.{Done}
use Rattle.volume_lifetime.specs.declared.deed.Done.TheVariants.{Submitted, Stepped, Ticked, Told, Attached, Detached, Begun, Resumed, Finished}

-- A deed and its answer, by the call's own record. An answer of another deed is none.
abbrev pub IsDoneBy : {B : Type 0} → (B → ℕ → List ℕ → Type 0) → Measures B → (B → List Layer) → Deed B → Done B → Volumed B → Volumed B → Type 0
IsDoneBy holds m layers (Submit request) (Submitted result) old new = DoesSubmit m.contents layers m.size request result old new × IfErr result (λ refusal. IsRefusedAs m.contents layers m.size request refusal old new)
IsDoneBy holds m layers (Step event) (Stepped result) old new = DoesStep holds m.contents layers m.size m.faults m.done true event result old new
IsDoneBy holds m layers (Tick seconds) Ticked old new = DoesTick holds m layers seconds old new
IsDoneBy holds m layers (Tell dev depth message) (Told result) old new = DoesMessage holds m layers dev depth message result old new
IsDoneBy holds m layers (Attach store chunk overflow) (Attached result) old new = DoesAttach holds m layers store chunk overflow result old new
IsDoneBy holds m layers (Detach number) (Detached result) old new = DoesDetach holds m.contents layers m.size number result old new × IfErr result (λ refusal. (detach_refusal number old ≡ Some refusal) × (new ≡ old))
IsDoneBy holds m layers (BeginMerge number) (Begun result) old new = DoesBeginMerge holds m.contents layers m.size number result old new × IfErr result (λ refusal. IsNotBegun number refusal old new)
IsDoneBy holds m layers ResumeMerge (Resumed result) old new = DoesResumeMerge m.contents layers result old new
IsDoneBy holds m layers FinishMerge (Finished result) old new = DoesFinishMerge holds m.contents layers m.size result old new × IfErr result (λ refusal. (finish_refusal old ≡ Some refusal) × (new ≡ old))
IsDoneBy holds m layers deed done old new = ⊥
