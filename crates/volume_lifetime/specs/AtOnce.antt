-- To be believed: that the volume's other calls are lists of deeds is said in these words.
-- The calls of a volume that are no deeds of their own, as deeds: a request that is served, the copies of a merge's group, a list of
-- calls. This project's own.
use Rattle.std.specs.Prelude.{ℕ, zero, suc, Bool, true, false, List, [], ◌∷◌, Option, None, Some, Result, Ok, Err}
use Rattle.sector.specs.declared.refusal.Refusal.{Refusal}
use Rattle.plain_machine.specs.declared.event.Event.TheVariants.{Issue, MergeRead, MergeWrite}
use Rattle.plain_machine.specs.declared.event.Outcome.TheVariants.{Done as IsDone, Reply as Replied}
use Rattle.plain_machine.specs.declared.request.Reply.{Reply}
use Rattle.plain_machine.specs.declared.request.Request.{Request}
use Rattle.merge.specs.declared.group.Group.{Group}
use Rattle.merge.specs.Merging.{Merging}
use Rattle.volume.specs.declared.at_once.Served.{Served}
use Rattle.volume.specs.declared.at_once.Served.TheVariants.{Answered, InFlight}
use Rattle.volume.specs.declared.calls.Call.{Call}
use Rattle.volume.specs.declared.calls.Call.TheVariants.{Submit as Submits, Step as Steps, Tick as Ticks, Message, BeginMerge as Begins, ResumeMerge as Resumes}
use Rattle.volume.specs.declared.calls.Returned.{Returned}
use Rattle.volume.specs.declared.calls.Returned.TheVariants.{Submitted as WasSubmitted, Stepped as WasStepped, Ticked as HasTicked, Told as WasTold, Begun as WasBegun, Resumed as WasResumed}
use Rattle.volume_lifetime.specs.declared.deed.Deed.{Deed}
use Rattle.volume_lifetime.specs.declared.deed.Deed.TheVariants.{Submit, Step, Tick, Tell, BeginMerge, ResumeMerge}
use Rattle.volume_lifetime.specs.declared.deed.Done.{Done}
use Rattle.volume_lifetime.specs.declared.deed.Done.TheVariants.{Submitted, Stepped, Ticked, Told, Begun, Resumed}

-- the deeds of a request that was served: it was submitted; and where it was answered at once, its Issue was done
abbrev pub served_deeds : {B : Type 0} → Request → Result Served Refusal → List (Deed B)
served_deeds request (Ok (Answered number reply)) = Submit request ∷ Step (Issue number) ∷ []
served_deeds request (Ok (InFlight number)) = Submit request ∷ []
served_deeds request (Err refusal) = Submit request ∷ []

-- their answers
abbrev pub served_answers : {B : Type 0} → Result Served Refusal → List (Done B)
served_answers (Ok (Answered number reply)) = Submitted (Ok number) ∷ Stepped (Ok (Replied number reply)) ∷ []
served_answers (Ok (InFlight number)) = Submitted (Ok number) ∷ []
served_answers (Err refusal) = Submitted (Err refusal) ∷ []

-- a write whose bytes are lent is answered at once, under this number, or refused
abbrev pub lent_as : ℕ → Result Reply Refusal → Result Served Refusal
lent_as number (Ok reply) = Ok (Answered number reply)
lent_as number (Err refusal) = Err refusal

-- the deeds that copy so many chunks back: each is read, and then written
abbrev pub copy_deeds : {B : Type 0} → ℕ → List (Deed B)
copy_deeds zero = []
copy_deeds (suc n) = Step MergeRead ∷ Step MergeWrite ∷ copy_deeds n

-- their answers: none fails
abbrev pub copy_answers : {B : Type 0} → ℕ → List (Done B)
copy_answers zero = []
copy_answers (suc n) = Stepped (Ok IsDone) ∷ Stepped (Ok IsDone) ∷ copy_answers n

-- how many chunks are copied: all that wait in the merge's group, or none
abbrev pub waiting_in : Option Group → ℕ
waiting_in None = 0
waiting_in (Some g) = g.waiting

abbrev pub waiting_chunks : {B : Type 0} → Option (Merging B) → ℕ
waiting_chunks None = 0
waiting_chunks (Some m) = waiting_in m.group

abbrev pub copied_chunks : {B : Type 0} → Bool → Option (Merging B) → ℕ
copied_chunks true merge = waiting_chunks merge
copied_chunks false merge = 0

-- a call of a list of calls, and what it answered
abbrev pub deed_of : {B : Type 0} → Call → Deed B
deed_of (Submits request) = Submit request
deed_of (Steps event) = Step event
deed_of (Ticks seconds) = Tick seconds
deed_of (Message dev depth message) = Tell dev depth message
deed_of (Begins number) = BeginMerge number
deed_of Resumes = ResumeMerge

abbrev pub done_of : {B : Type 0} → Returned → Done B
done_of (WasSubmitted result) = Submitted result
done_of (WasStepped result) = Stepped result
done_of HasTicked = Ticked
done_of (WasTold result) = Told result
done_of (WasBegun result) = Begun result
done_of (WasResumed result) = Resumed result
