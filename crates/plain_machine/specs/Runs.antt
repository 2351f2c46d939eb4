-- Lists of calls: a run goes from the old machine to the new by one step after another. This project's own.
use Rattle.std.specs.Prelude.{◌≡◌, ◌⊎◌, ℕ, List, [], ◌∷◌}
use Rattle.plain_machine.specs.declared.request.Request.{Request}
use Rattle.plain_machine.specs.declared.event.Event.{Event}
use Rattle.plain_machine.specs.declared.event.Outcome.{Outcome}
use Rattle.plain_machine.specs.Plain.{Plain}
use Rattle.sector.specs.declared.refusal.Refusal.{Refusal}
use Rattle.plain_machine.specs.Legal.{IsLegalStep, IsSubmitted, IsDeclined}

-- these calls, each by its steps
abbrev pub IsRun : {C : Type 0} → (C → Plain → Plain → Type 0) → List C → Plain → Plain → Type 0
IsRun step [] old new = new ≡ old
IsRun step (call ∷ calls) old new = (mid : Plain) × step call old mid × IsRun step calls mid new

-- an event that was due, for some outcome, or one that was not, which changes nothing
abbrev pub MayStep : Event → Plain → Plain → Type 0
MayStep event old new = ((outcome : Outcome) × IsLegalStep old event outcome new) ⊎ (new ≡ old)

-- a request that was accepted, or one that was refused
abbrev pub MaySubmit : Request → Plain → Plain → Type 0
MaySubmit request old new = ((number : ℕ) × (which : List ℕ) × IsSubmitted which old number request new) ⊎ ((refusal : Refusal) × IsDeclined request refusal old new)
