-- The requests that are in flight after some calls were in flight before them, or one of the calls submits them.
use Rattle.std.proofs.Common.{◌⊎◌, inl, inr, ℕ, List, [], ◌∷◌, ◌++◌, Option, Some, subst}
use Rattle.std.specs.Prelude.{◌==◌}
use Rattle.std.proofs.lemmas.Bool.{cases_Bool, cond-false, cond-true}
use Rattle.sector.specs.declared.range.Range.{Range}
use Rattle.plain_machine.specs.declared.event.Event.{Event}
use Rattle.plain_machine.specs.declared.event.Event.TheVariants.{Issue, CopyRead, CopyWrite, ZeroNext, WriteArea, Publish, WriteInvalid, FlushStore, MergeGroup, MergeAreaRead, MergeRead, MergeWrite, MergeFlush, MergeCommit, MergeRelease}
use Rattle.plain_machine.specs.declared.event.Outcome.{Outcome}
use Rattle.plain_machine.specs.declared.event.Outcome.TheVariants.{Done, Fault, Reply as Replied}
use Rattle.plain_machine.specs.declared.request.Dev.{Dev}
use Rattle.plain_machine.specs.declared.request.Op.{Op}
use Rattle.plain_machine.specs.declared.request.Op.TheVariants.{Read, Write, Flush}
use Rattle.plain_machine.specs.declared.request.Request.{Request}
use Rattle.plain_machine.specs.Kept.{kept, kept_range}
use Rattle.plain_machine.specs.Legal.{IsLegalStep, Spoils}
use Rattle.plain_machine.specs.Plain.{Plain, InFlight, asked_under, without}
use Rattle.plain_machine.specs.Runs.{MayStep, MaySubmit}
use Rattle.crash_laws.specs.Clauses.{Gives}
use Rattle.volume.specs.declared.calls.Call.{Call}
use Rattle.volume.specs.declared.calls.Call.TheVariants.{Submit, Step, Tick, Message as Tell, BeginMerge, ResumeMerge}
use Rattle.volume.specs.AddedUp.{GivesAsked, IsGiven, IsSomeOf}
use Rattle.volume.specs.Running.{MayBegin, MayCall}
use Rattle.volume.specs.Stopping.{given_as, given_in}

-- one of two lists
pub some_left : {X : Type 0} (P : X → Type 0) (xs ys : List X) → IsSomeOf P xs → IsSomeOf P (xs ++ ys)
some_left P [] ys one = absurd one
some_left P (x ∷ xs) ys (inl here) = inl here
some_left P (x ∷ xs) ys (inr one) = inr (some_left P xs ys one)

pub some_right : {X : Type 0} (P : X → Type 0) (xs ys : List X) → IsSomeOf P ys → IsSomeOf P (xs ++ ys)
some_right P [] ys one = one
some_right P (x ∷ xs) ys one = inr (some_right P xs ys one)

some_of_both : {X : Type 0} (P : X → Type 0) (xs ys : List X) → IsSomeOf P (xs ++ ys) → IsSomeOf P xs ⊎ IsSomeOf P ys
some_of_both P [] ys one = inr one
some_of_both P (x ∷ xs) ys (inl here) = inl (inl here)
some_of_both P (x ∷ xs) ys (inr one) = elim (some_of_both P xs ys one) [ inl left ↦ inl (inr left) | inr right ↦ inr right ]

module _ (array : Option ℕ) (s : ℕ) (x : List ℕ) where
  abbrev Given : List InFlight → Type 0
  Given requests = IsSomeOf (GivesAsked array s x) requests

  -- the request of a number is one of them
  pub asked_given : (number : ℕ) (requests : List InFlight) → Gives (given_in (asked_under number requests)) array s x → Given requests
  asked_given number [] gives = absurd gives
  asked_given number (r ∷ rs) gives = elim (cases_Bool (r.number == number)) [
    | inl mine ↦ inl (subst (λ o. Gives (given_in o) array s x) (cond-true _ _ _ mine) gives)
    | inr other ↦ inr (asked_given number rs (subst (λ o. Gives (given_in o) array s x) (cond-false _ _ _ other) gives))
  ]

  without_given : (number : ℕ) (requests : List InFlight) → Given (without number requests) → Given requests
  without_given number [] one = one
  without_given number (r ∷ rs) one = elim (cases_Bool (r.number == number)) [
    | inl mine ↦ inr (subst Given (cond-true _ _ _ mine) one)
    | inr other ↦ elim (subst Given (cond-false _ _ _ other) one) [ inl here ↦ inl here | inr later ↦ inr (without_given number rs later) ]
  ]

  -- of a request as it is kept
  kept_as : (dev : Dev) (range : Range) (op : Op) → Gives (given_as dev (kept_range op range) op) array s x → Gives (given_as dev range op) array s x
  kept_as dev range Read gives = gives
  kept_as dev range (Write bytes) gives = gives
  kept_as dev range Flush gives = gives

  spoilt_asked : (p q : Plain) → ((which : List ℕ) × Spoils which p q) → Given q.requests → Given p.requests
  spoilt_asked p q spoils one = subst (λ (y : Plain). Given y.requests) spoils.1 one

  legal_asked : (event : Event) (outcome : Outcome) (p q : Plain) → IsLegalStep p event outcome q → Given q.requests → Given p.requests
  legal_asked event (Replied k reply) p q legal one = without_given k p.requests (subst Given legal.1.gone one)
  legal_asked (Issue n) Done p q legal one = subst (λ (y : Plain). Given y.requests) legal.0 one
  legal_asked (Issue n) Fault p q legal one = absurd legal
  legal_asked (CopyRead n) Done p q legal one = spoilt_asked p q legal one
  legal_asked (CopyWrite n) Done p q legal one = spoilt_asked p q legal one
  legal_asked (ZeroNext n) Done p q legal one = spoilt_asked p q legal one
  legal_asked (WriteArea n) Done p q legal one = spoilt_asked p q legal one
  legal_asked (Publish n) Done p q legal one = spoilt_asked p q legal one
  legal_asked (WriteInvalid n) Done p q legal one = spoilt_asked p q legal one
  legal_asked (FlushStore n) Done p q legal one = spoilt_asked p q legal one
  legal_asked MergeGroup Done p q legal one = spoilt_asked p q legal one
  legal_asked MergeAreaRead Done p q legal one = spoilt_asked p q legal one
  legal_asked MergeRead Done p q legal one = spoilt_asked p q legal one
  legal_asked MergeWrite Done p q legal one = spoilt_asked p q legal one
  legal_asked MergeFlush Done p q legal one = spoilt_asked p q legal one
  legal_asked MergeCommit Done p q legal one = spoilt_asked p q legal one
  legal_asked MergeRelease Done p q legal one = spoilt_asked p q legal one
  legal_asked (CopyRead n) Fault p q legal one = spoilt_asked p q legal one
  legal_asked (CopyWrite n) Fault p q legal one = spoilt_asked p q legal one
  legal_asked (ZeroNext n) Fault p q legal one = spoilt_asked p q legal one
  legal_asked (WriteArea n) Fault p q legal one = spoilt_asked p q legal one
  legal_asked (Publish n) Fault p q legal one = spoilt_asked p q legal one
  legal_asked (WriteInvalid n) Fault p q legal one = spoilt_asked p q legal one
  legal_asked (FlushStore n) Fault p q legal one = spoilt_asked p q legal one
  legal_asked MergeGroup Fault p q legal one = spoilt_asked p q legal one
  legal_asked MergeAreaRead Fault p q legal one = spoilt_asked p q legal one
  legal_asked MergeRead Fault p q legal one = spoilt_asked p q legal one
  legal_asked MergeWrite Fault p q legal one = spoilt_asked p q legal one
  legal_asked MergeFlush Fault p q legal one = spoilt_asked p q legal one
  legal_asked MergeCommit Fault p q legal one = spoilt_asked p q legal one
  legal_asked MergeRelease Fault p q legal one = spoilt_asked p q legal one

  step_asked : (event : Event) (p q : Plain) → MayStep event p q → Given q.requests → Given p.requests
  step_asked event p q (inr same) one = subst (λ (y : Plain). Given y.requests) same one
  step_asked event p q (inl (outcome, legal)) one = legal_asked event outcome p q legal one

  submit_asked : (request : Request) (p q : Plain) → MaySubmit request p q → Given q.requests → Given p.requests ⊎ Gives (given_in (Some request)) array s x
  submit_asked request p q (inl (k, which, submitted)) one = elim (some_of_both (GivesAsked array s x) p.requests (record { number = k; request = kept request } ∷ []) (subst (λ (y : Plain). Given y.requests) submitted.becomes one)) [
    | inl before ↦ inl before
    | inr (inl mine) ↦ inr (kept_as request.dev request.range request.op mine)
    | inr (inr none) ↦ absurd none
  ]
  submit_asked request p q (inr (refusal, inl same)) one = inl (subst (λ (y : Plain). Given y.requests) same one)
  submit_asked request p q (inr (refusal, inr (n, bytes, dev, op, inl (why, never, spoils)))) one = inl (subst (λ (y : Plain). Given y.requests) spoils one)
  submit_asked request p q (inr (refusal, inr (n, bytes, dev, op, inr (why, marks)))) one = inl (subst (λ (y : Plain). Given y.requests) marks.becomes one)

  begin_asked : (number : ℕ) (p q : Plain) → MayBegin number p q → Given q.requests → Given p.requests
  begin_asked number p q (inl begun) one = subst (λ (y : Plain). Given y.requests) begun.becomes one
  begin_asked number p q (inr same) one = subst (λ (y : Plain). Given y.requests) same one

  -- after one call
  pub call_asked : (call : Call) (p q : Plain) → MayCall call p q → Given q.requests → IsGiven p.requests (call ∷ []) array s x
  call_asked (Submit request) p q may one = elim (submit_asked request p q may one) [ inl before ↦ inl before | inr mine ↦ inr (inl mine) ]
  call_asked (Step event) p q may one = inl (step_asked event p q may one)
  call_asked (Tick seconds) p q may one = inl (subst (λ (y : Plain). Given y.requests) may one)
  call_asked (Tell dev depth message) p q may one = inl (subst (λ (y : Plain). Given y.requests) may one)
  call_asked (BeginMerge number) p q may one = inl (begin_asked number p q may one)
  call_asked ResumeMerge p q may one = inl (subst (λ (y : Plain). Given y.requests) may one)
