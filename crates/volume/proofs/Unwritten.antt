-- A snapshot that no call writes: what it shows after all of them.
use Rattle.std.proofs.Common.{◌≡◌, inl, inr, ℕ, false, List, [], ◌∷◌, refl, sym, ◌∙◌, ap, subst}
use Rattle.std.specs.Prelude.{◌==◌}
use Rattle.std.specs.List.{list_any}
use Rattle.std.proofs.lemmas.Bool.{cases_Bool, eqb-true, or_parts}
use Rattle.plain_machine.specs.Plain.{Plain, Entry, saved_under, without_saved}
use Rattle.plain_machine.specs.Runs.{IsRun}
use Rattle.plain_machine.specs.Unwritten.{is_written, StillShows}
use Rattle.plain_machine.proofs.Unwritten.{step_keeps, submit_keeps}
use Rattle.volume.specs.declared.calls.Call.{Call}
use Rattle.volume.specs.declared.calls.Call.TheVariants.{Submit, Step, Tick, Message as Tell, BeginMerge, ResumeMerge}
use Rattle.volume.specs.Running.{MayBegin, MayCall, writes_or_merges}

-- another snapshot that is taken away changes nothing of this one
without_other : (number n : ℕ) (entries : List Entry) → (n == number) ≡ false → saved_under number (without_saved n entries) ≡ saved_under number entries
without_other number n [] ne = refl
without_other number n (e ∷ es) ne = elim (cases_Bool (e.number == n)) [
  | inl here ↦ (let at : (e.number == number) ≡ false = ap (λ k. k == number) (eqb-true e.number n here) ∙ ne in rw here (rw at refl))
  | inr there ↦ elim (cases_Bool (e.number == number)) [
    | inl mine ↦ rw there (rw mine refl)
    | inr other ↦ rw there (rw other (without_other number n es ne))
  ]
]

-- it is under its number as before
still_under : (number : ℕ) (array : List ℕ) (old new : Plain) → StillShows number array old → saved_under number new.saved ≡ saved_under number old.saved → StillShows number array new
still_under number array old new shows at = elim shows [ inl live ↦ inl (at ∙ live) | inr lost ↦ inr (at ∙ lost) ]

-- nothing that is seen changed
same_keeps : (number : ℕ) (array : List ℕ) (old new : Plain) → new ≡ old → StillShows number array old → is_written number old.requests ≡ false → StillShows number array new × (is_written number new.requests ≡ false)
same_keeps number array old new same shows free = (subst (StillShows number array) (sym same) shows, ap (λ (p : Plain). is_written number p.requests) same ∙ free)

-- the merge of another snapshot began, or did not
begin_keeps : (number n : ℕ) (array : List ℕ) (old new : Plain) → MayBegin n old new → StillShows number array old → is_written number old.requests ≡ false → (n == number) ≡ false → StillShows number array new × (is_written number new.requests ≡ false)
begin_keeps number n array old new (inl begun) shows free ne = (
  still_under number array old new shows (ap (λ (p : Plain). saved_under number p.saved) begun.becomes ∙ without_other number n old.saved ne),
  ap (λ (p : Plain). is_written number p.requests) begun.becomes ∙ free,
)
begin_keeps number n array old new (inr same) shows free ne = same_keeps number array old new same shows free

-- after one call
call_keeps : (number : ℕ) (array : List ℕ) (call : Call) (old new : Plain) → MayCall call old new → StillShows number array old → is_written number old.requests ≡ false → writes_or_merges number call ≡ false
    → StillShows number array new × (is_written number new.requests ≡ false)
call_keeps number array (Submit request) old new may shows free none = submit_keeps number array old new free shows request none may
call_keeps number array (Step event) old new may shows free none = step_keeps number array old new free shows event may
call_keeps number array (Tick seconds) old new may shows free none = same_keeps number array old new may shows free
call_keeps number array (Tell dev depth message) old new may shows free none = same_keeps number array old new may shows free
call_keeps number array (BeginMerge n) old new may shows free none = begin_keeps number n array old new may shows free none
call_keeps number array ResumeMerge old new may shows free none = same_keeps number array old new may shows free

-- after all of them
pub run_keeps : (number : ℕ) (array : List ℕ) (calls : List Call) (old new : Plain) → IsRun MayCall calls old new → StillShows number array old → is_written number old.requests ≡ false → list_any (writes_or_merges number) calls ≡ false → StillShows number array new
run_keeps number array [] old new run shows free none = subst (StillShows number array) (sym run) shows
run_keeps number array (call ∷ calls) old new (mid, one, rest) shows free none =
    let parts = or_parts (writes_or_merges number call) (list_any (writes_or_merges number) calls) none in
    let kept = call_keeps number array call old mid one shows free parts.0 in
    run_keeps number array calls mid new rest kept.0 kept.1 parts.1
