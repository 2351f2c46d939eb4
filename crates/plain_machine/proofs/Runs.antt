-- A run that goes on.
use Rattle.std.proofs.Common.{List, [], ◌∷◌, ◌++◌, refl, subst}
use Rattle.plain_machine.specs.Plain.{Plain}
use Rattle.plain_machine.specs.Runs.{IsRun}

-- one call more
pub run_more : {C : Type 0} (step : C → Plain → Plain → Type 0) (calls : List C) (call : C) (old mid new : Plain) → IsRun step calls old mid → step call mid new → IsRun step (calls ++ call ∷ []) old new
run_more step [] call old mid new run one = (new, subst (λ p. step call p new) run one, refl)
run_more step (first ∷ calls) call old mid new run one = (run.0, run.1, run_more step calls call run.0 mid new run.2 one)

-- two runs are one
pub run_then : {C : Type 0} (step : C → Plain → Plain → Type 0) (calls more : List C) (old mid new : Plain) → IsRun step calls old mid → IsRun step more mid new → IsRun step (calls ++ more) old new
run_then step [] more old mid new run rest = subst (λ p. IsRun step more p new) run rest
run_then step (first ∷ calls) more old mid new run rest = (run.0, run.1, run_then step calls more run.0 mid new run.2 rest)
