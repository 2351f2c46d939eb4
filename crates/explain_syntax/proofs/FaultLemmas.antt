-- The first word of a form, cut off.
use Rattle.std.proofs.Common.{◌≡◌, ◌∙◌, ℕ, Bool, true, false, List, [], ◌∷◌, ap, Option, Some, None, cond}
use Rattle.explain_syntax.specs.Slots.{slot_of, goes_on, takes}
use Rattle.explain_syntax.specs.Faults.{FormFault, Unfit, TooMany, Missing, fault_along, fault_of}

-- a form that is at its end
pub no_form : (form words : List (List ℕ)) → form ≡ [] → fault_of form words ≡ fault_of [] words
no_form form words ends = ap (λ f. fault_of f words) ends

-- a line that is at its end before its form is
pub one_missing : (form rest : List (List ℕ)) (wants : List ℕ) → form ≡ wants ∷ rest → fault_of form [] ≡ Some (Missing wants)
one_missing form rest wants cut = ap (λ f. fault_of f []) cut

-- what is said of a form and a line, by what is known of the first word of both
abbrev first_said : List ℕ → List ℕ → List (List ℕ) → List (List ℕ) → Bool → Bool → Option FormFault
first_said wants word rest words fits on = cond fits (cond on (fault_along wants words) (fault_of rest words)) (Some (Unfit word wants))

-- a word that its place does not take
pub one_unfit : (form rest words : List (List ℕ)) (wants word : List ℕ) → form ≡ wants ∷ rest → takes wants word ≡ false → fault_of form (word ∷ words) ≡ Some (Unfit word wants)
one_unfit form rest words wants word cut unfit = ap (λ f. fault_of f (word ∷ words)) cut ∙ ap (λ fits. first_said wants word rest words fits (goes_on (slot_of wants))) unfit

-- one that it takes, and more of them behind
pub one_on : (form rest words : List (List ℕ)) (wants word : List ℕ) → form ≡ wants ∷ rest → takes wants word ≡ true → goes_on (slot_of wants) ≡ true → fault_of form (word ∷ words) ≡ fault_along wants words
one_on form rest words wants word cut fits on = ap (λ f. fault_of f (word ∷ words)) cut ∙ ap (λ b. first_said wants word rest words b (goes_on (slot_of wants))) fits ∙ ap (first_said wants word rest words true) on

-- one that it takes, and the next place behind
pub one_fits : (form rest words : List (List ℕ)) (wants word : List ℕ) → form ≡ wants ∷ rest → takes wants word ≡ true → goes_on (slot_of wants) ≡ false → fault_of form (word ∷ words) ≡ fault_of rest words
one_fits form rest words wants word cut fits on = ap (λ f. fault_of f (word ∷ words)) cut ∙ ap (λ b. first_said wants word rest words b (goes_on (slot_of wants))) fits ∙ ap (first_said wants word rest words true) on
