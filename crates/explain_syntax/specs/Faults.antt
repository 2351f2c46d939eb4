-- The first word of a line that breaks its form.
use Rattle.std.specs.Prelude.{ℕ, List, [], ◌∷◌, if◌then◌else◌, Option, Some, None, option_map}
use Rattle.explain_syntax.specs.Slots.{slot_of, goes_on, takes}
use Rattle.explain_syntax.specs.declared.fault.Fault.{Fault}
use Rattle.explain_syntax.specs.declared.fault.Fault.TheVariants as found

-- a word that its place does not take, for which the form has another; a word too many; or a word of the form that the line lacks
pub data FormFault : Type 0 where
  Unfit : (word wants : List ℕ) → FormFault
  TooMany : (word : List ℕ) → FormFault
  Missing : (wants : List ℕ) → FormFault

-- the same, by what was found
abbrev pub seen : Fault → FormFault
seen (found.Unfit word wants) = Unfit word.now wants.now
seen (found.TooMany word) = TooMany word.now
seen (found.Missing wants) = Missing wants.now

abbrev pub seen_in : Option Fault → Option FormFault
seen_in fault = option_map seen fault

-- where a form's last word goes on: the first of the words behind that it does not take
abbrev pub fault_along : List ℕ → List (List ℕ) → Option FormFault
fault_along wants [] = None
fault_along wants (word ∷ words) = if takes wants word then fault_along wants words else Some (Unfit word wants)

-- the first word that breaks a form, word by word
abbrev pub fault_of : List (List ℕ) → List (List ℕ) → Option FormFault
fault_of [] [] = None
fault_of [] (word ∷ words) = Some (TooMany word)
fault_of (wants ∷ form) [] = Some (Missing wants)
fault_of (wants ∷ form) (word ∷ words) =
    if takes wants word
    then (if goes_on (slot_of wants) then fault_along wants words else fault_of form words)
    else Some (Unfit word wants)
