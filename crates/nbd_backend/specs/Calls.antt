-- To be believed: what is said of an array that is served is said of a list of these.
-- What was asked of an array, and what it answered. This project's own.
use Rattle.std.specs.Prelude.{◌≡◌, ℕ, Bool, List, [], ◌∷◌, ◌++◌, Result}
use Rattle.nbd_jobs.specs.declared.work.Work.{Work}
use Rattle.nbd_backend.specs.declared.array.Refused.{Refused}
use Rattle.nbd_backend.specs.declared.array.Stepped.{Stepped}

-- One call, with its answer.
pub data Call : Type 0 where
  -- the export of this place is used from here on; whether there is one
  Choose : ℕ → Bool → Call
  -- a piece, with the bytes that are written: its number, where it was taken in
  Submit : Work → List ℕ → Result ℕ Refused → Call
  -- a step, and what came of it
  Step : Stepped → Call

-- An array came from one state to another by these calls, of which the last stands first.
abbrev pub Called : {S : Type 0} → (Call → S → S → Type 0) → S → List Call → S → Type 0
Called does old [] new = new ≡ old
Called {S = S} does old (call ∷ calls) new = (between : S) × Called does old calls between × does call between new

-- it did so by some calls, and so much holds of the calls before and with them
abbrev pub CallsTo : {S : Type 0} → (Call → S → S → Type 0) → S → S → (List Call → List Call → Type 0) → Type 0
CallsTo does old new P = (more : List Call) × Called does old more new × ((calls : List Call) → P calls (more ++ calls))
