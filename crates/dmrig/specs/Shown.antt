-- What running the lines of a text shows, with the number of its line before each answer or without. It is this project's own.
use Rattle.std.specs.Prelude.{◌≡◌, ℕ, Bool, true, false, List, Option, Result, IfErr, IfOk, IfSome}
use Rattle.std.specs.Io.KnownBytes.{Appends}
use Rattle.command_replies.specs.declared.command_reply.CommandReply.{CommandReply}
use Rattle.script_runner.specs.Counts.{summary_of}
use Rattle.script_runner.specs.Exit.{IsEarly, IsWriters}
use Rattle.script_runner.specs.Numbered.{IsTextAnswered, IsTextAnsweredTo, all_of, numbered_from}
use Rattle.script_runner.specs.Output.{printed}
use Rattle.script_runner.specs.Runs.{IsTextBegun, IsTextDone}
use Rattle.script_runner.specs.Sessions.{Sitting}
use Rattle.script_runner.specs.Told.{IsTextTold}
use Rattle.script_runner.specs.declared.error.RunError.{RunError}
use Rattle.script_runner.specs.declared.summary.Summary.{Summary}

-- the replies of all lines are printed, behind what was printed before, and counted
abbrev pub IsShown : Bool → Option (List ℕ) → Option (List ℕ) → Option (List ℕ) → Summary → Type 0
IsShown true text before now summary = (answers : List (List CommandReply))
    × Appends before now (numbered_from 1 answers) × (summary ≡ summary_of (all_of answers))
    × IfSome text (λ text. IsTextAnswered text answers × IsTextDone text (all_of answers))
IsShown false text before now summary = (replies : List CommandReply)
    × Appends before now (printed replies) × (summary ≡ summary_of replies)
    × IfSome text (λ text. IsTextDone text replies)

-- behind each line its tracer was told what stood then
abbrev pub IsTold : {X : Type 0} → (X → ℕ → Sitting → X → Type 0) → Bool → Option (List ℕ) → Option (List ℕ) → Option (List ℕ) → X → X → Type 0
IsTold tells true text before now first last = (answers : List (List CommandReply))
    × Appends before now (numbered_from 1 answers) × IfSome text (λ text. IsTextTold tells text answers first last)
IsTold tells false text before now first last = (answers : List (List CommandReply))
    × Appends before now (printed (all_of answers)) × IfSome text (λ text. IsTextTold tells text answers first last)

-- of a run that ended early, and not for its writer, all that its first lines answered is printed
abbrev pub IsBegun : Bool → Option (List ℕ) → Option (List ℕ) → Option (List ℕ) → RunError → Type 0
IsBegun true text before now error = (IsWriters error → ⊥) → (answers : List (List CommandReply))
    × Appends before now (numbered_from 1 answers) × IfSome text (λ text. IsTextAnsweredTo text answers)
IsBegun false text before now error = (IsWriters error → ⊥) → (replies : List CommandReply)
    × Appends before now (printed replies) × IfSome text (λ text. IsTextBegun text replies)

-- The lines of a reader were run into a writer, by what the reader had and has left, what the writer held and holds, and what the
-- tracer was and is; or the writer failed at last.
pub record IsRun {X E : Type 0} (tells : X → ℕ → Sitting → X → Type 0) (numbers : Bool) (text left before now : Option (List ℕ)) (first last : X) (ran : Result (Result Summary RunError) E) : Type 0 where
  pub shown : IfOk ran (λ ran. IfOk ran (IsShown numbers text before now))
  pub told : IfOk ran (λ ran. IfOk ran (λ summary. IsTold tells numbers text before now first last))
  pub begun : IfOk ran (λ ran. IfErr ran (IsBegun numbers text before now))
  pub early : IfOk ran (λ ran. IfErr ran (IsEarly text left before now))
