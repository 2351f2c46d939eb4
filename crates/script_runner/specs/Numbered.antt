-- What is printed with the number of each line of commands before its answers. It is this project's own.
use Rattle.std.specs.Prelude.{◌≡◌, ℕ, ◌+◌, List, [], ◌∷◌, ◌++◌, codes, decimal}
use Rattle.std.specs.List.{flat_map}
use Rattle.words.specs.Lines.{lines_of}
use Rattle.command_replies.specs.declared.command_reply.CommandReply.{CommandReply}
use Rattle.command_semantics.specs.State.{Table}
use Rattle.script_runner.specs.Output.{LineOutcome, empty, outcome_of, printed}
use Rattle.script_runner.specs.Runs.{IsNext, begun}
use Rattle.script_runner.specs.Sessions.{IsEndedBy, Sitting}

-- a line that is printed, the number of the line that it answers before it
abbrev pub numbered_line : ℕ → List ℕ → List ℕ
numbered_line number line = decimal number ++ codes " " ++ line ++ codes "\n"

-- a text, each line of it with this number
unfoldable pub numbered : ℕ → List ℕ → List ℕ
numbered number text = flat_map (numbered_line number) (lines_of text)

-- what lines print, each line's replies by themselves, the first of them with this number
abbrev pub numbered_from : ℕ → List (List CommandReply) → List ℕ
numbered_from number [] = []
numbered_from number (replies ∷ answers) = numbered number (printed replies) ++ numbered_from (number + 1) answers

-- all replies, in their order
abbrev pub all_of : List (List CommandReply) → List CommandReply
all_of answers = flat_map (λ replies. replies) answers

-- lines were done, one after the other, and these are the replies of each
abbrev pub AreDoneEach : Sitting → List (List ℕ) → List (List CommandReply) → Sitting → Type 0
AreDoneEach old [] answers new = (answers ≡ []) × (new ≡ old)
AreDoneEach old (line ∷ lines) answers new = (next : Sitting) × (done : LineOutcome) × (rest : List (List CommandReply))
    × IsNext line old next done × (answers ≡ done.replies ∷ rest) × AreDoneEach next lines rest new

-- All lines of a text were done, and a block that was open then was run, the text's end standing for its own: the last of these
-- replies, behind those of the last line.
abbrev pub IsTextAnswered : List ℕ → List (List CommandReply) → Type 0
IsTextAnswered text answers = (last : Sitting) × (told : List (List CommandReply)) × (done : LineOutcome)
    × AreDoneEach begun (lines_of text) told last × IsEndedBy last.block last.desk.table done × (answers ≡ told ++ done.replies ∷ [])

-- the first of its lines were done
abbrev pub IsTextAnsweredTo : List ℕ → List (List CommandReply) → Type 0
IsTextAnsweredTo text answers = (first : List (List ℕ)) × (left : List (List ℕ)) × (last : Sitting)
    × (lines_of text ≡ first ++ left) × AreDoneEach begun first answers last

-- what each line answers by itself
abbrev pub answers_from : Table → List (List ℕ) → List (List CommandReply)
answers_from table [] = []
answers_from table (line ∷ lines) = (outcome_of line table).replies ∷ answers_from (outcome_of line table).table lines

-- what is printed for a text, with numbers
unfoldable pub numbered_output_of : List ℕ → List ℕ
numbered_output_of text = numbered_from 1 (answers_from empty (lines_of text))
