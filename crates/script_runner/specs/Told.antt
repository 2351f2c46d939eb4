-- A run of a text, and what is told behind each of its lines. This project's own.
use Rattle.std.specs.Prelude.{◌≡◌, ℕ, ◌+◌, List, [], ◌∷◌, ◌++◌, Option, None, Some}
use Rattle.words.specs.Lines.{lines_of}
use Rattle.command_replies.specs.declared.command_reply.CommandReply.{CommandReply}
use Rattle.script_runner.specs.Output.{LineOutcome}
use Rattle.script_runner.specs.Runs.{IsNext, begun}
use Rattle.script_runner.specs.Sessions.{IsEndedBy, Sitting}

-- a tracer that may not be there: it says what it says alone, and stays there or not
abbrev pub TellsIfThere : {X : Type 0} → (X → ℕ → Sitting → X → Type 0) → Option X → ℕ → Sitting → Option X → Type 0
TellsIfThere tells None number sitting after = after ≡ None
TellsIfThere {X} tells (Some before) number sitting after = (now : X) × (after ≡ Some now) × tells before number sitting now

-- Lines were done, one after the other, these are the replies of each, and behind each, by its number, a tracer was told of what
-- stood then: `tells` is what it says of that.
abbrev pub AreToldEach : {X : Type 0} → (X → ℕ → Sitting → X → Type 0) → ℕ → Sitting → List (List ℕ) → List (List CommandReply) → Sitting → X → X → Type 0
AreToldEach tells number old [] answers new before after = (answers ≡ []) × (new ≡ old) × (after ≡ before)
AreToldEach {X} tells number old (line ∷ lines) answers new before after = (next : Sitting) × (done : LineOutcome) × (rest : List (List CommandReply)) × (then : X)
    × IsNext line old next done × (answers ≡ done.replies ∷ rest) × tells before number next then × AreToldEach tells (number + 1) next lines rest new then after

-- All lines of a text were done and told so, and a block that was open then was run, the text's end standing for its own: the last of
-- these replies, behind those of the last line. Of the end nobody is told.
abbrev pub IsTextTold : {X : Type 0} → (X → ℕ → Sitting → X → Type 0) → List ℕ → List (List CommandReply) → X → X → Type 0
IsTextTold tells text answers before after = (last : Sitting) × (told : List (List CommandReply)) × (done : LineOutcome)
    × AreToldEach tells 1 begun (lines_of text) told last before after × IsEndedBy last.block last.desk.table done × (answers ≡ told ++ done.replies ∷ [])
