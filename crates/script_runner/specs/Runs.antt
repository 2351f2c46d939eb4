-- A run of any text, line by line, where a block of lines may be open. This project's own.
use Rattle.std.specs.Prelude.{◌≡◌, ℕ, true, List, [], ◌∷◌, ◌++◌, None}
use Rattle.words.specs.Lines.{lines_of}
use Rattle.command_semantics.specs.Sound.{is_sound}
use Rattle.command_replies.specs.declared.command_reply.CommandReply.{CommandReply}
use Rattle.script_runner.specs.Counts.{summary_of}
use Rattle.script_runner.specs.Output.{LineOutcome, empty, followed}
use Rattle.script_runner.specs.Sessions.{IsEndedBy, IsSessionDone, Sitting}
use Rattle.script_runner.specs.Sound.{is_sound_line}

-- no devices, no block, and nothing printed
abbrev pub begun : Sitting
begun = record { desk = record { table = empty; summary = summary_of [] }; block = None }

-- A line was done. Devices that drop no writes stay such, with nothing in flight, until a line makes one that does, starts a
-- request or steps an event of a merge; a block keeps them such too.
pub record IsNext (line : List ℕ) (old new : Sitting) (done : LineOutcome) : Type 0 where
  pub did : IsSessionDone line old new done
  pub desk : new.desk ≡ followed old.desk done
  pub sound : is_sound old.desk.table ≡ true → is_sound_line line ≡ true → is_sound new.desk.table ≡ true

-- lines were done, one after the other, and these are their replies
abbrev pub AreDone : Sitting → List (List ℕ) → List CommandReply → Sitting → Type 0
AreDone old [] replies new = (replies ≡ []) × (new ≡ old)
AreDone old (line ∷ lines) replies new = (next : Sitting) × (done : LineOutcome) × (rest : List CommandReply)
    × IsNext line old next done × (replies ≡ done.replies ++ rest) × AreDone next lines rest new

-- all lines of a text were done, and a block that was open then was run: the text's end stands for the block's
abbrev pub IsTextDone : List ℕ → List CommandReply → Type 0
IsTextDone text replies = (last : Sitting) × (told : List CommandReply) × (done : LineOutcome)
    × AreDone begun (lines_of text) told last × IsEndedBy last.block last.desk.table done × (replies ≡ told ++ done.replies)

-- the first of its lines were
abbrev pub IsTextBegun : List ℕ → List CommandReply → Type 0
IsTextBegun text replies = (first : List (List ℕ)) × (left : List (List ℕ)) × (last : Sitting)
    × (lines_of text ≡ first ++ left) × AreDone begun first replies last
