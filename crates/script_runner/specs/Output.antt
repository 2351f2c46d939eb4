-- To be believed: `run`'s output, a volume's steps or its attach are said in these words.
-- What is printed for a text of command lines.
use Rattle.std.specs.Prelude.{◌≡◌, ℕ, true, List, [], ◌∷◌, ◌++◌, Option, Some, None, Result, Ok, Err, ◌⊎◌}
use Rattle.std.specs.List.{flat_map}
use Rattle.sector.specs.declared.refusal.Refusal.{Refusal}
use Rattle.sector.specs.declared.refusal.Refusal.TheVariants.{NoMemory, JournalFull}
use Rattle.words.specs.Lines.{lines_of}
use Rattle.command.specs.Line.{said_of}
use Rattle.command.specs.declared.grammar.Command.{Command}
use Rattle.command.specs.declared.grammar.Command.TheVariants as commands
use Rattle.command_replies.specs.declared.command_reply.CommandReply.{CommandReply}
use Rattle.command_replies.specs.declared.command_reply.CommandReply.TheVariants.{Done, Refused}
use Rattle.command_replies.specs.Texts.{text_of}
use Rattle.command_semantics.specs.State.{Table}
use Rattle.command_semantics.specs.Changes.{Did}
use Rattle.command_semantics.specs.Sectors.{IsFlushStarved, IsReadStarved, IsWriteStarved}
use Rattle.script_runner.specs.declared.summary.Summary.{Summary}
use Rattle.script_runner.specs.Steps.{answer_of}
use Rattle.script_runner.specs.Counts.{with_reply}
use Rattle.script_runner.specs.Wants.{enters_line}

-- what a line answers, each reply a printed line, and the devices after it
pub record LineOutcome : Type 0 where
  pub replies : List CommandReply
  pub table : Table

-- a line that says nothing answers nothing
abbrev pub answered : Option CommandReply → List CommandReply
answered None = []
answered (Some reply) = reply ∷ []

-- a refusal is answered
abbrev pub told : Result (Option CommandReply) Refusal → List CommandReply
told (Ok reply) = answered reply
told (Err refusal) = Refused refusal ∷ []

-- a command is answered in a place, unless it is refused; what is said here of an empty place is a filler, for each call that
-- refuses nothing fills it
abbrev pub replied : Result (Unit {0}) Refusal → Option CommandReply → Result CommandReply Refusal
replied (Ok _) (Some reply) = Ok reply
replied (Ok _) None = Ok Done
replied (Err refusal) own = Err refusal

-- so is a line; one that says nothing leaves the place empty
abbrev pub placed : Result (Unit {0}) Refusal → Option CommandReply → Result (Option CommandReply) Refusal
placed (Ok _) own = Ok own
placed (Err refusal) own = Err refusal

-- a line that is refused may leave other devices all the same: those that failed were met
abbrev pub outcome : Did (Option CommandReply) Table → LineOutcome
outcome done = record { replies = told done.answer; table = done.left }

unfoldable pub outcome_of : List ℕ → Table → LineOutcome
outcome_of line table = outcome (answer_of line table)

-- what the lines answer, one after the other
abbrev pub replies_from : Table → List (List ℕ) → List CommandReply
replies_from table [] = []
replies_from table (line ∷ lines) = (outcome_of line table).replies ++ replies_from (outcome_of line table).table lines

-- no devices
abbrev pub empty : Table
empty = record { stacks = []; volumes = [] }

-- what is answered for a text
unfoldable pub replies_of : List ℕ → List CommandReply
replies_of text = replies_from empty (lines_of text)

-- the printed lines of replies
abbrev pub printed : List CommandReply → List ℕ
printed replies = flat_map text_of replies

-- what is printed for a text
unfoldable pub output_of : List ℕ → List ℕ
output_of text = printed (replies_of text)

-- What want of memory, or of room in a journal, leaves of a command: the devices as they were, or a read or a write of which some part was done.
abbrev pub IsPartDone : Command → Table → Table → Type 0
IsPartDone (commands.Read device first count) old new = (new ≡ old) ⊎ IsReadStarved device first count old new
IsPartDone (commands.Write device first bytes) old new = (new ≡ old) ⊎ IsWriteStarved device first bytes old new
IsPartDone (commands.Flush device) old new = (new ≡ old) ⊎ IsFlushStarved device old new
IsPartDone (commands.Disk name sectors) old new = new ≡ old
IsPartDone (commands.Create name line) old new = new ≡ old
IsPartDone (commands.Remove name) old new = new ≡ old
IsPartDone (commands.Load disk first bytes) old new = new ≡ old
IsPartDone (commands.Save disk first count) old new = new ≡ old
IsPartDone (commands.Copy from first to count) old new = new ≡ old
IsPartDone commands.List old new = new ≡ old
IsPartDone (commands.Message device message) old new = new ≡ old
IsPartDone (commands.Tick seconds) old new = new ≡ old
IsPartDone (commands.StartRead device first count) old new = new ≡ old
IsPartDone (commands.StartWrite device first bytes) old new = new ≡ old
IsPartDone (commands.Step volume event) old new = new ≡ old
IsPartDone (commands.Settle volume) old new = new ≡ old
IsPartDone (commands.Merge name) old new = new ≡ old
IsPartDone (commands.Resume volume) old new = new ≡ old
IsPartDone (commands.Finish volume) old new = new ≡ old
IsPartDone (commands.Checkpoint volume) old new = new ≡ old
IsPartDone (commands.Stop volume) old new = new ≡ old
IsPartDone (commands.StopLosing volume) old new = new ≡ old
IsPartDone (commands.Status device) old new = new ≡ old
IsPartDone (commands.Table device) old new = new ≡ old
IsPartDone (commands.Map device) old new = new ≡ old

abbrev pub IsPartSaid : Result (Option Command) Refusal → Table → Table → Type 0
IsPartSaid (Ok None) old new = new ≡ old
IsPartSaid (Ok (Some command)) old new = IsPartDone command old new
IsPartSaid (Err refusal) old new = new ≡ old

-- the same of a line
unfoldable pub IsStarved : List ℕ → Table → Table → Type 0
IsStarved line old new = IsPartSaid (said_of 65536 line) old new

-- A line has its outcome; or memory ran out for it, or the journal that its command takes a place in has no room, and it answers
-- that alone.
abbrev pub MayBe : List ℕ → Table → LineOutcome → Type 0
MayBe line old done = (done ≡ outcome_of line old) ⊎ ((done.replies ≡ Refused NoMemory ∷ []) × IsStarved line old done.table)
    ⊎ ((enters_line line ≡ true) × (done.replies ≡ Refused JournalFull ∷ []) × IsStarved line old done.table)

-- The lines may answer this, each what it may.
abbrev pub MayAnswer : Table → List (List ℕ) → List CommandReply → Type 0
MayAnswer table [] replies = replies ≡ []
MayAnswer table (line ∷ lines) replies = (done : LineOutcome) × (rest : List CommandReply)
    × MayBe line table done × (replies ≡ done.replies ++ rest) × MayAnswer done.table lines rest

-- the devices, and what was printed so far, counted
pub record Standing : Type 0 where
  pub table : Table
  pub summary : Summary

-- more replies are counted, one after the other
abbrev pub counted : List CommandReply → Summary → Summary
counted [] summary = summary
counted (reply ∷ replies) summary = counted replies (with_reply reply summary)

-- after a line
abbrev pub followed : Standing → LineOutcome → Standing
followed standing done = record { table = done.table; summary = counted done.replies standing.summary }
