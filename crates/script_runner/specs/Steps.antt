-- To be believed: `run`'s output, a volume's steps or its attach are said in these words.
-- What each command answers, and the devices after it. Which number a request gets that a command starts, and when it ends, is
-- its volume's own affair, where each event has its contract; so is a single event of a merge. Which bytes disks lose at a stop is
-- theirs. Texts with such commands are left out where this machine is used.
use Rattle.std.specs.Prelude.{ℕ, List, Option, Some, None, Result, Ok, Err}
use Rattle.sector.specs.declared.refusal.Refusal.{Refusal}
use Rattle.sector.specs.declared.refusal.Refusal.TheVariants.{NotDue}
use Rattle.command.specs.Line.{said_of}
use Rattle.command.specs.declared.grammar.Command.{Command}
use Rattle.command.specs.declared.grammar.Command.TheVariants as commands
use Rattle.command_replies.specs.declared.command_reply.CommandReply.{CommandReply}
use Rattle.command_replies.specs.declared.command_reply.CommandReply.TheVariants.{Done, Data, Said}
use Rattle.command_replies.specs.Answers.{reply_to}
use Rattle.command_semantics.specs.State.{Table}
use Rattle.command_semantics.specs.Changes.{Did, refused, kept, changed}
use Rattle.command_semantics.specs.Disks.{make}
use Rattle.command_semantics.specs.Creating.{create}
use Rattle.command_semantics.specs.Removing.{take_away}
use Rattle.command_semantics.specs.Raw.{copied, load, save}
use Rattle.command_semantics.specs.Messages.{tell, ticked}
use Rattle.command_semantics.specs.Sectors.{flush, read, write}
use Rattle.command_semantics.specs.Status.{status_text}
use Rattle.command_semantics.specs.Lines.{line_text}
use Rattle.command_semantics.specs.Listing.{listed}
use Rattle.command_semantics.specs.Mapping.{map_text}
use Rattle.command_semantics.specs.Events.{settle, step_event}
use Rattle.command_semantics.specs.Merging.{merge_begun, merge_resumed, merge_finished}
use Rattle.command_semantics.specs.Stopping.{volume_stopped}
use Rattle.command_semantics.specs.Journal.{checkpointed}

-- an answer in other words, unless there is a refusal
abbrev pub reworded : {A B : Type 0} → (A → B) → Result A Refusal → Result B Refusal
reworded words (Ok answer) = Ok (words answer)
reworded words (Err refusal) = Err refusal

abbrev pub told_as : {A B T : Type 0} → (A → B) → Did A T → Did B T
told_as words done = record { answer = reworded words done.answer; left = done.left }

-- what is there to be done is done
abbrev pub done_as : Did (Unit {0}) Table → Did CommandReply Table
done_as done = told_as (λ _. Done) done

-- a look at the devices changes none
abbrev pub seen : {A : Type 0} → Table → Result A Refusal → Did A Table
seen table answer = record { answer = answer; left = table }

-- what a command answers, and the devices after it
unfoldable pub step : Command → Table → Did CommandReply Table
step (commands.Disk name sectors) table = done_as (changed table (make name sectors table))
step (commands.Create name line) table = done_as (create name line table)
step (commands.Remove name) table = done_as (changed table (take_away name table))
step (commands.Load disk first bytes) table = done_as (changed table (load disk first bytes table))
step (commands.Save disk first count) table = told_as Data (seen table (save disk first count table))
step (commands.Copy from first to count) table = done_as (changed table (copied from first to count table))
step commands.List table = told_as Said (seen table (Ok (listed table)))
step (commands.Message device message) table = told_as reply_to (kept table (tell device message table))
step (commands.Tick seconds) table = record { answer = Ok Done; left = ticked seconds table }
step (commands.Read device first count) table = told_as Data (read device first count table)
step (commands.Write device first bytes) table = done_as (write device first bytes table)
step (commands.Flush device) table = done_as (flush device table)
step (commands.StartRead device first count) table = refused table NotDue
step (commands.StartWrite device first bytes) table = refused table NotDue
step (commands.Step volume event) table = refused table (step_event volume event table)
step (commands.Settle volume) table = done_as (changed table (settle volume table))
step (commands.Merge name) table = done_as (changed table (merge_begun name table))
step (commands.Resume volume) table = done_as (changed table (merge_resumed volume table))
step (commands.Finish volume) table = done_as (changed table (merge_finished volume table))
step (commands.Checkpoint volume) table = done_as (changed table (checkpointed volume table))
step (commands.Stop volume) table = done_as (changed table (volume_stopped volume table))
step (commands.StopLosing volume) table = refused table NotDue
step (commands.Status device) table = told_as Said (seen table (status_text device table))
step (commands.Table device) table = told_as Said (seen table (line_text device table))
step (commands.Map device) table = told_as Said (seen table (map_text device table))

-- a line that says nothing answers nothing
abbrev pub obeyed : Table → Result (Option Command) Refusal → Did (Option CommandReply) Table
obeyed table (Ok None) = record { answer = Ok None; left = table }
obeyed table (Ok (Some command)) = told_as Some (step command table)
obeyed table (Err refusal) = refused table refusal

-- what a line answers, and the devices after it; a line has at most 65,536 bytes
unfoldable pub answer_of : List ℕ → Table → Did (Option CommandReply) Table
answer_of line table = obeyed table (said_of 65536 line)
