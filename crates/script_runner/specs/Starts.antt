-- Commands that start a request, which a later command ends.
use Rattle.std.specs.Prelude.{ℕ, Bool, true, false, List, [], ◌∷◌, Option, Some, None, Result, Ok, Err}
use Rattle.sector.specs.declared.refusal.Refusal.{Refusal}
use Rattle.command.specs.Line.{said_of}
use Rattle.command.specs.declared.grammar.Command.{Command}
use Rattle.command.specs.declared.grammar.Command.TheVariants as commands
use Rattle.command_replies.specs.declared.command_reply.CommandReply.{CommandReply}
use Rattle.command_replies.specs.declared.command_reply.CommandReply.TheVariants.{Done, Data, Said, Number, Fault, Ended, Seat, Gate, Refused}

-- a command that starts a request
abbrev pub starts : Command → Bool
starts (commands.StartRead device first count) = true
starts (commands.StartWrite device first bytes) = true
starts (commands.Create name line) = false
starts (commands.Disk name sectors) = false
starts (commands.Remove name) = false
starts (commands.Load disk first bytes) = false
starts (commands.Save disk first count) = false
starts (commands.Copy from first to count) = false
starts commands.List = false
starts (commands.Message device message) = false
starts (commands.Tick seconds) = false
starts (commands.Read device first count) = false
starts (commands.Write device first bytes) = false
starts (commands.Flush device) = false
starts (commands.Step volume event) = false
starts (commands.Settle volume) = false
starts (commands.Merge name) = false
starts (commands.Resume volume) = false
starts (commands.Finish volume) = false
starts (commands.Checkpoint volume) = false
starts (commands.Stop volume) = false
starts (commands.StopLosing volume) = false
starts (commands.Status device) = false
starts (commands.Table device) = false
starts (commands.Map device) = false

abbrev pub starts_said : Result (Option Command) Refusal → Bool
starts_said (Ok None) = false
starts_said (Ok (Some command)) = starts command
starts_said (Err refusal) = false

-- a line that says such a command
unfoldable pub starts_line : List ℕ → Bool
starts_line line = starts_said (said_of 65536 line)

-- it answers the request's number, or is refused
abbrev pub IsStartReply : CommandReply → Type 0
IsStartReply Done = ⊥
IsStartReply (Data bytes) = ⊥
IsStartReply (Said text) = ⊥
IsStartReply (Number n) = Unit {0}
IsStartReply Fault = ⊥
IsStartReply (Ended ended) = ⊥
IsStartReply (Seat seated) = ⊥
IsStartReply (Gate opened) = ⊥
IsStartReply (Refused refusal) = Unit {0}

-- and that alone
abbrev pub AreStartReplies : List CommandReply → Type 0
AreStartReplies [] = ⊥
AreStartReplies (reply ∷ []) = IsStartReply reply
AreStartReplies (reply ∷ more ∷ replies) = ⊥
