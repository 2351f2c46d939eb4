-- Lines that are refused before any volume is asked for a request or an event, whatever is in flight there.
use Rattle.std.specs.Prelude.{◌≡◌, ◌⊎◌, ℕ, List, [], ◌∷◌, Option, Some, None, Result, Ok, Err}
use Rattle.sector.specs.declared.refusal.Refusal.{Refusal}
use Rattle.sector.specs.declared.refusal.Refusal.TheVariants.{NoMemory}
use Rattle.command.specs.Line.{said_of}
use Rattle.command.specs.declared.grammar.Command.{Command}
use Rattle.command.specs.declared.grammar.Command.TheVariants as commands
use Rattle.command_replies.specs.declared.command_reply.CommandReply.{CommandReply}
use Rattle.command_replies.specs.declared.command_reply.CommandReply.TheVariants.{Refused}
use Rattle.command_semantics.specs.State.{Table}
use Rattle.command_semantics.specs.Starting.{flush_asked, read_asked, write_asked}
use Rattle.command_semantics.specs.Events.{event_asked, origin_by}

-- the refusal, if it is one
abbrev pub refusal_in : {A : Type 0} → Result A Refusal → Option Refusal
refusal_in (Ok answer) = None
refusal_in (Err refusal) = Some refusal

-- why sectors are not read or written, a device is not flushed, a request is not started, an event not done, or a merge not finished, before the volume
-- is asked
abbrev pub first_refusal : Command → Table → Option Refusal
first_refusal (commands.Read device first count) table = refusal_in (read_asked device first count table)
first_refusal (commands.Write device first bytes) table = refusal_in (write_asked device first bytes table)
first_refusal (commands.Flush device) table = refusal_in (flush_asked device table)
first_refusal (commands.StartRead device first count) table = refusal_in (read_asked device first count table)
first_refusal (commands.StartWrite device first bytes) table = refusal_in (write_asked device first bytes table)
first_refusal (commands.Step volume event) table = refusal_in (event_asked volume event table)
first_refusal (commands.Settle volume) table = refusal_in (origin_by volume table)
first_refusal (commands.Finish volume) table = refusal_in (origin_by volume table)
first_refusal (commands.Disk name sectors) table = None
first_refusal (commands.Create name line) table = None
first_refusal (commands.Remove name) table = None
first_refusal (commands.Load disk first bytes) table = None
first_refusal (commands.Save disk first count) table = None
first_refusal (commands.Copy from first to count) table = None
first_refusal commands.List table = None
first_refusal (commands.Message device message) table = None
first_refusal (commands.Tick seconds) table = None
first_refusal (commands.Merge name) table = None
first_refusal (commands.Resume volume) table = None
first_refusal (commands.Checkpoint volume) table = None
first_refusal (commands.Stop volume) table = None
first_refusal (commands.StopLosing volume) table = refusal_in (origin_by volume table)
first_refusal (commands.Status device) table = None
first_refusal (commands.Table device) table = None
first_refusal (commands.Map device) table = None

-- the same of a line, which may be refused for its words too
abbrev pub said_first : Table → Result (Option Command) Refusal → Option Refusal
said_first table (Ok None) = None
said_first table (Ok (Some command)) = first_refusal command table
said_first table (Err refusal) = Some refusal

unfoldable pub line_first : List ℕ → Table → Option Refusal
line_first line table = said_first table (said_of 65536 line)

-- such a line answers that refusal alone, unless memory ran out
abbrev pub IsFirst : Option Refusal → List CommandReply → Type 0
IsFirst None replies = Unit {0}
IsFirst (Some refusal) replies = (replies ≡ Refused refusal ∷ []) ⊎ (replies ≡ Refused NoMemory ∷ [])
