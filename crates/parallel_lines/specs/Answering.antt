-- What a block answers: one reply for each line, by what its task answered. This project's own.
use Rattle.std.specs.Prelude.{◌≡◌, ◌+◌, ◌<◌, ◌==◌, ℕ, Bool, List, [], ◌∷◌, ◌++◌, length, map, slice_index_or, Option, Some, None}
use Rattle.std.specs.List.{All, AllZip, filter, flat_map, range_with_len}
use Rattle.sector.specs.declared.refusal.Refusal.TheVariants.{NoMemory}
use Rattle.command.specs.Blocks.{Lines}
use Rattle.command.specs.declared.seat_line.SeatLine.{SeatLine}
use Rattle.command_semantics.specs.State.{Table}
use Rattle.command_replies.specs.declared.command_reply.CommandReply.{CommandReply}
use Rattle.command_replies.specs.declared.command_reply.CommandReply.TheVariants.{Seat, Gate}
use Rattle.command_replies.specs.declared.seated.SeatAnswer.{SeatAnswer}
use Rattle.command_replies.specs.declared.seated.SeatAnswer.TheVariants.{Refused}
use Rattle.locked_volume.specs.AskedFor.{IsAskedFor}
use Rattle.parallel_threads.specs.declared.task.Task.{Task}
use Rattle.parallel_threads.specs.Tasks.{merges_among}
use Rattle.parallel_lines.specs.Asking.{IsTask}
use Rattle.parallel_lines.specs.Played.{ArePlayed, IsPlayedBy, Story, no_story}
use Rattle.parallel_lines.specs.Running.{used_in}

-- the lines of a seat, in their order
abbrev pub lines_by : ℕ → List SeatLine → List SeatLine
lines_by seat lines = filter (λ line. line.seat == seat) lines

-- These are the tasks of each seat, one for each of its lines: seat 1's at place 0, and so on.
abbrev pub AreAsked : List Bool → Table → List SeatLine → (ℕ → List Task) → Type 0
AreAsked used table lines asked = (i : ℕ) → i < 8 → AllZip (λ line task. IsTask used table line.work task) (lines_by (i + 1) lines) (asked i)

-- a task that was not done has no answer: its seat could not be started
abbrev pub answer_in : Option SeatAnswer → SeatAnswer
answer_in None = Refused NoMemory
answer_in (Some answer) = answer

abbrev pub reply_of : ℕ → Task → CommandReply
reply_of seat task = Seat (record { seat = seat; answer = answer_in task.answer })

-- a reply for each task, the first seat's first
abbrev pub replies_of : (ℕ → List Task) → List CommandReply
replies_of told = flat_map (λ i. map (reply_of (i + 1)) (told i)) (range_with_len 0 8)

-- and last the gate's, where the block holds a ticket
abbrev pub gate_replies : Option ℕ → Bool → List CommandReply
gate_replies None opened = []
gate_replies (Some ticket) opened = Gate opened ∷ []

-- what the seats left of their tasks, by what was made at each volume
abbrev pub AreEnded : List Story → (ℕ → List Task) → (ℕ → List Task) → Type 0
AreEnded played asked told = (i : ℕ) → i < 8 → IsPlayedBy played (i + 1) (asked i) (told i)

-- Each entry that was made at a volume is one that these tasks ask for: a request of a seat, whose entries are its receipts, or a
-- merge that a task asks for; or what the volume notes itself.
abbrev pub AreForTasks : List Story → (ℕ → List Task) → Type 0
AreForTasks played asked = (k : ℕ) → k < length played → All (IsAskedFor (merges_among asked k)) (slice_index_or played k no_story).entries

-- the replies of these tasks, with the gate's
pub record AreReplied (ticket : Option ℕ) (played : List Story) (asked : ℕ → List Task) (replies : List CommandReply) : Type 0 where
  pub told : ℕ → List Task
  pub opened : Bool
  pub ended : AreEnded played asked told
  pub for_tasks : AreForTasks played asked
  pub replies_are : replies ≡ replies_of told ++ gate_replies ticket opened

-- The replies of a block that was run: those of the tasks that its lines are, as their seats left them. What they answer are
-- entries of one list for each volume, which lead from what it showed before the block to what it shows after it; and no entry of
-- these is of anything else that could be asked.
pub record AreAnswered (block : Lines) (old new : Table) (replies : List CommandReply) : Type 0 where
  pub asked : ℕ → List Task
  pub played : List Story
  pub asks : AreAsked (used_in block.lines old) old block.lines asked
  pub plays : ArePlayed (used_in block.lines old) played old.volumes new.volumes
  pub told : AreReplied block.opening.hold played asked replies
