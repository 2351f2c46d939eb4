-- What a desk's line does, whatever drops writes and whatever is in flight.
use Rattle.std.specs.Prelude.{◌≡◌, ℕ, true, List, [], ◌∷◌, ◌++◌, Option, Result, IfSome}
use Rattle.sector.specs.declared.refusal.Refusal.{Refusal}
use Rattle.sector.specs.declared.refusal.Refusal.TheVariants.{JournalFull}
use Rattle.command_replies.specs.declared.command_reply.CommandReply.{CommandReply}
use Rattle.command_replies.specs.declared.command_reply.CommandReply.TheVariants.{Refused}
use Rattle.plain_machine.specs.declared.request.Replied.{Replied}
use Rattle.command_semantics.specs.State.{Table}
use Rattle.script_runner.specs.Asking.{IsFirst, line_first}
use Rattle.script_runner.specs.Ended.{ended_lines}
use Rattle.script_runner.specs.Full.{IsAskedByLine}
use Rattle.script_runner.specs.Left.{IsLineLeft}
use Rattle.script_runner.specs.Output.{LineOutcome, MayBe, told}
use Rattle.script_runner.specs.Ruled.{is_ruled_line}
use Rattle.script_runner.specs.Shown.{IsLineShown}
use Rattle.script_runner.specs.Starts.{AreStartReplies, starts_line}

-- These requests ended in the line, and this is its own answer: the lines of those stand before it. It is JournalFull only where the
-- volume of its device was asked for so much.
pub record IsToldFor (line : List ℕ) (old : Table) (done : LineOutcome) : Type 0 where
  pub ended : List Replied
  pub own : Result (Option CommandReply) Refusal
  pub lines : done.replies ≡ ended_lines ended ++ told own
  pub left : IsLineLeft line own old done.table [] ended
  pub full : told own ≡ Refused JournalFull ∷ [] → IsAskedByLine line old done.table

-- Where its command has its rule, the line has its outcome, or memory or a journal's room ran out for it, and each volume shows what the line's
-- command leaves of what it showed. A line that is refused before any volume is asked answers that alone and leaves all as it
-- was, and one that starts a request answers its number or is refused.
pub record IsLineDone (line : List ℕ) (old : Table) (done : LineOutcome) : Type 0 where
  pub rule : is_ruled_line line old ≡ true → MayBe line old done
  pub shows : is_ruled_line line old ≡ true → IsLineShown line old done
  pub first : IsFirst (line_first line old) done.replies
  pub stays : IfSome (line_first line old) (λ _. done.table ≡ old)
  pub number : starts_line line ≡ true → AreStartReplies done.replies
  pub told : IsToldFor line old done
