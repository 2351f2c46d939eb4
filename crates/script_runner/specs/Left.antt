-- What a command leaves of the devices in any case, whatever drops writes and whatever is in flight: of one that is asked of
-- a volume, that no other device changes.
use Rattle.std.specs.Prelude.{◌≡◌, ◌≢◌, ◌⊎◌, ◌++◌, ◌&&◌, ℕ, true, false, is_ok, not, List, Option, Some, None, Result, Ok, Err, IfErr, IfOk, OnErr, OnOk}
use Rattle.sector.specs.declared.refusal.Refusal.{Refusal}
use Rattle.sector.specs.declared.refusal.Refusal.TheVariants.{NoMemory}
use Rattle.command.specs.Line.{said_of}
use Rattle.command.specs.declared.grammar.Command.{Command}
use Rattle.command.specs.declared.grammar.Command.TheVariants as commands
use Rattle.command.specs.declared.events.EventWords.{EventWords}
use Rattle.plain_machine.specs.declared.event.Outcome.{Outcome}
use Rattle.plain_machine.specs.declared.event.Outcome.TheVariants as outcomes
use Rattle.plain_machine.specs.declared.request.Op.{Op}
use Rattle.plain_machine.specs.declared.request.Op.TheVariants.{Read as ReadOp, Write as WriteOp}
use Rattle.table.specs.declared.lines.Line.{Line}
use Rattle.command_replies.specs.declared.command_reply.CommandReply.{CommandReply}
use Rattle.command_replies.specs.declared.command_reply.CommandReply.TheVariants.{Data, Done, Fault, Number, Said}
use Rattle.plain_machine.specs.Replies.{reply_in}
use Rattle.plain_machine.specs.declared.request.Replied.{Replied}
use Rattle.whole_commands.specs.Refusals.{is_starved}
use Rattle.command_semantics.specs.State.{Table}
use Rattle.command_semantics.specs.Events.{event_asked, is_merge_event, origin_by, rested, snapshot_named, step_event}
use Rattle.command_semantics.specs.Losing.{StopsLosing}
use Rattle.command_semantics.specs.Merging.{merge_begun}
use Rattle.command_semantics.specs.Places.{volume_at}
use Rattle.command_semantics.specs.Sectors.{Asked}
use Rattle.command_semantics.specs.Starting.{flush_asked, read_asked, write_asked}
use Rattle.device_commands.specs.Devices.{Flies, KeepsOthers}
use Rattle.device_commands.specs.Flights.{IsDoneFor, IsEventDoneFor, IsFlushedAmong, IsNotDueIn, IsNotStartedAs, IsReadAmong, IsStartedAs, IsWrittenAmong, event_of, is_about_merging}
use Rattle.device_commands.specs.Mapping.{IsMapHeld}
use Rattle.device_commands.specs.Meeting.{IsCreated}
use Rattle.device_commands.specs.Merging.{IsBegunIn, IsFinishedIn, IsUnfinishedIn}
use Rattle.device_commands.specs.Ruled.{is_alone_in, is_quiet_in, volume_for}
use Rattle.device_commands.specs.Status.{IsStatusAmong, IsStatusHeld}
use Rattle.device_list.specs.Flights.{IsDenied, IsSettledBy}
use Rattle.script_runner.specs.Steps.{reworded}

-- What was read, and what was done for it of what is in flight in the volume; where nothing is, why it was refused, whichever device
-- drops writes.
pub record IsReadLeft (device : List ℕ) (first count : ℕ) (answer : Result CommandReply Refusal) (old new : Table) (before after : List Replied) : Type 0 where
  pub got : Result (List ℕ) Refusal
  pub answer_is : answer ≡ reworded Data got
  pub others : KeepsOthers device old new
  pub among : IfOk (read_asked device first count old) (λ asks. IsDoneFor device (IsReadAmong got before after asks) old new)
  pub denied : is_quiet_in (volume_for device old) ≡ true → IfErr got (λ e. IfOk (read_asked device first count old) (λ _. IsDenied e))

-- and of a write
pub record IsWriteLeft (device : List ℕ) (first : ℕ) (bytes : List ℕ) (answer : Result CommandReply Refusal) (old new : Table) (before after : List Replied) : Type 0 where
  pub did : Result (Unit {0}) Refusal
  pub answer_is : answer ≡ reworded (λ _. Done) did
  pub others : KeepsOthers device old new
  pub among : IfOk (write_asked device first bytes old) (λ asks. IsDoneFor device (IsWrittenAmong bytes did before after asks) old new)
  pub denied : is_quiet_in (volume_for device old) ≡ true → IfErr did (λ e. IfOk (write_asked device first bytes old) (λ _. IsDenied e))

-- and of a flush
pub record IsFlushLeft (device : List ℕ) (answer : Result CommandReply Refusal) (old new : Table) (before after : List Replied) : Type 0 where
  pub did : Result (Unit {0}) Refusal
  pub answer_is : answer ≡ reworded (λ _. Done) did
  pub others : KeepsOthers device old new
  pub among : IfOk (flush_asked device old) (λ asks. IsDoneFor device (IsFlushedAmong did before after asks) old new)
  pub denied : is_quiet_in (volume_for device old) ≡ true → IfErr did (λ e. IfOk (flush_asked device old) (λ _. IsDenied e))

-- A request that is started is in flight then, under the number that is told, and alone changes its volume. One that is refused by
-- its volume is so for its reason.
pub record IsStartLeft (device : List ℕ) (op : Op) (asked : Result Asked Refusal) (answer : Result CommandReply Refusal) (old new : Table) (before after : List Replied) : Type 0 where
  pub number : Result ℕ Refusal
  pub answer_is : answer ≡ reworded Number number
  pub others : KeepsOthers device old new
  pub flies : OnOk number (Flies device old new)
  pub started : IfOk number (λ n. IfOk asked (λ asks. IsDoneFor device (IsStartedAs op n asks) old new))
  pub refused : IfErr number (λ e. IfOk asked (λ asks. IsDoneFor device (IsNotStartedAs op e asks) old new))
  pub alone : after ≡ before

-- an event's own reply: its request's comes before it, and a fault is told
abbrev pub stepped_reply : Outcome → CommandReply
stepped_reply outcomes.Done = Done
stepped_reply outcomes.Fault = Fault
stepped_reply (outcomes.Reply number reply) = Done

-- The event that is named was done, or memory was refused, or it was not due. One about a snapshot that is being merged is never
-- due.
pub record IsStepLeft (volume : List ℕ) (event : EventWords) (answer : Result CommandReply Refusal) (old new : Table) (before after : List Replied) : Type 0 where
  pub outcome : Result Outcome Refusal
  pub answer_is : answer ≡ reworded stepped_reply outcome
  pub others : KeepsOthers volume old new
  pub stepped : IfOk outcome (λ o. IsEventDoneFor volume (event_of event old) o old new × (after ≡ before ++ reply_in o))
  pub stays : OnErr outcome ((new ≡ old) × (after ≡ before))
  pub refused : IfErr outcome (λ e. e ≢ NoMemory → e ≡ step_event volume event old)
  pub merging : is_about_merging (snapshot_named event) old ≡ true → is_ok outcome ≡ false
  pub due : IfErr outcome (λ e. e ≢ NoMemory → IfOk (event_asked volume event old) (λ v. is_about_merging (snapshot_named event) old ≡ false
      → (not (is_merge_event event) && is_quiet_in (volume_at v old)) ≡ false → IsNotDueIn (event_of event old) (volume_at v old)))

-- Once a volume was settled nothing is in flight in it: all that was due was done. A settle is refused for want of memory alone where
-- there is its volume, and then does nothing; one of a volume in which nothing is in flight is not, and changes nothing where no merge
-- is begun.
pub record IsSettleLeft (volume : List ℕ) (answer : Result CommandReply Refusal) (old new : Table) (before after : List Replied) : Type 0 where
  pub did : Result (Unit {0}) Refusal
  pub answer_is : answer ≡ reworded (λ _. Done) did
  pub others : KeepsOthers volume old new
  pub rested : OnOk did (rested volume old new ≡ Ok tt)
  pub drained : OnOk did (IsDoneFor volume (IsSettledBy before after) old new)
  pub refused : IfErr did (λ e. IfOk (origin_by volume old) (λ _. e ≡ NoMemory))
  pub idle : IfOk (origin_by volume old) (λ v. is_quiet_in (volume_at v old) ≡ true → is_ok did ≡ true)
  pub stays : OnErr did ((new ≡ old) × (after ≡ before))
  pub alone : is_alone_in (volume_for volume old) ≡ true → new ≡ old

-- A merge that is begun changes its volume alone. One that isn't is refused by its rule, or memory was refused; then all is as it was.
pub record IsMergeLeft (name : List ℕ) (answer : Result CommandReply Refusal) (old new : Table) (before after : List Replied) : Type 0 where
  pub did : Result (Unit {0}) Refusal
  pub answer_is : answer ≡ reworded (λ _. Done) did
  pub begun : OnOk did (IsDoneFor name IsBegunIn old new)
  pub refused : IfErr did (λ e. (new ≡ old) × (is_starved e ≡ false → merge_begun name old ≡ Err e))
  pub alone : after ≡ before

-- a merge that is finished gives the stack of its store back, and changes its volume alone
pub record IsFinishLeft (volume : List ℕ) (answer : Result CommandReply Refusal) (old new : Table) (before after : List Replied) : Type 0 where
  pub did : Result (Unit {0}) Refusal
  pub answer_is : answer ≡ reworded (λ _. Done) did
  pub finished : OnOk did (IfOk (origin_by volume old) (λ v. IsFinishedIn v old new (volume_at v old)))
  pub unfinished : IfErr did (λ e. IfOk (origin_by volume old) (λ v. is_starved e ≡ false → IsUnfinishedIn e (volume_at v old)))
  pub stays : OnErr did (new ≡ old)
  pub alone : after ≡ before

-- A snapshot is made just where its volume takes it, and all else is as it was; where it is not, there is a reason, and no volume
-- changed. Every other line has its rule.
pub record IsCreateLeft (name : List ℕ) (line : Line) (answer : Result CommandReply Refusal) (old new : Table) (before after : List Replied) : Type 0 where
  pub did : Result (Unit {0}) Refusal
  pub answer_is : answer ≡ reworded (λ _. Done) did
  pub made : IsCreated name line did old new
  pub alone : after ≡ before

-- A status line changes nothing, and says what is in memory of a snapshot in any case: what its store's bytes say, where nothing is
-- in flight and no device drops writes.
pub record IsStatusLeft (device : List ℕ) (answer : Result CommandReply Refusal) (old new : Table) (before after : List Replied) : Type 0 where
  pub text : Result (List ℕ) Refusal
  pub answer_is : answer ≡ reworded Said text
  pub among : IsStatusAmong text device old
  pub held : IsStatusHeld text device old
  pub stays : new ≡ old
  pub alone : after ≡ before

-- A map changes nothing, and says what is in memory of a snapshot in any case: what its store's bytes say, where no device of its
-- volume drops writes.
pub record IsMapLeft (device : List ℕ) (answer : Result CommandReply Refusal) (old new : Table) (before after : List Replied) : Type 0 where
  pub text : Result (List ℕ) Refusal
  pub answer_is : answer ≡ reworded Said text
  pub held : IsMapHeld text device old
  pub stays : new ≡ old
  pub alone : after ≡ before

-- A volume that is stopped with a loss: the stacks that are left of it have their names, layers, sizes and marks as by `stop`, and
-- some bytes; all else is as after `stop`.
pub record IsStopLeft (volume : List ℕ) (answer : Result CommandReply Refusal) (old new : Table) (before after : List Replied) : Type 0 where
  pub did : Result (Unit {0}) Refusal
  pub answer_is : answer ≡ reworded (λ _. Done) did
  pub lost : StopsLosing did volume old new
  pub alone : after ≡ before

-- what a command leaves, with this answer; one that has its rule in any case is left to that
abbrev pub IsLeft : Command → Result CommandReply Refusal → Table → Table → List Replied → List Replied → Type 0
IsLeft (commands.Read device first count) answer old new before after = IsReadLeft device first count answer old new before after
IsLeft (commands.Write device first bytes) answer old new before after = IsWriteLeft device first bytes answer old new before after
IsLeft (commands.Flush device) answer old new before after = IsFlushLeft device answer old new before after
IsLeft (commands.StartRead device first count) answer old new before after = IsStartLeft device ReadOp (read_asked device first count old) answer old new before after
IsLeft (commands.StartWrite device first bytes) answer old new before after = IsStartLeft device (WriteOp bytes) (write_asked device first bytes old) answer old new before after
IsLeft (commands.Step volume event) answer old new before after = IsStepLeft volume event answer old new before after
IsLeft (commands.Settle volume) answer old new before after = IsSettleLeft volume answer old new before after
IsLeft (commands.Merge name) answer old new before after = IsMergeLeft name answer old new before after
IsLeft (commands.Finish volume) answer old new before after = IsFinishLeft volume answer old new before after
IsLeft (commands.Status device) answer old new before after = IsStatusLeft device answer old new before after
IsLeft (commands.Map device) answer old new before after = IsMapLeft device answer old new before after
IsLeft (commands.Table device) answer old new before after = (new ≡ old) × (after ≡ before)
IsLeft (commands.Save disk first count) answer old new before after = (new ≡ old) × (after ≡ before)
IsLeft (commands.Copy from first to count) answer old new before after = after ≡ before
IsLeft commands.List answer old new before after = (new ≡ old) × (after ≡ before)
IsLeft (commands.Checkpoint volume) answer old new before after = (new ≡ old) × (after ≡ before)
IsLeft (commands.Create name line) answer old new before after = IsCreateLeft name line answer old new before after
IsLeft (commands.Disk name sectors) answer old new before after = after ≡ before
IsLeft (commands.Remove name) answer old new before after = after ≡ before
IsLeft (commands.Load disk first bytes) answer old new before after = after ≡ before
IsLeft (commands.Message device message) answer old new before after = after ≡ before
IsLeft (commands.Tick seconds) answer old new before after = after ≡ before
IsLeft (commands.Resume volume) answer old new before after = after ≡ before
IsLeft (commands.Stop volume) answer old new before after = after ≡ before
IsLeft (commands.StopLosing volume) answer old new before after = IsStopLeft volume answer old new before after

-- the same of what a line says
abbrev pub IsLeftSaid : Result (Option Command) Refusal → Result (Option CommandReply) Refusal → Table → Table → List Replied → List Replied → Type 0
IsLeftSaid (Ok None) answer old new before after = (new ≡ old) × (after ≡ before)
IsLeftSaid (Ok (Some command)) answer old new before after = (own : Result CommandReply Refusal) × (answer ≡ reworded Some own) × IsLeft command own old new before after
IsLeftSaid (Err refusal) answer old new before after = (new ≡ old) × (after ≡ before)

-- and of a line, where memory may run out for its words
unfoldable pub IsLineLeft : List ℕ → Result (Option CommandReply) Refusal → Table → Table → List Replied → List Replied → Type 0
IsLineLeft line answer old new before after =
    ((answer ≡ Err NoMemory) × (new ≡ old) × (after ≡ before)) ⊎ IsLeftSaid (said_of 65536 line) answer old new before after
