-- What a line does to what volumes show, by its outcome.
use Rattle.std.proofs.Common.{◌≡◌, inl, inr, ℕ, List, [], ◌∷◌, refl, ap, sym, subst}
use Rattle.std.specs.Prelude.{◌≢◌, true, Option, Some, None, Result, Ok, Err}
use Rattle.sector.specs.declared.refusal.Refusal.{Refusal}
use Rattle.sector.specs.declared.refusal.Refusal.TheVariants.{NoMemory, JournalFull}
use Rattle.command.specs.Line.{said_of}
use Rattle.command.specs.declared.grammar.Command.{Command}
use Rattle.command.specs.declared.grammar.Command.TheVariants as commands
use Rattle.command_replies.specs.declared.command_reply.CommandReply.{CommandReply}
use Rattle.command_replies.specs.declared.command_reply.CommandReply.TheVariants.{Done, Refused}
use Rattle.whole_commands.specs.Refusals.{is_starved}
use Rattle.command_semantics.specs.State.{Table}
use Rattle.command_semantics.specs.Changes.{Did}
use Rattle.commands_on_saved_arrays.specs.Arrays.{Arrays, arrays_in}
use Rattle.commands_on_saved_arrays.specs.Commands.{IsAnswered, IsRefused, IsShown}
use Rattle.commands_on_saved_arrays.specs.Well.{IsWellOf}
use Rattle.commands_on_saved_arrays.proofs.Layers.{ticked_shows}
use Rattle.commands_on_saved_arrays.proofs.Lines.{settle_line, merge_line, resume_line, finish_line, checkpoint_line, stop_line, write_line, write_starved, read_line, read_starved, flush_line, flush_starved, tell_line, load_line, copy_line}
use Rattle.commands_on_saved_arrays.proofs.Devices.{disk_line, remove_line, create_line}
use Rattle.script_runner.specs.Steps.{reworded, step, obeyed, answer_of}
use Rattle.script_runner.specs.Output.{LineOutcome, told, outcome, outcome_of, IsPartDone, IsPartSaid, IsStarved, MayBe}
use Rattle.script_runner.proofs.AskingLemmas.{memory_or_not}
use Rattle.script_runner.specs.Shown.{answer_in, IsSaidShown, IsLineShown}

-- an answer as it is printed
abbrev printed_as : Result CommandReply Refusal → Result (Unit {0}) Refusal
printed_as answer = answer_in (told (reworded Some answer))

-- what is answered by `ok` alone
as_done : (command : Command) (table : Table) (answer : Result (Unit {0}) Refusal) (old new : List Arrays) → IsShown command table answer old new → IsShown command table (printed_as (reworded (λ _. Done) answer)) old new
as_done command table (Ok done) old new shows = shows
as_done command table (Err e) old new shows = shows

-- whatever is answered
in_both : (command : Command) (table : Table) (old new : List Arrays) → IsAnswered command table old new → ((e : Refusal) → IsRefused command table e old new) → (answer : Result (Unit {0}) Refusal) → IsShown command table answer old new
in_both command table old new answered refused (Ok done) = answered
in_both command table old new answered refused (Err e) = refused e

-- each command's step
step_shown : (command : Command) (table : Table) → IsWellOf command table → (let done : Did CommandReply Table = step command table in IsShown command table (printed_as done.answer) (arrays_in table) (arrays_in done.left))
unfolding step
step_shown (commands.Disk name sectors) table well = let e = disk_line name sectors table in in_both (commands.Disk name sectors) table _ _ e (λ r. e) _
step_shown (commands.Create name line) table well = as_done (commands.Create name line) table _ _ _ (create_line name line table well)
step_shown (commands.Remove name) table well = as_done (commands.Remove name) table _ _ _ (remove_line name table well)
step_shown (commands.Load disk first bytes) table well = let e = load_line disk first bytes table in in_both (commands.Load disk first bytes) table _ _ e (λ r. e) _
step_shown (commands.Save disk first count) table well = in_both (commands.Save disk first count) table _ _ refl (λ r. refl) _
step_shown (commands.Copy from first to count) table well = let e = copy_line from first to count table in in_both (commands.Copy from first to count) table _ _ e (λ r. e) _
step_shown commands.List table well = in_both commands.List table (arrays_in (step commands.List table).left) _ refl (λ r. refl) (printed_as (step commands.List table).answer)
step_shown (commands.Message device message) table well = let e = tell_line device message table in in_both (commands.Message device message) table _ _ e (λ r. e) _
step_shown (commands.Tick seconds) table well = ticked_shows seconds table
step_shown (commands.Read device first count) table well = let e = read_line device first count table in in_both (commands.Read device first count) table _ _ e (λ r. e) _
step_shown (commands.Write device first bytes) table well = as_done (commands.Write device first bytes) table _ _ _ (write_line device first bytes table well)
step_shown (commands.Flush device) table well = let e = flush_line device table in in_both (commands.Flush device) table _ _ e (λ r. e) _
step_shown (commands.StartRead device first count) table well = refl
step_shown (commands.StartWrite device first bytes) table well = refl
step_shown (commands.Step volume event) table well = refl
step_shown (commands.Settle volume) table well = as_done (commands.Settle volume) table _ _ _ (settle_line volume table well)
step_shown (commands.Merge name) table well = as_done (commands.Merge name) table _ _ _ (merge_line name table well)
step_shown (commands.Resume volume) table well = as_done (commands.Resume volume) table _ _ _ (resume_line volume table)
step_shown (commands.Finish volume) table well = as_done (commands.Finish volume) table _ _ _ (finish_line volume table)
step_shown (commands.Checkpoint volume) table well = as_done (commands.Checkpoint volume) table _ _ _ (checkpoint_line volume table)
step_shown (commands.Stop volume) table well = as_done (commands.Stop volume) table _ _ _ (stop_line volume table)
step_shown (commands.StopLosing volume) table well = refl
step_shown (commands.Status device) table well = in_both (commands.Status device) table _ _ refl (λ r. refl) _
step_shown (commands.Table device) table well = in_both (commands.Table device) table _ _ refl (λ r. refl) _
step_shown (commands.Map device) table well = in_both (commands.Map device) table _ _ refl (λ r. refl) _

-- where memory or room ran out
starved_shown : (command : Command) (table new : Table) (e : Refusal) → is_starved e ≡ true → IsWellOf command table → IsPartDone command table new → IsRefused command table e (arrays_in table) (arrays_in new)
starved_shown (commands.Read device first count) table new e wanting well (inl same) = ap arrays_in same
starved_shown (commands.Read device first count) table new e wanting well (inr part) = read_starved device first count table new part
starved_shown (commands.Write device first bytes) table new e wanting well (inl same) = inl (ap arrays_in same)
starved_shown (commands.Write device first bytes) table new e wanting well (inr part) = write_starved device first bytes table new e wanting well part
starved_shown (commands.Flush device) table new e wanting well (inl same) = ap arrays_in same
starved_shown (commands.Flush device) table new e wanting well (inr part) = flush_starved device table new part
starved_shown (commands.Disk name sectors) table new e wanting well same = ap arrays_in same
starved_shown (commands.Create name line) table new e wanting well same = ap arrays_in same
starved_shown (commands.Remove name) table new e wanting well same = ap arrays_in same
starved_shown (commands.Load disk first bytes) table new e wanting well same = ap arrays_in same
starved_shown (commands.Save disk first count) table new e wanting well same = ap arrays_in same
starved_shown (commands.Copy from first to count) table new e wanting well same = ap arrays_in same
starved_shown commands.List table new e wanting well same = ap arrays_in same
starved_shown (commands.Message device message) table new e wanting well same = ap arrays_in same
starved_shown (commands.Tick seconds) table new e wanting well same = ap arrays_in same
starved_shown (commands.StartRead device first count) table new e wanting well same = ap arrays_in same
starved_shown (commands.StartWrite device first bytes) table new e wanting well same = ap arrays_in same
starved_shown (commands.Step volume event) table new e wanting well same = ap arrays_in same
starved_shown (commands.Settle volume) table new e wanting well same = ap arrays_in same
starved_shown (commands.Merge name) table new e wanting well same = ap arrays_in same
starved_shown (commands.Resume volume) table new e wanting well same = ap arrays_in same
starved_shown (commands.Finish volume) table new e wanting well same = ap arrays_in same
starved_shown (commands.Checkpoint volume) table new e wanting well same = ap arrays_in same
starved_shown (commands.Stop volume) table new e wanting well same = ap arrays_in same
starved_shown (commands.StopLosing volume) table new e wanting well same = ap arrays_in same
starved_shown (commands.Status device) table new e wanting well same = ap arrays_in same
starved_shown (commands.Table device) table new e wanting well same = ap arrays_in same
starved_shown (commands.Map device) table new e wanting well same = ap arrays_in same

-- the volume that a line's command changes is well
abbrev pub IsWellSaid : Result (Option Command) Refusal → Table → Type 0
IsWellSaid (Ok None) table = Unit {0}
IsWellSaid (Ok (Some command)) table = IsWellOf command table
IsWellSaid (Err refusal) table = Unit {0}

-- by what the line says
said_shown : (said : Result (Option Command) Refusal) (table : Table) → IsWellSaid said table → (let done : LineOutcome = outcome (obeyed table said) in IsSaidShown said table (answer_in done.replies) (arrays_in table) (arrays_in done.table))
said_shown (Ok None) table well = refl
said_shown (Ok (Some command)) table well = step_shown command table well
said_shown (Err refusal) table well = refl

said_starved : (said : Result (Option Command) Refusal) (table new : Table) (e : Refusal) → is_starved e ≡ true → IsWellSaid said table → IsPartSaid said table new → IsSaidShown said table (Err e) (arrays_in table) (arrays_in new)
said_starved (Ok None) table new e wanting well same = ap arrays_in same
said_starved (Ok (Some command)) table new e wanting well part = starved_shown command table new e wanting well part
said_starved (Err refusal) table new e wanting well same = ap arrays_in same

-- a line whose volume is well
pub line_shown : (line : List ℕ) (old : Table) (done : LineOutcome) → IsWellSaid (said_of 65536 line) old → MayBe line old done → IsLineShown line old done
unfolding IsLineShown IsStarved outcome_of answer_of
line_shown line old done well (inl is) =
    subst (λ (o : LineOutcome). IsSaidShown (said_of 65536 line) old (answer_in o.replies) (arrays_in old) (arrays_in o.table)) (sym is) (said_shown (said_of 65536 line) old well)
line_shown line old done well (inr (inl starved)) =
    subst (λ (rs : List CommandReply). IsSaidShown (said_of 65536 line) old (answer_in rs) (arrays_in old) (arrays_in done.table)) (sym starved.0) (said_starved (said_of 65536 line) old done.table NoMemory refl well starved.1)
line_shown line old done well (inr (inr full)) =
    subst (λ (rs : List CommandReply). IsSaidShown (said_of 65536 line) old (answer_in rs) (arrays_in old) (arrays_in done.table)) (sym full.1) (said_starved (said_of 65536 line) old done.table JournalFull refl well full.2)

-- one that says nothing
pub silent_shown : (line : List ℕ) (table : Table) → said_of 65536 line ≡ Ok None → IsLineShown line table (record { replies = []; table = table })
unfolding IsLineShown
silent_shown line table is = subst (λ (s : Result (Option Command) Refusal). IsSaidShown s table (Ok tt) (arrays_in table) (arrays_in table)) (sym is) refl

-- one for which memory ran out before it was read
unread : (command : Command) (table : Table) (shows : List Arrays) → IsRefused command table NoMemory shows shows
unread (commands.Write device first bytes) table shows = inl refl
unread (commands.Read device first count) table shows = refl
unread (commands.Flush device) table shows = refl
unread (commands.Disk name sectors) table shows = refl
unread (commands.Create name line) table shows = refl
unread (commands.Remove name) table shows = refl
unread (commands.Load disk first bytes) table shows = refl
unread (commands.Save disk first count) table shows = refl
unread (commands.Copy from first to count) table shows = refl
unread commands.List table shows = refl
unread (commands.Message device message) table shows = refl
unread (commands.Tick seconds) table shows = refl
unread (commands.StartRead device first count) table shows = refl
unread (commands.StartWrite device first bytes) table shows = refl
unread (commands.Step volume event) table shows = refl
unread (commands.Settle volume) table shows = refl
unread (commands.Merge name) table shows = refl
unread (commands.Resume volume) table shows = refl
unread (commands.Finish volume) table shows = refl
unread (commands.Checkpoint volume) table shows = refl
unread (commands.Stop volume) table shows = refl
unread (commands.StopLosing volume) table shows = refl
unread (commands.Status device) table shows = refl
unread (commands.Table device) table shows = refl
unread (commands.Map device) table shows = refl

unread_said : (said : Result (Option Command) Refusal) (table : Table) (shows : List Arrays) → IsSaidShown said table (Err NoMemory) shows shows
unread_said (Ok None) table shows = refl
unread_said (Ok (Some command)) table shows = unread command table shows
unread_said (Err refusal) table shows = refl

-- and one whose words are refused
pub refused_shown : (line : List ℕ) (table : Table) (e : Refusal) → (e ≢ NoMemory → said_of 65536 line ≡ Err e) → IsLineShown line table (record { replies = Refused e ∷ []; table = table })
unfolding IsLineShown
refused_shown line table e is =
    let P : Refusal → Type 0 = λ r. IsSaidShown (said_of 65536 line) table (Err r) (arrays_in table) (arrays_in table) in
    elim (memory_or_not e) [
      | inl memory ↦ subst P (sym memory) (unread_said (said_of 65536 line) table (arrays_in table))
      | inr other ↦ subst (λ (s : Result (Option Command) Refusal). IsSaidShown s table (Err e) (arrays_in table) (arrays_in table)) (sym (is other)) refl
    ]
