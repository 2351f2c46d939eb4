-- What the merge of a snapshot that no line wrote gives its origin.
use Rattle.std.proofs.Common.{◌≡◌, ℕ, List, [], ◌∷◌, sym, ap, ◌∙◌, subst, inl, inr}
use Rattle.std.specs.Prelude.{Option, Some, None, Result, Ok, Err}
use Rattle.sector.specs.declared.refusal.Refusal.{Refusal}
use Rattle.sector.specs.declared.refusal.Refusal.TheVariants.{NoMemory, JournalFull}
use Rattle.command.specs.Line.{said_of}
use Rattle.command.specs.declared.grammar.Command.{Command}
use Rattle.command.specs.declared.grammar.Command.TheVariants as commands
use Rattle.table.specs.declared.lines.Target.{Target}
use Rattle.command_replies.specs.declared.command_reply.CommandReply.TheVariants.{Refused}
use Rattle.command_semantics.specs.Changes.{changed}
use Rattle.command_semantics.specs.Merging.{merge_finished}
use Rattle.command_semantics.specs.State.{Table}
use Rattle.commands_on_saved_arrays.specs.Arrays.{Arrays, arrays_in}
use Rattle.commands_on_saved_arrays.specs.Commands.{IsAnswered, IsMade}
use Rattle.commands_on_saved_arrays.specs.Undoing.{ShowsStill}
use Rattle.commands_on_saved_arrays.proofs.OnDisk.{finished_on_disk}
use Rattle.commands_on_saved_arrays.proofs.Undoing.{made_shows, merge_shows, still_shown}
use Rattle.script_runner.specs.Output.{LineOutcome, outcome, outcome_of}
use Rattle.script_runner.specs.Steps.{answer_of, done_as, obeyed, step, told_as}
use Rattle.script_runner.specs.Shown.{IsLineShown, IsSaidShown, answer_in}
use Rattle.script_runner.specs.Undoing.{AreSparing, Finishes, IsDoneWell, IsRuledDone, SparesSaid, Undoes}

-- what a line that has its rule does to what is shown
ruled_shows : (line : List ℕ) (old : Table) (done : LineOutcome) → IsRuledDone line old done → IsSaidShown (said_of 65536 line) old (answer_in done.replies) (arrays_in old) (arrays_in done.table)
unfolding IsLineShown
ruled_shows line old done is = is.did.shows is.ruled

-- and its command, where it was not refused
well_shows : (line : List ℕ) (command : Command) (old : Table) (done : LineOutcome) → IsDoneWell line command old done → IsAnswered command old (arrays_in old) (arrays_in done.table)
well_shows line command old done is =
    let P : Result (Option Command) Refusal → Type 0 = λ said. IsSaidShown said old (answer_in done.replies) (arrays_in old) (arrays_in done.table) in
    let Q : Result (Unit {0}) Refusal → Type 0 = λ answer. IsSaidShown (Ok (Some command)) old answer (arrays_in old) (arrays_in done.table) in
    subst Q is.well (subst P is.says (ruled_shows line old done is.did))

module _ (name origin array : List ℕ) where
  -- a line that spares the snapshot
  said_spares : (said : Result (Option Command) Refusal) (old : Table) (answer : Result (Unit {0}) Refusal) (new : List Arrays) → SparesSaid name said → IsSaidShown said old answer (arrays_in old) new → ShowsStill name origin array (arrays_in old) → ShowsStill name origin array new
  said_spares (Ok None) old answer new spares how all = subst (ShowsStill name origin array) (sym how) all
  said_spares (Ok (Some command)) old answer new spares how all = still_shown name origin array command old answer new spares how all
  said_spares (Err refusal) old answer new spares how all = subst (ShowsStill name origin array) (sym how) all

  -- and lines that do
  lines_spare : (lines : List (List ℕ)) (old new : Table) → AreSparing name old lines new → ShowsStill name origin array (arrays_in old) → ShowsStill name origin array (arrays_in new)
  lines_spare [] old new done all = subst (λ (t : Table). ShowsStill name origin array (arrays_in t)) (sym done) all
  lines_spare (line ∷ lines) old new done all =
      let next : LineOutcome = done.0 in
      lines_spare lines next.table new done.3
      (said_spares (said_of 65536 line) old (answer_in next.replies) (arrays_in next.table) done.1 (ruled_shows line old next done.2) all)

pub undoes : Undoes
undoes name device store before after merged is =
    let P : Target → Type 0 = λ target. IsMade name target before (arrays_in before) (arrays_in is.made.table) in
    let made = subst P is.target (well_shows is.create (commands.Create name is.line) before is.made is.creates) in
    let begun = made_shows name device store is.chunk is.overflow before (arrays_in is.made.table) is.none is.fresh made in
    let origin : Arrays = begun.0 in
    let still = lines_spare name origin.name origin.array is.between is.made.table after is.spares begun.2 in
    (origin, begun.1, merge_shows name origin.name origin.array after (arrays_in merged.table) (well_shows is.merge (commands.Merge name) after merged is.merges) still)

-- A merge that is finished.
module _ (line name : List ℕ) (old : Table) (done : LineOutcome) (is : IsDoneWell line (commands.Finish name) old done) where
  -- what it answers and leaves by its rule
  abbrev left_by : Result Table Refusal → LineOutcome
  left_by r = outcome (told_as Some (done_as (changed old r)))

  by_rule : outcome_of line old ≡ left_by (merge_finished name old)
  unfolding outcome_of answer_of step
  by_rule = ap (λ (said : Result (Option Command) Refusal). outcome (obeyed old said)) is.says

  refused_not : (e : Refusal) → done.replies ≡ Refused e ∷ [] → ⊥
  refused_not e told = let wrong : (let r : Result (Unit {0}) Refusal = Err e in r) ≡ Ok tt = ap answer_in (sym told) ∙ is.well in absurd (cc)

  of_it : (r : Result Table Refusal) → done ≡ left_by r → r ≡ Ok done.table
  of_it (Ok new) left = ap (λ (t : Table). let x : Result Table Refusal = Ok t in x) (sym (ap (λ (o : LineOutcome). o.table) left))
  of_it (Err e) left = absurd (refused_not e (ap (λ (o : LineOutcome). o.replies) left))

  finished_by_it : merge_finished name old ≡ Ok done.table
  finished_by_it = elim (is.did.did.rule is.did.ruled) [
    | inl rule ↦ of_it (merge_finished name old) (rule ∙ by_rule)
    | inr starved ↦ elim starved [
      | inl memory ↦ absurd (refused_not NoMemory memory.0)
      | inr room ↦ absurd (refused_not JournalFull room.1)
    ]
  ]

pub finishes : Finishes
finishes line name old done is = (finished_on_disk name old done.table (finished_by_it line name old done is), well_shows line (commands.Finish name) old done is)
