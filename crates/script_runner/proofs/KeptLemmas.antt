-- A line that is too long does what is kept of it does.
use Rattle.std.proofs.Common.{◌≡◌, ◌<◌, ℕ, Bool, true, false, List, [], length, refl, sym, ap, ◌∙◌, subst, inl, inr, arith, rules, ltb}
use Rattle.std.specs.Prelude.{◌&&◌, nat_le, IfSome, Option, Result, Err}
use Rattle.std.proofs.lemmas.Bool.{cases_lt}
use borrow.Author.Tests.{tests}
use Rattle.sector.specs.declared.refusal.Refusal.{Refusal}
use Rattle.sector.specs.declared.refusal.Refusal.TheVariants.{BadTable}
use Rattle.words.specs.Lines.{IsKept}
use Rattle.command.proofs.Kept.{said_kept}
use Rattle.command.specs.Line.{said_of}
use Rattle.command.specs.declared.grammar.Command.{Command}
use Rattle.command.specs.Blocks.{Lines, ends_block, with_line, with_said}
use Rattle.command.specs.Lines.{ends_with, said_in}
use Rattle.command.specs.Opening.{has_par, is_par}
use Rattle.plain_machine.specs.declared.request.Replied.{Replied}
use Rattle.command_replies.specs.declared.command_reply.CommandReply.{CommandReply}
use Rattle.command_semantics.specs.State.{Table}
use Rattle.commands_on_saved_arrays.specs.Arrays.{arrays_in}
use Rattle.script_runner.specs.Asking.{IsFirst, line_first, said_first}
use Rattle.script_runner.specs.Done.{IsLineDone, IsToldFor}
use Rattle.script_runner.proofs.FullLemmas.{full_alike}
use Rattle.script_runner.specs.Left.{IsLeftSaid, IsLineLeft}
use Rattle.script_runner.specs.Output.{IsPartSaid, IsStarved, MayBe, LineOutcome, outcome, outcome_of}
use Rattle.script_runner.specs.Ruled.{is_ruled_line, is_ruled_said}
use Rattle.script_runner.specs.Runs.{IsNext}
use Rattle.script_runner.specs.Sessions.{IsSessionDone, IsTaken, Sitting}
use Rattle.script_runner.specs.Shown.{IsLineShown, IsSaidShown, answer_in}
use Rattle.script_runner.specs.Sound.{is_sound_line, is_sound_said}
use Rattle.script_runner.specs.Starts.{starts_line, starts_said}
use Rattle.script_runner.specs.Steps.{answer_of, obeyed}
use Rattle.script_runner.specs.Wants.{enters_line, enters_said}

-- what two lines do that say the same command
starved_alike : (line kept : List ℕ) (old new : Table) → said_of 65536 kept ≡ said_of 65536 line → IsStarved kept old new → IsStarved line old new
unfolding IsStarved
starved_alike line kept old new same starved =
    let P : Result (Option Command) Refusal → Type 0 = λ said. IsPartSaid said old new in subst P same starved

outcome_alike : (line kept : List ℕ) (table : Table) → said_of 65536 kept ≡ said_of 65536 line → outcome_of kept table ≡ outcome_of line table
unfolding outcome_of answer_of
outcome_alike line kept table same = ap (λ said. outcome (obeyed table said)) same

enters_alike : (line kept : List ℕ) → said_of 65536 kept ≡ said_of 65536 line → enters_line kept ≡ enters_line line
unfolding enters_line
enters_alike line kept same = ap enters_said same

may_alike : (line kept : List ℕ) (table : Table) (done : LineOutcome) → said_of 65536 kept ≡ said_of 65536 line → MayBe kept table done → MayBe line table done
may_alike line kept table done same (inl is) = inl (is ∙ outcome_alike line kept table same)
may_alike line kept table done same (inr (inl is)) = inr (inl (is.0, starved_alike line kept table done.table same is.1))
may_alike line kept table done same (inr (inr is)) = inr (inr (sym (enters_alike line kept same) ∙ is.0, is.1, starved_alike line kept table done.table same is.2))

ruled_alike : (line kept : List ℕ) (table : Table) → said_of 65536 kept ≡ said_of 65536 line → is_ruled_line kept table ≡ is_ruled_line line table
unfolding is_ruled_line
ruled_alike line kept table same = ap (is_ruled_said table) same

shown_alike : (line kept : List ℕ) (table : Table) (done : LineOutcome) → said_of 65536 kept ≡ said_of 65536 line → IsLineShown kept table done → IsLineShown line table done
unfolding IsLineShown
shown_alike line kept table done same shown =
    let P : Result (Option Command) Refusal → Type 0 = λ said. IsSaidShown said table (answer_in done.replies) (arrays_in table) (arrays_in done.table) in subst P same shown

first_alike : (line kept : List ℕ) (table : Table) → said_of 65536 kept ≡ said_of 65536 line → line_first kept table ≡ line_first line table
unfolding line_first
first_alike line kept table same = ap (said_first table) same

starts_alike : (line kept : List ℕ) → said_of 65536 kept ≡ said_of 65536 line → starts_line kept ≡ starts_line line
unfolding starts_line
starts_alike line kept same = ap starts_said same

sound_alike : (line kept : List ℕ) → said_of 65536 kept ≡ said_of 65536 line → is_sound_line kept ≡ is_sound_line line
unfolding is_sound_line
sound_alike line kept same = ap is_sound_said same

left_alike : (line kept : List ℕ) (own : Result (Option CommandReply) Refusal) (old new : Table) (before after : List Replied) → said_of 65536 kept ≡ said_of 65536 line → IsLineLeft kept own old new before after → IsLineLeft line own old new before after
unfolding IsLineLeft
left_alike line kept own old new before after same (inl starved) = inl starved
left_alike line kept own old new before after same (inr left) =
    let P : Result (Option Command) Refusal → Type 0 = λ said. IsLeftSaid said own old new before after in inr (subst P same left)

told_alike : (line kept : List ℕ) (table : Table) (done : LineOutcome) → said_of 65536 kept ≡ said_of 65536 line → IsToldFor kept table done → IsToldFor line table done
told_alike line kept table done same is = record {
  ended = is.ended;
  own = is.own;
  lines = is.lines;
  left = left_alike line kept is.own table done.table [] is.ended same is.left;
  full = λ said. full_alike line kept table done.table same (is.full said);
}

line_alike : (line kept : List ℕ) (table : Table) (done : LineOutcome) → said_of 65536 kept ≡ said_of 65536 line → IsLineDone kept table done → IsLineDone line table done
line_alike line kept table done same is =
    let First : Option Refusal → Type 0 = λ first. IsFirst first done.replies in
    let Stays : Option Refusal → Type 0 = λ first. IfSome first (λ _. done.table ≡ table) in
    record {
      rule = λ ruled. may_alike line kept table done same (is.rule (ruled_alike line kept table same ∙ ruled));
      shows = λ ruled. shown_alike line kept table done same (is.shows (ruled_alike line kept table same ∙ ruled));
      first = subst First (first_alike line kept table same) is.first;
      stays = subst Stays (first_alike line kept table same) is.stays;
      number = λ does. is.number (starts_alike line kept same ∙ does);
      told = told_alike line kept table done same is.told;
    }

-- a line that is too long opens no block, ends none, and is a wrong line of one
no_more : (n m : ℕ) → m < n → nat_le n m ≡ false
no_more n m less = grind (arith, tests, less)

long_opens : (line : List ℕ) → 65536 < length line → is_par 65536 line ≡ false
long_opens line long = ap (λ b. b && has_par line) (no_more (length line) 65536 long)

long_said : (max : ℕ) (line : List ℕ) → max < length line → said_in max line ≡ Err BadTable
unfolding said_in
long_said max line long = let e : ltb max (length line) ≡ true = search rules in rw e refl

long_ends : (line : List ℕ) → 65536 < length line → ends_block line ≡ false
unfolding ends_block
long_ends line long = ap ends_with (long_said 65536 line long)

long_with : (line kept : List ℕ) (block : Lines) → 65536 < length line → 65536 < length kept → with_line kept block ≡ with_line line block
unfolding with_line
long_with line kept block long more = ap (λ said. with_said said block) (long_said 65536 kept more ∙ sym (long_said 65536 line long))

true_false : (P : Type 0) (b : Bool) → b ≡ false → b ≡ true → P
true_false P b isnt is = absurd (let none : ⊥ = cc in none)

long_taken : (line kept : List ℕ) (block : Lines) (now : Option Lines) → 65536 < length line → 65536 < length kept → IsTaken kept block now → IsTaken line block now
long_taken line kept block now long more (after, is, inl starved) = (after, is, inl starved)
long_taken line kept block now long more (after, is, inr said) = (after, is, inr (said ∙ long_with line kept block long more))

long_done : (line kept : List ℕ) (old new : Sitting) (done : LineOutcome) → 65536 < length line → 65536 < length kept → said_of 65536 kept ≡ said_of 65536 line → IsSessionDone kept old new done → IsSessionDone line old new done
long_done line kept old new done long more same is = record {
  command = λ none alone. let did = is.command none (long_opens kept more) in (did.0, line_alike line kept old.desk.table done same did.1);
  opens = λ none par. true_false _ (is_par 65536 line) (long_opens line long) par;
  takes = λ block at ends. let did = is.takes block at (long_ends kept more) in (long_taken line kept block new.block long more did.0, did.1);
  ends = λ block at ends. true_false _ (ends_block line) (long_ends line long) ends;
}

-- so what is kept of a line decides what it does
pub next_kept : (line kept : List ℕ) (old new : Sitting) (done : LineOutcome) → IsKept 65536 line kept → IsNext kept old new done → IsNext line old new done
next_kept line kept old new done keeps is = elim (cases_lt 65536 (length line)) [
  | inl more ↦ (
      let same = said_kept 65536 line kept keeps.0 keeps.1 in
      record {
        did = long_done line kept old new done more (keeps.1 more) same is.did;
        desk = is.desk;
        sound = λ sound makes. is.sound sound (sound_alike line kept same ∙ makes);
      })
  | inr less ↦ (let P : List ℕ → Type 0 = λ l. IsNext l old new done in subst P (keeps.0 less) is)
]
