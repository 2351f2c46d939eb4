-- One line of a desk.
use Rattle.std.proofs.Common.{◌≡◌, ℕ, List, [], ◌∷◌, Option, Some, refl, sym, ap, ◌∙◌, inl, inr, subst, arith, true, false, ◌<◌, ◌^◌, length}
use Rattle.std.specs.Prelude.{Bool, Result, Ok, Err, IfSome}
use Rattle.std.proofs.lemmas.Bool.{cases_Bool}
use Rattle.sector.specs.declared.refusal.Refusal.{Refusal}
use Rattle.command_replies.specs.declared.command_reply.CommandReply.{CommandReply}
use Rattle.command_replies.specs.declared.command_reply.CommandReply.TheVariants.{Refused}
use Rattle.plain_machine.specs.declared.request.Replied.{Replied}
use Rattle.script_runner.specs.declared.summary.Summary.{Summary}
use Rattle.whole_commands.specs.Refusals.{is_starved}
use Rattle.command_semantics.specs.Changes.{ServesIf}
use Rattle.command_semantics.specs.Naming.{AreNamed}
use Rattle.command_semantics.specs.State.{Table}
use Rattle.whole_commands.proofs.Starved.{starved_by}
use Rattle.script_runner.specs.Steps.{answer_of}
use Rattle.script_runner.specs.Wants.{enters_line}
use Rattle.script_runner.specs.Starts.{AreStartReplies, starts_line}
use Rattle.script_runner.specs.Counts.{with_lines}
use Rattle.script_runner.specs.Ended.{line_replies}
use Rattle.script_runner.specs.Output.{LineOutcome, Standing, answered, counted, empty, outcome, outcome_of, IsStarved, MayBe, followed, told}
use Rattle.script_runner.specs.Done.{IsLineDone, IsToldFor}
use Rattle.script_runner.specs.Ruled.{is_ruled_line}
use Rattle.script_runner.specs.Shown.{IsLineShown}
use Rattle.script_runner.specs.Asking.{IsFirst, line_first}
use Rattle.script_runner.proofs.EndedLemmas.{all_lines_counted}
use Rattle.script_runner.proofs.AskingLemmas.{memory_or_not}

-- a line that was done has its outcome
pub may_ok : (line : List ℕ) (old new : Table) (reply : Option CommandReply) → ServesIf (enters_line line) (Ok reply) new (IsStarved line old) (answer_of line old) → MayBe line old (record { replies = answered reply; table = new })
unfolding outcome_of
may_ok line old new reply is = inl (sym (ap outcome (by (enters_line line) is)))
  where
    by : (enters : Bool) → ServesIf enters (Ok reply) new (IsStarved line old) (answer_of line old) → answer_of line old ≡ record { answer = Ok reply; left = new }
    by true is = is
    by false is = is

-- so has one that was refused, unless memory or room ran out
pub may_err : (line : List ℕ) (old new : Table) (e : Refusal) → ServesIf (enters_line line) (Err e) new (IsStarved line old) (answer_of line old) → MayBe line old (record { replies = answered (Some (Refused e)); table = new })
unfolding outcome_of
may_err line old new e is = by (enters_line line) refl is
  where
    done : LineOutcome
    done = record { replies = Refused e ∷ []; table = new }

    by : (enters : Bool) → enters_line line ≡ enters → ServesIf enters (Err e) new (IsStarved line old) (answer_of line old) → MayBe line old done
    by true enters is = elim (cases_Bool (is_starved e)) [
      | inl wanting ↦ elim (starved_by e wanting) [
        | inl memory ↦ inr (inl (ap (λ r. Refused r ∷ []) memory, is.1 wanting))
        | inr full ↦ inr (inr (enters, ap (λ r. Refused r ∷ []) full, is.1 wanting))
      ]
      | inr other ↦ inl (sym (ap outcome (is.0 other)))
    ]
    by false enters is = elim (memory_or_not e) [
      | inl memory ↦ inr (inl (ap (λ r. Refused r ∷ []) memory, is.1 memory))
      | inr other ↦ inl (sym (ap outcome (is.0 other)))
    ]

-- and so what is told of either
pub may_told : (line : List ℕ) (old new : Table) (answer : Result (Option CommandReply) Refusal) → ServesIf (enters_line line) answer new (IsStarved line old) (answer_of line old) → MayBe line old (record { replies = told answer; table = new })
may_told line old new (Ok reply) is = may_ok line old new reply is
may_told line old new (Err e) is = may_err line old new e is

-- what a line answers where no request ended in it
none_ended : (P : List CommandReply → Type 0) (ended : List Replied) (own : Option CommandReply) → ended ≡ [] → P (answered own) → P (line_replies ended own)
none_ended P ended own none is = subst (λ e. P (line_replies e own)) (sym none) is

-- a line that starts a request answers that alone
pub start_alone : (line : List ℕ) (ended : List Replied) (own : Option CommandReply) → (starts_line line ≡ true → AreStartReplies (answered own)) → (starts_line line ≡ true → ended ≡ []) → starts_line line ≡ true → AreStartReplies (line_replies ended own)
start_alone line ended own number none does =
    let P : List Replied → Type 0 = λ es. AreStartReplies (line_replies es own) in subst P (sym (none does)) (number does)

-- what a line did, as its desk shows it
pub line_done : (line : List ℕ) (old : Standing) (was table : Table) (summary now : Summary) (ended : List Replied) (own : Option CommandReply) (P : List CommandReply → Type 0) → old ≡ record { table = was; summary = summary } → (is_ruled_line line was ≡ true → MayBe line was (record { replies = answered own; table = table })) → (is_ruled_line line was ≡ true → IsLineShown line was (record { replies = answered own; table = table })) → (is_ruled_line line was ≡ true → ended ≡ [])
    → IsFirst (line_first line was) (line_replies ended own) → IfSome (line_first line was) (λ _. table ≡ was) → (starts_line line ≡ true → AreStartReplies (line_replies ended own)) → IsToldFor line was (record { replies = line_replies ended own; table = table }) → now ≡ counted (line_replies ended own) summary → P (line_replies ended own)
    → (done : LineOutcome) × IsLineDone line old.table done × (record { table = table; summary = now } ≡ followed old done) × P done.replies
line_done line old was table summary now ended own P view may shown none asks stays number told is last =
    let replies = line_replies ended own in
    let same : was ≡ old.table = sym (ap (λ (s : Standing). s.table) view) in
    let D : Table → Type 0 = λ t. IsLineDone line t (record { replies = replies; table = table }) in
    let here : D was = record {
      rule = λ ruled. none_ended (λ rs. MayBe line was (record { replies = rs; table = table })) ended own (none ruled) (may ruled);
      shows = λ ruled. none_ended (λ rs. IsLineShown line was (record { replies = rs; table = table })) ended own (none ruled) (shown ruled);
      first = asks;
      stays = stays;
      number = number;
      told = told;
    } in (
      record { replies = replies; table = table },
      subst D same here,
      ap (λ n. record { table = table; summary = n }) (is ∙ ap (λ (s : Standing). counted replies s.summary) (sym view)),
      last,
    )

-- the lines of requests that ended, and a line's own answer, counted
pub line_counted : (summary lines now : Summary) (count : ℕ) (ended : List Replied) (own : Option CommandReply) → summary.lines < 2 ^ 64 → count ≡ length ended → lines ≡ with_lines count summary → now ≡ counted (answered own) lines → now ≡ counted (line_replies ended own) summary
line_counted summary lines now count ended own small size are is =
    is ∙ ap (counted (answered own)) (are ∙ ap (λ n. with_lines n summary) size) ∙ sym (all_lines_counted ended own summary small)

-- no devices are named apart
pub none_named : (table : Table) → table ≡ empty → AreNamed table
none_named table is =
    let none : AreNamed empty = record { apart = λ name. omega arith; few = omega arith } in
    let P : Table → Type 0 = λ t. AreNamed t in subst P (sym is) none
