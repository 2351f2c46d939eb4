-- What a line leaves of the devices, by what its command does.
use Rattle.std.proofs.Common.{◌≡◌, ◌≢◌, ℕ, List, [], ◌∷◌, ◌++◌, Option, Some, None, refl, sym, ap, ◌∙◌, inl, inr, subst}
use Rattle.std.specs.Prelude.{IfErr, IfSome, OnErr, Result, Ok, Err}
use Rattle.sector.specs.declared.refusal.Refusal.{Refusal}
use Rattle.sector.specs.declared.refusal.Refusal.TheVariants.{JournalFull, NoMemory}
use Rattle.command.specs.Line.{said_of}
use Rattle.command.specs.declared.grammar.Command.{Command}
use Rattle.command_replies.specs.declared.command_reply.CommandReply.{CommandReply}
use Rattle.command_replies.specs.declared.command_reply.CommandReply.TheVariants.{Refused}
use Rattle.plain_machine.specs.declared.request.Replied.{Replied}
use Rattle.command_semantics.specs.State.{Table}
use Rattle.script_runner.specs.Asking.{refusal_in, IsFirst}
use Rattle.script_runner.specs.Ended.{ended_lines, line_replies}
use Rattle.command.specs.declared.events.EventWords.{EventWords}
use Rattle.device_commands.specs.Devices.{KeepsOthers}
use Rattle.script_runner.specs.Full.{IsAskedByLine}
use Rattle.script_runner.specs.Left.{IsLeft, IsLeftSaid, IsLineLeft, IsStepLeft}
use Rattle.script_runner.specs.Output.{answered, told}
use Rattle.script_runner.specs.Done.{IsToldFor}
use Rattle.script_runner.specs.Steps.{reworded}
use Rattle.script_runner.proofs.AskingLemmas.{memory_or_not}

-- a command that is refused before its volume is asked
pub worded_asked : {A B : Type 0} (words : B → CommandReply) (asks : Result A Refusal) (call : Result B Refusal) (reply : Result CommandReply Refusal) → IfErr asks (λ e. call ≡ Err e) → reply ≡ reworded words call → IsFirst (refusal_in asks) (told (reworded Some reply))
worded_asked words (Ok x) call reply same is = tt
worded_asked words (Err e) call reply same is = inl (ap (λ r. told (reworded Some r)) (is ∙ ap (reworded words) same))

pub asked_still : {A : Type 0} (P : Type 0) (asks : Result A Refusal) → IfErr asks (λ _. P) → IfSome (refusal_in asks) (λ _. P)
asked_still P (Ok x) h = tt
asked_still P (Err e) h = h

-- one that is refused leaves all as it was
pub refused_stays : {A B : Type 0} (asks : Result A Refusal) (call : Result B Refusal) (P : Type 0) → IfErr asks (λ e. call ≡ Err e) → OnErr call P → IfErr asks (λ _. P)
refused_stays (Ok x) call P same h = tt
refused_stays {B = B} (Err e) call P same h = let Q : Result B Refusal → Type 0 = λ r. OnErr r P in subst Q same h

-- both facts of it
pub asked_both : {A : Type 0} (P Q : Type 0) (asks : Result A Refusal) → IfErr asks (λ _. P) → Q → IfSome (refusal_in asks) (λ _. P × Q)
asked_both P Q (Ok x) h q = tt
asked_both P Q (Err e) h q = (h, q)

-- a line that says nothing
pub silent_left : (line : List ℕ) (table : Table) (ended : List Replied) → said_of 65536 line ≡ Ok None → IsLineLeft line (Ok None) table table ended ended
unfolding IsLineLeft
silent_left line table ended is =
    let P : Result (Option Command) Refusal → Type 0 = λ said. IsLeftSaid said (Ok None) table table ended ended in inr (subst P (sym is) (refl, refl))

-- one that is refused for its words, or for which there is no memory
pub worded_left : (line : List ℕ) (table : Table) (ended : List Replied) (e : Refusal) → (e ≢ NoMemory → said_of 65536 line ≡ Err e) → IsLineLeft line (Err e) table table ended ended
unfolding IsLineLeft
worded_left line table ended e is = elim (memory_or_not e) [
  | inl memory ↦ inl (ap (λ r. Err r) memory, refl, refl)
  | inr other ↦ let P : Result (Option Command) Refusal → Type 0 = λ said. IsLeftSaid said (Err e) table table ended ended in inr (subst P (sym (is other)) (refl, refl))
]

-- and one that says a command
pub command_left : (line : List ℕ) (command : Command) (own : Result CommandReply Refusal) (old new : Table) (before after : List Replied) → said_of 65536 line ≡ Ok (Some command) → IsLeft command own old new before after → IsLineLeft line (reworded Some own) old new before after
unfolding IsLineLeft
command_left line command own old new before after is left =
    let P : Result (Option Command) Refusal → Type 0 = λ said. IsLeftSaid said (reworded Some own) old new before after in inr (subst P (sym is) (own, refl, left))

-- what a line answers is told by its desk, after the lines of the requests that ended
pub told_for : (line : List ℕ) (old new : Table) (before ended : List Replied) (own : Option CommandReply) (answer : Result (Option CommandReply) Refusal) → before ≡ [] → answered own ≡ told answer → IsLineLeft line answer old new before ended → (answered own ≡ Refused JournalFull ∷ [] → IsAskedByLine line old new) → IsToldFor line old (record { replies = line_replies ended own; table = new })
told_for line old new before ended own answer none is left full =
    let P : List Replied → Type 0 = λ es. IsLineLeft line answer old new es ended in
    record {
      ended = ended;
      own = answer;
      lines = ap (λ rs. ended_lines ended ++ rs) is;
      left = subst P none left;
      full = λ said. full (is ∙ said);
    }

-- an event for whose reply there is no memory
pub step_starved : (volume : List ℕ) (event : EventWords) (answer : Result CommandReply Refusal) (table : Table) (before after : List Replied) → answer ≡ Err NoMemory → after ≡ before → IsStepLeft volume event answer table table before after
unfolding KeepsOthers
step_starved volume event answer table before after is same = record {
  outcome = Err NoMemory;
  answer_is = is;
  others = inl refl;
  stepped = tt;
  stays = (refl, same);
  refused = λ other. absurd (other refl);
  merging = λ about. refl;
  due = λ other. absurd (other refl);
}
