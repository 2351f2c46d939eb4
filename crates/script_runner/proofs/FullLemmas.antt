-- A line that is told that a journal is full.
use Rattle.std.proofs.Common.{◌≡◌, ◌≢◌, ℕ, List, [], ◌∷◌, Option, Some, sym, ap, ◌∙◌, inl, inr, subst}
use Rattle.std.specs.Prelude.{IfErr, IfOk, Result, Ok, Err}
use Rattle.sector.specs.declared.refusal.Refusal.{Refusal}
use Rattle.sector.specs.declared.refusal.Refusal.TheVariants.{JournalFull, NoMemory}
use Rattle.layers.specs.declared.message.Answer.{Answer}
use Rattle.layers.specs.declared.message.Answer.TheVariants as answers
use Rattle.plain_machine.specs.declared.event.Outcome.{Outcome}
use Rattle.plain_machine.specs.declared.event.Outcome.TheVariants as outcomes
use Rattle.plain_machine.specs.declared.request.Replied.{Replied}
use Rattle.command_replies.specs.Answers.{reply_to}
use Rattle.command.specs.Line.{said_of}
use Rattle.command.specs.declared.events.EventWords.{EventWords}
use Rattle.command.specs.declared.grammar.Command.{Command}
use Rattle.command_replies.specs.declared.command_reply.CommandReply.{CommandReply}
use Rattle.command_replies.specs.declared.command_reply.CommandReply.TheVariants.{Data, Done, Number, Refused, Said}
use Rattle.command_semantics.specs.Changes.{Did, Does, kept}
use Rattle.command_semantics.specs.Events.{step_event}
use Rattle.command_semantics.specs.State.{Table}
use Rattle.device_commands.specs.Asked.{IsAskedMuch}
use Rattle.script_runner.specs.Full.{IsAskedByLine, IsAskedBySaid, entered_by}
use Rattle.script_runner.specs.Left.{IsStepLeft, stepped_reply}
use Rattle.script_runner.specs.Output.{told}
use Rattle.script_runner.specs.Steps.{reworded, told_as}
use Rattle.device_commands.proofs.NeverFull.{IsNeverFull}
use Rattle.device_commands.proofs.RulesNeverFull.{step_event_other}
use Rattle.script_runner.proofs.AskingLemmas.{memory_or_not}
use Rattle.script_runner.proofs.WordsNeverFull.{said_never}

-- no other answer says so
pub done_other : {B : Type 0} (b : B) → Done ≢ Refused JournalFull
done_other b is = absurd (cc)

pub data_other : (bytes : List ℕ) → Data bytes ≢ Refused JournalFull
data_other bytes is = absurd (cc)

pub said_other : (text : List ℕ) → Said text ≢ Refused JournalFull
said_other text is = absurd (cc)

pub number_other : (n : ℕ) → Number n ≢ Refused JournalFull
number_other n is = absurd (cc)

-- a command that is told so was told so by its volume
pub worded_full : {B : Type 0} (words : B → CommandReply) (P : Type 0) (call : Result B Refusal) (reply : Result CommandReply Refusal) → ((b : B) → words b ≢ Refused JournalFull) → IfErr call (λ e. e ≡ JournalFull → P) → reply ≡ reworded words call → told (reworded Some reply) ≡ Refused JournalFull ∷ [] → P
worded_full words P (Ok b) reply never full is said =
    let here : words b ∷ [] ≡ Refused JournalFull ∷ [] = sym (ap (λ r. told (reworded Some r)) is) ∙ said in
    let same : words b ≡ Refused JournalFull = cc in absurd (never b same)
worded_full words P (Err e) reply never full is said =
    let here : Refused e ∷ [] ≡ Refused JournalFull ∷ [] = sym (ap (λ r. told (reworded Some r)) is) ∙ said in
    let same : e ≡ JournalFull = cc in full same

-- no line that says nothing, or is refused for its words, is told so
pub silent_full : (line : List ℕ) (old new : Table) → [] ≡ Refused JournalFull ∷ [] → IsAskedByLine line old new
silent_full line old new said = absurd (cc)

pub refused_full : (line : List ℕ) (old new : Table) (e : Refusal) → (e ≢ NoMemory → said_of 65536 line ≡ Err e) → Refused e ∷ [] ≡ Refused JournalFull ∷ [] → IsAskedByLine line old new
refused_full line old new e is said =
    let same : e ≡ JournalFull = cc in
    elim (memory_or_not e) [
      | inl memory ↦ absurd (let wrong : NoMemory ≡ JournalFull = sym memory ∙ same in cc)
      | inr other ↦
          let P : Result (Option Command) Refusal → Type 0 = λ said. IsNeverFull said in
          let never : IsNeverFull (Err e) = subst P (is other) (said_never 65536 line) in
          absurd (never.other same)
    ]

-- and one that says a command names its volume
pub command_full : (line : List ℕ) (command : Command) (old new : Table) → said_of 65536 line ≡ Ok (Some command) → IsAskedMuch (entered_by command) old new → IsAskedByLine line old new
unfolding IsAskedByLine
command_full line command old new is much =
    let P : Result (Option Command) Refusal → Type 0 = λ said. IsAskedBySaid said old new in subst P (sym is) much

-- no other command is told so
pub worded_never : {B : Type 0} (words : B → CommandReply) (call : Result B Refusal) (reply : Result CommandReply Refusal) → ((b : B) → words b ≢ Refused JournalFull) → IsNeverFull call → reply ≡ reworded words call → told (reworded Some reply) ≡ Refused JournalFull ∷ [] → ⊥
worded_never words call reply other never is said = worded_full words ⊥ call reply other never.other is said

-- a message that is refused, or answered in words
reply_other : (answer : Answer) → reply_to answer ≢ Refused JournalFull
reply_other answers.Done is = absurd (cc)
reply_other answers.Already is = absurd (cc)
reply_other answers.Absent is = absurd (cc)
reply_other answers.Bad is = absurd (cc)
reply_other answers.Good is = absurd (cc)
reply_other (answers.Count n) is = absurd (cc)

kept_never : {A T : Type 0} (old : T) (rule : Result (A × T) Refusal) → IsNeverFull rule → IsNeverFull (kept old rule).answer
kept_never old (Ok done) never = record { other = tt }
kept_never old (Err e) never = record { other = never.other }

pub told_never : {T : Type 0} (reply : Result CommandReply Refusal) (old new : T) (starved : T → Type 0) (rule : Result (Answer × T) Refusal) → Does reply new starved (told_as reply_to (kept old rule)) → IsNeverFull rule → told (reworded Some reply) ≡ Refused JournalFull ∷ [] → ⊥
told_never {T = T} (Ok r) old new starved rule does never said =
    worded_never reply_to (kept old rule).answer (Ok r) reply_other (kept_never old rule never) (sym (ap (λ (d : Did CommandReply T). d.answer) does)) said
told_never {T = T} (Err e) old new starved rule does never said =
    let same : e ≡ JournalFull = cc in
    elim (memory_or_not e) [
      | inl memory ↦ absurd (let wrong : NoMemory ≡ JournalFull = sym memory ∙ same in cc)
      | inr other ↦ worded_never reply_to (kept old rule).answer (Err e) reply_other (kept_never old rule never) (sym (ap (λ (d : Did CommandReply T). d.answer) (does.0 other))) said
    ]

-- an event, whose refusal is that of its rule or want of memory
stepped_other : (outcome : Outcome) → stepped_reply outcome ≢ Refused JournalFull
stepped_other outcomes.Done is = absurd (cc)
stepped_other outcomes.Fault is = absurd (cc)
stepped_other (outcomes.Reply number reply) is = absurd (cc)

event_never : {A : Type 0} (did : Result A Refusal) (refused : Refusal) → refused ≢ JournalFull → IfErr did (λ e. e ≢ NoMemory → e ≡ refused) → IsNeverFull did
event_never (Ok x) refused other is = record { other = tt }
event_never (Err e) refused other is = record {
  other = λ full. elim (memory_or_not e) [
    | inl memory ↦ absurd (let wrong : NoMemory ≡ JournalFull = sym memory ∙ full in cc)
    | inr not ↦ other (sym (is not) ∙ full)
  ];
}

pub stepped_never : (volume : List ℕ) (event : EventWords) (reply : Result CommandReply Refusal) (old new : Table) (before after : List Replied) → IsStepLeft volume event reply old new before after → told (reworded Some reply) ≡ Refused JournalFull ∷ [] → ⊥
stepped_never volume event reply old new before after left said =
    worded_never stepped_reply left.outcome reply stepped_other (event_never left.outcome (step_event volume event old) (step_event_other volume event old) left.refused) left.answer_is said

-- a settle, which is refused with its volume, or for want of memory
pub settled_never : {A B : Type 0} (asks : Result A Refusal) (call : Result B Refusal) → IsNeverFull asks → IfErr asks (λ e. call ≡ Err e) → IfErr call (λ e. IfOk asks (λ _. e ≡ NoMemory)) → IsNeverFull call
settled_never (Ok x) (Ok y) never same memory = record { other = tt }
settled_never (Ok x) (Err e) never same memory = record { other = λ full. absurd (let wrong : NoMemory ≡ JournalFull = sym memory ∙ full in cc) }
settled_never {B = B} (Err e) call never same memory =
    let P : Result B Refusal → Type 0 = λ r. IsNeverFull r in subst P (sym same) (record { other = never.other })

-- another line that says the same
pub full_alike : (line kept : List ℕ) (old new : Table) → said_of 65536 kept ≡ said_of 65536 line → IsAskedByLine kept old new → IsAskedByLine line old new
unfolding IsAskedByLine
full_alike line kept old new same much =
    let P : Result (Option Command) Refusal → Type 0 = λ said. IsAskedBySaid said old new in subst P same much
