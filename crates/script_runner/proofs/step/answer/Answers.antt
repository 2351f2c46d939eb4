use Rattle.std.proofs.Common.{◌≡◌, [], true, Option, Ok, Err, Result, ap, sym, ◌∙◌, subst}
use Rattle.std.specs.Prelude.{IfSome}
use Rattle.sector.specs.declared.refusal.Refusal.{Refusal}
use Rattle.words.specs.Given.{Gives}
use Rattle.command.specs.declared.grammar.Command.{Command}
use Rattle.command_replies.specs.declared.command_reply.CommandReply.{CommandReply}
use Rattle.command_semantics.specs.Changes.{ServesIf}
use Rattle.device_list.specs.Tables.{table_of}
use Rattle.script_runner.proofs.Lawful.{command_said}
use Rattle.script_runner.proofs.StepLemmas.{silent_does, refused_does, obeyed_does, placed_is, sound_said, starts_too, silent_starts}
use Rattle.script_runner.specs.Asking.{IsFirst, first_refusal, line_first}
use Rattle.script_runner.specs.Left.{IsLineLeft}
use Rattle.script_runner.specs.Output.{IsStarved, answered, placed, replied, told}
use Rattle.script_runner.specs.Shown.{IsLineShown}
use Rattle.script_runner.specs.Steps.{answer_of}
use Rattle.script_runner.specs.Wants.{enters_line}
use Rattle.script_runner.proofs.AskingLemmas.{silent_first, worded_first, command_first}
use Rattle.script_runner.proofs.LeftLemmas.{silent_left, worded_left, command_left}
use Rattle.script_runner.proofs.RuledLemmas.{ruled_as}
use Rattle.script_runner.proofs.DeskLemmas.{may_told}
use Rattle.script_runner.proofs.ShownLemmas.{line_shown, refused_shown, silent_shown}
use Rattle.script_runner.proofs.WellLemmas.{line_well}
use Rattle.script_runner.specs.Starts.{AreStartReplies, starts_line}
use Rattle.script_runner.proofs.FullLemmas.{command_full, refused_full}
use Rattle.script_runner.proofs.step.answer.Goals as goal

said : {rule answer : Result (Option Command) Refusal} {found says : Option Command} → Gives answer rule → answer ≡ Ok found → found ≡ says → rule ≡ Ok says
said {rule} gives is same = subst (λ a. Gives a rule) is gives ∙ ap (λ x. Ok x) same

worded : {rule answer : Result (Option Command) Refusal} {refusal : Refusal} → Gives answer rule → answer ≡ Err refusal → Gives (Err refusal) rule
worded {rule} gives is = subst (λ a. Gives a rule) is gives

pub obey-requires : goal.obey-requires
obey-requires c = command_said 65536 c.args.line.now c.in-Ok-Some.command (said c.said-words.ensures c.in-Ok-Some.is c.in-Ok-Some.field-0-is)

pub returns-in-Ok-Some-clause-done : goal.returns-in-Ok-Some-clause-done
returns-in-Ok-Some-clause-done c = λ ruled.
    let line = c.args.line.now in
    let old = table_of c.args.held.now in
    let new = table_of c.obey.new.held in
    let says = said c.said-words.ensures c.in-Ok-Some.is c.in-Ok-Some.field-0-is in
    let P : Result (Option CommandReply) Refusal → Type 0 = λ answer. ServesIf (enters_line line) answer new (IsStarved line old) (answer_of line old) in
    subst P (sym (placed_is c.obey.result c.obey.new.own c.obey.ensures.own)) (obeyed_does line c.in-Ok-Some.command old new (replied c.obey.result c.obey.new.own) says (c.obey.ensures.done (ruled_as line c.in-Ok-Some.command old says ruled)))

pub returns-in-Ok-Some-clause-shows : goal.returns-in-Ok-Some-clause-shows
returns-in-Ok-Some-clause-shows c = λ ruled.
    let line = c.args.line.now in
    let old = table_of c.args.held.now in
    let new = table_of c.obey.new.held in
    let answer = placed c.obey.result c.obey.new.own in
    let says = said c.said-words.ensures c.in-Ok-Some.is c.in-Ok-Some.field-0-is in
    line_shown line old (record { replies = told answer; table = new })
    (line_well line c.in-Ok-Some.command old says c.obey.ensures.ordered ruled)
    (may_told line old new answer (returns-in-Ok-Some-clause-done c ruled))

pub returns-in-Ok-Some-clause-asks : goal.returns-in-Ok-Some-clause-asks
returns-in-Ok-Some-clause-asks c =
    let old = table_of c.args.held.now in
    let asks = subst (λ answer. IsFirst (first_refusal c.in-Ok-Some.command old) (told answer)) (sym (placed_is c.obey.result c.obey.new.own c.obey.ensures.own)) c.obey.ensures.asks in
    let P : Option Refusal → Type 0 = λ first. IsFirst first (told (placed c.obey.result c.obey.new.own)) in
    subst P (command_first c.args.line.now c.in-Ok-Some.command old (said c.said-words.ensures c.in-Ok-Some.is c.in-Ok-Some.field-0-is)) asks

pub returns-in-Ok-Some-clause-number : goal.returns-in-Ok-Some-clause-number
returns-in-Ok-Some-clause-number c = λ does.
    subst (λ answer. AreStartReplies (told answer)) (sym (placed_is c.obey.result c.obey.new.own c.obey.ensures.own))
    (c.obey.ensures.number (starts_too c.args.line.now c.in-Ok-Some.command (said c.said-words.ensures c.in-Ok-Some.is c.in-Ok-Some.field-0-is) does))

pub returns-in-Ok-Some-clause-alone : goal.returns-in-Ok-Some-clause-alone
returns-in-Ok-Some-clause-alone c = λ does. c.obey.ensures.alone (starts_too c.args.line.now c.in-Ok-Some.command (said c.said-words.ensures c.in-Ok-Some.is c.in-Ok-Some.field-0-is) does)

pub returns-in-Ok-Some-clause-still : goal.returns-in-Ok-Some-clause-still
returns-in-Ok-Some-clause-still c =
    let P : Option Refusal → Type 0 = λ first. IfSome first (λ _. (table_of c.obey.new.held ≡ table_of c.args.held.now) × (c.obey.new.ended.items ≡ c.args.ended.now.items)) in
    subst P (command_first c.args.line.now c.in-Ok-Some.command (table_of c.args.held.now) (said c.said-words.ensures c.in-Ok-Some.is c.in-Ok-Some.field-0-is)) c.obey.ensures.still

pub returns-in-Ok-Some-clause-told : goal.returns-in-Ok-Some-clause-told
returns-in-Ok-Some-clause-told c = λ ruled. c.obey.ensures.told (ruled_as c.args.line.now c.in-Ok-Some.command (table_of c.args.held.now) (said c.said-words.ensures c.in-Ok-Some.is c.in-Ok-Some.field-0-is) ruled)

pub returns-in-Ok-Some-clause-left : goal.returns-in-Ok-Some-clause-left
returns-in-Ok-Some-clause-left c =
    let line = c.args.line.now in
    let old = table_of c.args.held.now in
    let new = table_of c.obey.new.held in
    subst (λ answer. IsLineLeft line answer old new c.args.ended.now.items c.obey.new.ended.items) (sym (placed_is c.obey.result c.obey.new.own c.obey.ensures.own))
    (command_left line c.in-Ok-Some.command (replied c.obey.result c.obey.new.own) old new c.args.ended.now.items c.obey.new.ended.items (said c.said-words.ensures c.in-Ok-Some.is c.in-Ok-Some.field-0-is) c.obey.ensures.left)

pub returns-in-Ok-Some-clause-full : goal.returns-in-Ok-Some-clause-full
returns-in-Ok-Some-clause-full c = λ full.
    let same = ap (λ a. told a) (placed_is c.obey.result c.obey.new.own c.obey.ensures.own) in
    command_full c.args.line.now c.in-Ok-Some.command (table_of c.args.held.now) (table_of c.obey.new.held) (said c.said-words.ensures c.in-Ok-Some.is c.in-Ok-Some.field-0-is) (c.obey.ensures.full (sym same ∙ full))

pub returns-in-Ok-Some-clause-sound : goal.returns-in-Ok-Some-clause-sound
returns-in-Ok-Some-clause-sound c = λ sound makes. c.obey.ensures.sound sound (sound_said c.args.line.now c.in-Ok-Some.command (said c.said-words.ensures c.in-Ok-Some.is c.in-Ok-Some.field-0-is) makes)

pub returns-in-Ok-None-clause-done : goal.returns-in-Ok-None-clause-done
returns-in-Ok-None-clause-done c = λ ruled.
    let line = c.args.line.now in
    let old = table_of c.args.held.now in
    subst (λ own. ServesIf (enters_line line) (Ok own) old (IsStarved line old) (answer_of line old)) (sym c.requires) (silent_does line old (said c.said-words.ensures c.in-Ok-None.is c.in-Ok-None.field-0-is))

pub returns-in-Ok-None-clause-shows : goal.returns-in-Ok-None-clause-shows
returns-in-Ok-None-clause-shows c = λ ruled.
    let line = c.args.line.now in
    let old = table_of c.args.held.now in
    subst (λ own. IsLineShown line old (record { replies = answered own; table = old })) (sym c.requires) (silent_shown line old (said c.said-words.ensures c.in-Ok-None.is c.in-Ok-None.field-0-is))

pub returns-in-Ok-None-clause-asks : goal.returns-in-Ok-None-clause-asks
returns-in-Ok-None-clause-asks c =
    subst (λ own. IsFirst (line_first c.args.line.now (table_of c.args.held.now)) (answered own)) (sym c.requires) (silent_first c.args.line.now (table_of c.args.held.now) [] (said c.said-words.ensures c.in-Ok-None.is c.in-Ok-None.field-0-is))

pub returns-in-Ok-None-clause-number : goal.returns-in-Ok-None-clause-number
returns-in-Ok-None-clause-number c =
    subst (λ own. starts_line c.args.line.now ≡ true → AreStartReplies (answered own)) (sym c.requires) (silent_starts (AreStartReplies []) c.args.line.now (said c.said-words.ensures c.in-Ok-None.is c.in-Ok-None.field-0-is))

pub returns-in-Ok-None-clause-left : goal.returns-in-Ok-None-clause-left
returns-in-Ok-None-clause-left c =
    let line = c.args.line.now in
    let old = table_of c.args.held.now in
    let items = c.args.ended.now.items in
    subst (λ own. IsLineLeft line (Ok own) old old items items) (sym c.requires) (silent_left line old items (said c.said-words.ensures c.in-Ok-None.is c.in-Ok-None.field-0-is))

pub returns-clause-done : goal.returns-clause-done
returns-clause-done c = λ ruled. refused_does c.args.line.now (table_of c.args.held.now) c.in-Err.refusal (worded c.said-words.ensures c.in-Err.is)

pub returns-clause-shows : goal.returns-clause-shows
returns-clause-shows c = λ ruled. refused_shown c.args.line.now (table_of c.args.held.now) c.in-Err.refusal (worded c.said-words.ensures c.in-Err.is)

pub returns-clause-asks : goal.returns-clause-asks
returns-clause-asks c = worded_first c.args.line.now (table_of c.args.held.now) c.in-Err.refusal (worded c.said-words.ensures c.in-Err.is)

pub returns-clause-left : goal.returns-clause-left
returns-clause-left c = worded_left c.args.line.now (table_of c.args.held.now) c.args.ended.now.items c.in-Err.refusal (worded c.said-words.ensures c.in-Err.is)

pub returns-clause-full : goal.returns-clause-full
returns-clause-full c = refused_full c.args.line.now (table_of c.args.held.now) (table_of c.args.held.now) c.in-Err.refusal (worded c.said-words.ensures c.in-Err.is)
