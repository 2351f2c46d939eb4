use Rattle.std.proofs.Common.{◌≡◌, [], ◌∷◌, Some, refl, sym, subst}
use Rattle.std.specs.Prelude.{IfSome}
use Rattle.command_replies.specs.declared.command_reply.CommandReply.TheVariants.{Data, Done, Refused, Said}
use Rattle.command.specs.declared.grammar.Command.{Command}
use Rattle.device_list.specs.Tables.{table_of}
use Rattle.command_semantics.specs.Starting.{read_asked, write_asked}
use Rattle.device_commands.specs.Order.{IsLookedAt}
use Rattle.script_runner.specs.Asking.{IsFirst, first_refusal}
use Rattle.script_runner.specs.Changed.{changed_by}
use Rattle.script_runner.specs.Output.{replied, told}
use Rattle.script_runner.specs.Steps.{reworded}
use Rattle.script_runner.proofs.LeftLemmas.{asked_still, worded_asked}
use Rattle.script_runner.specs.Left.{IsLeft}
use Rattle.sector.specs.declared.refusal.Refusal.TheVariants.{JournalFull}
use Rattle.device_commands.specs.Asked.{IsAskedMuch}
use Rattle.script_runner.specs.Full.{entered_by}
use Rattle.script_runner.proofs.FullLemmas.{data_other, done_other, said_other, worded_full, worded_never}
use Rattle.script_runner.proofs.step.obey.Goals as goal

pub returns-in-Read-clause-asks : goal.returns-in-Read-clause-asks
returns-in-Read-clause-asks c =
    let P : Command → Type 0 = λ command. IsFirst (first_refusal command (table_of c.args.held.now)) (told (reworded Some (replied c.put_given.result c.put_given.new.own))) in
    subst P (sym c.in-Read.is) (worded_asked Data (read_asked c.in-Read.name c.in-Read.first c.in-Read.count (table_of c.args.held.now)) c.read_device-call.result (replied c.put_given.result c.put_given.new.own) c.read_device-call.ensures.asks c.put_given.ensures.put)

pub returns-in-Read-clause-still : goal.returns-in-Read-clause-still
returns-in-Read-clause-still c =
    let P : Command → Type 0 = λ command. IfSome (first_refusal command (table_of c.args.held.now)) (λ _. (table_of c.read_device-call.new.held ≡ table_of c.args.held.now) × (c.read_device-call.new.ended.items ≡ c.args.ended.now.items)) in
    subst P (sym c.in-Read.is) (asked_still _ (read_asked c.in-Read.name c.in-Read.first c.in-Read.count (table_of c.args.held.now)) c.read_device-call.ensures.stays)

pub returns-in-Read-clause-left : goal.returns-in-Read-clause-left
returns-in-Read-clause-left c =
    let P : Command → Type 0 = λ command. IsLeft command (replied c.put_given.result c.put_given.new.own) (table_of c.args.held.now) (table_of c.read_device-call.new.held) c.args.ended.now.items c.read_device-call.new.ended.items in
    subst P (sym c.in-Read.is) (record { got = c.read_device-call.result; answer_is = c.put_given.ensures.put; others = c.read_device-call.ensures.one; among = c.read_device-call.ensures.among; denied = c.read_device-call.ensures.denied })

pub returns-in-Write-clause-asks : goal.returns-in-Write-clause-asks
returns-in-Write-clause-asks c =
    let P : Command → Type 0 = λ command. IsFirst (first_refusal command (table_of c.args.held.now)) (told (reworded Some (replied c.put_done.result c.put_done.new.own))) in
    subst P (sym c.in-Write.is) (worded_asked (λ _. Done) (write_asked c.in-Write.name c.in-Write.first c.in-Write.bytes (table_of c.args.held.now)) c.write_device-call.result (replied c.put_done.result c.put_done.new.own) c.write_device-call.ensures.asks c.put_done.ensures.put)

pub returns-in-Write-clause-still : goal.returns-in-Write-clause-still
returns-in-Write-clause-still c =
    let P : Command → Type 0 = λ command. IfSome (first_refusal command (table_of c.args.held.now)) (λ _. (table_of c.write_device-call.new.held ≡ table_of c.args.held.now) × (c.write_device-call.new.ended.items ≡ c.args.ended.now.items)) in
    subst P (sym c.in-Write.is) (asked_still _ (write_asked c.in-Write.name c.in-Write.first c.in-Write.bytes (table_of c.args.held.now)) c.write_device-call.ensures.stays)

pub returns-in-Write-clause-left : goal.returns-in-Write-clause-left
returns-in-Write-clause-left c =
    let P : Command → Type 0 = λ command. IsLeft command (replied c.put_done.result c.put_done.new.own) (table_of c.args.held.now) (table_of c.write_device-call.new.held) c.args.ended.now.items c.write_device-call.new.ended.items in
    subst P (sym c.in-Write.is) (record { did = c.write_device-call.result; answer_is = c.put_done.ensures.put; others = c.write_device-call.ensures.one; among = c.write_device-call.ensures.among; denied = c.write_device-call.ensures.denied })

pub returns-in-Status-clause-left : goal.returns-in-Status-clause-left
returns-in-Status-clause-left c =
    let table = table_of c.args.held.now in
    let P : Command → Type 0 = λ command. IsLeft command (replied c.put_text.result c.put_text.new.own) table table c.args.ended.now.items c.args.ended.now.items in
    subst P (sym c.in-Status.is) (record { text = c.status_text.result; answer_is = c.put_text.ensures.put; among = c.status_text.ensures.among; held = c.status_text.ensures.held; stays = refl; alone = refl })

pub returns-in-Write-clause-ordered : goal.returns-in-Write-clause-ordered
returns-in-Write-clause-ordered c =
    let P : Command → Type 0 = λ command. IsLookedAt (table_of c.args.held.now) (changed_by command) in
    subst P (sym c.in-Write.is) c.write_device-call.ensures.ordered

pub returns-in-Read-clause-full : goal.returns-in-Read-clause-full
returns-in-Read-clause-full c =
    let P : Command → Type 0 = λ command. told (reworded Some (replied c.put_given.result c.put_given.new.own)) ≡ Refused JournalFull ∷ [] → IsAskedMuch (entered_by command) (table_of c.args.held.now) (table_of c.read_device-call.new.held) in
    subst P (sym c.in-Read.is) (worded_full Data _ c.read_device-call.result (replied c.put_given.result c.put_given.new.own) data_other c.read_device-call.ensures.full c.put_given.ensures.put)

pub returns-in-Write-clause-full : goal.returns-in-Write-clause-full
returns-in-Write-clause-full c =
    let P : Command → Type 0 = λ command. told (reworded Some (replied c.put_done.result c.put_done.new.own)) ≡ Refused JournalFull ∷ [] → IsAskedMuch (entered_by command) (table_of c.args.held.now) (table_of c.write_device-call.new.held) in
    subst P (sym c.in-Write.is) (worded_full (λ _. Done) _ c.write_device-call.result (replied c.put_done.result c.put_done.new.own) done_other c.write_device-call.ensures.full c.put_done.ensures.put)

pub returns-in-Status-clause-full : goal.returns-in-Status-clause-full
returns-in-Status-clause-full c =
    let P : Command → Type 0 = λ command. told (reworded Some (replied c.put_text.result c.put_text.new.own)) ≡ Refused JournalFull ∷ [] → IsAskedMuch (entered_by command) (table_of c.args.held.now) (table_of c.args.held.now) in
    subst P (sym c.in-Status.is) (worded_never Said c.status_text.result (replied c.put_text.result c.put_text.new.own) said_other (record { other = c.status_text.ensures.room }) c.put_text.ensures.put)
