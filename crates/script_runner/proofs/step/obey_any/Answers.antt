use Rattle.std.proofs.Common.{◌≡◌, [], ◌∷◌, true, Some, refl, sym, subst}
use Rattle.std.specs.Prelude.{IfSome, Ok}
use Rattle.command_replies.specs.declared.command_reply.CommandReply.TheVariants.{Data, Done, Number, Refused, Said}
use Rattle.command.specs.declared.grammar.Command.{Command}
use Rattle.device_list.specs.Tables.{table_of}
use Rattle.device_commands.specs.Ruled.{volume_for}
use Rattle.command_semantics.specs.Naming.{AreNamed}
use Rattle.command_semantics.specs.Sound.{is_sound}
use Rattle.command_semantics.specs.State.{Table}
use Rattle.command_semantics.proofs.NamedRules.{ticked_named}
use Rattle.command_semantics.proofs.SoundRules.{ticked_sound}
use Rattle.command_semantics.specs.Changes.{ServesIf}
use Rattle.command_semantics.specs.Creating.{create}
use Rattle.command_semantics.specs.Journal.{enters_journal}
use Rattle.command_semantics.specs.Events.{is_merge_event, origin_by}
use Rattle.command_semantics.specs.Starting.{flush_asked, read_asked, write_asked}
use Rattle.device_commands.specs.Order.{IsLookedAt}
use Rattle.script_runner.specs.Asking.{IsFirst, first_refusal}
use Rattle.script_runner.specs.Changed.{changed_by}
use Rattle.script_runner.specs.Output.{IsPartDone, told}
use Rattle.script_runner.specs.Ruled.{is_ruled}
use Rattle.script_runner.specs.Sound.{is_sound_command}
use Rattle.script_runner.specs.Steps.{reworded, step}
use Rattle.script_runner.specs.Wants.{enters}
use Rattle.script_runner.proofs.RuledLemmas.{not_true, quiet_too, step_ruled}
use Rattle.script_runner.proofs.AskingLemmas.{numbered_first}
use Rattle.script_runner.proofs.StepLemmas.{serves_worded}
use Rattle.script_runner.proofs.LeftLemmas.{asked_both, asked_still, refused_stays, worded_asked}
use Rattle.script_runner.specs.Left.{IsLeft}
use Rattle.sector.specs.declared.refusal.Refusal.TheVariants.{JournalFull}
use Rattle.device_commands.specs.Asked.{IsAskedMuch}
use Rattle.script_runner.specs.Full.{entered_by}
use Rattle.device_commands.proofs.NeverFull.{answer_never}
use Rattle.device_commands.proofs.RulesNeverFull.{changes_never, checkpointed_never, copied_never, gives_never, line_text_never, load_never, make_never, merge_resumed_never, origin_by_never, save_never, stops_never, tell_never, volume_stopped_never}
use Rattle.script_runner.proofs.FullLemmas.{data_other, done_other, number_other, said_other, settled_never, stepped_never, told_never, worded_full, worded_never}
use Rattle.script_runner.proofs.step.obey_any.Goals as goal

pub returns-in-Tick-clause-sound : goal.returns-in-Tick-clause-sound
returns-in-Tick-clause-sound c = λ sound makes.
    let P : Table → Type 0 = λ t. is_sound t ≡ true in subst P (sym c.tick.ensures) (ticked_sound _ (table_of c.args.held.now) sound)

pub returns-in-Tick-clause-named : goal.returns-in-Tick-clause-named
returns-in-Tick-clause-named c = λ named. subst AreNamed (sym c.tick.ensures) (ticked_named _ (table_of c.args.held.now) named)

pub returns-in-StartRead-clause-asks : goal.returns-in-StartRead-clause-asks
returns-in-StartRead-clause-asks c =
    let P : Command → Type 0 = λ command. IsFirst (first_refusal command (table_of c.args.held.now)) (told (reworded Some c.number.result)) in
    subst P (sym c.in-StartRead.is) (numbered_first (read_asked c.in-StartRead.name c.in-StartRead.first c.in-StartRead.count (table_of c.args.held.now)) c.start_read.result c.number.result c.start_read.ensures.asks c.number.ensures)

pub returns-in-StartWrite-clause-asks : goal.returns-in-StartWrite-clause-asks
returns-in-StartWrite-clause-asks c =
    let P : Command → Type 0 = λ command. IsFirst (first_refusal command (table_of c.args.held.now)) (told (reworded Some c.number-in-StartWrite.result)) in
    subst P (sym c.in-StartWrite.is) (numbered_first (write_asked c.in-StartWrite.name c.in-StartWrite.first c.in-StartWrite.bytes (table_of c.args.held.now)) c.start_write.result c.number-in-StartWrite.result c.start_write.ensures.asks c.number-in-StartWrite.ensures)

pub returns-in-Read-clause-asks : goal.returns-in-Read-clause-asks
returns-in-Read-clause-asks c =
    let P : Command → Type 0 = λ command. IsFirst (first_refusal command (table_of c.args.held.now)) (told (reworded Some c.given-in-Read.result)) in
    subst P (sym c.in-Read.is) (worded_asked Data (read_asked c.in-Read.name c.in-Read.first c.in-Read.count (table_of c.args.held.now)) c.read_device.result c.given-in-Read.result c.read_device.ensures.asks c.given-in-Read.ensures)

pub returns-in-Read-clause-still : goal.returns-in-Read-clause-still
returns-in-Read-clause-still c =
    let P : Command → Type 0 = λ command. IfSome (first_refusal command (table_of c.args.held.now)) (λ _. (table_of c.read_device.new.held ≡ table_of c.args.held.now) × (c.read_device.new.ended.items ≡ c.args.ended.now.items)) in
    subst P (sym c.in-Read.is) (asked_still _ (read_asked c.in-Read.name c.in-Read.first c.in-Read.count (table_of c.args.held.now)) c.read_device.ensures.stays)

pub returns-in-Read-clause-left : goal.returns-in-Read-clause-left
returns-in-Read-clause-left c =
    let P : Command → Type 0 = λ command. IsLeft command c.given-in-Read.result (table_of c.args.held.now) (table_of c.read_device.new.held) c.args.ended.now.items c.read_device.new.ended.items in
    subst P (sym c.in-Read.is) (record { got = c.read_device.result; answer_is = c.given-in-Read.ensures; others = c.read_device.ensures.one; among = c.read_device.ensures.among; denied = c.read_device.ensures.denied })

pub returns-in-Flush-clause-asks : goal.returns-in-Flush-clause-asks
returns-in-Flush-clause-asks c =
    let P : Command → Type 0 = λ command. IsFirst (first_refusal command (table_of c.args.held.now)) (told (reworded Some c.did-in-Flush.result)) in
    subst P (sym c.in-Flush.is) (worded_asked (λ _. Done) (flush_asked c.in-Flush.name (table_of c.args.held.now)) c.flush_device.result c.did-in-Flush.result c.flush_device.ensures.asks c.did-in-Flush.ensures)

pub returns-in-Flush-clause-still : goal.returns-in-Flush-clause-still
returns-in-Flush-clause-still c =
    let P : Command → Type 0 = λ command. IfSome (first_refusal command (table_of c.args.held.now)) (λ _. (table_of c.flush_device.new.held ≡ table_of c.args.held.now) × (c.flush_device.new.ended.items ≡ c.args.ended.now.items)) in
    subst P (sym c.in-Flush.is) (asked_still _ (flush_asked c.in-Flush.name (table_of c.args.held.now)) c.flush_device.ensures.stays)

pub returns-in-Flush-clause-left : goal.returns-in-Flush-clause-left
returns-in-Flush-clause-left c =
    let P : Command → Type 0 = λ command. IsLeft command c.did-in-Flush.result (table_of c.args.held.now) (table_of c.flush_device.new.held) c.args.ended.now.items c.flush_device.new.ended.items in
    subst P (sym c.in-Flush.is) (record { did = c.flush_device.result; answer_is = c.did-in-Flush.ensures; others = c.flush_device.ensures.one; among = c.flush_device.ensures.among; denied = c.flush_device.ensures.denied })

pub returns-in-Write-clause-asks : goal.returns-in-Write-clause-asks
returns-in-Write-clause-asks c =
    let P : Command → Type 0 = λ command. IsFirst (first_refusal command (table_of c.args.held.now)) (told (reworded Some c.did-in-Write.result)) in
    subst P (sym c.in-Write.is) (worded_asked (λ _. Done) (write_asked c.in-Write.name c.in-Write.first c.in-Write.bytes (table_of c.args.held.now)) c.write_device.result c.did-in-Write.result c.write_device.ensures.asks c.did-in-Write.ensures)

pub returns-in-Write-clause-still : goal.returns-in-Write-clause-still
returns-in-Write-clause-still c =
    let P : Command → Type 0 = λ command. IfSome (first_refusal command (table_of c.args.held.now)) (λ _. (table_of c.write_device.new.held ≡ table_of c.args.held.now) × (c.write_device.new.ended.items ≡ c.args.ended.now.items)) in
    subst P (sym c.in-Write.is) (asked_still _ (write_asked c.in-Write.name c.in-Write.first c.in-Write.bytes (table_of c.args.held.now)) c.write_device.ensures.stays)

pub returns-in-Write-clause-left : goal.returns-in-Write-clause-left
returns-in-Write-clause-left c =
    let P : Command → Type 0 = λ command. IsLeft command c.did-in-Write.result (table_of c.args.held.now) (table_of c.write_device.new.held) c.args.ended.now.items c.write_device.new.ended.items in
    subst P (sym c.in-Write.is) (record { did = c.write_device.result; answer_is = c.did-in-Write.ensures; others = c.write_device.ensures.one; among = c.write_device.ensures.among; denied = c.write_device.ensures.denied })

pub returns-in-StartRead-clause-still : goal.returns-in-StartRead-clause-still
returns-in-StartRead-clause-still c =
    let P : Command → Type 0 = λ command. IfSome (first_refusal command (table_of c.args.held.now)) (λ _. (table_of c.start_read.new.held ≡ table_of c.args.held.now) × (c.args.ended.now.items ≡ c.args.ended.now.items)) in
    subst P (sym c.in-StartRead.is) (asked_both _ _ (read_asked c.in-StartRead.name c.in-StartRead.first c.in-StartRead.count (table_of c.args.held.now)) c.start_read.ensures.stays refl)

pub returns-in-StartRead-clause-left : goal.returns-in-StartRead-clause-left
returns-in-StartRead-clause-left c =
    let P : Command → Type 0 = λ command. IsLeft command c.number.result (table_of c.args.held.now) (table_of c.start_read.new.held) c.args.ended.now.items c.args.ended.now.items in
    subst P (sym c.in-StartRead.is) (record { number = c.start_read.result; answer_is = c.number.ensures; others = c.start_read.ensures.one; flies = c.start_read.ensures.flies; started = c.start_read.ensures.started; refused = c.start_read.ensures.refused; alone = refl })

pub returns-in-StartWrite-clause-still : goal.returns-in-StartWrite-clause-still
returns-in-StartWrite-clause-still c =
    let P : Command → Type 0 = λ command. IfSome (first_refusal command (table_of c.args.held.now)) (λ _. (table_of c.start_write.new.held ≡ table_of c.args.held.now) × (c.args.ended.now.items ≡ c.args.ended.now.items)) in
    subst P (sym c.in-StartWrite.is) (asked_both _ _ (write_asked c.in-StartWrite.name c.in-StartWrite.first c.in-StartWrite.bytes (table_of c.args.held.now)) c.start_write.ensures.stays refl)

pub returns-in-StartWrite-clause-left : goal.returns-in-StartWrite-clause-left
returns-in-StartWrite-clause-left c =
    let P : Command → Type 0 = λ command. IsLeft command c.number-in-StartWrite.result (table_of c.args.held.now) (table_of c.start_write.new.held) c.args.ended.now.items c.args.ended.now.items in
    subst P (sym c.in-StartWrite.is) (record { number = c.start_write.result; answer_is = c.number-in-StartWrite.ensures; others = c.start_write.ensures.one; flies = c.start_write.ensures.flies; started = c.start_write.ensures.started; refused = c.start_write.ensures.refused; alone = refl })

pub returns-in-Settle-clause-asks : goal.returns-in-Settle-clause-asks
returns-in-Settle-clause-asks c =
    let P : Command → Type 0 = λ command. IsFirst (first_refusal command (table_of c.args.held.now)) (told (reworded Some c.did-in-Settle.result)) in
    subst P (sym c.in-Settle.is) (worded_asked (λ _. Done) (origin_by c.in-Settle.volume (table_of c.args.held.now)) c.settle_device.result c.did-in-Settle.result c.settle_device.ensures.asks c.did-in-Settle.ensures)

pub returns-in-Settle-clause-still : goal.returns-in-Settle-clause-still
returns-in-Settle-clause-still c =
    let P : Command → Type 0 = λ command. IfSome (first_refusal command (table_of c.args.held.now)) (λ _. (table_of c.settle_device.new.held ≡ table_of c.args.held.now) × (c.settle_device.new.ended.items ≡ c.args.ended.now.items)) in
    subst P (sym c.in-Settle.is) (asked_still _ (origin_by c.in-Settle.volume (table_of c.args.held.now)) c.settle_device.ensures.stays)

pub returns-in-Settle-clause-left : goal.returns-in-Settle-clause-left
returns-in-Settle-clause-left c =
    let P : Command → Type 0 = λ command. IsLeft command c.did-in-Settle.result (table_of c.args.held.now) (table_of c.settle_device.new.held) c.args.ended.now.items c.settle_device.new.ended.items in
    subst P (sym c.in-Settle.is) (record {
      did = c.settle_device.result;
      answer_is = c.did-in-Settle.ensures;
      others = c.settle_device.ensures.one;
      rested = c.settle_device.ensures.rested;
      drained = c.settle_device.ensures.drained;
      refused = c.settle_device.ensures.refused;
      idle = c.settle_device.ensures.idle;
      stays = c.settle_device.ensures.err;
      alone = c.settle_device.ensures.alone;
    })

pub returns-in-Settle-clause-told : goal.returns-in-Settle-clause-told
returns-in-Settle-clause-told c =
    let P : Command → Type 0 = λ command. is_ruled command (table_of c.args.held.now) ≡ true → c.settle_device.new.ended.items ≡ c.args.ended.now.items in
    subst P (sym c.in-Settle.is) (λ ruled. c.settle_device.ensures.told (quiet_too (volume_for c.in-Settle.volume (table_of c.args.held.now)) ruled))

pub returns-in-Finish-clause-asks : goal.returns-in-Finish-clause-asks
returns-in-Finish-clause-asks c =
    let P : Command → Type 0 = λ command. IsFirst (first_refusal command (table_of c.args.held.now)) (told (reworded Some c.did-in-Finish.result)) in
    subst P (sym c.in-Finish.is) (worded_asked (λ _. Done) (origin_by c.in-Finish.volume (table_of c.args.held.now)) c.finish_device.result c.did-in-Finish.result c.finish_device.ensures.asks c.did-in-Finish.ensures)

pub returns-in-Finish-clause-still : goal.returns-in-Finish-clause-still
returns-in-Finish-clause-still c =
    let P : Command → Type 0 = λ command. IfSome (first_refusal command (table_of c.args.held.now)) (λ _. (table_of c.finish_device.new.held ≡ table_of c.args.held.now) × (c.args.ended.now.items ≡ c.args.ended.now.items)) in
    let asks = origin_by c.in-Finish.volume (table_of c.args.held.now) in
    subst P (sym c.in-Finish.is) (asked_both _ _ asks (refused_stays asks c.finish_device.result _ c.finish_device.ensures.asks c.finish_device.ensures.err) refl)

pub returns-in-Finish-clause-left : goal.returns-in-Finish-clause-left
returns-in-Finish-clause-left c =
    let P : Command → Type 0 = λ command. IsLeft command c.did-in-Finish.result (table_of c.args.held.now) (table_of c.finish_device.new.held) c.args.ended.now.items c.args.ended.now.items in
    subst P (sym c.in-Finish.is) (record {
      did = c.finish_device.result;
      answer_is = c.did-in-Finish.ensures;
      finished = c.finish_device.ensures.finished;
      unfinished = c.finish_device.ensures.unfinished;
      stays = c.finish_device.ensures.err;
      alone = refl;
    })

pub returns-in-Merge-clause-left : goal.returns-in-Merge-clause-left
returns-in-Merge-clause-left c =
    let P : Command → Type 0 = λ command. IsLeft command c.did-in-Merge.result (table_of c.args.held.now) (table_of c.merge_device.new.held) c.args.ended.now.items c.args.ended.now.items in
    subst P (sym c.in-Merge.is) (record { did = c.merge_device.result; answer_is = c.did-in-Merge.ensures; begun = c.merge_device.ensures.begun; refused = c.merge_device.ensures.refused; alone = refl })

pub returns-in-Step-clause-done : goal.returns-in-Step-clause-done
unfolding step
returns-in-Step-clause-done c =
    let P : Command → Type 0 = λ command. is_ruled command (table_of c.args.held.now) ≡ true → ServesIf (enters command) c.step_volume.result (table_of c.step_volume.new.held) (IsPartDone command (table_of c.args.held.now)) (step command (table_of c.args.held.now)) in
    subst P (sym c.in-Step.is) (λ ruled. let both = step_ruled c.in-Step.event _ ruled in c.step_volume.ensures.done both.0 both.1)

pub returns-in-Step-clause-told : goal.returns-in-Step-clause-told
returns-in-Step-clause-told c =
    let P : Command → Type 0 = λ command. is_ruled command (table_of c.args.held.now) ≡ true → c.step_volume.new.ended.items ≡ c.args.ended.now.items in
    subst P (sym c.in-Step.is) (λ ruled. let both = step_ruled c.in-Step.event _ ruled in c.step_volume.ensures.told both.0 both.1)

pub returns-in-Step-clause-sound : goal.returns-in-Step-clause-sound
returns-in-Step-clause-sound c =
    let P : Command → Type 0 = λ command. is_sound (table_of c.args.held.now) ≡ true → is_sound_command command ≡ true → is_sound (table_of c.step_volume.new.held) ≡ true in
    subst P (sym c.in-Step.is) (λ sound makes. c.step_volume.ensures.sound (not_true (is_merge_event c.in-Step.event) makes) sound)

pub returns-in-Status-clause-left : goal.returns-in-Status-clause-left
returns-in-Status-clause-left c =
    let table = table_of c.args.held.now in
    let P : Command → Type 0 = λ command. IsLeft command c.text.result table table c.args.ended.now.items c.args.ended.now.items in
    subst P (sym c.in-Status.is) (record { text = c.status_text.result; answer_is = c.text.ensures; among = c.status_text.ensures.among; held = c.status_text.ensures.held; stays = refl; alone = refl })

pub returns-in-Map-clause-left : goal.returns-in-Map-clause-left
returns-in-Map-clause-left c =
    let table = table_of c.args.held.now in
    let P : Command → Type 0 = λ command. IsLeft command c.text-in-Map.result table table c.args.ended.now.items c.args.ended.now.items in
    subst P (sym c.in-Map.is) (record { text = c.map_text.result; answer_is = c.text-in-Map.ensures; held = c.map_text.ensures.held; stays = refl; alone = refl })

pub returns-in-Create-clause-done : goal.returns-in-Create-clause-done
unfolding step
returns-in-Create-clause-done c =
    let old = table_of c.args.held.now in
    let new = table_of c.create_device.new.held in
    let line = c.in-Create.line in
    let P : Command → Type 0 = λ command. is_ruled command old ≡ true → ServesIf (enters command) c.did-in-Create.result new (IsPartDone command old) (step command old) in
    subst P (sym c.in-Create.is) (λ ruled.
    serves_worded (λ _. Done) (enters_journal line.target) c.create_device.result c.did-in-Create.result new (λ t. t ≡ old) (create c.in-Create.name line old) c.did-in-Create.ensures (c.create_device.ensures.done ruled))

pub returns-in-StopLosing-clause-asks : goal.returns-in-StopLosing-clause-asks
returns-in-StopLosing-clause-asks c =
    let P : Command → Type 0 = λ command. IsFirst (first_refusal command (table_of c.args.held.now)) (told (reworded Some c.did-in-StopLosing.result)) in
    subst P (sym c.in-StopLosing.is) (worded_asked (λ _. Done) (origin_by c.in-StopLosing.volume (table_of c.args.held.now)) c.stop_losing.result c.did-in-StopLosing.result c.stop_losing.ensures.asks c.did-in-StopLosing.ensures)

pub returns-in-StopLosing-clause-still : goal.returns-in-StopLosing-clause-still
returns-in-StopLosing-clause-still c =
    let P : Command → Type 0 = λ command. IfSome (first_refusal command (table_of c.args.held.now)) (λ _. (table_of c.stop_losing.new.held ≡ table_of c.args.held.now) × (c.args.ended.now.items ≡ c.args.ended.now.items)) in
    let stays = refused_stays (origin_by c.in-StopLosing.volume (table_of c.args.held.now)) c.stop_losing.result _ c.stop_losing.ensures.asks c.stop_losing.ensures.stays in
    subst P (sym c.in-StopLosing.is) (asked_both _ _ (origin_by c.in-StopLosing.volume (table_of c.args.held.now)) stays refl)

pub returns-in-StopLosing-clause-left : goal.returns-in-StopLosing-clause-left
returns-in-StopLosing-clause-left c =
    let P : Command → Type 0 = λ command. IsLeft command c.did-in-StopLosing.result (table_of c.args.held.now) (table_of c.stop_losing.new.held) c.args.ended.now.items c.args.ended.now.items in
    subst P (sym c.in-StopLosing.is) (record { did = c.stop_losing.result; answer_is = c.did-in-StopLosing.ensures; lost = c.stop_losing.ensures.done; alone = refl })

pub returns-in-Create-clause-left : goal.returns-in-Create-clause-left
returns-in-Create-clause-left c =
    let P : Command → Type 0 = λ command. IsLeft command c.did-in-Create.result (table_of c.args.held.now) (table_of c.create_device.new.held) c.args.ended.now.items c.args.ended.now.items in
    subst P (sym c.in-Create.is) (record { did = c.create_device.result; answer_is = c.did-in-Create.ensures; made = c.create_device.ensures.made; alone = refl })

pub returns-in-Create-clause-ordered : goal.returns-in-Create-clause-ordered
returns-in-Create-clause-ordered c =
    let P : Command → Type 0 = λ command. IsLookedAt (table_of c.args.held.now) (changed_by command) in
    subst P (sym c.in-Create.is) c.create_device.ensures.ordered

pub returns-in-Remove-clause-ordered : goal.returns-in-Remove-clause-ordered
returns-in-Remove-clause-ordered c =
    let P : Command → Type 0 = λ command. IsLookedAt (table_of c.args.held.now) (changed_by command) in
    subst P (sym c.in-Remove.is) c.remove_device.ensures.ordered

pub returns-in-Write-clause-ordered : goal.returns-in-Write-clause-ordered
returns-in-Write-clause-ordered c =
    let P : Command → Type 0 = λ command. IsLookedAt (table_of c.args.held.now) (changed_by command) in
    subst P (sym c.in-Write.is) c.write_device.ensures.ordered

pub returns-in-Settle-clause-ordered : goal.returns-in-Settle-clause-ordered
returns-in-Settle-clause-ordered c =
    let P : Command → Type 0 = λ command. IsLookedAt (table_of c.args.held.now) (changed_by command) in
    subst P (sym c.in-Settle.is) c.settle_device.ensures.ordered

pub returns-in-Merge-clause-ordered : goal.returns-in-Merge-clause-ordered
returns-in-Merge-clause-ordered c =
    let P : Command → Type 0 = λ command. IsLookedAt (table_of c.args.held.now) (changed_by command) in
    subst P (sym c.in-Merge.is) c.merge_device.ensures.ordered

pub returns-in-Create-clause-full : goal.returns-in-Create-clause-full
returns-in-Create-clause-full c =
    let P : Command → Type 0 = λ command. told (reworded Some c.did-in-Create.result) ≡ Refused JournalFull ∷ [] → IsAskedMuch (entered_by command) (table_of c.args.held.now) (table_of c.create_device.new.held) in
    subst P (sym c.in-Create.is) (worded_full (λ _. Done) _ c.create_device.result c.did-in-Create.result done_other c.create_device.ensures.full c.did-in-Create.ensures)

pub returns-in-Remove-clause-full : goal.returns-in-Remove-clause-full
returns-in-Remove-clause-full c =
    let P : Command → Type 0 = λ command. told (reworded Some c.did-in-Remove.result) ≡ Refused JournalFull ∷ [] → IsAskedMuch (entered_by command) (table_of c.args.held.now) (table_of c.remove_device.new.held) in
    subst P (sym c.in-Remove.is) (worded_full (λ _. Done) _ c.remove_device.result c.did-in-Remove.result done_other c.remove_device.ensures.full c.did-in-Remove.ensures)

pub returns-in-Read-clause-full : goal.returns-in-Read-clause-full
returns-in-Read-clause-full c =
    let P : Command → Type 0 = λ command. told (reworded Some c.given-in-Read.result) ≡ Refused JournalFull ∷ [] → IsAskedMuch (entered_by command) (table_of c.args.held.now) (table_of c.read_device.new.held) in
    subst P (sym c.in-Read.is) (worded_full Data _ c.read_device.result c.given-in-Read.result data_other c.read_device.ensures.full c.given-in-Read.ensures)

pub returns-in-Write-clause-full : goal.returns-in-Write-clause-full
returns-in-Write-clause-full c =
    let P : Command → Type 0 = λ command. told (reworded Some c.did-in-Write.result) ≡ Refused JournalFull ∷ [] → IsAskedMuch (entered_by command) (table_of c.args.held.now) (table_of c.write_device.new.held) in
    subst P (sym c.in-Write.is) (worded_full (λ _. Done) _ c.write_device.result c.did-in-Write.result done_other c.write_device.ensures.full c.did-in-Write.ensures)

pub returns-in-Flush-clause-full : goal.returns-in-Flush-clause-full
returns-in-Flush-clause-full c =
    let P : Command → Type 0 = λ command. told (reworded Some c.did-in-Flush.result) ≡ Refused JournalFull ∷ [] → IsAskedMuch (entered_by command) (table_of c.args.held.now) (table_of c.flush_device.new.held) in
    subst P (sym c.in-Flush.is) (worded_full (λ _. Done) _ c.flush_device.result c.did-in-Flush.result done_other c.flush_device.ensures.full c.did-in-Flush.ensures)

pub returns-in-StartRead-clause-full : goal.returns-in-StartRead-clause-full
returns-in-StartRead-clause-full c =
    let P : Command → Type 0 = λ command. told (reworded Some c.number.result) ≡ Refused JournalFull ∷ [] → IsAskedMuch (entered_by command) (table_of c.args.held.now) (table_of c.start_read.new.held) in
    subst P (sym c.in-StartRead.is) (worded_full Number _ c.start_read.result c.number.result number_other c.start_read.ensures.full c.number.ensures)

pub returns-in-StartWrite-clause-full : goal.returns-in-StartWrite-clause-full
returns-in-StartWrite-clause-full c =
    let P : Command → Type 0 = λ command. told (reworded Some c.number-in-StartWrite.result) ≡ Refused JournalFull ∷ [] → IsAskedMuch (entered_by command) (table_of c.args.held.now) (table_of c.start_write.new.held) in
    subst P (sym c.in-StartWrite.is) (worded_full Number _ c.start_write.result c.number-in-StartWrite.result number_other c.start_write.ensures.full c.number-in-StartWrite.ensures)

pub returns-in-Merge-clause-full : goal.returns-in-Merge-clause-full
returns-in-Merge-clause-full c =
    let P : Command → Type 0 = λ command. told (reworded Some c.did-in-Merge.result) ≡ Refused JournalFull ∷ [] → IsAskedMuch (entered_by command) (table_of c.args.held.now) (table_of c.merge_device.new.held) in
    subst P (sym c.in-Merge.is) (worded_full (λ _. Done) _ c.merge_device.result c.did-in-Merge.result done_other c.merge_device.ensures.full c.did-in-Merge.ensures)

pub returns-in-Finish-clause-full : goal.returns-in-Finish-clause-full
returns-in-Finish-clause-full c =
    let P : Command → Type 0 = λ command. told (reworded Some c.did-in-Finish.result) ≡ Refused JournalFull ∷ [] → IsAskedMuch (entered_by command) (table_of c.args.held.now) (table_of c.finish_device.new.held) in
    subst P (sym c.in-Finish.is) (worded_full (λ _. Done) _ c.finish_device.result c.did-in-Finish.result done_other c.finish_device.ensures.full c.did-in-Finish.ensures)

pub returns-in-Disk-clause-full : goal.returns-in-Disk-clause-full
returns-in-Disk-clause-full c =
    let P : Command → Type 0 = λ command. told (reworded Some c.did.result) ≡ Refused JournalFull ∷ [] → IsAskedMuch (entered_by command) (table_of c.args.held.now) (table_of c.make_disk.new.held) in
    subst P (sym c.in-Disk.is) (worded_never (λ _. Done) c.make_disk.result c.did.result done_other (changes_never c.make_disk.result (table_of c.args.held.now) (table_of c.make_disk.new.held) _ c.make_disk.ensures.done (make_never c.in-Disk.name c.in-Disk.sectors (table_of c.args.held.now))) c.did.ensures)

pub returns-in-Load-clause-full : goal.returns-in-Load-clause-full
returns-in-Load-clause-full c =
    let P : Command → Type 0 = λ command. told (reworded Some c.did-in-Load.result) ≡ Refused JournalFull ∷ [] → IsAskedMuch (entered_by command) (table_of c.args.held.now) (table_of c.load_disk.new.held) in
    subst P (sym c.in-Load.is) (worded_never (λ _. Done) c.load_disk.result c.did-in-Load.result done_other (changes_never c.load_disk.result (table_of c.args.held.now) (table_of c.load_disk.new.held) _ c.load_disk.ensures.done (load_never c.in-Load.disk c.in-Load.first c.in-Load.bytes (table_of c.args.held.now))) c.did-in-Load.ensures)

pub returns-in-Save-clause-full : goal.returns-in-Save-clause-full
returns-in-Save-clause-full c =
    let P : Command → Type 0 = λ command. told (reworded Some c.given.result) ≡ Refused JournalFull ∷ [] → IsAskedMuch (entered_by command) (table_of c.args.held.now) (table_of c.args.held.now) in
    subst P (sym c.in-Save.is) (worded_never Data c.save_disk.result c.given.result data_other (gives_never c.save_disk.result _ c.save_disk.ensures (save_never c.in-Save.disk c.in-Save.first c.in-Save.count (table_of c.args.held.now))) c.given.ensures)

pub returns-in-Copy-clause-full : goal.returns-in-Copy-clause-full
returns-in-Copy-clause-full c =
    let P : Command → Type 0 = λ command. told (reworded Some c.did-in-Copy.result) ≡ Refused JournalFull ∷ [] → IsAskedMuch (entered_by command) (table_of c.args.held.now) (table_of c.copy_disk.new.held) in
    subst P (sym c.in-Copy.is) (worded_never (λ _. Done) c.copy_disk.result c.did-in-Copy.result done_other (changes_never c.copy_disk.result (table_of c.args.held.now) (table_of c.copy_disk.new.held) _ c.copy_disk.ensures.done (copied_never c.in-Copy.from c.in-Copy.first c.in-Copy.to c.in-Copy.count (table_of c.args.held.now))) c.did-in-Copy.ensures)

pub returns-in-Message-clause-full : goal.returns-in-Message-clause-full
returns-in-Message-clause-full c =
    let P : Command → Type 0 = λ command. told (reworded Some c.tell_device.result) ≡ Refused JournalFull ∷ [] → IsAskedMuch (entered_by command) (table_of c.args.held.now) (table_of c.tell_device.new.held) in
    subst P (sym c.in-Message.is) (told_never c.tell_device.result (table_of c.args.held.now) (table_of c.tell_device.new.held) _ _ c.tell_device.ensures.done (tell_never c.in-Message.name c.in-Message.message (table_of c.args.held.now)))

pub returns-in-Step-clause-full : goal.returns-in-Step-clause-full
returns-in-Step-clause-full c =
    let P : Command → Type 0 = λ command. told (reworded Some c.step_volume.result) ≡ Refused JournalFull ∷ [] → IsAskedMuch (entered_by command) (table_of c.args.held.now) (table_of c.step_volume.new.held) in
    subst P (sym c.in-Step.is) (stepped_never c.in-Step.volume c.in-Step.event c.step_volume.result (table_of c.args.held.now) (table_of c.step_volume.new.held) c.args.ended.now.items c.step_volume.new.ended.items c.step_volume.ensures.left)

pub returns-in-Settle-clause-full : goal.returns-in-Settle-clause-full
returns-in-Settle-clause-full c =
    let P : Command → Type 0 = λ command. told (reworded Some c.did-in-Settle.result) ≡ Refused JournalFull ∷ [] → IsAskedMuch (entered_by command) (table_of c.args.held.now) (table_of c.settle_device.new.held) in
    subst P (sym c.in-Settle.is) (worded_never (λ _. Done) c.settle_device.result c.did-in-Settle.result done_other (settled_never (origin_by c.in-Settle.volume (table_of c.args.held.now)) c.settle_device.result (origin_by_never c.in-Settle.volume (table_of c.args.held.now)) c.settle_device.ensures.asks c.settle_device.ensures.refused) c.did-in-Settle.ensures)

pub returns-in-Resume-clause-full : goal.returns-in-Resume-clause-full
returns-in-Resume-clause-full c =
    let P : Command → Type 0 = λ command. told (reworded Some c.did-in-Resume.result) ≡ Refused JournalFull ∷ [] → IsAskedMuch (entered_by command) (table_of c.args.held.now) (table_of c.resume_device.new.held) in
    subst P (sym c.in-Resume.is) (worded_never (λ _. Done) c.resume_device.result c.did-in-Resume.result done_other (changes_never c.resume_device.result (table_of c.args.held.now) (table_of c.resume_device.new.held) _ c.resume_device.ensures.done (merge_resumed_never c.in-Resume.volume (table_of c.args.held.now))) c.did-in-Resume.ensures)

pub returns-in-Checkpoint-clause-full : goal.returns-in-Checkpoint-clause-full
returns-in-Checkpoint-clause-full c =
    let P : Command → Type 0 = λ command. told (reworded Some c.did-in-Checkpoint.result) ≡ Refused JournalFull ∷ [] → IsAskedMuch (entered_by command) (table_of c.args.held.now) (table_of c.checkpoint_device.new.held) in
    subst P (sym c.in-Checkpoint.is) (worded_never (λ _. Done) c.checkpoint_device.result c.did-in-Checkpoint.result done_other (changes_never c.checkpoint_device.result (table_of c.args.held.now) (table_of c.checkpoint_device.new.held) _ c.checkpoint_device.ensures.done (checkpointed_never c.in-Checkpoint.volume (table_of c.args.held.now))) c.did-in-Checkpoint.ensures)

pub returns-in-Stop-clause-full : goal.returns-in-Stop-clause-full
returns-in-Stop-clause-full c =
    let P : Command → Type 0 = λ command. told (reworded Some c.did-in-Stop.result) ≡ Refused JournalFull ∷ [] → IsAskedMuch (entered_by command) (table_of c.args.held.now) (table_of c.stop_device.new.held) in
    subst P (sym c.in-Stop.is) (worded_never (λ _. Done) c.stop_device.result c.did-in-Stop.result done_other (changes_never c.stop_device.result (table_of c.args.held.now) (table_of c.stop_device.new.held) _ c.stop_device.ensures.done (volume_stopped_never c.in-Stop.volume (table_of c.args.held.now))) c.did-in-Stop.ensures)

pub returns-in-StopLosing-clause-full : goal.returns-in-StopLosing-clause-full
returns-in-StopLosing-clause-full c =
    let P : Command → Type 0 = λ command. told (reworded Some c.did-in-StopLosing.result) ≡ Refused JournalFull ∷ [] → IsAskedMuch (entered_by command) (table_of c.args.held.now) (table_of c.stop_losing.new.held) in
    subst P (sym c.in-StopLosing.is) (worded_never (λ _. Done) c.stop_losing.result c.did-in-StopLosing.result done_other (stops_never c.stop_losing.result c.in-StopLosing.volume (table_of c.args.held.now) (table_of c.stop_losing.new.held) c.stop_losing.ensures.done) c.did-in-StopLosing.ensures)

pub returns-in-Status-clause-full : goal.returns-in-Status-clause-full
returns-in-Status-clause-full c =
    let P : Command → Type 0 = λ command. told (reworded Some c.text.result) ≡ Refused JournalFull ∷ [] → IsAskedMuch (entered_by command) (table_of c.args.held.now) (table_of c.args.held.now) in
    subst P (sym c.in-Status.is) (worded_never Said c.status_text.result c.text.result said_other (record { other = c.status_text.ensures.room }) c.text.ensures)

pub returns-in-Table-clause-full : goal.returns-in-Table-clause-full
returns-in-Table-clause-full c =
    let P : Command → Type 0 = λ command. told (reworded Some c.text-in-Table.result) ≡ Refused JournalFull ∷ [] → IsAskedMuch (entered_by command) (table_of c.args.held.now) (table_of c.args.held.now) in
    subst P (sym c.in-Table.is) (worded_never Said c.line_text.result c.text-in-Table.result said_other (gives_never c.line_text.result _ c.line_text.ensures (line_text_never c.in-Table.name (table_of c.args.held.now))) c.text-in-Table.ensures)

pub returns-in-Tick-clause-full : goal.returns-in-Tick-clause-full
returns-in-Tick-clause-full c =
    let P : Command → Type 0 = λ command. told (reworded Some c.did-in-Tick.result) ≡ Refused JournalFull ∷ [] → IsAskedMuch (entered_by command) (table_of c.args.held.now) (table_of c.tick.new.held) in
    subst P (sym c.in-Tick.is) (worded_never (λ _. Done) (Ok (tt {0})) c.did-in-Tick.result done_other answer_never c.did-in-Tick.ensures)

pub returns-in-List-clause-full : goal.returns-in-List-clause-full
returns-in-List-clause-full c =
    let P : Command → Type 0 = λ command. told (reworded Some c.text-in-List.result) ≡ Refused JournalFull ∷ [] → IsAskedMuch (entered_by command) (table_of c.args.held.now) (table_of c.args.held.now) in
    subst P (sym c.in-List.is) (worded_never Said c.list_text.result c.text-in-List.result said_other (gives_never c.list_text.result _ c.list_text.ensures answer_never) c.text-in-List.ensures)

pub returns-in-Map-clause-full : goal.returns-in-Map-clause-full
returns-in-Map-clause-full c =
    let P : Command → Type 0 = λ command. told (reworded Some c.text-in-Map.result) ≡ Refused JournalFull ∷ [] → IsAskedMuch (entered_by command) (table_of c.args.held.now) (table_of c.args.held.now) in
    subst P (sym c.in-Map.is) (worded_never Said c.map_text.result c.text-in-Map.result said_other (record { other = c.map_text.ensures.room }) c.text-in-Map.ensures)
