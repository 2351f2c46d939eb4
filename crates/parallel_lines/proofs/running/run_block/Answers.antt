-- What the run leaves of the table, and what it tells.
use Rattle.std.proofs.Common.{◌≡◌, ◌++◌, Bool, List, Option, ℕ, map, ap, subst, ◌∙◌, arith}
use Rattle.std.proofs.lemmas.List.Elements.{All-same}
use Rattle.std.proofs.lemmas.Result.{IfOk-weaker}
use Rattle.command.specs.declared.seat_line.SeatLine.{SeatLine}
use Rattle.device_list.specs.Tables.{table_of}
use Rattle.parallel_threads.specs.Tasks.{tasks_at}
use Rattle.parallel_lines.specs.Answering.{AreAsked, AreReplied}
use Rattle.parallel_lines.specs.Played.{ArePlayed}
use Rattle.parallel_lines.specs.Running.{IsOfBlock, gate_told, seat_in, seats_told, used_in}
use Rattle.parallel_lines.specs.Spared.{AreSpared}
use Rattle.parallel_lines.proofs.Spares.{all_spared, on_error}
use Rattle.parallel_lines.proofs.Runs.{marks_many, not_run, still_named, still_sound, table_run}
use Rattle.parallel_lines.proofs.Tells.{are_of_block, asked_few, seats_are}
use Rattle.parallel_lines.proofs.running.run_block.Goals as goal

pub returns-in_err-refused-clause-run : goal.returns-in_err-refused-clause-run
returns-in_err-refused-clause-run g c = not_run c.args.block.lines (table_of c.args.held.now)

pub returns-in_err-plan-clause-run : goal.returns-in_err-plan-clause-run
returns-in_err-plan-clause-run g c = not_run c.args.block.lines (table_of c.args.held.now)

pub run_plan-requires-clause-many : goal.run_plan-requires-clause-many
run_plan-requires-clause-many g c lives outlives = marks_many c.into_lines.result.items (table_of c.args.held.now) c.in_ok-plan.plan.used.items c.in_ok-plan.ensures.plan.used

pub run_plan-requires-clause-room : goal.run_plan-requires-clause-room
run_plan-requires-clause-room g c lives outlives =
    let few = asked_few c.in_ok-plan.plan.used.items (table_of c.args.held.now) c.into_lines.result.items (tasks_at c.in_ok-plan.plan.tasks.items) c.in_ok-plan.ensures.plan.asked in
    omega (arith, few, c.in_ok-plan.ensures.plan.room)

pub returns-clause-told : goal.returns-clause-told
returns-clause-told g c =
    IfOk-weaker c.run_plan.result _ _ (λ replies (played, plays, r). All-same IsOfBlock replies.items _ r.replies_are (are_of_block r.told c.opening-ticket.result.hold r.opened)) c.run_plan.ensures.told

pub returns-clause-seats : goal.returns-clause-seats
returns-clause-seats g c =
    let ticket : c.opening-ticket.result.hold ≡ c.args.block.opening.hold = ap (λ o. o.hold) c.opening-ticket.ensures in
    let seat : SeatLine → ℕ = λ line. line.seat in
    IfOk-weaker c.run_plan.result _ _
    (λ replies (played, plays, r).
    ap (map seat_in) r.replies_are
    ∙ seats_are c.in_ok-plan.plan.used.items (table_of c.args.held.now) c.into_lines.result.items played (tasks_at c.in_ok-plan.plan.tasks.items) r.told c.opening-ticket.result.hold r.opened c.in_ok-plan.ensures.plan.asked r.ended
    ∙ ap (λ (l : List SeatLine). seats_told (map seat l) ++ gate_told c.opening-ticket.result.hold) c.into_lines.ensures.lines
    ∙ ap (λ (t : Option ℕ). seats_told (map seat c.args.block.lines) ++ gate_told t) ticket)
    c.run_plan.ensures.told

pub returns-clause-answers : goal.returns-clause-answers
returns-clause-answers g c =
    let ticket : c.opening-ticket.result.hold ≡ c.args.block.opening.hold = ap (λ o. o.hold) c.opening-ticket.ensures in
    let old = table_of c.args.held.now in
    let new = table_of c.run_plan.new.held in
    let asked = tasks_at c.in_ok-plan.plan.tasks.items in
    let used : c.in_ok-plan.plan.used.items ≡ used_in c.args.block.lines old = c.in_ok-plan.ensures.plan.used ∙ ap (λ (l : List SeatLine). used_in l old) c.into_lines.ensures.lines in
    IfOk-weaker c.run_plan.result _ _
    (λ replies (played, plays, r). record {
      asked = asked;
      played = played;
      asks = subst (λ (us : List Bool). AreAsked us old c.args.block.lines asked) used
          (subst (λ (l : List SeatLine). AreAsked c.in_ok-plan.plan.used.items old l asked) c.into_lines.ensures.lines c.in_ok-plan.ensures.plan.asked);
      plays = subst (λ (us : List Bool). ArePlayed us played old.volumes new.volumes) used plays;
      told = subst (λ (t : Option ℕ). AreReplied t played asked replies.items) ticket r;
    })
    c.run_plan.ensures.told

pub returns-clause-sound : goal.returns-clause-sound
returns-clause-sound g c =
    let used : c.in_ok-plan.plan.used.items ≡ used_in c.into_lines.result.items (table_of c.args.held.now) = c.in_ok-plan.ensures.plan.used in
    still_sound c.into_lines.result.items (table_of c.args.held.now) (table_of c.run_plan.new.held)
    (table_run c.into_lines.result.items (table_of c.args.held.now) (table_of c.run_plan.new.held) c.in_ok-plan.plan.used.items used c.run_plan.ensures.stacks c.run_plan.ensures.volumes)

pub returns-clause-named : goal.returns-clause-named
returns-clause-named g c =
    let used : c.in_ok-plan.plan.used.items ≡ used_in c.into_lines.result.items (table_of c.args.held.now) = c.in_ok-plan.ensures.plan.used in
    still_named c.into_lines.result.items (table_of c.args.held.now) (table_of c.run_plan.new.held)
    (table_run c.into_lines.result.items (table_of c.args.held.now) (table_of c.run_plan.new.held) c.in_ok-plan.plan.used.items used c.run_plan.ensures.stacks c.run_plan.ensures.volumes)

pub returns-in_err-refused-clause-spared : goal.returns-in_err-refused-clause-spared
returns-in_err-refused-clause-spared g c = on_error (AreSpared (table_of c.args.held.now).volumes (table_of c.args.held.now).volumes) _ (all_spared (table_of c.args.held.now).volumes)

pub returns-in_err-plan-clause-spared : goal.returns-in_err-plan-clause-spared
returns-in_err-plan-clause-spared g c = on_error (AreSpared (table_of c.args.held.now).volumes (table_of c.args.held.now).volumes) _ (all_spared (table_of c.args.held.now).volumes)
