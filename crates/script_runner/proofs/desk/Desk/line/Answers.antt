-- The lines of requests that ended are counted and printed before the line's own answer.
use Rattle.std.proofs.Common.{rules, ◌≡◌, ◌<◌, ◌^◌, List, [], length, arith, sym, ◌∙◌}
use Rattle.std.specs.Prelude.{OnOk, IfSome}
use Rattle.std.specs.Io.KnownBytes.{Appends}
use Rattle.device_list.specs.Tables.{table_of}
use Rattle.plain_machine.specs.declared.request.Replied.{Replied}
use Rattle.command_replies.specs.declared.command_reply.CommandReply.{CommandReply}
use Rattle.script_runner.specs.Asking.{line_first}
use Rattle.script_runner.specs.Ended.{line_replies}
use Rattle.script_runner.specs.Output.{printed}
use Rattle.script_runner.proofs.AskingLemmas.{first_lines, first_none, first_stays}
use Rattle.script_runner.proofs.LeftLemmas.{told_for}
use Rattle.script_runner.proofs.DeskLemmas.{line_done, line_counted, start_alone}
use Rattle.script_runner.proofs.desk.Desk.line.Goals as goal

-- where none had ended and none was added, none has ended
none_ended : {before after : List Replied} → after ≡ before → before ≡ [] → after ≡ []
none_ended same none = same ∙ none

pub returns-clause-done : goal.returns-clause-done
returns-clause-done g c =
    let own = c.outcome.new.own in
    let ended = c.outcome.new.ended.items in
    let P : List CommandReply → Type 0 = λ rs. OnOk c.print_all.result (Appends (g.W.Write.contents c.args.writer.now) (g.W.Write.contents c.print_all.new.writer) (printed rs)) in
    let last : P (line_replies ended own) = search rules in
    let small : c.self.inside.summary.lines < 2 ^ 64 = omega (arith, c.self.ranges) in
    let size : c.len.result ≡ length ended = search rules in
    let first = line_first c.args.line.now (table_of c.self.inside.held) in
    let both : IfSome first (λ _. (table_of c.outcome.new.held ≡ table_of c.self.inside.held) × (ended ≡ c.new-ended.result.items)) = c.outcome.ensures.still in
    let none = first_none (table_of c.outcome.new.held ≡ table_of c.self.inside.held) first c.new-ended.result.items ended [] both c.new-ended.ensures.items in
    let stays = first_stays (table_of c.outcome.new.held ≡ table_of c.self.inside.held) (ended ≡ c.new-ended.result.items) first both in
    let asks = first_lines first ended own c.outcome.ensures.asks none in
    let number = start_alone c.args.line.now ended own c.outcome.ensures.number (λ does. none_ended (c.outcome.ensures.alone does) c.new-ended.ensures.items) in
    let counts = line_counted c.self.inside.summary c.with_lines.result c.with_own-self-inside.result c.len.result ended own small size c.with_lines.ensures c.with_own-self-inside.ensures in
    let left = c.outcome.ensures.left in
    let told = told_for c.args.line.now (table_of c.self.inside.held) (table_of c.outcome.new.held) c.new-ended.result.items ended own left.0 c.new-ended.ensures.items left.1 left.2 c.outcome.ensures.full in
    line_done c.args.line.now c.args.self.now (table_of c.self.inside.held) (table_of c.outcome.new.held) c.self.inside.summary c.with_own-self-inside.result ended own P (sym c.self.view_is) c.outcome.ensures.done c.outcome.ensures.shows (λ ruled. none_ended (c.outcome.ensures.told ruled) c.new-ended.ensures.items) asks stays number told counts last
