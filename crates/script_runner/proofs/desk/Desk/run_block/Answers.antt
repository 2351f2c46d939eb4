-- A block is refused, or was run.
use Rattle.std.proofs.Common.{rules, ◌∷◌, ◌++◌, List, [], ap, sym, ◌∙◌}
use Rattle.std.specs.Prelude.{OnOk}
use Rattle.std.specs.Io.KnownBytes.{Appends}
use Rattle.device_list.specs.Tables.{table_of}
use Rattle.command_replies.specs.declared.command_reply.CommandReply.{CommandReply}
use Rattle.command_replies.specs.declared.command_reply.CommandReply.TheVariants.{Done}
use Rattle.script_runner.specs.Counts.{with_reply}
use Rattle.script_runner.specs.Output.{counted, printed}
use Rattle.script_runner.proofs.BlockLemmas.{block_ran, block_refused}
use Rattle.script_runner.proofs.desk.Desk.run_block.Goals as goal

pub returns-in-Err-clause-done : goal.returns-in-Err-clause-done
returns-in-Err-clause-done g c =
    let P : List CommandReply → Type 0 = λ rs. OnOk c.refuse.result (Appends (g.W.Write.contents c.args.writer.now) (g.W.Write.contents c.refuse.new.writer) (printed rs)) in
    block_refused c.args.block c.args.self.now c.refuse.new.self (table_of c.self.inside.held) (table_of c.run_block.new.held) c.self.inside.summary c.in-Err.refusal P (sym c.self.view_is) c.in-Err.ensures.refused c.in-Err.ensures.stays c.in-Err.ensures.run c.in-Err.ensures.spared c.refuse.ensures.done c.refuse.ensures.printed

pub returns-clause-done : goal.returns-clause-done
returns-clause-done g c =
    let replies = c.in-Ok.replies.items in
    let P : List CommandReply → Type 0 = λ rs. OnOk c.match-print_done.result (Appends (g.W.Write.contents c.args.writer.now) (g.W.Write.contents c.print_done.new.writer) (printed rs)) in
    let last : P (replies ++ Done ∷ []) = search rules in
    let counts = c.with-self-inside.ensures ∙ ap (with_reply Done) (c.with_all.ensures ∙ ap (λ rs. counted rs c.self.inside.summary) c.deref.ensures.value) in
    block_ran c.args.block c.args.self.now (table_of c.self.inside.held) (table_of c.run_block.new.held) c.self.inside.summary c.with-self-inside.result replies P (sym c.self.view_is) c.in-Ok.ensures.runs c.in-Ok.ensures.told c.in-Ok.ensures.seats c.in-Ok.ensures.answers c.in-Ok.ensures.run counts last
