-- A block is opened, or its line is refused.
use Rattle.std.proofs.Common.{List, ap, ◌∙◌}
use Rattle.std.specs.Prelude.{OnOk}
use Rattle.std.specs.Io.KnownBytes.{Appends}
use Rattle.command_replies.specs.declared.command_reply.CommandReply.{CommandReply}
use Rattle.script_runner.specs.Output.{printed}
use Rattle.script_runner.specs.Sessions.{Sitting}
use Rattle.script_runner.proofs.SessionLemmas.{opened_by, refused_by}
use Rattle.script_runner.proofs.session.Session.open.Goals as goal

pub returns-in-Ok-clause-done : goal.returns-in-Ok-clause-done
returns-in-Ok-clause-done g c = opened_by c.args.line.now c.args.self.now c.self.inside.desk c.in-Ok.opening c.new.result (g.W.Write.contents c.args.writer.now) (ap (λ (s : Sitting). s.desk) c.self.view_is) c.in-Ok.ensures c.new.ensures

pub returns-in-Err-clause-done : goal.returns-in-Err-clause-done
returns-in-Err-clause-done g c =
    let P : List CommandReply → Type 0 = λ rs. OnOk c.refuse.result (Appends (g.W.Write.contents c.args.writer.now) (g.W.Write.contents c.refuse.new.writer) (printed rs)) in
    refused_by c.args.line.now c.args.self.now c.self.inside.desk c.refuse.new.self c.self.inside.block c.in-Err.refusal P (ap (λ (s : Sitting). s.desk) c.self.view_is) (ap (λ (s : Sitting). s.block) c.self.view_is ∙ c.requires) c.in-Err.ensures c.refuse.ensures.done c.refuse.ensures.printed
