-- An open block takes a line.
use Rattle.std.proofs.Common.{rules, ◌≡◌, true, false, Some, None, ap, sym, ◌∙◌}
use Rattle.std.specs.Prelude.{is_some}
use Rattle.command.specs.Blocks.{ends_block}
use Rattle.script_runner.specs.Sessions.{Sitting}
use Rattle.script_runner.proofs.SessionLemmas.{block_taken}
use Rattle.script_runner.proofs.session.Session.take_line.Goals as goal

pub returns-else-take-clause-done : goal.returns-else-take-clause-done
returns-else-take-clause-done g c =
    let some : c.self.inside.block ≡ Some c.in-Some.block = search rules in
    let no : ends_block c.args.line.now ≡ false = search rules in
    block_taken c.args.line.now c.args.self.now c.self.inside.desk c.in-Some.block c.take-in-Some.new.self (g.W.Write.contents c.args.writer.now) (ap (λ (s : Sitting). s.desk) c.self.view_is) (sym (ap (λ (s : Sitting). s.block) c.self.view_is) ∙ some) no c.take-in-Some.ensures.taken

pub returns-in-None-clause-done : goal.returns-in-None-clause-done
returns-in-None-clause-done g c =
    let none : c.self.inside.block ≡ None = search rules in
    let is : c.args.self.now.block ≡ None = sym (ap (λ (s : Sitting). s.block) c.self.view_is) ∙ none in
    absurd (let no : false ≡ true = sym (ap is_some is) ∙ c.requires in cc)
