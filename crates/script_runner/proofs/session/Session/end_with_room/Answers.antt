-- No block is open.
use Rattle.std.proofs.Common.{rules, ◌≡◌, None, ap, sym, ◌∙◌}
use Rattle.script_runner.specs.Sessions.{Sitting}
use Rattle.script_runner.proofs.SessionLemmas.{none_ended}
use Rattle.script_runner.proofs.session.Session.end_with_room.Goals as goal

pub returns-in-None-clause-done : goal.returns-in-None-clause-done
returns-in-None-clause-done g c =
    let none : c.self.inside.block ≡ None = search rules in
    none_ended c.args.self.now c.self.inside.desk (g.W.Write.contents c.args.writer.now) (ap (λ (s : Sitting). s.desk) c.self.view_is) (sym (ap (λ (s : Sitting). s.block) c.self.view_is) ∙ none)
