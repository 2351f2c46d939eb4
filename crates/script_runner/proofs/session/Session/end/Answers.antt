-- Journals that are folded first change nothing.
use Rattle.std.proofs.Common.{◌≡◌, subst}
use Rattle.std.specs.Prelude.{OnOk}
use Rattle.std.specs.Io.KnownBytes.{Appends}
use Rattle.script_runner.specs.Output.{LineOutcome, followed, printed}
use Rattle.script_runner.specs.Sessions.{IsEndedBy, Sitting}
use Rattle.script_runner.proofs.session.Session.end.Goals as goal

pub returns-clause-done : goal.returns-clause-done
returns-clause-done g c =
    let P : Sitting → Type 0 = λ s. (done : LineOutcome) × IsEndedBy s.block s.desk.table done × (c.end_with_room.new.self.desk ≡ followed s.desk done)
    × OnOk c.end_with_room.result (Appends (g.W.Write.contents c.args.writer.now) (g.W.Write.contents c.end_with_room.new.writer) (printed done.replies)) in
    subst P c.make_room.ensures c.end_with_room.ensures.done
