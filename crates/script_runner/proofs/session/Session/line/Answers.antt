-- Journals that are folded first change nothing.
use Rattle.std.proofs.Common.{◌≡◌, true, subst}
use Rattle.std.specs.Prelude.{OnOk}
use Rattle.std.specs.Io.KnownBytes.{Appends}
use Rattle.command_semantics.specs.Sound.{is_sound}
use Rattle.script_runner.specs.Output.{LineOutcome, followed, printed}
use Rattle.script_runner.specs.Sessions.{IsSessionDone, Sitting}
use Rattle.script_runner.specs.Sound.{is_sound_line}
use Rattle.script_runner.proofs.session.Session.line.Goals as goal

pub returns-clause-done : goal.returns-clause-done
returns-clause-done g c =
    let P : Sitting → Type 0 = λ s. (done : LineOutcome) × IsSessionDone c.args.line.now s c.line_with_room.new.self done × (c.line_with_room.new.self.desk ≡ followed s.desk done)
    × OnOk c.line_with_room.result (Appends (g.W.Write.contents c.args.writer.now) (g.W.Write.contents c.line_with_room.new.writer) (printed done.replies)) in
    subst P c.make_room.ensures c.line_with_room.ensures.done

pub returns-clause-sound : goal.returns-clause-sound
returns-clause-sound g c =
    let P : Sitting → Type 0 = λ s. is_sound s.desk.table ≡ true → is_sound_line c.args.line.now ≡ true → is_sound c.line_with_room.new.self.desk.table ≡ true in
    subst P c.make_room.ensures c.line_with_room.ensures.sound
