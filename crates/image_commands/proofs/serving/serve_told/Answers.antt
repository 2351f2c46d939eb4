use Rattle.std.proofs.Common.{◌≡◌, ℕ, List, sym, subst}
use Rattle.cow_image.specs.declared.found.Told.{Told}
use Rattle.cow_image.specs.Maps.{IsToldOf, IsMapOf}
use Rattle.cow_nbd.specs.Shows.{IsServedBy, OrChanged}
use Rattle.image_commands.specs.Arrays.{array_of, marks_of, FailsTold}
use Rattle.image_commands.proofs.serving.serve_told.Goals as goal

pub returns-in-Ok : goal.returns-in-Ok
returns-in-Ok g c = λ o b heard ois bis his whole told.
    subst (λ (t : Told). IsServedBy (OrChanged (g.V.Watch.has_told c.args.watch.now) (g.V.Watch.may_change c.args.watch.now) (FailsTold t (g.O.Image.may_fail c.args.origin) (g.C.Image.may_fail c.args.cow) c.args.size)) c.args.size (array_of t o b) o (marks_of t) heard (g.W.Write.contents c.args.writer.now) (g.W.Write.contents c.serve_fresh.new.writer)) (sym c.in-Fresh.is) (c.in-Ok.ensures o heard ois his whole)

pub returns-in-Ok-serve_written : goal.returns-in-Ok-serve_written
returns-in-Ok-serve_written g c = λ o b heard ois bis his whole told.
    let map : IsMapOf c.args.size b c.in-Written.map = subst (λ (t : Told). IsToldOf c.args.size b t) c.in-Written.is told in
    subst (λ (t : Told). IsServedBy (OrChanged (g.V.Watch.has_told c.args.watch.now) (g.V.Watch.may_change c.args.watch.now) (FailsTold t (g.O.Image.may_fail c.args.origin) (g.C.Image.may_fail c.args.cow) c.args.size)) c.args.size (array_of t o b) o (marks_of t) heard (g.W.Write.contents c.args.writer.now) (g.W.Write.contents c.serve_written.new.writer)) (sym c.in-Written.is) (c.in-Ok-serve_written.ensures o b heard ois bis his whole map)
