use Rattle.std.proofs.Common.{ℕ, ◌*◌, List, subst}
use Rattle.cow_image.proofs.Exports.{picture_is}
use Rattle.cow_nbd.specs.Shows.{IsServedBy, has_copy, FailsAt, OrChanged}
use Rattle.cow_nbd.proofs.serving.serve_written.Goals as goal

pub returns-in-Ok : goal.returns-in-Ok
returns-in-Ok g c = λ o b heard ois bis his whole is.
    subst (λ (xs : List ℕ). IsServedBy (OrChanged (g.V.Watch.has_told c.args.watch.now) (g.V.Watch.may_change c.args.watch.now) (FailsAt (g.O.Image.may_fail c.args.origin) (g.C.Image.may_fail c.args.cow) c.args.map.chunk c.args.map.pairs.items c.args.size)) c.args.size xs o (has_copy c.args.map.chunk c.args.map.pairs.items) heard (g.W.Write.contents c.args.writer.now) (g.W.Write.contents c.serve_pictures.new.writer)) (picture_is c.args.size (512 * c.args.size) o b c.args.map whole is) (c.in-Ok.ensures o b heard ois bis his)
