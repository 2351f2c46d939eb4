use Rattle.std.proofs.Common.{ℕ, ◌+◌, ◌*◌, ◌<◌, List, length, false, refl, subst}
use Rattle.cow_image.proofs.Exports.{fresh_is}
use Rattle.cow_nbd.specs.Shows.{IsServedBy, FailsAt, FailsFresh, OrChanged}
use Rattle.cow_nbd.proofs.Arrays.{served_fresh, fresh_marks}
use Rattle.cow_nbd.proofs.serving.serve_fresh.Goals as goal

pub returns-in-Ok : goal.returns-in-Ok
returns-in-Ok g c = λ o heard ois his whole.
    let served = rw c.new-2.ensures.items at (served_fresh (g.V.Watch.has_told c.args.watch.now) (g.V.Watch.may_change c.args.watch.now) (g.O.Image.may_fail c.args.origin) (λ k n. length c.new.result.items < k + n) c.args.size _ _ o (λ _. false) heard _ _ c.new-2.ensures.items (fresh_marks (g.V.Watch.has_told c.args.watch.now) (g.V.Watch.may_change c.args.watch.now) (FailsAt (g.O.Image.may_fail c.args.origin) (λ k n. length c.new.result.items < k + n) 128 c.new-2.result.items c.args.size) c.args.size c.new-2.result.items _ o heard _ _ c.new-2.ensures.items (c.in-Ok.ensures o c.new.result.items heard ois refl his))) in
    subst (λ (xs : List ℕ). IsServedBy (OrChanged (g.V.Watch.has_told c.args.watch.now) (g.V.Watch.may_change c.args.watch.now) (FailsFresh (g.O.Image.may_fail c.args.origin) c.args.size)) c.args.size xs o (λ _. false) heard (g.W.Write.contents c.args.writer.now) (g.W.Write.contents c.serve_pictures.new.writer)) (fresh_is 128 (512 * c.args.size) o c.new.result.items whole) served
