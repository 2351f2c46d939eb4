use Rattle.std.proofs.Common.{List, ℕ, ◌*◌, subst}
use Rattle.std.specs.Io.KnownBytes.{Appends}
use Rattle.cow_image.specs.Shown.{IsFrontOf}
use Rattle.cow_image.proofs.Exports.{picture_is}
use Rattle.cow_image.proofs.exporting.export.Goals as goal

pub returns-in-Ok-clause-all : goal.returns-in-Ok-clause-all
returns-in-Ok-clause-all g c = λ o b ois bis whole is.
    let all = rw c.as_slice-pairs.ensures.value at (c.in-Ok.ensures.all o b ois bis) in
    subst (λ (xs : List ℕ). Appends (g.S.Sink.contents c.args.sink.now) (g.S.Sink.contents c.export_pairs.new.sink) xs) (picture_is c.args.size (512 * c.args.size) o b c.args.map.now whole is) all

pub returns-in-Err-clause-part : goal.returns-in-Err-clause-part
returns-in-Err-clause-part g c = λ o b ois bis whole is.
    let (front, front_is, appends) = rw c.as_slice-pairs.ensures.value at (c.in-Err.ensures.part o b ois bis) in
    (front, subst (λ (xs : List ℕ). IsFrontOf front xs) (picture_is c.args.size (512 * c.args.size) o b c.args.map.now whole is) front_is, appends)
