use Rattle.std.proofs.Common.{List, [], ℕ, ◌*◌, subst, refl}
use Rattle.std.specs.Io.KnownBytes.{Appends}
use Rattle.std.proofs.KnownBytes.{Appends-nil}
use Rattle.cow_image.specs.Shown.{IsFrontOf}
use Rattle.cow_image.proofs.Exports.{fresh_is}
use Rattle.cow_image.proofs.exporting.export_fresh.Goals as goal

pub returns-in_default-clause-part : goal.returns-in_default-clause-part
returns-in_default-clause-part g c = λ o ois whole. ([], (o, refl), Appends-nil _)

pub returns-in-Ok-write_all-clause-all : goal.returns-in-Ok-write_all-clause-all
returns-in-Ok-write_all-clause-all g c = λ o ois whole.
    let all = rw (c.as_slice-pairs.ensures.value, c.new-pairs.ensures.items) at (c.in-Ok-write_all.ensures.all o c.new.result.items ois refl) in
    subst (λ (xs : List ℕ). Appends (g.S.Sink.contents c.args.sink.now) (g.S.Sink.contents c.write_all.new.sink) xs) (fresh_is 128 (512 * c.args.size) o c.new.result.items whole) all

pub returns-clause-part : goal.returns-clause-part
returns-clause-part g c = λ o ois whole.
    let (front, front_is, appends) = rw (c.as_slice-pairs.ensures.value, c.new-pairs.ensures.items) at (c.in-Err.ensures.part o c.new.result.items ois refl) in
    (front, subst (λ (xs : List ℕ). IsFrontOf front xs) (fresh_is 128 (512 * c.args.size) o c.new.result.items whole) front_is, appends)
