use Rattle.std.proofs.Common.{◌≡◌, List, ℕ, ◌*◌, subst}
use Rattle.std.specs.Io.KnownBytes.{Appends}
use Rattle.sector.specs.declared.pair.Pair.{Pair}
use Rattle.cow_image.specs.Shown.{shown, IsFrontOf}
use Rattle.cow_salvage.specs.Kept.{sifted}
use Rattle.cow_salvage.proofs.Orders.{kept_differ, shown_moved}
use Rattle.cow_salvage.proofs.saving.export_kept.Goals as goal

pub returns-in-Ok-export_pairs-clause-all : goal.returns-in-Ok-export_pairs-clause-all
returns-in-Ok-export_pairs-clause-all g c = λ o b ois bis.
    let kept : List Pair = (sifted c.args.chunk c.args.size c.args.sectors c.args.slots.now).kept in
    let all = rw c.as_slice.ensures.value at (c.in-Ok-export_pairs.ensures.all o b ois bis) in
    subst (λ (xs : List ℕ). Appends (g.S.Sink.contents c.args.sink.now) (g.S.Sink.contents c.export_pairs.new.sink) xs)
    (shown_moved c.args.chunk o b kept c.in-Ok.saved.pairs.items 0 (512 * c.args.size) c.in-Ok.ensures.kept (kept_differ c.args.chunk c.args.size c.args.sectors c.args.slots.now)) all

pub returns-in-Err-export_pairs-clause-part : goal.returns-in-Err-export_pairs-clause-part
returns-in-Err-export_pairs-clause-part g c = λ o b ois bis.
    let kept : List Pair = (sifted c.args.chunk c.args.size c.args.sectors c.args.slots.now).kept in
    let (front, front_is, appends) = rw c.as_slice.ensures.value at (c.in-Err-export_pairs.ensures.part o b ois bis) in (
      front,
      subst (λ (xs : List ℕ). IsFrontOf front xs) (shown_moved c.args.chunk o b kept c.in-Ok.saved.pairs.items 0 (512 * c.args.size) c.in-Ok.ensures.kept (kept_differ c.args.chunk c.args.size c.args.sectors c.args.slots.now)) front_is,
      appends,
    )
