use Rattle.std.proofs.Common.{List, sym, subst, take}
use Rattle.sector.specs.declared.pair.Pair.{Pair}
use Rattle.cow_image.specs.Sorted.{old_of}
use Rattle.cow_image.proofs.Sorts.{Differ}
use Rattle.cow_salvage.proofs.Orders.{differ_if, differ_drop}
use Rattle.cow_salvage.proofs.saving.save.Goals as goal

pub in_order-pairs-requires : goal.in_order-pairs-requires
in_order-pairs-requires c = differ_if c.in-Ok.sifted.kept.items c.args.chunk c.args.origin c.args.size c.args.slots.now c.in-Ok.ensures.kept

pub in_order-certain-requires : goal.in_order-certain-requires
in_order-certain-requires c = differ_if c.in-Ok-sift.first.kept.items c.args.chunk c.args.origin c.args.size (take c.args.front c.args.slots.now) c.in-Ok-sift.ensures.kept

pub in_order-doubtful-requires : goal.in_order-doubtful-requires
in_order-doubtful-requires c =
    let kept = differ_if c.in-Ok.sifted.kept.items c.args.chunk c.args.origin c.args.size c.args.slots.now c.in-Ok.ensures.kept in
    let slice : Differ old_of c.as_slice.result.now = subst (λ (ks : List Pair). Differ old_of ks) (sym c.as_slice.ensures.value) kept in
    subst (λ (ks : List Pair). Differ old_of ks) (sym c.in-Ok-pairs_after.ensures) (differ_drop c.as_slice.result.now c.len.result slice)
