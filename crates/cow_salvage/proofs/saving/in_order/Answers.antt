use Rattle.cow_image.specs.Sorted.{old_of}
use Rattle.cow_image.proofs.Sorts.{twice_not_apart}
use Rattle.cow_salvage.proofs.saving.in_order.Goals as goal

pub unreachable-requires : goal.unreachable-requires
unreachable-requires c =
    twice_not_apart old_of c.args.pairs.items c.sort_by_old.new.pairs.items c.in-Some.field-0 c.sort_by_old.ensures.moved c.in-Some.ensures.rising c.requires
