use Rattle.std.proofs.Common.{rules}
use Rattle.std.proofs.lemmas.List.Sorted.{IsNonDecreasingBy-from_sort_by_key}
use Rattle.cow_image.specs.Sorted.{old_of}
use Rattle.cow_image.proofs.sorting.sort_by_old.Goals as goal

pub twice_old-requires : goal.twice_old-requires
twice_old-requires c = rw c.as_slice.ensures.value (IsNonDecreasingBy-from_sort_by_key old_of _ c.sort_unstable_by_key.ensures.sorted (λ a r q k. search rules))
