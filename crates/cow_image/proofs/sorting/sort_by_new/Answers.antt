use Rattle.std.proofs.Common.{rules}
use Rattle.std.proofs.lemmas.List.Sorted.{IsNonDecreasingBy-from_sort_by_key}
use Rattle.cow_image.specs.Sorted.{new_of}
use Rattle.cow_image.proofs.sorting.sort_by_new.Goals as goal

pub twice_new-requires : goal.twice_new-requires
twice_new-requires c = rw c.as_slice.ensures.value (IsNonDecreasingBy-from_sort_by_key new_of _ c.sort_unstable_by_key.ensures.sorted (λ a r q k. search rules))
