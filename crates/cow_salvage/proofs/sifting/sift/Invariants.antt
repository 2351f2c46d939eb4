use Rattle.std.proofs.Common.{◌≡◌, ℕ, take}
use Rattle.std.specs.HashSet as bag
use Rattle.std.specs.Bool.{nat_eq}
use Rattle.cow_image.specs.Judged.{stands_in}
use Rattle.cow_image.specs.Sorted.{old_of, new_of}
use Rattle.cow_salvage.specs.Kept.{sifted}
use Rattle.cow_salvage.proofs.sifting.sift.Given as goal

abbrev pub invariant-loop-slot : goal.invariant-loop-slot
invariant-loop-slot l = record {
  kept : l.sifted.kept.items ≡ (sifted l.chunk l.origin l.size (take l.slot-index l.slots)).kept;
  skipped : l.sifted.skipped.items ≡ (sifted l.chunk l.origin l.size (take l.slot-index l.slots)).skipped;
  olds : (q : ℕ) → bag.contains nat_eq l.taken.olds q ≡ stands_in old_of l.sifted.kept.items q;
  news : (q : ℕ) → bag.contains nat_eq l.taken.news q ≡ stands_in new_of l.sifted.kept.items q;
}
