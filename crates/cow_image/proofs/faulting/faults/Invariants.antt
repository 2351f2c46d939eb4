use Rattle.std.proofs.Common.{◌≡◌, ℕ, ◌++◌, take, drop}
use Rattle.std.specs.HashSet as bag
use Rattle.std.specs.Bool.{nat_eq}
use Rattle.cow_image.specs.Judged.{faults_after, faults_of, stands_in}
use Rattle.cow_image.specs.Sorted.{old_of, new_of}
use Rattle.cow_image.proofs.faulting.faults.Given as goal

abbrev pub invariant-loop-slot : goal.invariant-loop-slot
invariant-loop-slot l = record {
  told : l.faults.items ++ faults_after l.chunk l.origin l.size (take l.slot l.pairs) (drop l.slot l.pairs) ≡ faults_of l.chunk l.origin l.size l.pairs;
  olds : (q : ℕ) → bag.contains nat_eq l.olds q ≡ stands_in old_of (take l.slot l.pairs) q;
  news : (q : ℕ) → bag.contains nat_eq l.news q ≡ stands_in new_of (take l.slot l.pairs) q;
}
