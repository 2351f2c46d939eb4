use Rattle.std.proofs.Common.{◌≡◌, ℕ, ◌-◌, ◌≤◌, List, length, Some}
use Rattle.new_store_files.specs.Changed.{AreChanged}
use Rattle.new_store_files.proofs.changing.compare_all.Given as goal

abbrev pub invariant-loop-done : goal.invariant-loop-done
invariant-loop-done g l = record {
  origin : g.O.Image.bytes l.origin ≡ g.O.Image.bytes l.fn.origin;
  array : g.A.Image.bytes l.array ≡ g.A.Image.bytes l.fn.array;
  theirs : length l.theirs ≡ 1_048_576;
  ours : length l.ours ≡ 1_048_576;
  inside : l.done ≤ l.total;
  told : (o a : List ℕ) → g.O.Image.bytes l.fn.origin ≡ Some o → g.A.Image.bytes l.fn.array ≡ Some a → AreChanged l.chunk o a 0 l.fn.pairs.items → AreChanged l.chunk o a l.done l.pairs.items;
}

abbrev pub decreases-loop-done : goal.decreases-loop-done
decreases-loop-done g l = l.total - l.done
