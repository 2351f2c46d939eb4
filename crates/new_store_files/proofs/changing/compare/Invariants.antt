use Rattle.std.proofs.Common.{◌≡◌, ℕ, ◌+◌, ◌*◌, List, take, drop}
use Rattle.new_store_files.specs.Changed.{AreChanged}
use Rattle.new_store_files.proofs.changing.compare.Given as goal

abbrev pub invariant-loop-index : goal.invariant-loop-index
invariant-loop-index l = record {
  told : (o a : List ℕ) → l.theirs ≡ take (512 * (l.chunk * l.count)) (drop (512 * (l.chunk * l.first)) o) → l.ours ≡ take (512 * (l.chunk * l.count)) (drop (512 * (l.chunk * l.first)) a) → AreChanged l.chunk o a l.first l.fn.pairs.items → AreChanged l.chunk o a (l.first + l.index) l.pairs.items;
}
