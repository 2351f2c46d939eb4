use Rattle.std.proofs.Common.{◌≡◌, ℕ, ◌+◌, ◌*◌, List, take, drop}
use Rattle.cow_salvage.specs.Differences.{AreDifferences}
use Rattle.cow_salvage.proofs.comparing.compare.Given as goal

abbrev pub invariant-loop-i : goal.invariant-loop-i
invariant-loop-i l = record {
  told : (a o : List ℕ) → l.ours ≡ take (512 * l.count) (drop (512 * l.first) a) → l.theirs ≡ take (512 * l.count) (drop (512 * l.first) o) → AreDifferences a o l.first l.fn.spans.items → AreDifferences a o (l.first + l.i) l.spans.items;
}
