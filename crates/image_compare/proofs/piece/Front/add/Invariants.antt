use Rattle.std.proofs.Common.{◌≡◌, ℕ, ◌+◌, ◌*◌, ◌≤◌, List, take, drop}
use Rattle.image_compare.specs.Comparisons.{IsFront}
use Rattle.image_compare.proofs.piece.Front.add.Given as goal

abbrev pub invariant-loop-i : goal.invariant-loop-i
invariant-loop-i l = record {
  few : l.self.differing ≤ l.done + l.i;
  told : (a b : List ℕ) → l.ours ≡ take (512 * l.count) (drop (512 * l.done) a) → l.theirs ≡ take (512 * l.count) (drop (512 * l.done) b) → IsFront a b l.done l.fn.self → IsFront a b (l.done + l.i) l.self;
}
