use Rattle.std.proofs.Common.{◌≡◌, ℕ, ◌-◌, ◌≤◌, List, length}
use Rattle.std.specs.Prelude.{Some}
use Rattle.image_compare.specs.Comparisons.{IsFront}
use Rattle.image_compare.proofs.comparing.compare_front.Given as goal

abbrev pub invariant-loop-done : goal.invariant-loop-done
invariant-loop-done g l = record {
  one : g.A.Image.bytes l.one ≡ g.A.Image.bytes l.fn.one;
  other : g.B.Image.bytes l.other ≡ g.B.Image.bytes l.fn.other;
  ours : length l.ours ≡ 1_048_576;
  theirs : length l.theirs ≡ 1_048_576;
  inside : l.done ≤ l.end;
  few : l.front.differing ≤ l.done;
  told : (a b : List ℕ) → g.A.Image.bytes l.fn.one ≡ Some a → g.B.Image.bytes l.fn.other ≡ Some b → IsFront a b l.done l.front;
}

abbrev pub decreases-loop-done : goal.decreases-loop-done
decreases-loop-done g l = l.end - l.done
