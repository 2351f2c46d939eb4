use Rattle.std.proofs.Common.{◌≡◌, List, ℕ, ◌-◌, ◌≤◌, length, take, Some}
use Rattle.cow_image.specs.Shown.{shown}
use Rattle.cow_image.proofs.ranging.show_range.Given as goal

abbrev pub invariant-loop-done : goal.invariant-loop-done
invariant-loop-done g l = record {
  origin : g.O.Image.bytes l.origin ≡ g.O.Image.bytes l.fn.origin;
  cow : g.C.Image.bytes l.cow ≡ g.C.Image.bytes l.fn.cow;
  calm : (k n : ℕ) → g.O.Image.may_fail l.origin k n → g.O.Image.may_fail l.fn.origin k n;
  calm_cow : (k n : ℕ) → g.C.Image.may_fail l.cow k n → g.C.Image.may_fail l.fn.cow k n;
  inside : l.done ≤ length l.out;
  long : length l.out ≡ length l.fn.out;
  read : (o b : List ℕ) → g.O.Image.bytes l.fn.origin ≡ Some o → g.C.Image.bytes l.fn.cow ≡ Some b → take l.done l.out ≡ shown l.chunk o b l.pairs l.at l.done;
}

abbrev pub decreases-loop-done : goal.decreases-loop-done
decreases-loop-done g l = length l.out - l.done
