use Rattle.std.proofs.Common.{◌≡◌, ◌⊎◌, ℕ, ◌<◌, ◌≤◌, length}
use Rattle.device.specs.Marks.{mark_at}
use Rattle.device.proofs.marking.fill.Given as goal

abbrev pub invariant-loop-s : goal.invariant-loop-s
invariant-loop-s l = record {
  len : length l.marks ≡ length l.fn.marks;
  set : (t : ℕ) → l.first ≤ t → t < l.s → mark_at l.marks t ≡ l.mark;
  others : (t : ℕ) → (t < l.first) ⊎ (l.s ≤ t) → mark_at l.marks t ≡ mark_at l.fn.marks t;
}
