use Rattle.std.proofs.Common.{◌≡◌, ℕ, ◌<◌, ◌≤◌}
use Rattle.device.specs.Marks.{mark_at}
use Rattle.device.proofs.marking.run_len.Given as goal

abbrev pub invariant-loop-s : goal.invariant-loop-s
invariant-loop-s l = (t : ℕ) → l.first ≤ t → t < l.s → mark_at l.marks t ≡ mark_at l.marks l.first
