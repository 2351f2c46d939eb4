use Rattle.std.proofs.Common.{◌≡◌, ◌⊎◌, ℕ, ◌<◌, ◌≤◌, length}
use Rattle.device.specs.Marks.{mark_at, put_mark}
use Rattle.device.proofs.marking.put_all.Given as goal

abbrev pub invariant-loop-s : goal.invariant-loop-s
invariant-loop-s l = record {
  len : length l.marks.items ≡ length l.initial.marks.items;
  put : (t : ℕ) → l.first ≤ t → t < l.s → mark_at l.marks.items t ≡ put_mark (mark_at l.initial.marks.items t);
  others : (t : ℕ) → (t < l.first) ⊎ (l.s ≤ t) → mark_at l.marks.items t ≡ mark_at l.initial.marks.items t;
}
