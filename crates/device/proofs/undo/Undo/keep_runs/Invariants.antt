use Rattle.std.proofs.Common.{◌≡◌, ◌⊎◌, ◌-◌, ℕ, ◌<◌, ◌≤◌, length, replicate, false}
use Rattle.sector.specs.Bytes.{sector_at}
use Rattle.device.specs.declared.mark.Mark.TheVariants.{Fresh}
use Rattle.device.specs.Listed.{listed}
use Rattle.device.specs.Marks.{mark_at, flushed_at, is_settled}
use Rattle.device.proofs.undo.Undo.keep_runs.Given as goal

abbrev pub invariant-loop-done : goal.invariant-loop-done
invariant-loop-done l = record {
  from : l.first ≤ l.done;
  inside : l.done ≤ l.end;
  len : length l.self.marks.items ≡ length l.fn.self.marks.items;
  kept : (t : ℕ) → l.first ≤ t → t < l.done → is_settled (mark_at l.self.marks.items t) ≡ false;
  others : (t : ℕ) → (t < l.first) ⊎ (l.done ≤ t) → mark_at l.self.marks.items t ≡ mark_at l.fn.self.marks.items t;
  flushed : (t : ℕ) → flushed_at l.now (listed l.self.kept.items) l.self.aside.items l.self.marks.items t ≡ flushed_at l.now (listed l.fn.self.kept.items) l.fn.self.aside.items l.fn.self.marks.items t;
  fresh : (t : ℕ) → mark_at l.self.marks.items t ≡ Fresh → sector_at l.now t ≡ replicate 512 0;
}

abbrev pub decreases-loop-done : goal.decreases-loop-done
decreases-loop-done l = l.end - l.done
