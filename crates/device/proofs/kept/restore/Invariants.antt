use Rattle.std.proofs.Common.{◌≡◌, ◌≢◌, ◌⊎◌, ℕ, ◌+◌, ◌<◌, ◌≤◌, length}
use Rattle.sector.specs.Bytes.{sector_at}
use Rattle.device.specs.declared.mark.Mark.TheVariants.{Kept}
use Rattle.device.specs.Marks.{mark_at}
use Rattle.device.proofs.kept.restore.Given as goal

abbrev pub invariant-loop-i : goal.invariant-loop-i
invariant-loop-i l = record {
  len : length l.now ≡ length l.initial.now;
  back : (k : ℕ) → k < l.i → mark_at l.marks (l.span.first + k) ≡ Kept → sector_at l.now (l.span.first + k) ≡ sector_at l.aside (l.place + k);
  outside : (t : ℕ) → (t < l.span.first) ⊎ (l.span.first + l.span.count ≤ t) → sector_at l.now t ≡ sector_at l.initial.now t;
  others : (t : ℕ) → mark_at l.marks t ≢ Kept → sector_at l.now t ≡ sector_at l.initial.now t;
}
