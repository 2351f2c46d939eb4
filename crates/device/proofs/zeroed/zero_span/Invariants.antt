use Rattle.std.proofs.Common.{◌≡◌, ◌≢◌, ℕ, ◌<◌, ◌≤◌, length, replicate}
use Rattle.sector.specs.Bytes.{sector_at}
use Rattle.device.specs.declared.mark.Mark.TheVariants.{Zero}
use Rattle.device.specs.Marks.{mark_at}
use Rattle.device.proofs.zeroed.zero_span.Given as goal

abbrev pub invariant-loop-s : goal.invariant-loop-s
invariant-loop-s l = record {
  len : length l.now ≡ length l.initial.now;
  zero : (t : ℕ) → mark_at l.marks t ≡ Zero → l.first ≤ t → t < l.s → sector_at l.now t ≡ replicate 512 0;
  still : (t : ℕ) → sector_at l.initial.now t ≡ replicate 512 0 → sector_at l.now t ≡ replicate 512 0;
  others : (t : ℕ) → mark_at l.marks t ≢ Zero → sector_at l.now t ≡ sector_at l.initial.now t;
}
