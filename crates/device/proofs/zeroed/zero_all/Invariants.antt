use Rattle.std.proofs.Common.{◌≡◌, ◌≢◌, ℕ, ◌<◌, length, replicate, take}
use Rattle.sector.specs.Bytes.{sector_at}
use Rattle.device.specs.declared.mark.Mark.TheVariants.{Zero}
use Rattle.device.specs.Listed.{listed, place_in}
use Rattle.device.specs.Marks.{mark_at}
use Rattle.device.proofs.zeroed.zero_all.Given as goal

abbrev pub invariant-loop-span : goal.invariant-loop-span
invariant-loop-span l = record {
  len : length l.now ≡ length l.initial.now;
  zero : (t : ℕ) → mark_at l.marks t ≡ Zero → place_in (listed (take l.span-index l.zeroed)) t < length (listed (take l.span-index l.zeroed)) → sector_at l.now t ≡ replicate 512 0;
  others : (t : ℕ) → mark_at l.marks t ≢ Zero → sector_at l.now t ≡ sector_at l.initial.now t;
}
