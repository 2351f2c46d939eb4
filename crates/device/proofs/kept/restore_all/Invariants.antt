use Rattle.std.proofs.Common.{◌≡◌, ◌≢◌, ℕ, ◌<◌, length, take}
use Rattle.sector.specs.Bytes.{sector_at}
use Rattle.device.specs.declared.mark.Mark.TheVariants.{Kept}
use Rattle.device.specs.Listed.{listed, place_in}
use Rattle.device.specs.Marks.{mark_at}
use Rattle.device.proofs.kept.restore_all.Given as goal

abbrev pub invariant-loop-span : goal.invariant-loop-span
invariant-loop-span l = record {
  place : l.place ≡ length (listed (take l.span-index l.kept));
  len : length l.now ≡ length l.initial.now;
  back : (t : ℕ) → mark_at l.marks t ≡ Kept → place_in (listed l.kept) t < l.place → sector_at l.now t ≡ sector_at l.aside (place_in (listed l.kept) t);
  others : (t : ℕ) → mark_at l.marks t ≢ Kept → sector_at l.now t ≡ sector_at l.initial.now t;
}
