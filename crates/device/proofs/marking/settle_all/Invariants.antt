use Rattle.std.proofs.Common.{◌≡◌, ◌⊎◌, ℕ, ◌<◌, length, take}
use Rattle.device.specs.declared.mark.Mark.TheVariants.{Same}
use Rattle.device.specs.Listed.{listed, place_in}
use Rattle.device.specs.Marks.{mark_at}
use Rattle.device.proofs.marking.settle_all.Given as goal

abbrev pub invariant-loop-span : goal.invariant-loop-span
invariant-loop-span l = record {
  len : length l.marks.items ≡ length l.initial.marks.items;
  settled : (t : ℕ) → place_in (listed (take l.span-index l.spans)) t < length (listed (take l.span-index l.spans)) → mark_at l.marks.items t ≡ Same;
  others : (t : ℕ) → (mark_at l.marks.items t ≡ Same) ⊎ (mark_at l.marks.items t ≡ mark_at l.initial.marks.items t);
}
