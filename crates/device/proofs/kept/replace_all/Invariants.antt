use Rattle.std.proofs.Common.{◌≡◌, ◌⊎◌, ℕ, ◌+◌, ◌<◌, ◌≤◌, length, take, slice_index}
use Rattle.sector.specs.Bytes.{sector_at}
use Rattle.device.specs.Listed.{listed}
use Rattle.device.proofs.kept.replace_all.Given as goal

abbrev pub invariant-loop-span : goal.invariant-loop-span
invariant-loop-span l = record {
  place : l.place ≡ length (listed (take l.span-index l.kept));
  len : length l.aside ≡ length l.initial.aside;
  replaced : (j : ℕ) → j < l.place → l.first ≤ slice_index (listed l.kept) j → slice_index (listed l.kept) j < l.first + l.count → sector_at l.aside j ≡ sector_at l.now (slice_index (listed l.kept) j);
  later : (j : ℕ) → l.place ≤ j → sector_at l.aside j ≡ sector_at l.initial.aside j;
  others : (j : ℕ) → j < l.place → (slice_index (listed l.kept) j < l.first) ⊎ (l.first + l.count ≤ slice_index (listed l.kept) j) → sector_at l.aside j ≡ sector_at l.initial.aside j;
}
