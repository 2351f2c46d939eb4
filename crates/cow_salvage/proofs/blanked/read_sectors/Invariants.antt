use Rattle.std.proofs.Common.{◌≡◌, List, ℕ, ◌+◌, ◌*◌, ◌<◌, length, get_or}
use Rattle.std.specs.Prelude.{Some}
use Rattle.cow_salvage.specs.Blanks.{byte_or_blank}
use Rattle.cow_salvage.proofs.blanked.read_sectors.Given as goal

abbrev pub invariant-loop-index : goal.invariant-loop-index
invariant-loop-index g l = record {
  bytes : g.I.Image.bytes l.below ≡ g.I.Image.bytes l.fn.below;
  got : (b : List ℕ) → g.I.Image.bytes l.fn.below ≡ Some b → (i : ℕ) → i < 512 * l.index → get_or l.out i 0 ≡ byte_or_blank l.spans b (512 * l.first + i);
}
