use Rattle.std.proofs.Common.{◌≡◌, List, ℕ, ◌+◌, ◌*◌, ◌<◌, ◌≤◌}
use Rattle.std.specs.Prelude.{Some}
use Rattle.cow_format.specs.Places.{area_place, slot}
use Rattle.cow_salvage.specs.Used.{used_below}
use Rattle.cow_salvage.proofs.using.read_used.Given as goal

abbrev pub invariant-loop-current : goal.invariant-loop-current
invariant-loop-current g l = record {
  bytes : g.I.Image.bytes l.cow ≡ g.I.Image.bytes l.fn.cow;
  chunk : l.area.chunk ≡ l.chunk;
  inside : (a : ℕ) → a < l.current → l.chunk * (area_place l.chunk a + 1) ≤ l.size;
  all : (b : List ℕ) → g.I.Image.bytes l.fn.cow ≡ Some b → l.slots.items ≡ used_below (slot l.chunk b) (l.current * (32 * l.chunk));
}
