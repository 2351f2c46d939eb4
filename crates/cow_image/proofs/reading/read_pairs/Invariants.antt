use Rattle.std.proofs.Common.{◌≡◌, List, ℕ}
use Rattle.std.specs.Prelude.{Some}
use Rattle.cow_image.specs.Loaded.{IsPrefix}
use Rattle.cow_image.proofs.reading.read_pairs.Given as goal

abbrev pub invariant-loop-current : goal.invariant-loop-current
invariant-loop-current g l = record {
  bytes : g.I.Image.bytes l.cow ≡ g.I.Image.bytes l.fn.cow;
  chunk : l.area.chunk ≡ l.fn.area.chunk;
  prefix : (b : List ℕ) → g.I.Image.bytes l.fn.cow ≡ Some b → IsPrefix l.fn.area.chunk b l.current l.pairs.items;
}
