use Rattle.std.proofs.Common.{◌≡◌, List, ℕ, ◌*◌, length, Some}
use Rattle.std.specs.Io.KnownBytes.{Appends}
use Rattle.image_to_dmrig.specs.Loads.{loads_below}
use Rattle.image_to_dmrig.proofs.putting.put_loads.Given as goal

abbrev pub invariant-loop-number : goal.invariant-loop-number
invariant-loop-number g l = record {
  image : g.I.Image.bytes l.image ≡ g.I.Image.bytes l.fn.image;
  room : length l.room ≡ 8192;
  written : (b : List ℕ) → g.I.Image.bytes l.fn.image ≡ Some b → length b ≡ 512 * l.sectors → Appends (g.S.Sink.contents l.fn.sink) (g.S.Sink.contents l.sink) (loads_below l.name b l.number);
}
