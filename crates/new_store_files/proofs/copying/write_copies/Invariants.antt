use Rattle.std.proofs.Common.{◌≡◌, ℕ, ◌*◌, ◌-◌, ◌≤◌, List, length, Some}
use Rattle.std.specs.Io.KnownBytes.{Appends}
use Rattle.new_store_files.specs.Parts.{AreCopies}
use Rattle.new_store_files.proofs.copying.write_copies.Given as goal

abbrev pub invariant-loop-done : goal.invariant-loop-done
invariant-loop-done g l = record {
  bytes : g.I.Image.bytes l.image ≡ g.I.Image.bytes l.fn.image;
  inside : l.done ≤ length l.pairs;
  room : length l.room ≡ length l.fn.room;
  written : (b : List ℕ) → g.I.Image.bytes l.fn.image ≡ Some b → (x : List ℕ) × (length x ≡ 512 * (l.chunk * l.done)) × AreCopies l.chunk b l.pairs l.done x × Appends (g.S.Sink.contents l.fn.sink) (g.S.Sink.contents l.sink) x;
}

abbrev pub decreases-loop-done : goal.decreases-loop-done
decreases-loop-done g l = length l.pairs - l.done
