use Rattle.std.proofs.Common.{◌≡◌, ℕ, ◌*◌, ◌-◌, ◌≤◌, ◌++◌, List, length, Some}
use Rattle.std.specs.Io.KnownBytes.{Appends}
use Rattle.new_store_files.specs.Parts.{IsFrontOf}
use Rattle.new_store_files.proofs.writing.write_areas.Given as goal

abbrev pub invariant-loop-first : goal.invariant-loop-first
invariant-loop-first g l = record {
  bytes : g.I.Image.bytes l.image ≡ g.I.Image.bytes l.fn.image;
  chunk : l.area.chunk ≡ l.fn.area.chunk;
  room : length l.room ≡ length l.fn.room;
  inside : l.first ≤ length l.pairs;
  few : l.number ≤ l.first;
  at : l.first ≡ l.number * (32 * l.fn.area.chunk);
  written : (b : List ℕ) → g.I.Image.bytes l.fn.image ≡ Some b → (front : List ℕ) → IsFrontOf l.fn.area.chunk b l.pairs 0 front → (x : List ℕ) × IsFrontOf l.fn.area.chunk b l.pairs l.number (front ++ x) × Appends (g.S.Sink.contents l.fn.sink) (g.S.Sink.contents l.sink) x;
}

abbrev pub decreases-loop-first : goal.decreases-loop-first
decreases-loop-first g l = length l.pairs - l.first
