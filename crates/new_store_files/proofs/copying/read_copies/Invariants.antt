use Rattle.std.proofs.Common.{◌≡◌, ℕ, ◌*◌, ◌-◌, ◌≤◌, List, length, Some}
use Rattle.new_store_files.specs.Parts.{AreCopies}
use Rattle.new_store_files.proofs.copying.read_copies.Given as goal

abbrev pub invariant-loop-done : goal.invariant-loop-done
invariant-loop-done g l = record {
  bytes : g.I.Image.bytes l.image ≡ g.I.Image.bytes l.fn.image;
  inside : l.done ≤ length l.pairs;
  long : length l.out ≡ 512 * (l.chunk * length l.pairs);
  read : (b : List ℕ) → g.I.Image.bytes l.fn.image ≡ Some b → AreCopies l.chunk b l.pairs l.done l.out;
}

abbrev pub decreases-loop-done : goal.decreases-loop-done
decreases-loop-done g l = length l.pairs - l.done
