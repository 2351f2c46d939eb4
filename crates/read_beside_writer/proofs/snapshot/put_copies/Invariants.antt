use Rattle.std.proofs.Common.{◌≡◌, ℕ, ◌-◌, ◌≤◌, length, get_or, Some}
use Rattle.read_beside_writer.specs.Moments.{Files}
use Rattle.read_beside_writer.specs.Known.{AreOfOrigin, AreShown}
use Rattle.read_beside_writer.proofs.snapshot.put_copies.Given as goal

abbrev pub invariant-loop-done : goal.invariant-loop-done
invariant-loop-done g l = record {
  inside : l.done ≤ length l.out;
  long : length l.out ≡ length l.fn.out;
  history : g.F.MovingFiles.history l.files ≡ g.F.MovingFiles.history l.fn.files;
  later : g.F.MovingFiles.now l.fn.files ≤ g.F.MovingFiles.now l.files;
  rest : (i : ℕ) → l.done ≤ i → get_or l.out i 0 ≡ get_or l.fn.out i 0;
  shown : (h : ℕ → Files) → (first read : ℕ) → g.F.MovingFiles.history l.fn.files ≡ Some h → AreOfOrigin l.chunk h first read (g.F.MovingFiles.now l.fn.files) l.pairs.listed.items l.at l.fn.out → AreShown l.chunk h (g.F.MovingFiles.now l.files) l.at l.out l.done;
}

abbrev pub decreases-loop-done : goal.decreases-loop-done
decreases-loop-done g l = length l.out - l.done
