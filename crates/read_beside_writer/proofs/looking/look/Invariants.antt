use Rattle.std.proofs.Common.{◌≡◌, ℕ, ◌≤◌, Some}
use Rattle.read_beside_writer.specs.Moments.{Files, IsSaving}
use Rattle.read_beside_writer.specs.Known.{AreKnown}
use Rattle.read_beside_writer.proofs.looking.look.Given as goal

abbrev pub invariant-loop : goal.invariant-loop
invariant-loop g l = record {
  known : (h : ℕ → Files) → g.F.MovingFiles.history l.fn.files ≡ Some h → IsSaving l.chunk h → AreKnown l.chunk h (g.F.MovingFiles.now l.fn.files) l.fn.pairs.listed.items → AreKnown l.chunk h (g.F.MovingFiles.now l.files) l.pairs.listed.items;
  history : g.F.MovingFiles.history l.files ≡ g.F.MovingFiles.history l.fn.files;
  later : g.F.MovingFiles.now l.fn.files ≤ g.F.MovingFiles.now l.files;
}
