-- So many passes are there, and nothing changed.
use Rattle.std.proofs.Common.{◌≡◌, ◌<◌, ℕ, length, get_or}
use Rattle.thread_channels.specs.BoardPasses.{BoardId, Seen}
use Rattle.locked_volume.proofs.boards.Boards.readers.Given as goal

abbrev pub invariant-loop-place : goal.invariant-loop-place
invariant-loop-place l = record {
  same : l.publishers-inside.passes.items ≡ l.fn.publishers;
  many : length l.passes.items ≡ l.place;
  each : (k : ℕ) (d : Seen) (b : BoardId) → k < l.place → (get_or l.passes.items k d).board ≡ get_or l.self k b;
}
