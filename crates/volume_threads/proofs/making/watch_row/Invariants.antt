-- So many volumes have their passes.
use Rattle.std.proofs.Common.{◌≡◌, ◌<◌, ℕ, List, length, slice_index_or}
use Rattle.thread_channels.specs.BoardPasses.{Seen}
use Rattle.locked_volume.specs.Boards.{AreReaders}
use Rattle.volume_threads.proofs.making.watch_row.Given as goal

abbrev pub invariant-loop-k : goal.invariant-loop-k
invariant-loop-k g l = record {
  same : l.volumes.items ≡ l.fn.volumes.items;
  many : length l.row.items ≡ l.k;
  each : (k : ℕ) (d : List Seen) → k < l.k → AreReaders (g.J.Room.boards k) (slice_index_or l.row.items k d);
}
