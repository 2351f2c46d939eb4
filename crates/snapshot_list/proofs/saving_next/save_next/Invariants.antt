-- The snapshots before the present one are saved.
use Rattle.snapshot_list.specs.Starting.{next_chunk_of}
use Rattle.snapshot_list.proofs.NextStarts.{IsNextSavedBelow}
use Rattle.snapshot_list.proofs.saving_next.save_next.Given as goal

abbrev pub invariant-loop-k : goal.invariant-loop-k
invariant-loop-k g l = IsNextSavedBelow g.B.Block.contents g.B.Block.layers (next_chunk_of l.first l.count) l.k l.fn.snaps l.snaps l.copies l.given l.fn.flights l.flights
