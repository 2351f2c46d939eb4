-- The snapshots so far are done.
use Rattle.std.proofs.Common.{◌≡◌, ◌<◌, ℕ, drop, get_or}
use Rattle.std.specs.List.{list_all}
use Rattle.snapshot.specs.Kept.{Kept}
use Rattle.volume.specs.Leaving.{IsStillOn, is_done_of}
use Rattle.volume.proofs.status.are_done.Given as goal

abbrev pub invariant-loop-s : goal.invariant-loop-s
invariant-loop-s g l = record {
  done : list_all is_done_of l.snaps ≡ list_all is_done_of (drop l.s-index l.snaps);
  still : (i : ℕ) (d : Kept g.row.B.Denot) → i < l.s-index → IsStillOn g.B.Block.contents g.B.Block.layers (get_or l.snaps i d);
}
