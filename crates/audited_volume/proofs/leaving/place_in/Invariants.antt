use Rattle.std.proofs.Common.{◌≢◌, ◌<◌, ℕ, get_or}
use Rattle.snapshot.specs.Kept.{Kept}
use Rattle.audited_volume.proofs.leaving.place_in.Given as goal

abbrev pub invariant-loop-k : goal.invariant-loop-k
invariant-loop-k g l = (j : ℕ) (d : Kept g.row.B.Denot) → j < l.k → (get_or l.volume.snaps j d).number ≢ l.number
