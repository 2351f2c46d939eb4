use Rattle.std.proofs.Common.{◌≤◌, ◌-◌}
use Rattle.nbd_read_session.specs.Heard.{IsRead}
use Rattle.nbd_read_session.proofs.hearing.skip.Given as goal

abbrev pub invariant-loop-left : goal.invariant-loop-left
invariant-loop-left g l = record {
  few : l.left ≤ l.count;
  read : IsRead (g.R.Read.remaining l.fn.reader) (g.R.Read.remaining l.reader) (l.count - l.left);
}

abbrev pub decreases-loop-left : goal.decreases-loop-left
decreases-loop-left g l = l.left
