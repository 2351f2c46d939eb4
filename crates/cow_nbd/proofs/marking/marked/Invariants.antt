use Rattle.std.proofs.Common.{◌≡◌, ◌+◌, ◌-◌, ◌≤◌}
use Rattle.cow_nbd.specs.Shows.{has_copy}
use Rattle.nbd_read_session.specs.Blocks.{marked_for}
use Rattle.cow_nbd.proofs.marking.marked.Given as goal

abbrev pub invariant-loop-done : goal.invariant-loop-done
invariant-loop-done l = record {
  few : l.done ≤ l.most;
  told : l.done + marked_for (has_copy l.chunk l.pairs) l.marked (l.most - l.done) (l.at + l.done) ≡ marked_for (has_copy l.chunk l.pairs) l.marked l.most l.at;
}

abbrev pub decreases-loop-done : goal.decreases-loop-done
decreases-loop-done l = l.most - l.done
