use Rattle.std.proofs.Common.{◌≡◌, ◌+◌, ◌≤◌, ℕ, drop, Some}
use Rattle.nbd_read_session.specs.Blocks.{Array, alike, most_blocks, asked_bytes}
use Rattle.nbd_read_session.proofs.describing.alike_at.Given as goal

abbrev pub invariant-loop-left : goal.invariant-loop-left
invariant-loop-left g l = record {
  inside : l.done ≤ l.count;
  alike : (b : Array) → g.T.Served.shows l.fn.served l.export ≡ Some b → l.done + alike l.left l.blank (drop l.done (asked_bytes l.offset l.count b.bytes)) ≡ alike most_blocks l.blank (asked_bytes l.offset l.count b.bytes);
  shows : (k : ℕ) → g.T.Served.shows l.served k ≡ g.T.Served.shows l.fn.served k;
  calm : (k : ℕ) (from : ℕ) (count : ℕ) → g.T.Served.may_fail l.served k from count → g.T.Served.may_fail l.fn.served k from count;
}

abbrev pub decreases-loop-left : goal.decreases-loop-left
decreases-loop-left g l = l.left
