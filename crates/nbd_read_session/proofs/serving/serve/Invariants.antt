use Rattle.std.proofs.Common.{◌≡◌, ℕ, List, Some}
use Rattle.nbd_read_session.specs.Talk.{AreArrays}
use Rattle.nbd_read_session.proofs.SoFar.{IsSoFar}
use Rattle.nbd_read_session.proofs.serving.serve.Given as goal
use Rattle.nbd_read_session.specs.Blocks.{Array}

abbrev pub invariant-loop : goal.invariant-loop
invariant-loop g l = record {
  shows : (k : ℕ) → g.T.Served.shows l.served k ≡ g.T.Served.shows l.fn.served k;
  calm : (k : ℕ) (from : ℕ) (count : ℕ) → g.T.Served.may_fail l.served k from count → g.T.Served.may_fail l.fn.served k from count;
  so_far : (arrays : ℕ → Array) (heard : List ℕ) → AreArrays (g.T.Served.shows l.fn.served) arrays → g.R.Read.remaining l.fn.reader ≡ Some heard → IsSoFar l.exports arrays (g.T.Served.may_fail l.fn.served) heard (g.R.Read.remaining l.reader) (g.W.Write.contents l.fn.writer) (g.W.Write.contents l.writer) l.session;
}
