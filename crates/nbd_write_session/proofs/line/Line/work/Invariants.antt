use Rattle.std.proofs.Common.{◌≡◌, []}
use Rattle.nbd_backend.specs.Calls.{CallsTo}
use Rattle.nbd_write_session.specs.Moved.{MovesSaying}
use Rattle.nbd_write_session.proofs.line.Line.work.Given as goal

abbrev pub invariant-loop : goal.invariant-loop
invariant-loop g l = record {
  moves : CallsTo g.A.Array.does l.fn.array l.array (MovesSaying l.fn.self l.self (g.W.Write.contents l.fn.writer) (g.W.Write.contents l.writer));
  out : l.self.out.items ≡ [];
}
