use Rattle.std.proofs.Common.{◌≡◌, []}
use Rattle.nbd_backend.specs.Calls.{CallsTo}
use Rattle.nbd_write_session.specs.Moved.{MovesCalling}
use Rattle.nbd_write_session.proofs.line.Line.idle.Given as goal

abbrev pub invariant-loop : goal.invariant-loop
invariant-loop g l = record {
  moves : CallsTo g.A.Array.does l.fn.array l.array (MovesCalling l.fn.self l.self);
  input : l.self.input ≡ l.fn.self.input;
  size : l.self.size ≡ l.fn.self.size;
  out : l.self.out.items ≡ l.fn.self.out.items;
  none : l.fn.self.jobs.jobs ≡ [] → l.self.jobs.jobs ≡ [];
}
