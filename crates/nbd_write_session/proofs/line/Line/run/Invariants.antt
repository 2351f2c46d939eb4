use Rattle.std.proofs.Common.{◌≡◌, false}
use Rattle.std.specs.Io.KnownBytes.{IsAtEnd}
use Rattle.nbd_backend.specs.Calls.{CallsTo}
use Rattle.nbd_write_session.specs.Moved.{Moves}
use Rattle.nbd_write_session.proofs.line.Line.run.Given as goal

abbrev pub invariant-loop : goal.invariant-loop
invariant-loop g l = record {
  moves : CallsTo g.A.Array.does l.fn.array l.array (Moves l.fn.self l.self (g.R.Read.remaining l.fn.reader) (g.R.Read.remaining l.reader) (g.W.Write.contents l.fn.writer) (g.W.Write.contents l.writer));
  size : l.self.size ≡ l.fn.self.size;
  end : l.hears ≡ false → IsAtEnd (g.R.Read.remaining l.reader);
}
