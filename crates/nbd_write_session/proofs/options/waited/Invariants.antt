use Rattle.std.specs.Io.KnownBytes.{Keeps}
use Rattle.nbd_write_session.specs.Stream.{left}
use Rattle.nbd_write_session.proofs.options.waited.Given as goal

abbrev pub invariant-loop : goal.invariant-loop
invariant-loop g l = Keeps (left l.fn.input (g.R.Read.remaining l.fn.reader)) (left l.input (g.R.Read.remaining l.reader))
