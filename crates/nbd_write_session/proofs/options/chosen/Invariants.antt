use Rattle.std.proofs.Common.{◌≡◌, ℕ, true, List, ◌++◌}
use Rattle.std.specs.Io.KnownBytes.{Appends}
use Rattle.nbd_messages.specs.Replies.{greeting}
use Rattle.nbd_write_session.specs.Come.{Came}
use Rattle.nbd_write_session.specs.Haggling.{goes_on}
use Rattle.nbd_write_session.specs.Stream.{left}
use Rattle.nbd_write_session.proofs.options.chosen.Given as goal

abbrev pub invariant-loop : goal.invariant-loop
invariant-loop g l = record {
  came : (answers : List ℕ) × Came l.exports l.session (left l.fn.input (g.R.Read.remaining l.fn.reader)) (left l.input (g.R.Read.remaining l.reader)) answers
      × Appends (g.W.Write.contents l.fn.writer) (g.W.Write.contents l.writer) (greeting ++ answers);
  still : goes_on l.session.stage ≡ true;
}
