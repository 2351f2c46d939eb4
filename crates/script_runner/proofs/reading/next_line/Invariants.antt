use Rattle.std.proofs.Common.{◌≡◌, ◌≤◌, ◌+◌, length, false}
use Rattle.std.specs.Io.KnownBytes.{Keeps}
use Rattle.words.specs.Lines.{left}
use Rattle.words.proofs.LineLemmas.{WithinLine}
use Rattle.script_runner.proofs.PartLemmas.{has_bytes}
use Rattle.script_runner.proofs.reading.next_line.Given as goal

abbrev pub invariant-loop : goal.invariant-loop
invariant-loop g l = record {
  within : WithinLine (65536 + 1) (left l.fn.buffer.ahead (g.R.Read.remaining l.fn.reader)) (left l.buffer.ahead (g.R.Read.remaining l.reader)) (has_bytes l.buffer.line) l.buffer.line;
  own : l.buffer.is_lent ≡ false;
  short : length l.buffer.line ≤ 65536 + 1;
  room : l.fn.buffer.room ≤ l.buffer.room;
  kept : Keeps (g.W.Write.contents l.fn.writer) (g.W.Write.contents l.writer);
}
