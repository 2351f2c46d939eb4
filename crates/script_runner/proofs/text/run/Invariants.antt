use Rattle.std.proofs.Common.{◌<◌}
use Rattle.words.specs.Lines.{left}
use Rattle.script_runner.proofs.RunLemmas.{Follows, HasTaken}
use Rattle.script_runner.proofs.ToldLemmas.{FollowsTold, plainly}
use Rattle.script_runner.proofs.text.run.Given as goal

abbrev pub invariant-loop-lines : goal.invariant-loop-lines
invariant-loop-lines g l = record {
  room : 65536 < l.buffer.room;
  follows : Follows (g.R.Read.remaining l.fn.reader) (left l.buffer.ahead (g.R.Read.remaining l.reader)) (g.W.Write.contents l.fn.writer) (g.W.Write.contents l.writer) l.session;
  told : FollowsTold plainly g.X.Tracer.tells (g.R.Read.remaining l.fn.reader) (left l.buffer.ahead (g.R.Read.remaining l.reader)) (g.W.Write.contents l.fn.writer) (g.W.Write.contents l.writer) l.session l.lines l.fn.tracer l.tracer;
  taken : HasTaken (g.R.Read.remaining l.fn.reader) (left l.buffer.ahead (g.R.Read.remaining l.reader)) l.lines;
}
