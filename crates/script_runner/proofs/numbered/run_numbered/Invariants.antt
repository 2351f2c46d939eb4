use Rattle.std.proofs.Common.{◌<◌}
use Rattle.words.specs.Lines.{left}
use Rattle.script_runner.proofs.NumberedLemmas.{FollowsEach}
use Rattle.script_runner.proofs.RunLemmas.{HasTaken}
use Rattle.script_runner.specs.Numbered.{numbered_from}
use Rattle.script_runner.proofs.ToldLemmas.{FollowsTold}
use Rattle.script_runner.proofs.numbered.run_numbered.Given as goal

abbrev pub invariant-loop-lines : goal.invariant-loop-lines
invariant-loop-lines g l = record {
  room : 65536 < l.buffer.room;
  follows : FollowsEach (g.R.Read.remaining l.fn.reader) (left l.buffer.ahead (g.R.Read.remaining l.reader)) (g.W.Write.contents l.fn.writer) (g.W.Write.contents l.writer) l.session l.lines;
  told : FollowsTold (numbered_from 1) g.X.Tracer.tells (g.R.Read.remaining l.fn.reader) (left l.buffer.ahead (g.R.Read.remaining l.reader)) (g.W.Write.contents l.fn.writer) (g.W.Write.contents l.writer) l.session l.lines l.fn.tracer l.tracer;
  taken : HasTaken (g.R.Read.remaining l.fn.reader) (left l.buffer.ahead (g.R.Read.remaining l.reader)) l.lines;
}
