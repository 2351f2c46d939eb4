-- Each ticket that was taken so far is a copy's, and it was done.
use Rattle.thread_channels.specs.Working.{HasWorked}
use Rattle.thread_channels.proofs.worker.work.Given as goal

abbrev pub invariant-loop : goal.invariant-loop
invariant-loop g l = HasWorked g.C.Copies.does l.fn.pass l.fn.copies l.pass l.copies
