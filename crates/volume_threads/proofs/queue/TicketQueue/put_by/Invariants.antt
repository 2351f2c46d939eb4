-- Tickets were put so far, and none was taken.
use Rattle.thread_channels.specs.Working.{HasPut}
use Rattle.volume_threads.proofs.queue.TicketQueue.put_by.Given as goal

abbrev pub invariant-loop-copy : goal.invariant-loop-copy
invariant-loop-copy g l = HasPut l.fn.pass l.pass
