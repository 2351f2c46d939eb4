use Rattle.std.proofs.Common.{arith, take, drop, take-append-drop}
use Rattle.std.proofs.lemmas.Grind.{common_steps}
use Rattle.image.proofs.mem_sink.MemSinkSink.put.Goals as goal

pub returns-then-self-bytes-clause-part : goal.returns-then-self-bytes-clause-part
returns-then-self-bytes-clause-part c = (
  take c.args.self.now.room c.args.bytes.now,
  drop c.args.self.now.room c.args.bytes.now,
  take-append-drop c.args.self.now.room c.args.bytes.now,
  grind (arith, common_steps, c.in_ok-extend_from_slice.ensures.items),
)
