-- The deeds so far were done, and there is room for the answers of all.
use Rattle.std.proofs.Common.{◌≡◌, ◌≤◌, length}
use Rattle.std.specs.Vec.{vec_capacity}
use Rattle.volume_lifetime.proofs.Lasts.{ArePassed}
use Rattle.volume_lifetime.proofs.living.live.Given as goal

abbrev pub invariant-loop-deed : goal.invariant-loop-deed
invariant-loop-deed g l = record {
  passed : ArePassed g.B.Block.may_hold (record { contents = g.B.Block.contents; durable = g.B.Block.durable; size = g.B.Block.size; faults = g.B.Block.fault_count; done = g.B.Block.done_count }) g.B.Block.layers l.yielded l.answers.items l.fn.volume l.volume;
  count : length l.answers.items ≡ length l.yielded;
  room : length l.fn.deeds.items ≤ vec_capacity l.answers;
}
