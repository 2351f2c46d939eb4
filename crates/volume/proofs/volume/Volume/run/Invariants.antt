-- The calls so far were done, and there is room for the answers of all.
use Rattle.std.proofs.Common.{◌≡◌, ◌≤◌, length, true}
use Rattle.std.specs.Vec.{vec_capacity}
use Rattle.volume.specs.AddedUp.{OpensOnly}
use Rattle.volume.specs.Running.{AreReturned}
use Rattle.volume.specs.Volumed.{is_loud_in_all}
use Rattle.volume.proofs.AddedUp.{AsksOnly}
use Rattle.volume.proofs.volume.Volume.run.Given as goal

abbrev pub invariant-loop-call : goal.invariant-loop-call
invariant-loop-call g l = record {
  done : AreReturned (record { contents = g.B.Block.contents; durable = g.B.Block.durable; size = g.B.Block.size; faults = g.B.Block.fault_count; done = g.B.Block.done_count }) g.B.Block.layers l.yielded l.returned.items l.fn.self l.self;
  opens : is_loud_in_all g.B.Block.layers l.fn.self ≡ true → OpensOnly g.B.Block.may_hold g.B.Block.size l.yielded l.fn.self l.self;
  asks : is_loud_in_all g.B.Block.layers l.fn.self ≡ true → AsksOnly l.yielded l.fn.self l.self;
  count : length l.returned.items ≡ length l.yielded;
  room : length l.fn.calls.items ≤ vec_capacity l.returned;
}
