use Rattle.std.proofs.Common.{◌≡◌, take}
use Rattle.exception_arena.specs.Pending.{pairs}
use Rattle.store.specs.Slots.{IsPut}
use Rattle.store.proofs.committing.put_first.Given as goal

abbrev pub invariant-loop-i : goal.invariant-loop-i
invariant-loop-i g l = record {
  chunk : l.area.chunk ≡ l.initial.area.chunk;
  put : IsPut l.initial.area.bytes.items l.slot (pairs (take l.i (g.E.Exceptions.pending l.exceptions))) l.area.bytes.items;
}
