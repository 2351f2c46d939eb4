use Rattle.std.proofs.Common.{◌≡◌, ◌+◌, ◌-◌, ◌++◌, length, take, vec_capacity}
use Rattle.exception_arena.specs.Links.{pairs_on, AreHung}
use Rattle.exception_arena.specs.Arenas.{HasRoom}
use Rattle.exception_arena.proofs.arena.Arena.hold.Given as goal

abbrev pub invariant-loop-pair : goal.invariant-loop-pair
invariant-loop-pair l = record {
  hung : AreHung l.self-inside.nodes.items l.self-inside.heads.items (length l.self-inside.nodes.items);
  room : HasRoom l.self-inside.nodes.items l.self-inside.heads.items (l.more - l.pair-index) (vec_capacity l.self-inside.nodes);
  committed : pairs_on l.self-inside.nodes.items ≡ l.fn.self.committed ++ take l.pair-index l.pairs;
  pending : l.self-inside.pending ≡ l.initial.self-inside.pending;
  next : l.self-inside.next ≡ l.initial.self-inside.next;
  reserved : l.self-inside.reserved ≡ l.initial.self-inside.reserved;
}
