use Rattle.std.proofs.Common.{◌≡◌, length, vec_capacity}
use Rattle.exception_arena.specs.Links.{pairs_on, AreHung}
use Rattle.exception_arena.proofs.chains.hang_all.Given as goal

abbrev pub invariant-loop-place : goal.invariant-loop-place
invariant-loop-place l = record {
  hung : AreHung l.nodes.items l.heads.items l.place;
  buckets : length l.heads.items ≡ l.buckets;
  pairs : pairs_on l.nodes.items ≡ pairs_on l.fn.nodes.items;
  len : length l.nodes.items ≡ length l.fn.nodes.items;
  capacity : vec_capacity l.nodes ≡ vec_capacity l.fn.nodes;
}
