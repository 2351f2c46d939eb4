use Rattle.std.proofs.Common.{ℕ, ◌<◌, get_or}
use Rattle.sector.specs.declared.pair.Pair.{Pair}
use Rattle.cow_format.specs.Pairs.{IsApart}
use Rattle.store.specs.Stored.{old_of, new_of}
use Rattle.store.proofs.Marks.{AreMarked}
use Rattle.store.proofs.judging.are_apart.Given as goal

abbrev pub invariant-loop-pair : goal.invariant-loop-pair
invariant-loop-pair l = record {
  olds : AreMarked old_of l.pairs l.pair-index l.olds.items;
  news : AreMarked new_of l.pairs l.pair-index l.news.items;
  apart : (j k : ℕ) (d : Pair) → j < k → k < l.pair-index → IsApart (get_or l.pairs j d) (get_or l.pairs k d);
}
