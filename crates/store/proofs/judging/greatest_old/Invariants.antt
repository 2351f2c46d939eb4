use Rattle.std.proofs.Common.{take, map}
use Rattle.chunk_alloc.specs.Greatest.{IsGreatest}
use Rattle.store.specs.Stored.{old_of}
use Rattle.store.proofs.judging.greatest_old.Given as goal

abbrev pub invariant-loop-pair : goal.invariant-loop-pair
invariant-loop-pair l = IsGreatest (map old_of (take l.pair-index l.pairs)) l.greatest
