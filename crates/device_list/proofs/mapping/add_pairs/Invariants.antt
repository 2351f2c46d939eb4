use Rattle.std.proofs.Common.{◌≡◌, ◌-◌, ◌++◌}
use Rattle.std.specs.Prelude.{None}
use Rattle.cow_format.specs.Picture.{place_of}
use Rattle.table.specs.Runs.{pairs_from, runs_after}
use Rattle.device_list.proofs.mapping.add_pairs.Given as goal

abbrev pub invariant-loop-chunk : goal.invariant-loop-chunk
invariant-loop-chunk l = l.out.items ++ runs_after l.run (pairs_from (place_of l.snap.pairs) l.chunk (l.chunks - l.chunk)) ≡ l.initial.out.items ++ runs_after None (pairs_from (place_of l.snap.pairs) 0 l.chunks)
