use Rattle.std.proofs.Common.{◌≡◌, drop}
use Rattle.cow_format.specs.Picture.{place_of}
use Rattle.exception_arena.proofs.plain.find.Given as goal

abbrev pub invariant-loop-pair : goal.invariant-loop-pair
invariant-loop-pair l = place_of l.pairs l.old ≡ place_of (drop l.pair-index l.pairs) l.old
