use Rattle.exception_arena.proofs.Numbers.{IsPast}
use Rattle.exception_arena.proofs.pending.place_under.Given as goal

abbrev pub invariant-loop-place : goal.invariant-loop-place
invariant-loop-place l = IsPast l.id l.pending.items l.place
