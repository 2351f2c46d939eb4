use Rattle.std.proofs.Common.{◌≡◌, drop}
use Rattle.exception_arena.proofs.several.abandon_all.Given as goal

abbrev pub invariant-loop-i : goal.invariant-loop-i
invariant-loop-i g l = (g.E.Exceptions.committed l.exceptions ≡ g.E.Exceptions.committed l.fn.exceptions) × (g.E.Exceptions.pending l.exceptions ≡ drop l._i (g.E.Exceptions.pending l.fn.exceptions)) × (g.E.Exceptions.reserved l.exceptions ≡ g.E.Exceptions.reserved l.fn.exceptions) × (g.E.Exceptions.memory l.exceptions ≡ g.E.Exceptions.memory l.fn.exceptions)
