use Rattle.std.proofs.Common.{◌≡◌, ◌-◌, take, length}
use Rattle.exception_arena.proofs.several.remove_last.Given as goal

abbrev pub invariant-loop-i : goal.invariant-loop-i
invariant-loop-i g l = (g.E.Exceptions.committed l.exceptions ≡ take (length (g.E.Exceptions.committed l.fn.exceptions) - l.i) (g.E.Exceptions.committed l.fn.exceptions)) × (g.E.Exceptions.pending l.exceptions ≡ g.E.Exceptions.pending l.fn.exceptions) × (g.E.Exceptions.reserved l.exceptions ≡ g.E.Exceptions.reserved l.fn.exceptions) × (g.E.Exceptions.memory l.exceptions ≡ g.E.Exceptions.memory l.fn.exceptions)
