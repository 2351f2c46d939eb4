-- Which operations a device is asked to do ahead. This project's own.
use Rattle.std.specs.Prelude.{ℕ, ◌+◌, ◌<◌, ◌≤◌}
use Rattle.device.specs.declared.operation.Operation.{Operation}
use Rattle.device.specs.declared.operation.Operation.TheVariants.{Reads, Writes, Flushes}

-- A read of sectors of a device of `size`, at most as many as a chunk may have, which are 1024; any write; a flush.
abbrev pub CanDoAhead : ℕ → Operation → Type 0
CanDoAhead size (Reads first count) = (0 < count) × (count ≤ 1024) × (first + count ≤ size)
CanDoAhead size (Writes first count) = Unit {0}
CanDoAhead size Flushes = Unit {0}

-- whether an operation is a write: one that is answered says that all are
abbrev pub IsWrite : Operation → Type 0
IsWrite (Reads first count) = ⊥
IsWrite (Writes first count) = Unit {0}
IsWrite Flushes = ⊥
