-- A call with its answer, as numbers and bytes: the logic keeps lists of these.
use Rattle.std.specs.Prelude.{ℕ, ◌==◌, Bool, List, Some, None, if◌then◌else◌}
use Rattle.file_calls.specs.Calls.{Call, Len, Read, Write, SetLen, Sync}

-- which kind, two numbers, whether it was answered, and bytes
abbrev pub Note : Type 0
Note = ℕ × ℕ × ℕ × Bool × List ℕ

-- the call that it is. Kinds: 0 asks for the length, 1 reads, 2 writes, 3 sets the length, any other syncs
abbrev pub call_as : ℕ → ℕ → ℕ → Bool → List ℕ → Call
call_as kind a b done bytes =
    if kind == 0 then Len (if done then Some a else None) else (
    if kind == 1 then Read a b (if done then Some bytes else None) else (
    if kind == 2 then Write a bytes done else (
    if kind == 3 then SetLen a done else Sync done (a == 1))))

abbrev pub call_of : Note → Call
call_of note = call_as note.0 note.1 note.2 note.3 note.4
