-- How a run ended. It is this project's own.
use Rattle.std.specs.Prelude.{◌==◌, ◌≢◌, ◌≤◌, ◌^◌, ◌-◌, ℕ, List, length, if◌then◌else◌, ⊤, Option, Result, Ok, Err, IfSome}
use Rattle.std.specs.Io.KnownBytes.{Keeps}
use Rattle.std.specs.declared.io.ErrorKind.TheVariants.{Interrupted}
use Rattle.words.specs.Lines.{lines_of}
use Rattle.script_runner.specs.declared.error.RunError.{RunError}
use Rattle.script_runner.specs.declared.error.RunError.TheVariants.{Memory, Read, Write, Endless}
use Rattle.script_runner.specs.declared.summary.Summary.{Summary}

-- 0, 1 where a line that begins with `err` was printed, or 2 where the run ended early
abbrev pub status_of : Result Summary RunError → ℕ
status_of (Ok summary) = if summary.refused == 0 then 0 else 1
status_of (Err error) = 2

-- it was the writer that failed
abbrev pub IsWriters : RunError → Type 0
IsWriters Memory = ⊥
IsWriters (Read error) = ⊥
IsWriters (Write error) = ⊤
IsWriters Endless = ⊥

-- memory was refused
abbrev pub IsMemory : RunError → Type 0
IsMemory Memory = ⊤
IsMemory (Read error) = ⊥
IsMemory (Write error) = ⊥
IsMemory Endless = ⊥

-- the reader or the writer failed; a reader's error is no interruption
abbrev pub IsStreams : RunError → Type 0
IsStreams Memory = ⊥
IsStreams (Read error) = error.kind ≢ Interrupted
IsStreams (Write error) = ⊤
IsStreams Endless = ⊥

-- Why a run ended early, by what the reader had and has left and what the writer held and holds. Where memory was refused
-- nothing was read or printed. The reader's error is no interruption. No run is too long but one of more lines than 2^64 - 2.
abbrev pub IsEarly : Option (List ℕ) → Option (List ℕ) → Option (List ℕ) → Option (List ℕ) → RunError → Type 0
IsEarly text left before now Memory = Keeps text left × Keeps before now
IsEarly text left before now (Read error) = error.kind ≢ Interrupted
IsEarly text left before now (Write error) = ⊤
IsEarly text left before now Endless = IfSome text (λ bytes. 2 ^ 64 - 1 ≤ length (lines_of bytes))
