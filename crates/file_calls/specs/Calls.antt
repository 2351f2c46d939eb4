-- To be believed: what is said of real files is said of a list of these.
-- What was asked of a file, and what it answered. This project's own words for the calls of POSIX: fstat, pread, pwrite, ftruncate,
-- fdatasync.
use Rattle.std.specs.Prelude.{ℕ, Bool, List, Option, Some, None, Result, Ok, Err}

-- One call, with its answer. Each place is a byte's number.
pub data Call : Type 0 where
  -- how long it is: so many bytes, where that was answered
  Len : Option ℕ → Call
  -- from this place on, so many bytes: these, where that was answered
  Read : ℕ → ℕ → Option (List ℕ) → Call
  -- from this place on, these bytes; whether that was answered
  Write : ℕ → List ℕ → Bool → Call
  -- to be so many bytes long; whether that was answered
  SetLen : ℕ → Bool → Call
  -- whether it was answered; and whether the caller had promised beforehand that it would be
  Sync : Bool → Bool → Call

-- what was answered, if it was
abbrev pub answer_of : {A E : Type 0} → Result A E → Option A
answer_of (Ok answer) = Some answer
answer_of (Err e) = None
