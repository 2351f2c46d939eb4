-- How many lines were printed, and of which kind. That each number stops at 2^64 - 1 is this project's own.
use Rattle.std.specs.Prelude.{◌==◌, ℕ, ◌+◌, ◌-◌, ◌^◌, min, Bool, true, false, List, length, if◌then◌else◌}
use Rattle.std.specs.List.{count_by}
use Rattle.sector.specs.Refusal.{number_of}
use Rattle.command_replies.specs.declared.command_reply.CommandReply.{CommandReply}
use Rattle.command_replies.specs.declared.command_reply.CommandReply.TheVariants.{Done, Data, Said, Number, Fault, Ended, Seat, Gate, Refused}
use Rattle.script_runner.specs.declared.summary.Summary.{Summary}

-- a reply whose line begins with `err`
abbrev pub is_refused : CommandReply → Bool
is_refused Done = false
is_refused (Data bytes) = false
is_refused (Said text) = false
is_refused (Number n) = false
is_refused Fault = false
is_refused (Ended ended) = false
is_refused (Seat seated) = false
is_refused (Gate opened) = false
is_refused (Refused refusal) = true

-- a reply that is the refusal of a number
abbrev pub refuses_with : ℕ → CommandReply → Bool
refuses_with number Done = false
refuses_with number (Data bytes) = false
refuses_with number (Said text) = false
refuses_with number (Number n) = false
refuses_with number Fault = false
refuses_with number (Ended ended) = false
refuses_with number (Seat seated) = false
refuses_with number (Gate opened) = false
refuses_with number (Refused refusal) = number_of refusal == number

-- a number that stops
abbrev pub capped : ℕ → ℕ
capped n = min n (2 ^ 64 - 1)

-- one more, where it counts
abbrev pub more : Bool → ℕ → ℕ
more counts n = if counts then capped (n + 1) else n

-- how many replies were printed, each a line, and how many of each kind; NoMemory is number 5, JournalFull 20
unfoldable pub summary_of : List CommandReply → Summary
summary_of replies = record {
  lines = capped (length replies);
  refused = capped (count_by is_refused replies);
  no_memory = capped (count_by (refuses_with 5) replies);
  journal_full = capped (count_by (refuses_with 20) replies);
}

-- one reply more
abbrev pub with_reply : CommandReply → Summary → Summary
with_reply reply s = record {
  lines = more true s.lines;
  refused = more (is_refused reply) s.refused;
  no_memory = more (refuses_with 5 reply) s.no_memory;
  journal_full = more (refuses_with 20 reply) s.journal_full;
}

-- so many lines more, of which none is a refusal
abbrev pub with_lines : ℕ → Summary → Summary
with_lines count s = record s { lines = capped (s.lines + count) }
