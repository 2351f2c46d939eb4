-- To be believed: `run`'s output, a volume's steps or its attach are said in these words.
-- What is due in a volume's lists: the first of a kind. The numbers in a list go up, so the first is the least.
use Rattle.std.specs.Prelude.{◌&&◌, not, ℕ, Bool, true, false, List, [], ◌∷◌, Option, Some, None, min, if◌then◌else◌}
use Rattle.std.specs.List.{list_any, prefix_len}
use Rattle.in_flight.specs.declared.copies.Stage.{Stage}
use Rattle.in_flight.specs.declared.copies.Stage.TheVariants.{Waiting, Read, Written, Flushed}
use Rattle.in_flight.specs.declared.copies.ChunkCopy.{ChunkCopy}
use Rattle.in_flight.specs.declared.copies.Mark.{Mark}
use Rattle.in_flight.specs.declared.flights.Flight.{Flight}
use Rattle.in_flight.specs.declared.flights.Route.{Route}
use Rattle.in_flight.specs.declared.flights.Route.TheVariants.{Held, Origin, Store, Whole, Refused}
use Rattle.in_flight.specs.Routes.{is_reading}

-- the number of the first element that passes a test
abbrev pub first_by : {X : Type 0} → (X → Bool) → (X → ℕ) → List X → Option ℕ
first_by test number [] = None
first_by test number (x ∷ xs) = if test x then Some (number x) else first_by test number xs

-- the lesser of two numbers, if there are any
abbrev pub least : Option ℕ → Option ℕ → Option ℕ
least None b = b
least (Some m) None = Some m
least (Some m) (Some n) = Some (min m n)

abbrev pub is_stage : Stage → Stage → Bool
is_stage Waiting Waiting = true
is_stage Waiting Read = false
is_stage Waiting Written = false
is_stage Waiting Flushed = false
is_stage Read Waiting = false
is_stage Read Read = true
is_stage Read Written = false
is_stage Read Flushed = false
is_stage Written Waiting = false
is_stage Written Read = false
is_stage Written Written = true
is_stage Written Flushed = false
is_stage Flushed Waiting = false
is_stage Flushed Read = false
is_stage Flushed Written = false
is_stage Flushed Flushed = true

abbrev pub is_copy_at : Stage → ChunkCopy → Bool
is_copy_at stage copy = is_stage stage copy.stage

abbrev pub number_of_copy : ChunkCopy → ℕ
number_of_copy copy = copy.number

abbrev pub number_of_mark : Mark → ℕ
number_of_mark mark = mark.number

abbrev pub number_of_flight : Flight → ℕ
number_of_flight f = f.number

-- a copy whose pair may be committed: it is written, and the store was flushed since
abbrev pub is_ready : ChunkCopy → Bool
is_ready copy = is_stage Flushed copy.stage

-- whether the first copy is
abbrev pub front_ready : List ChunkCopy → Bool
front_ready [] = false
front_ready (copy ∷ copies) = is_ready copy

-- whether the first copy is written, and waits for a flush of the store
abbrev pub front_unflushed : List ChunkCopy → Bool
front_unflushed [] = false
front_unflushed (copy ∷ copies) = is_stage Written copy.stage

-- how many of the first copies one write of an area commits that has so many empty slots: those that are ready, up to the
-- first that is not, and up to the end of the area
abbrev pub batch : ℕ → List ChunkCopy → ℕ
batch slots copies = min slots (prefix_len is_ready copies)

-- a request that goes somewhere
abbrev pub is_routed : Route → Bool
is_routed Held = false
is_routed Origin = true
is_routed (Store place) = true
is_routed Whole = true
is_routed Refused = true

abbrev pub is_issuable : Flight → Bool
is_issuable f = is_routed f.route

-- a safe mark whose chunk no request reads from the origin disk, for this snapshot and chunks of so many sectors
abbrev pub is_publishable : ℕ → ℕ → List Flight → Mark → Bool
is_publishable snap chunk flights mark = mark.safe && not (list_any (is_reading snap chunk mark.chunk) flights)
