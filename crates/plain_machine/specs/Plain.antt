-- To be believed: `run`'s output, a volume's steps or its attach are said in these words.
-- The plain machine: arrays in place of shared chunks, and the requests in flight, each under its number. It is this
-- project's own; the kernel's admin-guide page on snapshots says in words what it assigns.
use Rattle.std.specs.Prelude.{◌==◌, ℕ, Bool, true, false, List, [], ◌∷◌, Option, Some, None, map, if◌then◌else◌}
use Rattle.std.specs.List.{list_any}
use Rattle.plain_machine.specs.declared.request.Overflowing.{Overflowing}
use Rattle.plain_machine.specs.declared.request.Overflowing.TheVariants.{Never, May, Did}
use Rattle.plain_machine.specs.declared.request.Request.{Request}

-- what a snapshot shows: its array, as bytes, or nothing for good
pub data Saved : Type 0 where
  Live : (array : List ℕ) → Saved
  Invalid : Saved

-- a snapshot under its number, and what a write of it does that finds its store full
pub record Entry : Type 0 where
  pub number : ℕ
  pub saved : Saved
  pub overflow : Overflowing

-- a request under its number
pub record InFlight : Type 0 where
  pub number : ℕ
  pub request : Request

-- the origin's array, the snapshot that is being merged into it, the other snapshots in order of attaching, and the
-- requests in flight in order of acceptance
pub record Plain : Type 0 where
  pub origin : List ℕ
  pub begun : Option ℕ
  pub saved : List Entry
  pub requests : List InFlight

-- what is shown: all of that but the requests
pub record Shown : Type 0 where
  pub origin : List ℕ
  pub begun : Option ℕ
  pub saved : List Entry

abbrev pub shown_of : Plain → Shown
shown_of plain = record { origin = plain.origin; begun = plain.begun; saved = plain.saved }

-- the snapshot of a number, the first that has it
abbrev pub saved_under : ℕ → List Entry → Option Saved
saved_under number [] = None
saved_under number (entry ∷ entries) = if entry.number == number then Some entry.saved else saved_under number entries

-- the snapshots with another state for that one
abbrev pub with_saved : ℕ → Saved → List Entry → List Entry
with_saved number saved [] = []
with_saved number saved (entry ∷ entries) =
    if entry.number == number then (record entry { saved = saved }) ∷ entries else entry ∷ with_saved number saved entries

-- the snapshots without that one
abbrev pub without_saved : ℕ → List Entry → List Entry
without_saved number [] = []
without_saved number (entry ∷ entries) = if entry.number == number then entries else entry ∷ without_saved number entries

-- the request of a number, the first that has it
abbrev pub asked_under : ℕ → List InFlight → Option Request
asked_under number [] = None
asked_under number (r ∷ rs) = if r.number == number then Some r.request else asked_under number rs

-- the requests without that one
abbrev pub without : ℕ → List InFlight → List InFlight
without number [] = []
without number (r ∷ rs) = if r.number == number then rs else r ∷ without number rs

-- whether a number is in a list
abbrev pub is_in : List ℕ → ℕ → Bool
is_in which number = list_any (λ n. n == number) which

abbrev pub spoiled_entry : List ℕ → Entry → Entry
spoiled_entry which entry = if is_in which entry.number then record entry { saved = Invalid } else entry

-- these snapshots are spoiled, and nothing else changes
abbrev pub spoiled : List ℕ → Plain → Plain
spoiled which plain = record plain { saved = map (spoiled_entry which) plain.saved }

-- whether a store overflowed, and whether it still may
abbrev pub did_overflow : Overflowing → Bool
did_overflow Never = false
did_overflow May = false
did_overflow Did = true

abbrev pub may_overflow : Overflowing → Bool
may_overflow Never = false
may_overflow May = true
may_overflow Did = false

-- a new snapshot's, by what was asked for it
abbrev pub overflow_of : Bool → Overflowing
overflow_of true = May
overflow_of false = Never

-- what a write of the snapshot of a number does that finds its store full; no snapshot does not overflow
abbrev pub overflow_under : ℕ → List Entry → Overflowing
overflow_under number [] = Never
overflow_under number (entry ∷ entries) = if entry.number == number then entry.overflow else overflow_under number entries

-- the snapshot of that number is marked: its store overflowed
abbrev pub marked_in : ℕ → List Entry → List Entry
marked_in number [] = []
marked_in number (entry ∷ entries) =
    if entry.number == number then (record entry { overflow = Did }) ∷ entries else entry ∷ marked_in number entries

abbrev pub marked : ℕ → Plain → Plain
marked number plain = record plain { saved = marked_in number plain.saved }
