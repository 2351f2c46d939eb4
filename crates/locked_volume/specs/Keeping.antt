-- What passes know of one journal: its entries, which only grow, and the requests in flight. This project's own.
use Rattle.std.specs.Prelude.{◌≡◌, ◌==◌, ℕ, ◌+◌, ◌<◌, Bool, true, false, List, [], ◌∷◌, ◌++◌, Some, if◌then◌else◌}
use mathlib.Core.Option.{Option, none, some}
use lib.ListN.{get_elem?}
use Rattle.atomic_table.specs.Table.{State, Me, Step}
use Rattle.plain_machine.specs.declared.request.Request.{Request}
use Rattle.audited_volume.specs.declared.entry.Entry.{Entry}
use Rattle.audited_volume.specs.declared.entry.Entry.TheVariants.{Answered as WasAnswered, Spoiled, Overflowed, Attached, Detached, Begun, Finished}
use Rattle.audited_volume.specs.Entries.{entries_by}
use Rattle.audited_volume.specs.Seats.{Seated, seated_under, without_seated}
use Rattle.locked_volume.specs.declared.rule.View.{View}
use Rattle.locked_volume.specs.declared.told.Told.{Told}
use Rattle.locked_volume.specs.declared.told.Told.TheVariants.{Asked, Answered, Noted}

-- a seat's requests in flight
abbrev pub held_by : ℕ → List Seated → List Seated
held_by seat [] = []
held_by seat (s ∷ ss) = if s.seat == seat then s ∷ held_by seat ss else held_by seat ss

-- the pass that knows all entries, where no request is in flight
abbrev pub knower : List Entry → ℕ → View
knower all dealt = record { keeps = true; all = all; flying = []; dealt = dealt; sits = false; seat = 0; old = []; mine = []; waits = []; seen = [] }

abbrev pub nobody : View
nobody = record { keeps = false; all = []; flying = []; dealt = 0; sits = false; seat = 0; old = []; mine = []; waits = []; seen = [] }

abbrev pub after_deal : View → View
after_deal v = record { keeps = v.keeps; all = v.all; flying = v.flying; dealt = v.dealt + 1; sits = false; seat = 0; old = []; mine = []; waits = []; seen = [] }

abbrev pub next_seat : View → View
next_seat v = record { keeps = false; all = []; flying = []; dealt = 0; sits = true; seat = v.dealt; old = v.all; mine = []; waits = held_by v.dealt v.flying; seen = v.all }

-- without what a seat knows
abbrev pub keeper_of : View → View
keeper_of v = record { keeps = v.keeps; all = v.all; flying = v.flying; dealt = v.dealt; sits = false; seat = 0; old = []; mine = []; waits = []; seen = [] }

abbrev pub seat_of : View → View
seat_of v = record { keeps = false; all = []; flying = []; dealt = 0; sits = v.sits; seat = v.seat; old = v.old; mine = v.mine; waits = v.waits; seen = v.seen }

-- what a seat knows that has now seen all entries
abbrev pub looking_of : View → View
looking_of v = record { keeps = false; all = []; flying = []; dealt = 0; sits = v.sits; seat = v.seat; old = v.old; mine = v.mine; waits = v.waits; seen = v.all }

-- the keeper, and beside it what a seat knows
abbrev pub seated_with : View → View → View
seated_with v w = record { keeps = v.keeps; all = v.all; flying = v.flying; dealt = v.dealt; sits = w.sits; seat = w.seat; old = w.old; mine = w.mine; waits = w.waits; seen = w.seen }

-- the seat's request is in flight
abbrev pub asked_by : ℕ → Request → View → View
asked_by number request v =
    let x : Seated = record { number = number; seat = v.seat; request = request } in
    record { keeps = v.keeps; all = v.all; flying = v.flying ++ x ∷ []; dealt = v.dealt; sits = v.sits; seat = v.seat; old = v.old; mine = v.mine; waits = v.waits ++ x ∷ []; seen = v.seen }

-- the request under a number is in flight no more, and an entry of the seat's is there for it
abbrev pub answered_by : ℕ → Entry → View → View
answered_by number e v =
    record { keeps = v.keeps; all = v.all ++ e ∷ []; flying = without_seated number v.flying; dealt = v.dealt; sits = v.sits; seat = v.seat; old = v.old; mine = v.mine ++ entries_by v.seat (e ∷ []); waits = without_seated number v.waits; seen = v.seen }

-- one entry more, which answers no request
abbrev pub noted_by : Entry → View → View
noted_by e v = record { keeps = v.keeps; all = v.all ++ e ∷ []; flying = v.flying; dealt = v.dealt; sits = v.sits; seat = v.seat; old = v.old; mine = v.mine; waits = v.waits; seen = v.seen }

-- an entry answers no request
abbrev pub is_silent : Entry → Bool
is_silent (WasAnswered a) = false
is_silent (Spoiled number) = true
is_silent (Overflowed number) = true
is_silent (Attached number array overflow fresh) = true
is_silent (Detached number) = true
is_silent (Begun number) = true
is_silent Finished = true

-- an entry answers a request of a seat
abbrev pub Answers : ℕ → Entry → Type 0
Answers seat (WasAnswered a) = a.seat ≡ seat
Answers seat (Spoiled number) = ⊥
Answers seat (Overflowed number) = ⊥
Answers seat (Attached number array overflow fresh) = ⊥
Answers seat (Detached number) = ⊥
Answers seat (Begun number) = ⊥
Answers seat Finished = ⊥

-- a request with a number is in flight, and is the seat's
abbrev pub HasAsked : ℕ → View → Type 0
HasAsked number v = (x : Seated) × (seated_under number v.flying ≡ Some x) × (x.seat ≡ v.seat)

-- A request or its answer is noted only beside its seat's pass.
abbrev pub MayNote : View → Told → Type 0
MayNote v (Asked number request) = v.sits ≡ true
MayNote v (Answered number entry) = (v.sits ≡ true) × Answers v.seat entry.value × HasAsked number v
MayNote v (Noted entry) = is_silent entry.value ≡ true

abbrev pub told_of : View → Told → View
told_of v (Asked number request) = asked_by number request.value v
told_of v (Answered number entry) = answered_by number entry.value v
told_of v (Noted entry) = noted_by entry.value v

-- the seat's entries in the log are those that it had, and its own since then
abbrev pub Owns : List Entry → View → Type 0
Owns log v = entries_by v.seat log ≡ entries_by v.seat v.old ++ v.mine

-- and its requests are those that it waits for
abbrev pub Waits : List Seated → View → Type 0
Waits flying v = held_by v.seat flying ≡ v.waits

-- the first entries of a log are these
abbrev pub Begins : List Entry → List Entry → Type 0
Begins seen log = (more : List Entry) × (log ≡ seen ++ more)

pub record Fits (keeper : ℕ) (owner : ℕ → ℕ) (log : List Entry) (flying : List Seated) (dealt by : ℕ) (v : View) : Type 0 where
  pub keeps : v.keeps ≡ true → (by ≡ keeper) × (v.all ≡ log) × (v.flying ≡ flying) × (v.dealt ≡ dealt)
  pub sits : v.sits ≡ true → (by ≡ owner v.seat) × (v.seat < dealt) × Owns log v × Waits flying v × Begins v.seen log

-- one pass at most keeps, and one has each seat
abbrev pub IsKept : State Told View → Type 0
IsKept s =
    (keeper : ℕ) × (owner : ℕ → ℕ) × (log : List Entry) × (flying : List Seated) × (dealt : ℕ)
    × ((by : ℕ) (v : View) → get_elem? s.views by ≡ some v → Fits keeper owner log flying dealt by v)

-- What a seat has seen are the first entries of all.
abbrev pub HasSeen : View → Type 0
HasSeen v = v.sits ≡ true → Begins v.seen v.all

-- what a request in flight is, as the seat knows it too, and which of all entries are the seat's, before it is answered
abbrev pub Knows : View → Told → Type 0
Knows v (Asked number request) = Unit {0}
Knows v (Answered number entry) = (seated_under number v.waits ≡ seated_under number v.flying) × Owns v.all v
Knows v (Noted entry) = Unit {0}

abbrev pub noted_said : View → Option Told → View
noted_said v (some told) = told_of v told
noted_said v none = v

abbrev pub KnowsSaid : View → Option Told → Type 0
KnowsSaid v (some told) = Knows v told
KnowsSaid v none = Unit {0}

abbrev pub IsNotedAs : Step Told → Me Told View → ℕ → Me Told View → Type 0
IsNotedAs s v n w = (w.0 ≡ noted_said v.0 s.said) × (w.1 ≡ v.1) × KnowsSaid v.0 s.said × HasSeen v.0

abbrev pub IsChecked : Step Told → Me Told View → ℕ → Me Told View → Type 0
IsChecked s v n w = (w ≡ v) × (v.0.keeps ≡ true → v.0.sits ≡ true → Owns v.0.all v.0 × Waits v.0.flying v.0 × Begins v.0.seen v.0.all)
