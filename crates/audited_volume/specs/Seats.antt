-- Who submitted the requests in flight. This project's own.
use Rattle.std.specs.Prelude.{◌≡◌, ◌==◌, ℕ, Bool, true, false, List, [], ◌∷◌, Option, Some, None, if◌then◌else◌}
use Rattle.plain_machine.specs.Plain.{InFlight}
use Rattle.plain_machine.specs.declared.event.Event.{Event}
use Rattle.plain_machine.specs.declared.event.Event.TheVariants.{Issue}
use Rattle.plain_machine.specs.declared.event.Outcome.{Outcome}
use Rattle.plain_machine.specs.declared.event.Outcome.TheVariants.{Done}
use Rattle.plain_machine.specs.declared.request.Op.TheVariants.{Flush}
use Rattle.plain_machine.specs.declared.request.Request.{Request}
use Rattle.audited_volume.specs.declared.entry.HeldRequest.{HeldRequest}

-- a request in flight under its number, with the seat that submitted it
pub record Seated : Type 0 where
  pub number : ℕ
  pub seat : ℕ
  pub request : Request

abbrev pub seated : HeldRequest → Seated
seated h = record { number = h.number; seat = h.seat; request = h.for_entry }

-- as a request in flight, whoever submitted it
abbrev pub flight_in : Seated → InFlight
flight_in s = record { number = s.number; request = s.request }

-- the first with a number
abbrev pub seated_under : ℕ → List Seated → Option Seated
seated_under number [] = None
seated_under number (s ∷ ss) = if s.number == number then Some s else seated_under number ss

-- the others
abbrev pub without_seated : ℕ → List Seated → List Seated
without_seated number [] = []
without_seated number (s ∷ ss) = if s.number == number then ss else s ∷ without_seated number ss

abbrev pub is_of : ℕ → Option Seated → Bool
is_of seat None = false
is_of seat (Some s) = s.seat == seat

-- whether a seat may do an event: it issues its own requests alone
abbrev pub may_do : ℕ → Event → List Seated → Bool
may_do seat (Issue number) held = is_of seat (seated_under number held)
may_do seat event held = true

-- an Issue that is done and gives no reply is that of a flush
abbrev pub IsUnanswered : Event → Outcome → List Seated → Type 0
IsUnanswered (Issue number) Done held = (x : Seated) × (seated_under number held ≡ Some x) × (x.request.op ≡ Flush)
IsUnanswered event outcome held = Unit {0}
