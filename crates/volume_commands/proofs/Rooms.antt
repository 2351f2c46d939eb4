-- Each reply takes a request out of flight, so that room for one of each request in flight is room for all replies.
use Rattle.std.proofs.Common.{◌≡◌, ℕ, ◌+◌, ◌<◌, ◌≤◌, List, [], ◌∷◌, length, map, refl, ap, arith}
use Rattle.std.proofs.lemmas.List.{length-map}
use Rattle.in_flight.specs.Kinds.{in_flight}
use Rattle.in_flight.specs.declared.flights.Flight.{Flight}
use Rattle.plain_machine.specs.Replies.{reply_in}
use Rattle.plain_machine.specs.declared.event.Event.{Event}
use Rattle.plain_machine.specs.declared.event.Outcome.{Outcome}
use Rattle.plain_machine.specs.declared.event.Outcome.TheVariants.{Reply as Answered}
use Rattle.plain_machine.specs.declared.request.Reply.{Reply}
use Rattle.volume.specs.Flying.{IsFlown}
use Rattle.counted_volume.proofs.Flown.{fewer_fly}

none_left : {X : Type 0} (xs : List X) → length xs ≤ 0 → xs ≡ []
none_left [] few = refl
none_left (x ∷ xs) few = absurd (omega (arith, few))

module _ (event : Event) (outcome : Outcome) (old new : List Flight) (flown : IsFlown event outcome (map in_flight old) (map in_flight new)) where
  fewer : length new + length (reply_in outcome) ≤ length old
  fewer =
      let less = fewer_fly event outcome (map in_flight old) (map in_flight new) flown in
      let before : length (map in_flight old) ≡ length old = length-map old in_flight in
      let after : length (map in_flight new) ≡ length new = length-map new in_flight in
      omega (arith, less, before, after)

  -- room for a reply to each request in flight stays
  pub room_left : (len cap : ℕ) → len + length old ≤ cap → len + length (reply_in outcome) + length new ≤ cap
  room_left len cap room = (let less = fewer in omega (arith, less, room))

  -- where none is in flight, none is answered
  pub none_fly : old ≡ [] → new ≡ []
  none_fly none =
      let less = fewer in
      let no : length old ≡ 0 = ap length none in
      none_left new (omega (arith, less, no))

  pub none_told : old ≡ [] → reply_in outcome ≡ []
  none_told none =
      let less = fewer in
      let no : length old ≡ 0 = ap length none in
      none_left (reply_in outcome) (omega (arith, less, no))

-- and a reply that comes has its room
pub room_one : (event : Event) (number : ℕ) (reply : Reply) (old new : List Flight) → IsFlown event (Answered number reply) (map in_flight old) (map in_flight new) → (len cap : ℕ) → len + length old ≤ cap → len < cap
room_one event number reply old new flown len cap room = (let left = room_left event (Answered number reply) old new flown len cap room in omega (arith, left))
