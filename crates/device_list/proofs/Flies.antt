-- A request that is accepted is in flight.
use Rattle.std.proofs.Common.{◌≡◌, ℕ, Bool, true, false, List, [], ◌∷◌, ◌++◌, length, map, refl, sym, ap, ◌∙◌, subst, arith}
use Rattle.std.specs.Prelude.{Option, Some, None, Result, Ok, Err, IfOk, OnOk, ◌==◌, ◌/◌, ◌&&◌, not, if◌then◌else◌}
use Rattle.std.specs.List.{list_all}
use Rattle.std.proofs.lemmas.List.{length-map}
use Rattle.sector.specs.declared.refusal.Refusal.{Refusal}
use Rattle.device.specs.Layers.{Layer}
use Rattle.plain_machine.specs.declared.request.Failure.{Failure}
use Rattle.plain_machine.specs.declared.request.Failure.TheVariants.{Invalid, Overflow}
use Rattle.plain_machine.specs.declared.request.Request.{Request}
use Rattle.plain_machine.specs.Kept.{kept}
use Rattle.in_flight.specs.Kinds.{kind_of}
use Rattle.in_flight.specs.declared.flights.Kind.{Kind}
use Rattle.in_flight.specs.declared.flights.Kind.TheVariants.{OriginRead, OriginWrite, OriginFlush, SnapRead, SnapWrite, SnapFlush}
use Rattle.in_flight.specs.declared.flights.Route.{Route}
use Rattle.event_machine.specs.Held.{SnapHeld, Moving}
use Rattle.event_machine.specs.Seen.{going_of}
use Rattle.event_machine.specs.Stepping.{for_some, first_that, put, spoil}
use Rattle.event_machine.specs.Submitting.{is_filled, needs_none, accepted, declined, read_snap, write_held, write_placed, write_open, shuts, overflown, write_snap, submitted_as}
use Rattle.volume.specs.Volumed.{Volumed}
use Rattle.volume.specs.Moved.{moving_of}
use Rattle.volume.specs.Leaving.{has_group_in, is_quiet_of, is_done_of}
use Rattle.volume.specs.Submitting.{IsAcceptedAs}

-- where nothing was answered, a request is in flight
record IsFlown (v : Moving) : Type 0 where
  some : v.replied ≡ None → (length v.requests == 0) ≡ false

one_more : {X : Type 0} (xs : List X) (x : X) → (length (xs ++ x ∷ []) == 0) ≡ false
one_more [] x = refl
one_more (y ∷ xs) x = search (arith)

flown : (number : ℕ) (request : Request) (route : Route) (v : Moving) → IsFlown (accepted number request route v)
flown number request route v = record { some = λ none. one_more v.requests _ }

unflown : (failure : Failure) (v : Moving) → IsFlown (declined failure v)
unflown failure v = record { some = λ none. absurd (cc) }

either : (b : Bool) (x y : Moving) → IsFlown x → IsFlown y → IsFlown (if b then x else y)
either true x y hx hy = hx
either false x y hx hy = hy

some_or : {X : Type 0} (o : Option X) (f : X → Moving) (y : Moving) → ((x : X) → IsFlown (f x)) → IsFlown y → IsFlown (for_some o f y)
some_or None f y hf hy = hy
some_or (Some x) f y hf hy = hf x

module _ (number : ℕ) (request : Request) where
  read_flown : (h : SnapHeld) (v : Moving) → IsFlown (read_snap number request h v)
  read_flown h v = either h.snap.live _ _ (flown number request _ v) (unflown Invalid v)

  held_flown : (test : SnapHeld → Bool) (h : SnapHeld) (v : Moving) → IsFlown (write_held number request test h v)
  held_flown test h v =
      let c : ℕ = request.range.first / h.snap.chunk in
      either (needs_none c h) _ _ (flown number request _ v) (either (is_filled h) _ _ (unflown Invalid (spoil test h v)) (flown number request _ _))

  placed_flown : (test : SnapHeld → Bool) (h : SnapHeld) (place : Option ℕ) (v : Moving) → IsFlown (write_placed number request test h place v)
  placed_flown test h (Some place) v = flown number request _ v
  placed_flown test h None v = held_flown test h v

  open_flown : (test : SnapHeld → Bool) (h : SnapHeld) (v : Moving) → IsFlown (write_open number request test h v)
  open_flown test h v = either h.snap.live _ _ (placed_flown test h _ v) (unflown Invalid v)

  write_flown : (test : SnapHeld → Bool) (h : SnapHeld) (v : Moving) → IsFlown (write_snap number request test h v)
  write_flown test h v = either (shuts (request.range.first / h.snap.chunk) h) _ _ (unflown Overflow (put test (overflown h) v)) (open_flown test h v)

  as_flown : (kind : Kind) (v : Moving) → IsFlown (submitted_as kind number request v)
  as_flown OriginRead v = flown number request _ v
  as_flown OriginWrite v = flown number request _ _
  as_flown OriginFlush v = flown number (kept request) _ v
  as_flown (SnapFlush n) v = some_or (first_that (λ h. h.snap.number == n) v.snaps) _ (declined Invalid v) (λ h. either h.snap.live _ _ (flown number (kept request) _ v) (unflown Invalid v)) (unflown Invalid v)
  as_flown (SnapRead n) v = some_or (first_that (λ h. h.snap.number == n) v.snaps) _ (declined Invalid v) (λ h. read_flown h v) (unflown Invalid v)
  as_flown (SnapWrite n) v = some_or (first_that (λ h. h.snap.number == n) v.snaps) _ (declined Invalid v) (λ h. write_flown (λ k. k.snap.number == n) h v) (unflown Invalid v)

-- so the volume is not quiet
pub accepted_flies : {B : Type 0} (contents : B → List ℕ) (layers : B → List Layer) (request : Request) (number : ℕ) (old new : Volumed B) → IsAcceptedAs contents layers request number old new → is_quiet_of new ≡ false
accepted_flies {B} contents layers request number old new is =
    let h = subst IsFlown (is.exact None) (as_flown number request (kind_of request) (moving_of contents layers None old)) in
    let some : (length (map going_of new.flights) == 0) ≡ false = h.some refl in
    let none : (length new.flights == 0) ≡ false = ap (λ n. n == 0) (sym (length-map new.flights going_of)) ∙ some in
    ap (λ b. b && (not (has_group_in new.merge) && list_all is_done_of new.snaps)) none

-- nor where a request was started
pub start_flies : {B : Type 0} (contents : B → List ℕ) (layers : B → List Layer) (request : Request) (old new : Volumed B) (r : Result ℕ Refusal) → IfOk r (λ number. IsAcceptedAs contents layers request number old new) → OnOk r (is_quiet_of new ≡ false)
start_flies contents layers request old new (Ok number) ok = accepted_flies contents layers request number old new ok
start_flies contents layers request old new (Err refusal) ok = tt
