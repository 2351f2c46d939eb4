-- How many places of its journal a call takes, and when it finds none. This project's own.
use Rattle.std.specs.Prelude.{◌≡◌, ℕ, suc, ◌+◌, List, [], ◌∷◌, map, MatchResult, Result, Ok, Err, if◌then◌else◌}
use Rattle.sector.specs.declared.refusal.Refusal.{Refusal}
use Rattle.plain_machine.specs.Plain.{did_overflow}
use Rattle.plain_machine.specs.declared.request.Overflowing.{Overflowing}
use Rattle.volume.specs.Volumed.{Volumed}
use Rattle.counted_volume.specs.Places.{Counted, IsFullFirst, is_full_for, kept_for_marks}

-- What came of a call, without what it gives back.
abbrev pub reason_of : {A C : Type 0} → Result A (Refusal × C) → Result A Refusal
reason_of (Ok done) = Ok done
reason_of (Err e) = Err e.0

-- A call that takes so many places at most is refused first of all where the journal may not have them. Where it is done it takes one,
-- for its entry or that of its reply, beside those that `kept` says are kept free for its snapshots; and none where it is refused.
pub record TakesPlaces {A B : Type 0} (most : ℕ) (kept : Volumed B → ℕ) (result : Result A Refusal) (old new : Counted B) : Type 0 where
  pub full : IsFullFirst (is_full_for most old.taken) result
  pub taken : MatchResult result (λ done. new.taken + kept old.volume ≡ old.taken + 1 + kept new.volume) (λ refusal. new.taken ≡ old.taken)

-- how many stores overflowed
abbrev pub did_count : List Overflowing → ℕ
did_count [] = 0
did_count (o ∷ os) = if did_overflow o then suc (did_count os) else did_count os

-- the places of marks: those that are kept free for them, and one of each store that overflowed
abbrev pub places_of_marks : {B : Type 0} → Volumed B → ℕ
places_of_marks v = kept_for_marks v + did_count (map (λ s. s.overflow) v.snaps)

-- Requests and events, in any order: each request that was numbered took one place, and an event none; where a snapshot is lost, the one
-- that was kept for its mark is given back.
pub record TakesByRequests {B : Type 0} (old new : Counted B) : Type 0 where
  pub taken : new.taken + places_of_marks old.volume + old.volume.requests ≡ old.taken + places_of_marks new.volume + new.volume.requests
