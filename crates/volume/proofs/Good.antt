-- An event of one snapshot leaves its volume whole, and does what a step promises.
use Rattle.std.proofs.Common.{◌≡◌, inr, ℕ, ◌<◌, Bool, true, false, List, [], ◌∷◌, ◌++◌, length, get_or, set, map, refl, sym, ◌∙◌, ap, arith}
use Rattle.std.specs.Prelude.{sum_by}
use Rattle.std.proofs.Math.Seq.{map-set_same}
use Rattle.device.specs.Layers.{Layer, is_loud}
use Rattle.plain_machine.specs.Plain.{InFlight, Plain, spoiled}
use Rattle.plain_machine.specs.Legal.{IsLegalStep, Spoils}
use Rattle.plain_machine.specs.declared.event.Event.{Event}
use Rattle.plain_machine.specs.declared.event.Outcome.{Outcome}
use Rattle.in_flight.specs.Due.{number_of_flight, number_of_copy, number_of_mark}
use Rattle.in_flight.specs.Kinds.{in_flight}
use Rattle.in_flight.specs.Routes.{refused_of}
use Rattle.in_flight.specs.declared.copies.Mark.{Mark}
use Rattle.in_flight.specs.declared.flights.Flight.{Flight}
use Rattle.volume_laws.specs.Due.{left_in, weight_of}
use Rattle.volume_laws.specs.Steps.{SpoilsSnap}
use Rattle.volume_laws.specs.Waits.{Waits}
use Rattle.volume_laws.specs.Whole.{IsLoud, plain_of as plain_books}
use Rattle.volume_laws.specs.Outcomes.{IsSilent}
use Rattle.volume_laws.proofs.Refusing.{refused_in_flight}
use Rattle.volume_laws.proofs.Spoiling.{spoil_event}
use Rattle.volume_laws.proofs.WaitingAgain.{waits_spoiled}
use Rattle.volume_laws.proofs.Left.{spoil_left}
use Rattle.volume_laws.proofs.MergeRooms.{KeepsRoom}
use Rattle.volume_laws.proofs.MergeRoomEvents.{spoil_room}
use Rattle.snapshot_list.specs.Rooms.{room_of}
use Rattle.snapshot.specs.Kept.{Kept, books_of as snap_books, due_of_kept}
use Rattle.volume.specs.Volumed.{Volumed, books_of, plain_of, is_loud_in_all, left_in_all}
use Rattle.snapshot_list.specs.Numbers.{numbers_in}
use Rattle.volume.specs.Whole.{IsWhole, IsCounted}
use Rattle.volume.specs.Causes.{HasCause, IsOneAtMost}
use Rattle.volume.specs.Flying.{IsFlown}
use Rattle.volume.specs.Stepping.{IsStepped, KeepsAll, has_failed, failed_by}
use Rattle.volume.proofs.Counting.{kept_changed}
use Rattle.volume.proofs.Shown.{shown, loud_books}
use Rattle.volume.proofs.StartsLeft.{left_spoilt}
use Rattle.volume.proofs.Weights.{refused_weights}
use Rattle.volume.proofs.Changing.{SameDisk, StaysAttached, few_none, changed, spoils_one, whole_changed, lower_changed, loud_changed}

pub record IsGood {B : Type 0} (contents : B → List ℕ) (layers : B → List Layer) (size faults done : B → ℕ) (event : Event) (outcome : Outcome) (v w : Volumed B) : Type 0 where
  pub whole : IsWhole contents layers size w
  pub stepped : IsStepped contents layers size faults done event outcome v w

-- an event that spoils, or is silent, is legal by any outcome that no reply is
abbrev pub Spoiling : Event → Outcome → Type 0
Spoiling event outcome = (p q : Plain) → (which : List ℕ) × Spoils which p q → IsLegalStep p event outcome q

-- an event that leaves the requests in flight, by any outcome that no reply is
abbrev pub Staying : Event → Outcome → Type 0
Staying event outcome = (xs ys : List InFlight) → ys ≡ xs → IsFlown event outcome xs ys

-- an event that is no fault of a merge's own
abbrev pub Calm : Event → Outcome → Type 0
Calm event outcome = (was : Bool) → failed_by event outcome was ≡ was

-- requests that are seen as the same have the same numbers
numbers_seen : (rs : List Flight) → map (λ (x : InFlight). x.number) (map in_flight rs) ≡ map number_of_flight rs
numbers_seen [] = refl
numbers_seen (r ∷ rs) = ap (λ ns. r.number ∷ ns) (numbers_seen rs)

pub same_numbers : (rs qs : List Flight) → map in_flight qs ≡ map in_flight rs → map number_of_flight qs ≡ map number_of_flight rs
same_numbers rs qs same = sym (numbers_seen qs) ∙ ap (map (λ (x : InFlight). x.number)) same ∙ numbers_seen rs

-- what became of a spoiled snapshot
pub record SpoiltTo {B : Type 0} (s s' : Kept B) : Type 0 where
  pub number : s'.number ≡ s.number
  pub live : s'.live ≡ false
  pub untried : s'.untried ≡ true
  pub overflow : s'.overflow ≡ s.overflow
  pub chunk_is : s'.state.chunk ≡ s.state.chunk
  pub origin : s'.state.origin ≡ s.state.origin
  pub pairs : s'.pairs ≡ s.pairs
  pub sure : s'.state.sure ≡ s.state.sure
  pub copies : s'.copies ≡ []
  pub marks : s'.marks ≡ []
  pub counted : IsCounted s → IsCounted s'

pub refused_numbers : (which : List ℕ) (rs : List Flight) → map number_of_flight (map (refused_of which) rs) ≡ map number_of_flight rs
refused_numbers which [] = refl
refused_numbers which (r ∷ rs) = ap (λ ns. r.number ∷ ns) (refused_numbers which rs)

module _ {B : Type 0} (contents : B → List ℕ) (layers : B → List Layer) (size : B → ℕ) (v w : Volumed B) where
  pub legal_by : (which : List ℕ) → (IsLoud (books_of contents layers size v) → Spoils which (plain_books (books_of contents layers size v)) (plain_books (books_of contents layers size w))) → is_loud_in_all layers v ≡ true
      → (xs : List ℕ) × Spoils xs (plain_of contents layers v) (plain_of contents layers w)
  legal_by which step loud = (which, shown contents layers size w ∙ step (loud_books contents layers size v loud) ∙ ap (spoiled which) (sym (shown contents layers size v)))

module _ {B : Type 0} (contents : B → List ℕ) (layers : B → List Layer) (size faults done : B → ℕ) (v : Volumed B) (h : IsWhole contents layers size v) (event : Event) (outcome : Outcome) (told : Spoiling event outcome) (still : Staying event outcome) (calm : Calm event outcome)
    (o' : B) (k : ℕ) (s s' : Kept B) (within : k < length v.snaps) (is : s ≡ get_or v.snaps k s) (same : SameDisk contents layers size v.origin o') (loud : is_loud (layers s'.device) ≡ is_loud (layers s.device)) (sized : size s'.device ≡ size s.device) where
  kept : (flights : List Flight) → s'.number ≡ s.number → s'.state.chunk ≡ s.state.chunk → KeepsAll size v (changed v o' k s' flights)
  kept flights number chunk = kept_changed size v o' k s s' flights within is same.sectors sized number chunk

  overflows_kept : s'.overflow ≡ s.overflow → map (λ (x : Kept B). x.overflow) (set v.snaps k s') ≡ map (λ (x : Kept B). x.overflow) v.snaps
  overflows_kept one = map-set_same (λ (x : Kept B). x.overflow) v.snaps k s' s (one ∙ ap (λ (x : Kept B). x.overflow) is)

  -- nothing is seen of it, where the volume is whole and less is left
  pub silent_with : (flights : List Flight) → map in_flight flights ≡ map in_flight v.flights → StaysAttached s s' → s'.overflow ≡ s.overflow
      → IsSilent (books_of contents layers size v) (books_of contents layers size (changed v o' k s' flights)) → IsWhole contents layers size (changed v o' k s' flights)
      → left_in_all contents layers (changed v o' k s' flights) < left_in_all contents layers v
      → HasCause faults event outcome v (changed v o' k s' flights) → IsOneAtMost done v (changed v o' k s' flights)
      → IsGood contents layers size faults done event outcome v (changed v o' k s' flights)
  silent_with flights same_flights stays overflow silent whole lower cause one =
      let w = changed v o' k s' flights in
      record {
        whole = whole;
        stepped = record {
          legal = λ l. told (plain_of contents layers v) (plain_of contents layers w) (legal_by contents layers size v w [] silent.step l);
          flown = still (map in_flight v.flights) (map in_flight w.flights) same_flights;
          lower = lower;
          loud = loud_changed contents layers size v o' k s s' within is flights same loud;
          cause = cause;
          one = one;
          kept = kept flights stays.number stays.chunk_is;
          requests = refl;
          copies = omega arith;
          given = omega arith;
          overflows = overflows_kept overflow;
          failed = sym (calm (has_failed v.merge));
        };
      }

  pub silent_good : (flights : List Flight) → map in_flight flights ≡ map in_flight v.flights → sum_by weight_of flights ≡ sum_by weight_of v.flights → StaysAttached s s' → s'.overflow ≡ s.overflow
      → IsSilent (books_of contents layers size v) (books_of contents layers size (changed v o' k s' flights)) → Waits (books_of contents layers size (changed v o' k s' flights))
      → left_in (due_of_kept contents layers s') < left_in (due_of_kept contents layers s)
      → HasCause faults event outcome v (changed v o' k s' flights) → IsOneAtMost done v (changed v o' k s' flights) → KeepsRoom (room_of contents layers s) (room_of contents layers s')
      → IsGood contents layers size faults done event outcome v (changed v o' k s' flights)
  silent_good flights same_flights weights stays overflow silent waits less cause one keeps =
      let numbers = same_numbers v.flights flights same_flights in
      silent_with flights same_flights stays overflow silent (whole_changed contents layers size v o' k s s' within is flights h same stays numbers silent.holds waits keeps)
      (lower_changed contents layers size v o' k s s' within is flights weights less keeps.space.saved) cause one

  -- the snapshot is spoiled, and its requests refused
  pub spoilt_with : s.live ≡ true → (SpoilsSnap (snap_books contents layers s) (snap_books contents layers s') → left_in (due_of_kept contents layers s') < left_in (due_of_kept contents layers s)) → SpoiltTo s s'
      → HasCause faults event outcome v (changed v o' k s' (map (refused_of (s.number ∷ [])) v.flights)) → IsOneAtMost done v (changed v o' k s' (map (refused_of (s.number ∷ [])) v.flights))
      → IsGood contents layers size faults done event outcome v (changed v o' k s' (map (refused_of (s.number ∷ [])) v.flights))
  spoilt_with live less t cause one =
      let flights = map (refused_of (s.number ∷ [])) v.flights in
      let w = changed v o' k s' flights in
      let sb = snap_books contents layers in
      let spoils : SpoilsSnap (sb s) (sb s') = record { number = t.number; was = live; live = t.live; overflow = t.overflow; chunk = t.chunk_is; pairs = t.pairs; sure = t.sure; copies = t.copies; marks = t.marks } in
      let e = spoils_one contents layers size v o' k s s' within is same spoils in
      let numbers = refused_numbers (s.number ∷ []) v.flights in
      let weights : sum_by weight_of flights ≡ sum_by weight_of v.flights = refused_weights (s.number ∷ []) v.flights in
      let spoil = spoil_event k (sb s) (sb s') (books_of contents layers size v) (books_of contents layers size w) h.holds e in
      let gone : numbers_in s' ≡ [] = ap (λ (x : List Mark). map number_of_mark x ++ map number_of_copy s'.copies) t.marks ∙ ap (map number_of_copy) t.copies in
      record {
        whole = whole_changed contents layers size v o' k s s' within is flights h same (record { number = t.number; chunk_is = t.chunk_is; origin = t.origin; numbers = inr (inr gone); few = few_none s s' gone; counted = t.counted; left = left_spoilt s s' t.live }) numbers spoil.holds
            (waits_spoiled k (sb s) (sb s') (books_of contents layers size v) (books_of contents layers size w) h.waits e t.untried) (spoil_room (room_of contents layers s) (room_of contents layers s') spoils);
        stepped = record {
          legal = λ l. told (plain_of contents layers v) (plain_of contents layers w) (legal_by contents layers size v w (s.number ∷ []) spoil.step l);
          flown = still (map in_flight v.flights) (map in_flight w.flights) (refused_in_flight (s.number ∷ []) v.flights);
          lower = lower_changed contents layers size v o' k s s' within is flights weights (less spoils) (spoil_room (room_of contents layers s) (room_of contents layers s') spoils).space.saved;
          loud = loud_changed contents layers size v o' k s s' within is flights same loud;
          cause = cause;
          one = one;
          kept = kept flights t.number t.chunk_is;
          requests = refl;
          copies = omega arith;
          given = omega arith;
          overflows = overflows_kept t.overflow;
          failed = sym (calm (has_failed v.merge));
        };
      }

  -- one that had a copy
  pub spoilt_good : s.live ≡ true → 0 < length s.copies → SpoiltTo s s'
      → HasCause faults event outcome v (changed v o' k s' (map (refused_of (s.number ∷ [])) v.flights)) → IsOneAtMost done v (changed v o' k s' (map (refused_of (s.number ∷ [])) v.flights))
      → IsGood contents layers size faults done event outcome v (changed v o' k s' (map (refused_of (s.number ∷ [])) v.flights))
  spoilt_good live some t cause one = spoilt_with live (λ spoils. spoil_left (due_of_kept contents layers s) (due_of_kept contents layers s') spoils some) t cause one
