-- What a call of a volume does to the requests in flight and to the live snapshots, so that there is a place for each.
use Rattle.std.proofs.Common.{◌≡◌, inl, inr, ℕ, zero, suc, ◌+◌, ◌<◌, ◌≤◌, Bool, true, false, List, [], ◌∷◌, ◌++◌, length, get_or, set, map, max, take, Option, None, refl, sym, ◌∙◌, ap, arith}
use Rattle.std.specs.Prelude.{◌-◌, ◌&&◌, Err, IfErr, Ok, OnOk, Result}
use Rattle.std.specs.List.{remove}
use Rattle.std.proofs.lemmas.Bool.{false≢true}
use Rattle.std.proofs.lemmas.List.{length-map, map-set}
use Rattle.device.specs.Layers.{Layer}
use Rattle.sector.specs.declared.refusal.Refusal.{Refusal}
use Rattle.merge.specs.Merging.{Merging}
use Rattle.plain_machine.specs.declared.event.Event.{Event}
use Rattle.plain_machine.specs.declared.event.Outcome.{Outcome}
use Rattle.plain_machine.specs.declared.request.Overflowing.TheVariants.{Did}
use Rattle.plain_machine.specs.declared.request.Request.{Request}
use Rattle.plain_machine.specs.Kept.{kept}
use Rattle.plain_machine.specs.Plain.{Plain, InFlight, may_overflow}
use Rattle.in_flight.specs.Kinds.{in_flight}
use Rattle.in_flight.specs.declared.flights.Flight.{Flight}
use Rattle.in_flight.specs.Routes.{refused_of}
use Rattle.snapshot.specs.Kept.{Kept}
use Rattle.snapshot.specs.declared.opening.StoreDev.{StoreDev}
use Rattle.snapshot_list.specs.Starting.{spoilt_of, unroomed}
use Rattle.volume.specs.Attached.{IsGained}
use Rattle.volume.specs.Beginning.{IsMergeBegun, IsNotBegun, SameButKept}
use Rattle.volume.specs.Causes.{HasCause, lives_of}
use Rattle.volume.specs.Finishing.{IsTakenOut}
use Rattle.volume.specs.Flying.{IsFlown}
use Rattle.volume.specs.Leaving.{IsWithout}
use Rattle.volume.specs.Stepping.{KeepsDevices}
use Rattle.volume.specs.Submitting.{IsAcceptedAs, IsFoundFull, IsOverflown, IsRefusedAs, SameButRoom}
use Rattle.volume.specs.Volumed.{Volumed, plain_of}
use Rattle.volume.proofs.FewerLives.{accepted_lives, caused_lives, roomed_lives, same_fewer, same_lives, set_fewer, set_lives, set_own, then_fewer}
use Rattle.audited_volume.specs.Books.{AuditShape}
use Rattle.audited_volume.specs.Earned.{AreEarned, merges_of}
use Rattle.audited_volume.specs.PlacesTaken.{places_for, places_of}
use Rattle.audited_volume.specs.Noted.{kept_count, live_count, may_count, mays_of}
use Rattle.audited_volume.specs.Seats.{Seated, flight_in}
use Rattle.audited_volume.proofs.Beginning.{lives_more, mays_more}
use Rattle.audited_volume.proofs.Lives.{begun_lives, begun_mays, finished_lives, gained_lives, gained_mays, mays_by, roomed_map, unbegun_lives, unseen_lives, unseen_mays, without_lives, without_mays}
use Rattle.audited_volume.proofs.Mays.{IsFewer, bit, may_fewer, may_more, may_removed}
use Rattle.counted_volume.specs.Places.{HasPlaces, kept_for_marks}
use Rattle.counted_volume.proofs.Earns.{HasAsMany, accepted_many, begun_earned, finished_earned, gained_earned, left_earned, many_earned, merges_few, refused_many, unbegun_many, unseen_many}
use Rattle.counted_volume.proofs.Flown.{fewer_fly}

-- of lists of what is live
live_fewer : (bs bs' : List Bool) → IsFewer bs' bs → live_count bs' ≤ live_count bs
live_fewer bs [] less = omega arith
live_fewer [] (true ∷ bs') less = absurd (false≢true (less 0 refl))
live_fewer [] (false ∷ bs') less = live_fewer [] bs' (λ k e. less (suc k) e)
live_fewer (true ∷ bs) (true ∷ bs') less = let rest = live_fewer bs bs' (λ k e. less (suc k) e) in omega (arith, rest)
live_fewer (true ∷ bs) (false ∷ bs') less = let rest = live_fewer bs bs' (λ k e. less (suc k) e) in omega (arith, rest)
live_fewer (false ∷ bs) (true ∷ bs') less = absurd (false≢true (less 0 refl))
live_fewer (false ∷ bs) (false ∷ bs') less = live_fewer bs bs' (λ k e. less (suc k) e)

removed_fewer : (bs : List Bool) (k : ℕ) → live_count (remove bs k) ≤ live_count bs
removed_fewer [] zero = omega arith
removed_fewer [] (suc k) = omega arith
removed_fewer (true ∷ bs) zero = omega arith
removed_fewer (false ∷ bs) zero = omega arith
removed_fewer (true ∷ bs) (suc k) = omega (arith, removed_fewer bs k)
removed_fewer (false ∷ bs) (suc k) = removed_fewer bs k

one_more : (bs : List Bool) (b : Bool) → live_count (bs ++ b ∷ []) ≤ live_count bs + 1
one_more [] true = omega arith
one_more [] false = omega arith
one_more (true ∷ bs) b = omega (arith, one_more bs b)
one_more (false ∷ bs) b = one_more bs b

-- room for copies is not seen
pub roomed_mays : {B : Type 0} (xs ys : List (Kept B)) → map unroomed xs ≡ map unroomed ys → map (λ s. may_overflow s.overflow) xs ≡ map (λ s. may_overflow s.overflow) ys
roomed_mays xs ys same = roomed_map (λ (s : Kept _). may_overflow s.overflow) (λ s. refl) xs ys same

pub roomed_overflows : {B : Type 0} (xs ys : List (Kept B)) → map unroomed xs ≡ map unroomed ys → map (λ s. s.overflow) xs ≡ map (λ s. s.overflow) ys
roomed_overflows xs ys same = roomed_map (λ (s : Kept _). s.overflow) (λ s. refl) xs ys same

-- of volumes: what keeps a place for each
module _ {B : Type 0} (v w : Volumed B) where
  -- no more are live, and no more may overflow
  pub record HasFewer : Type 0 where
    pub live : live_count (lives_of w) ≤ live_count (lives_of v)
    pub marks : kept_for_marks w ≤ kept_for_marks v

  fewer_have : (p q : ℕ) → length w.flights ≤ length v.flights → HasFewer → p ≤ q → q + kept_for_marks v ≤ 65_536 → AreEarned (q + kept_for_marks w) w → HasPlaces v p → HasPlaces w q
  fewer_have p q fly less more few earned h = record { enough = omega (arith, fly, less.live, more, h.enough); few = omega (arith, few, less.marks); earned = earned }

  -- and no more of anything
  still_have : (places : ℕ) → length w.flights ≤ length v.flights → HasFewer → HasAsMany v w 0 → HasPlaces v places → HasPlaces w places
  still_have places fly less many h =
      fewer_have places places fly less (omega arith) h.few (many_earned v w 0 (places + kept_for_marks v) (places + kept_for_marks w) many (omega (arith, less.marks)) h.earned) h

  are_fewer : IsFewer (lives_of w) (lives_of v) → IsFewer (mays_of w) (mays_of v) → HasFewer
  are_fewer lives mays = record { live = live_fewer (lives_of v) (lives_of w) lives; marks = may_fewer (lives_of v) (lives_of w) (mays_of v) (mays_of w) lives mays }

  alike_fewer : lives_of w ≡ lives_of v → mays_of w ≡ mays_of v → HasFewer
  alike_fewer lives mays = are_fewer (same_lives v w lives) (same_fewer (mays_of w) (mays_of v) mays)

  pub alike_marks : lives_of w ≡ lives_of v → mays_of w ≡ mays_of v → kept_for_marks w ≡ kept_for_marks v
  alike_marks lives mays = (λ i. may_count (lives i) (mays i))

  same_mays : map (λ s. s.overflow) w.snaps ≡ map (λ s. s.overflow) v.snaps → IsFewer (mays_of w) (mays_of v)
  same_mays same = same_fewer (mays_of w) (mays_of v) (mays_by v w same)

  set_mays : (place : ℕ) → mays_of w ≡ set (mays_of v) place false → IsFewer (mays_of w) (mays_of v)
  set_mays place is = then_fewer (mays_of w) (set (mays_of v) place false) (mays_of v) is (set_fewer (mays_of v) place)

  module _ (faults : B → ℕ) where
    -- an event
    pub stepped_have : (event : Event) (outcome : Outcome) (places : ℕ) → IsFlown event outcome (map in_flight v.flights) (map in_flight w.flights) → HasCause faults event outcome v w → map (λ s. s.overflow) w.snaps ≡ map (λ s. s.overflow) v.snaps → HasAsMany v w 0 → HasPlaces v places → HasPlaces w places
    stepped_have event outcome places flown cause overflows many h =
        let less = fewer_fly event outcome (map in_flight v.flights) (map in_flight w.flights) flown in
        still_have places (omega (arith, less, length-map v.flights in_flight, length-map w.flights in_flight)) (are_fewer (caused_lives v w faults event outcome cause) (same_mays overflows)) many h

  module _ (contents : B → List ℕ) (layers : B → List Layer) where
    -- a request that is accepted, in one place more
    pub accepted_have : (request : Request) (number places : ℕ) → IsAcceptedAs contents layers request number v w → places + kept_for_marks v + 1 ≤ 65_536 → HasPlaces v places → HasPlaces w (places + 1)
    accepted_have request number places is few h =
        let less = are_fewer (accepted_lives v w contents layers request number is) (same_mays is.overflows) in
        let flown = ap (λ (rs : List InFlight). length rs) is.flown in
        let one : length (map in_flight v.flights ++ record { number = number; request = kept request } ∷ []) ≡ length (map in_flight v.flights) + 1 = length_more (map in_flight v.flights) _ in
        record {
          enough = omega (arith, less.live, flown, one, length-map v.flights in_flight, length-map w.flights in_flight, h.enough);
          few = omega (arith, less.marks, few);
          earned = many_earned v w 1 (places + kept_for_marks v) (places + 1 + kept_for_marks w) (accepted_many v w contents layers request number is) (omega (arith, less.marks)) h.earned;
        }
      where
        length_more : (rs : List InFlight) (r : InFlight) → length (rs ++ r ∷ []) ≡ length rs + 1
        length_more [] r = omega arith
        length_more (x ∷ rs) r = omega (arith, length_more rs r)

    -- and one that is refused: a mark's entry has the place that was kept free for it
    refused_fewer : (size : B → ℕ) (request : Request) (refusal : Refusal) → IsRefusedAs contents layers size request refusal v w → (length w.flights ≡ length v.flights) × HasFewer
    refused_fewer size request refusal (inl is) = (ap (λ (x : Volumed B). length x.flights) is.1, are_fewer (same_lives v w (ap lives_of is.1)) (same_fewer (mays_of w) (mays_of v) (ap mays_of is.1)))
    refused_fewer size request refusal (inr (inl is)) =
        let room : SameButRoom v w = is.2 in
        (ap (λ (x : Volumed B). length x.flights) room.becomes, are_fewer (same_lives v w (roomed_lives w.snaps v.snaps room.roomed)) (same_fewer (mays_of w) (mays_of v) (roomed_mays w.snaps v.snaps room.roomed)))
    refused_fewer size request refusal (inr (inr (inl is))) =
        let number : ℕ = is.2.0 in
        let full : IsFoundFull contents layers number _ v w = is.2.2 in
        let after : List (Kept B) = set v.snaps full.place (spoilt_of full.snap) in (
          ap (λ (x : Volumed B). length x.flights) full.becomes ∙ length-map v.flights (refused_of (number ∷ [])),
          are_fewer (set_lives v w full.place (roomed_lives w.snaps after full.spoilt ∙ map-set (λ (s : Kept B). s.live) v.snaps full.place (spoilt_of full.snap)))
              (set_mays full.place (roomed_mays w.snaps after full.spoilt ∙ map-set (λ (s : Kept B). may_overflow s.overflow) v.snaps full.place (spoilt_of full.snap) ∙ ap (set (mays_of v) full.place) (ap may_overflow full.strict))),
        )
    refused_fewer size request refusal (inr (inr (inr is))) =
        let number : ℕ = is.2.0 in
        let full : IsOverflown contents layers number _ v w = is.2.2 in
        let snap : Kept B = record full.snap { overflow = Did } in
        let after : List (Kept B) = set v.snaps full.place snap in
        let alive : lives_of w ≡ lives_of v = roomed_lives w.snaps after full.marked ∙ map-set (λ (s : Kept B). s.live) v.snaps full.place snap ∙ set_own v.snaps full.place full.snap full.is in (
          ap (λ (x : Volumed B). length x.flights) full.becomes,
          are_fewer (same_lives v w alive) (set_mays full.place (roomed_mays w.snaps after full.marked ∙ map-set (λ (s : Kept B). may_overflow s.overflow) v.snaps full.place snap)),
        )

    pub refused_have : (size : B → ℕ) (request : Request) (refusal : Refusal) (places may : ℕ) → IsRefusedAs contents layers size request refusal v w → KeepsDevices v w → may ≡ kept_for_marks v → HasPlaces v places → HasPlaces w (places + (may - kept_for_marks w))
    refused_have size request refusal places may is kept was h =
        let f = refused_fewer size request refusal is in
        record {
          enough = omega (arith, f.0, f.1.live, h.enough);
          few = omega (arith, f.1.marks, was, h.few);
          earned = many_earned v w 0 (places + kept_for_marks v) (places + (may - kept_for_marks w) + kept_for_marks w) (refused_many v w contents layers size request refusal is kept) (omega (arith, f.1.marks, was)) h.earned;
        }

    pub refused_fewer_marks : (size : B → ℕ) (request : Request) (refusal : Refusal) → IsRefusedAs contents layers size request refusal v w → kept_for_marks w ≤ kept_for_marks v
    refused_fewer_marks size request refusal is = (refused_fewer size request refusal is).1.marks

    -- what nobody sees
    pub unseen_have : (places : ℕ) → plain_of contents layers w ≡ plain_of contents layers v → (w.requests ≡ v.requests) × (w.attached ≡ v.attached) → HasPlaces v places → HasPlaces w places
    unseen_have places same given h =
        let e = ap (λ (p : Plain). length p.requests) same in
        still_have places (omega (arith, e, length-map v.flights in_flight, length-map w.flights in_flight)) (alike_fewer (unseen_lives v w contents layers same) (unseen_mays v w contents layers same)) (unseen_many v w contents layers same given) h

    pub unseen_marks : plain_of contents layers w ≡ plain_of contents layers v → kept_for_marks w ≡ kept_for_marks v
    unseen_marks same = alike_marks (unseen_lives v w contents layers same) (unseen_mays v w contents layers same)

  -- a snapshot that is taken, in two places more, and one for its mark where it may overflow
  gained_bit : (contents : B → List ℕ) (layers : B → List Layer) (size : B → ℕ) (number : ℕ) (wanted : Bool) (store : StoreDev B) → IsGained contents layers size number wanted store v w → kept_for_marks w ≡ kept_for_marks v + bit wanted
  gained_bit contents layers size number wanted store is =
      let lives = gained_lives v w contents layers size number wanted store is in
      let mays = gained_mays v w contents layers size number wanted store is in
      (λ i. may_count (lives i) (mays i)) ∙ may_more (lives_of v) (mays_of v) true wanted (length-map v.snaps (λ s. may_overflow s.overflow) ∙ sym (length-map v.snaps (λ s. s.live)))

  bit_for : (wanted : Bool) → bit wanted + 2 ≡ places_for wanted
  bit_for true = refl
  bit_for false = refl

  bit_few : (wanted : Bool) → bit wanted ≤ 1
  bit_few true = omega arith
  bit_few false = omega arith

  pub gained_have : (contents : B → List ℕ) (layers : B → List Layer) (size : B → ℕ) (number : ℕ) (wanted : Bool) (store : StoreDev B) (places more : ℕ) → IsGained contents layers size number wanted store v w → number ≡ v.attached + 1 → more ≡ places_for wanted → places + kept_for_marks v + more ≤ 65_536 → HasPlaces v places → HasPlaces w (places + 2)
  gained_have contents layers size number wanted store places more is next for few h =
      let live = ap live_count (gained_lives v w contents layers size number wanted store is) in
      let marks = gained_bit contents layers size number wanted store is in
      let e = ap (λ (x : Volumed B). length x.flights) is.becomes in
      record {
        enough = omega (arith, live, one_more (lives_of v) true, e, h.enough);
        few = omega (arith, marks, for, bit_for wanted, few);
        earned = gained_earned v w contents layers size number wanted store (places + kept_for_marks v) (places + 2 + kept_for_marks w) is next (omega (arith, marks, bit_few wanted)) h.earned;
      }

  left_lives : (place : ℕ) → lives_of w ≡ remove (lives_of v) place → mays_of w ≡ remove (mays_of v) place → HasFewer
  left_lives place live may = record {
    live = (let e = ap live_count live in omega (arith, e, removed_fewer (lives_of v) place));
    marks = (let e : kept_for_marks w ≡ may_count (remove (lives_of v) place) (remove (mays_of v) place) = (λ i. may_count (live i) (may i)) in omega (arith, e, may_removed (lives_of v) (mays_of v) place));
  }

  -- one that leaves
  left_less : (number : ℕ) (store : StoreDev B) → IsWithout number v w store → HasFewer
  left_less number store is = left_lives is.place (without_lives v w number is.place is.found store is) (without_mays v w number is.place is.found store is)

  pub left_fewer : (number : ℕ) (store : StoreDev B) → IsWithout number v w store → live_count (lives_of w) ≤ live_count (lives_of v)
  left_fewer number store is = (left_less number store is).live

  pub left_have : (number : ℕ) (store : StoreDev B) (places live : ℕ) → IsWithout number v w store → live ≡ live_count (lives_of v) → places + kept_for_marks v + 1 ≤ 65_536 → HasPlaces v places → HasPlaces w (places + 1 - (live - live_count (lives_of w)))
  left_have number store places live is was few h =
      let less = left_less number store is in
      let e = ap (λ (x : Volumed B). length x.flights) is.becomes in
      record {
        enough = omega (arith, less.live, e, was, h.enough);
        few = omega (arith, few, less.marks);
        earned = left_earned v w number store (places + kept_for_marks v) (places + 1 - (live - live_count (lives_of w)) + kept_for_marks w) is (omega (arith, less.marks)) h.earned;
      }

  -- a merge that begins, or does not, or is taken out
  begun_less : (number : ℕ) → IsMergeBegun number v w → HasFewer
  begun_less number is = left_lives is.place (begun_lives v w number is.place is.found is) (begun_mays v w number is.place is.found is)

  begun_have : (number places : ℕ) → IsMergeBegun number v w → HasPlaces v places → HasPlaces w places
  begun_have number places is h =
      let e = ap (λ (x : Volumed B). length x.flights) is.becomes in
      let less = begun_less number is in
      fewer_have places places (omega (arith, e)) less (omega arith) h.few (begun_earned v w number (places + kept_for_marks v) (places + kept_for_marks w) is (omega (arith, less.marks)) h.earned) h

  unbegun_flights : (number : ℕ) (refusal : Refusal) → IsNotBegun number refusal v w → length w.flights ≡ length v.flights
  unbegun_flights number refusal (inl is) = ap (λ (x : Volumed B). length x.flights) is.1
  unbegun_flights number refusal (inr is) = (let kept : SameButKept v w = is.2 in ap (λ (x : Volumed B). length x.flights) kept.becomes)

  unbegun_have : (number : ℕ) (refusal : Refusal) (places : ℕ) → IsNotBegun number refusal v w → HasPlaces v places → HasPlaces w places
  unbegun_have number refusal places is h =
      let e = unbegun_flights number refusal is in
      let alike = unbegun_lives v w number refusal is in
      still_have places (omega (arith, e)) (alike_fewer alike.0 alike.1) (unbegun_many v w number refusal is) h

  pub unbegun_marks : (number : ℕ) (refusal : Refusal) → IsNotBegun number refusal v w → kept_for_marks w ≡ kept_for_marks v
  unbegun_marks number refusal is = (let alike = unbegun_lives v w number refusal is in alike_marks alike.0 alike.1)

  pub begun_or_have : {A : Type 0} (number places : ℕ) (r : Result A Refusal) → OnOk r (IsMergeBegun number v w) → IfErr r (λ refusal. IsNotBegun number refusal v w) → HasPlaces v places → HasPlaces w places
  begun_or_have number places (Ok a) begun refused h = begun_have number places begun h
  begun_or_have number places (Err e) begun refused h = unbegun_have number e places refused h

  pub finished_have : (store : StoreDev B) (places : ℕ) → IsTakenOut v w store → places + kept_for_marks v + 1 ≤ 65_536 → HasPlaces v places → HasPlaces w (places + 1)
  finished_have store places is few h =
      let e = ap (λ (x : Volumed B). length x.flights) is.becomes in
      let alike = finished_lives v w store is in
      let marks = alike_marks alike.0 alike.1 in
      fewer_have places (places + 1) (omega (arith, e)) (alike_fewer alike.0 alike.1) (omega arith) (omega (arith, few))
      (finished_earned v w store (places + kept_for_marks v) (places + 1 + kept_for_marks w) is (omega (arith, marks)) h.earned) h

-- a new volume
pub new_have : {B : Type 0} (v : Volumed B) → v.snaps ≡ [] → v.flights ≡ [] → v.merge ≡ None → HasPlaces v 0
new_have v snaps flights merge =
    let none = ap (λ (l : List (Kept _)). live_count (map (λ s. s.live) l)) snaps in
    let marks : kept_for_marks v ≡ 0 = ap (λ (l : List (Kept _)). may_count (map (λ s. s.live) l) (map (λ s. may_overflow s.overflow) l)) snaps in
    let fly = ap length flights in
    let count = ap (λ (l : List (Kept _)). length l) snaps in
    let merges = ap (λ (m : Option (Merging _)). merges_of m) merge in
    record { enough = omega (arith, none, fly); few = omega (arith, marks); earned = omega (arith, marks, count, merges) }

-- one in which nothing is in flight
pub none_flying : (held : List Seated) (flights : List Flight) → map flight_in held ≡ map in_flight flights → held ≡ [] → flights ≡ []
none_flying held [] same none = refl
none_flying held (f ∷ fs) same none = absurd (let two : [] ≡ in_flight f ∷ map in_flight fs = ap (map flight_in) (sym none) ∙ same in cc)

pub quiet_have : {B : Type 0} (v : Volumed B) (places live may : ℕ) → v.flights ≡ [] → live ≡ live_count (lives_of v) → live ≤ 8 → may ≡ kept_for_marks v → may ≤ 8 → length v.snaps ≤ 8 → places ≤ 65_536 → AreEarned places v → HasPlaces v (max places (live + may) - may)
quiet_have v places live may flights is eight kept most snaps few earned =
    let fly = ap length flights in
    record { enough = omega (arith, fly, is, kept); few = omega (arith, eight, most, kept, few); earned = omega (arith, eight, most, kept, snaps, merges_few v.merge, earned) }

-- an audit goes on with as many places
pub going_places : {B : Type 0} (a : AuditShape B) (v : Volumed B) (places live : ℕ) → a.entries ≡ [] → a.held ≡ [] → a.lives ≡ lives_of v → a.may ≡ mays_of v → a.taken ≡ places - live → live ≡ live_count (lives_of v) → HasPlaces v places
    → places_of a ≡ places + kept_for_marks v
going_places a v places live entries held lives may taken is have =
    let none = ap length entries in
    let idle = ap length held in
    let kept : kept_count a.lives a.may ≡ live_count (lives_of v) + kept_for_marks v = (λ i. kept_count (lives i) (may i)) in
    omega (arith, none, idle, kept, taken, is, have.enough)

-- and a volume with those of an audit that ends
pub quiet_places : {B : Type 0} (v w : Volumed B) (p q live may : ℕ) → w ≡ v → p ≡ q → live ≡ live_count (lives_of w) → may ≡ kept_for_marks w → max p (live + may) - may + kept_for_marks w ≡ max q (kept_count (lives_of v) (mays_of v))
quiet_places v w p q live may same count is kept =
    let marks = ap kept_for_marks same in
    let lives = ap (λ (x : Volumed _). live_count (lives_of x)) same in
    let all : kept_count (lives_of v) (mays_of v) ≡ live_count (lives_of v) + kept_for_marks v = refl in
    omega (arith, marks, lives, all, is, kept, count)

-- live snapshots, place after place
live_next : {B : Type 0} (snaps : List (Kept B)) (k : ℕ) (s : Kept B) → k < length snaps → s ≡ get_or snaps k s → live_count (map (λ x. x.live) (take (k + 1) snaps)) ≡ live_count (map (λ x. x.live) (take k snaps)) + bit s.live
live_next snaps k s within is =
    ap live_count (sym (lives_more snaps k s (map (λ x. x.live) (take k snaps)) within is refl)) ∙ last (map (λ x. x.live) (take k snaps)) s.live
  where
    last : (bs : List Bool) (b : Bool) → live_count (bs ++ b ∷ []) ≡ live_count bs + bit b
    last [] true = omega arith
    last [] false = omega arith
    last (true ∷ bs) b = omega (arith, last bs b)
    last (false ∷ bs) b = last bs b

pub live_here : {B : Type 0} (snaps : List (Kept B)) (k : ℕ) (s : Kept B) (count count' : ℕ) → k < length snaps → s ≡ get_or snaps k s → count ≡ live_count (map (λ x. x.live) (take k snaps)) → count ≤ k → s.live ≡ true → count' ≡ count + 1
    → (count' ≡ live_count (map (λ x. x.live) (take (k + 1) snaps))) × (count' ≤ k + 1)
live_here snaps k s count count' within is was few live more =
    let next = live_next snaps k s within is in
    let one : bit s.live ≡ 1 = ap bit live in
    (omega (arith, next, one, was, more), omega (arith, few, more))

pub spoilt_here : {B : Type 0} (snaps : List (Kept B)) (k : ℕ) (s : Kept B) (count count' : ℕ) → k < length snaps → s ≡ get_or snaps k s → count ≡ live_count (map (λ x. x.live) (take k snaps)) → count ≤ k → s.live ≡ false → count' ≡ count
    → (count' ≡ live_count (map (λ x. x.live) (take (k + 1) snaps))) × (count' ≤ k + 1)
spoilt_here snaps k s count count' within is was few spoilt same =
    let next = live_next snaps k s within is in
    let none : bit s.live ≡ 0 = ap bit spoilt in
    (omega (arith, next, none, was, same), omega (arith, few, same))

-- and those that may overflow
may_next : {B : Type 0} (snaps : List (Kept B)) (k : ℕ) (s : Kept B) → k < length snaps → s ≡ get_or snaps k s
    → may_count (map (λ x. x.live) (take (k + 1) snaps)) (map (λ x. may_overflow x.overflow) (take (k + 1) snaps)) ≡ may_count (map (λ x. x.live) (take k snaps)) (map (λ x. may_overflow x.overflow) (take k snaps)) + bit (s.live && may_overflow s.overflow)
may_next snaps k s within is =
    (λ i. may_count (sym (lives_more snaps k s (map (λ x. x.live) (take k snaps)) within is refl) i) (sym (mays_more snaps k s (map (λ x. may_overflow x.overflow) (take k snaps)) within is refl) i))
    ∙ may_more (map (λ x. x.live) (take k snaps)) (map (λ x. may_overflow x.overflow) (take k snaps)) s.live (may_overflow s.overflow) (length-map (take k snaps) (λ x. may_overflow x.overflow) ∙ sym (length-map (take k snaps) (λ x. x.live)))

pub may_here : {B : Type 0} (snaps : List (Kept B)) (k : ℕ) (s : Kept B) (b : Bool) (count count' : ℕ) → k < length snaps → s ≡ get_or snaps k s
    → count ≡ may_count (map (λ x. x.live) (take k snaps)) (map (λ x. may_overflow x.overflow) (take k snaps)) → count ≤ k → b ≡ (s.live && may_overflow s.overflow) → count' ≡ count + bit b
    → (count' ≡ may_count (map (λ x. x.live) (take (k + 1) snaps)) (map (λ x. may_overflow x.overflow) (take (k + 1) snaps))) × (count' ≤ k + 1)
may_here snaps k s b count count' within is was few one now =
    let next = may_next snaps k s within is in
    let same : bit b ≡ bit (s.live && may_overflow s.overflow) = ap bit one in
    (omega (arith, next, same, was, now), omega (arith, few, low b, now))
  where
    low : (b : Bool) → bit b ≤ 1
    low true = omega arith
    low false = omega arith
