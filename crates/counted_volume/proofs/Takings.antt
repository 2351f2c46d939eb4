-- How many places a call takes: by the places that are counted, and by what it does to the snapshots.
use Rattle.std.proofs.Common.{◌≡◌, ◌≢◌, ◌⊎◌, inl, inr, ℕ, zero, suc, ◌+◌, ◌<◌, ◌≤◌, Bool, true, false, List, [], ◌∷◌, ◌++◌, length, get_or, set, map, Option, Some, None, refl, sym, ◌∙◌, ap, arith}
use Rattle.std.specs.Prelude.{Err, IfErr, Ok, OnOk, Result, if◌then◌else◌}
use Rattle.std.specs.List.{remove}
use Rattle.std.proofs.lemmas.Bool.{false≢true}
use Rattle.std.proofs.lemmas.List.{get_or-map, length-map, map-set}
use Rattle.device.specs.Layers.{Layer}
use Rattle.merge.specs.Merging.{Merging}
use Rattle.sector.specs.declared.refusal.Refusal.{Refusal}
use Rattle.sector.specs.declared.refusal.Refusal.TheVariants.{Invalid, JournalFull, NotQuiet}
use Rattle.plain_machine.specs.Plain.{may_overflow}
use Rattle.plain_machine.specs.declared.event.Event.{Event}
use Rattle.plain_machine.specs.declared.event.NotDue.{NotDue}
use Rattle.plain_machine.specs.declared.event.Outcome.{Outcome}
use Rattle.plain_machine.specs.declared.request.Overflowing.{Overflowing}
use Rattle.plain_machine.specs.declared.request.Overflowing.TheVariants.{Did, May, Never}
use Rattle.plain_machine.specs.declared.request.Request.{Request}
use Rattle.whole_commands.specs.Refusals.{IsStarved}
use Rattle.snapshot.specs.Kept.{Kept}
use Rattle.snapshot.specs.declared.opening.StoreDev.{StoreDev}
use Rattle.snapshot_list.specs.Finding.{place_of_snap}
use Rattle.snapshot_list.specs.Starting.{spoilt_of}
use Rattle.volume.specs.Attached.{IsGained}
use Rattle.volume.specs.Beginning.{IsMergeBegun, IsNotBegun, begin_refusal, begin_with, place_refusal}
use Rattle.volume.specs.Causes.{lives_of}
use Rattle.volume.specs.DoesStep.{DoesStep}
use Rattle.volume.specs.Finishing.{IsTakenOut}
use Rattle.volume.specs.Leaving.{is_quiet_of}
use Rattle.volume.specs.Submitting.{IsAcceptedAs, IsFoundFull, IsOverflown, IsRefusedAs, SameButRoom}
use Rattle.volume.specs.Volumed.{Volumed}
use Rattle.volume.proofs.FewerLives.{roomed_lives, set_own}
use Rattle.volume.proofs.Named.{found_within}
use Rattle.volume.proofs.Savings.{overflows_live}
use Rattle.audited_volume.specs.Noted.{live_count, may_count, mays_of}
use Rattle.audited_volume.proofs.Lives.{begun_lives, finished_lives, gained_lives, mays_by}
use Rattle.audited_volume.proofs.Mays.{may_marked}
use Rattle.counted_volume.specs.Places.{Counted, counted_with, kept_for_marks, kept_for_snaps}
use Rattle.counted_volume.specs.TakesPlaces.{TakesByRequests, TakesPlaces, did_count, places_of_marks}
use Rattle.counted_volume.proofs.Fewer.{alike_marks, roomed_mays, roomed_overflows, unbegun_marks}
use Rattle.counted_volume.proofs.Full.{has_room, is_full, unbegun_other}
use Rattle.counted_volume.proofs.Refusing.{refused_given}

-- what is counted first: a journal that has no room, one that has, and what came of the call then
pub full_takes : {A B : Type 0} (most places may : ℕ) (kept : Volumed B → ℕ) (v : Volumed B) → may ≡ kept_for_marks v → 65_536 < places + may + most → TakesPlaces {A = A} most kept (Err JournalFull) (counted_with v places) (counted_with v places)
full_takes most places may kept v is over = record { full = inl (is_full most (places + kept_for_marks v) (omega (arith, is, over)), refl); taken = refl }

pub done_takes : {A B : Type 0} (most places p may : ℕ) (kept : Volumed B → ℕ) (v w : Volumed B) (done : A) → may ≡ kept_for_marks v → places + may + most ≤ 65_536 → p + kept_for_marks w + kept v ≡ places + kept_for_marks v + 1 + kept w
    → TakesPlaces most kept (Ok done) (counted_with v places) (counted_with w p)
done_takes most places p may kept v w done is within taken = record { full = has_room most (places + kept_for_marks v) (omega (arith, is, within)); taken = taken }

pub refused_takes : {A B : Type 0} (most places p may : ℕ) (kept : Volumed B → ℕ) (v w : Volumed B) (refusal : Refusal) → may ≡ kept_for_marks v → places + may + most ≤ 65_536 → refusal ≢ JournalFull → p + kept_for_marks w ≡ places + kept_for_marks v
    → TakesPlaces {A = A} most kept (Err refusal) (counted_with v places) (counted_with w p)
refused_takes most places p may kept v w refusal is within other taken = record { full = inr (has_room most (places + kept_for_marks v) (omega (arith, is, within)), other); taken = taken }

-- of lists of what is live, and of what may overflow
live_last : (bs : List Bool) → live_count (bs ++ true ∷ []) ≡ live_count bs + 1
live_last [] = omega arith
live_last (true ∷ bs) = omega (arith, live_last bs)
live_last (false ∷ bs) = live_last bs

live_removed : (bs : List Bool) (k : ℕ) → get_or bs k false ≡ true → live_count (remove bs k) + 1 ≡ live_count bs
live_removed [] zero is = absurd (false≢true is)
live_removed [] (suc k) is = absurd (false≢true is)
live_removed (true ∷ bs) zero is = omega arith
live_removed (false ∷ bs) zero is = absurd (false≢true is)
live_removed (true ∷ bs) (suc k) is = omega (arith, live_removed bs k is)
live_removed (false ∷ bs) (suc k) is = live_removed bs k is

none_lost : (bs ms : List Bool) (k : ℕ) → get_or ms k false ≡ false → may_count (set bs k false) ms ≡ may_count bs ms
none_lost [] ms k is = refl
none_lost (b ∷ bs) [] zero is = refl
none_lost (b ∷ bs) [] (suc k) is = refl
none_lost (true ∷ bs) (false ∷ ms) zero is = refl
none_lost (true ∷ bs) (true ∷ ms) zero is = absurd (false≢true (sym is))
none_lost (false ∷ bs) (m ∷ ms) zero is = refl
none_lost (true ∷ bs) (true ∷ ms) (suc k) is = ap suc (none_lost bs ms k is)
none_lost (true ∷ bs) (false ∷ ms) (suc k) is = none_lost bs ms k is
none_lost (false ∷ bs) (m ∷ ms) (suc k) is = none_lost bs ms k is

did_once : (os : List Overflowing) (k : ℕ) → k < length os → get_or os k Did ≡ May → did_count (set os k Did) ≡ did_count os + 1
did_once [] k within is = absurd (omega (arith, within))
did_once (May ∷ os) zero within is = omega arith
did_once (Never ∷ os) zero within is = absurd (cc)
did_once (Did ∷ os) zero within is = absurd (cc)
did_once (Never ∷ os) (suc k) within is = did_once os k (omega (arith, within)) is
did_once (May ∷ os) (suc k) within is = did_once os k (omega (arith, within)) is
did_once (Did ∷ os) (suc k) within is = (let rest = did_once os k (omega (arith, within)) is in omega (arith, rest))

at_own : {A X : Type 0} (f : A → X) (xs : List A) (k : ℕ) (x : A) (e : X) → k < length xs → x ≡ get_or xs k x → get_or (map f xs) k e ≡ f x
at_own f xs k x e within is = get_or-map f xs k x e within ∙ ap f (sym is)

own_overflow : {B : Type 0} (snaps : List (Kept B)) (k : ℕ) (s : Kept B) → s ≡ get_or snaps k s → set (map (λ x. x.overflow) snaps) k s.overflow ≡ map (λ x. x.overflow) snaps
own_overflow [] k s is = refl
own_overflow (x ∷ snaps) zero s is = ap (λ (y : Kept _). y.overflow ∷ map (λ z. z.overflow) snaps) is
own_overflow (x ∷ snaps) (suc k) s is = ap (λ os. x.overflow ∷ os) (own_overflow snaps k s is)

-- the snapshot that begins to be merged is live
begun_alive : (lives : List Bool) (quiet : Bool) (k : ℕ) → place_refusal lives quiet (Some k) ≡ None → get_or lives k false ≡ true
begun_alive lives quiet k free = by (get_or lives k false) free
  where
    by : (b : Bool) → (if b then (if quiet then None else Some NotQuiet) else Some Invalid) ≡ None → b ≡ true
    by true free = refl
    by false free = absurd (cc)

module _ {B : Type 0} (v w : Volumed B) where
  -- changes of which snapshots there are
  pub gained_live : (contents : B → List ℕ) (layers : B → List Layer) (size : B → ℕ) (number : ℕ) (wanted : Bool) (store : StoreDev B) → IsGained contents layers size number wanted store v w → live_count (lives_of w) ≡ live_count (lives_of v) + 1
  gained_live contents layers size number wanted store is = ap live_count (gained_lives v w contents layers size number wanted store is) ∙ live_last (lives_of v)

  begun_alone : (number place : ℕ) (merge : Option (Merging B)) → begin_with merge number v ≡ None → place_of_snap number v.snaps ≡ Some place → get_or (lives_of v) place false ≡ true
  begun_alone number place None free found = begun_alive (lives_of v) (is_quiet_of v) place (ap (place_refusal (lives_of v) (is_quiet_of v)) (sym found) ∙ free)
  begun_alone number place (Some m) free found = absurd (cc)

  pub begun_live : (number : ℕ) → IsMergeBegun number v w → begin_refusal number v ≡ None → live_count (lives_of w) + 1 ≡ live_count (lives_of v)
  begun_live number is free =
      let e = ap live_count (begun_lives v w number is.place is.found is) in
      let one = live_removed (lives_of v) is.place (begun_alone number is.place v.merge free is.found) in omega (arith, e, one)

  pub finished_live : (store : StoreDev B) → IsTakenOut v w store → live_count (lives_of w) ≡ live_count (lives_of v)
  finished_live store is = ap live_count (finished_lives v w store is).0

  -- requests and events
  overflows_alike : map (λ s. s.overflow) w.snaps ≡ map (λ s. s.overflow) v.snaps → did_count (map (λ s. s.overflow) w.snaps) ≡ did_count (map (λ s. s.overflow) v.snaps)
  overflows_alike same = ap did_count same

  found_marks : (contents : B → List ℕ) (layers : B → List Layer) (number first : ℕ) → IsFoundFull contents layers number first v w → places_of_marks w ≡ places_of_marks v
  found_marks contents layers number first full =
      let after : List (Kept B) = set v.snaps full.place (spoilt_of full.snap) in
      let within : full.place < length v.snaps = found_within number v.snaps full.place (sym full.found) in
      let overflows : map (λ s. s.overflow) w.snaps ≡ map (λ s. s.overflow) v.snaps = roomed_overflows w.snaps after full.spoilt ∙ map-set (λ (s : Kept B). s.overflow) v.snaps full.place (spoilt_of full.snap) ∙ own_overflow v.snaps full.place full.snap full.is in
      let lives : lives_of w ≡ set (lives_of v) full.place false = roomed_lives w.snaps after full.spoilt ∙ map-set (λ (s : Kept B). s.live) v.snaps full.place (spoilt_of full.snap) in
      let mays : mays_of w ≡ mays_of v = mays_by v w overflows in
      let never : get_or (mays_of v) full.place false ≡ false = at_own (λ (s : Kept B). may_overflow s.overflow) v.snaps full.place full.snap false within full.is ∙ ap may_overflow full.strict in
      let marks : kept_for_marks w ≡ kept_for_marks v = (λ i. may_count (lives i) (mays i)) ∙ none_lost (lives_of v) (mays_of v) full.place never in
      let did = overflows_alike overflows in
      omega (arith, marks, did)

  overflown_marks : (contents : B → List ℕ) (layers : B → List Layer) (number first : ℕ) → IsOverflown contents layers number first v w → places_of_marks w ≡ places_of_marks v
  overflown_marks contents layers number first full =
      let snap : Kept B = record full.snap { overflow = Did } in
      let after : List (Kept B) = set v.snaps full.place snap in
      let within : full.place < length v.snaps = found_within number v.snaps full.place (sym full.found) in
      let alive : lives_of w ≡ lives_of v = roomed_lives w.snaps after full.marked ∙ map-set (λ (s : Kept B). s.live) v.snaps full.place snap ∙ set_own v.snaps full.place full.snap full.is in
      let mays : mays_of w ≡ set (mays_of v) full.place false = roomed_mays w.snaps after full.marked ∙ map-set (λ (s : Kept B). may_overflow s.overflow) v.snaps full.place snap in
      let overflows : map (λ s. s.overflow) w.snaps ≡ set (map (λ s. s.overflow) v.snaps) full.place Did = roomed_overflows w.snaps after full.marked ∙ map-set (λ (s : Kept B). s.overflow) v.snaps full.place snap in
      let live : get_or (lives_of v) full.place false ≡ true = at_own (λ (s : Kept B). s.live) v.snaps full.place full.snap false within full.is ∙ overflows_live _ full.snap full.full in
      let may : get_or (mays_of v) full.place false ≡ true = at_own (λ (s : Kept B). may_overflow s.overflow) v.snaps full.place full.snap false within full.is ∙ ap may_overflow full.may in
      let was : get_or (map (λ s. s.overflow) v.snaps) full.place Did ≡ May = at_own (λ (s : Kept B). s.overflow) v.snaps full.place full.snap Did within full.is ∙ full.may in
      let same : kept_for_marks w ≡ may_count (lives_of v) (set (mays_of v) full.place false) = (λ i. may_count (alive i) (mays i)) in
      let one = may_marked (lives_of v) (mays_of v) full.place live may in
      let did = ap did_count overflows in
      let once = did_once (map (λ s. s.overflow) v.snaps) full.place (omega (arith, within, length-map v.snaps (λ s. s.overflow))) was in
      omega (arith, same, one, did, once)

  refused_marks : (contents : B → List ℕ) (layers : B → List Layer) (size : B → ℕ) (request : Request) (refusal : Refusal) → IsRefusedAs contents layers size request refusal v w → places_of_marks w ≡ places_of_marks v
  refused_marks contents layers size request refusal (inl is) = ap places_of_marks is.1
  refused_marks contents layers size request refusal (inr (inl is)) =
      let room : SameButRoom v w = is.2 in
      let marks = alike_marks v w (roomed_lives w.snaps v.snaps room.roomed) (roomed_mays w.snaps v.snaps room.roomed) in
      let did = overflows_alike (roomed_overflows w.snaps v.snaps room.roomed) in
      omega (arith, marks, did)
  refused_marks contents layers size request refusal (inr (inr (inl is))) = found_marks contents layers is.2.0 _ is.2.2
  refused_marks contents layers size request refusal (inr (inr (inr is))) = overflown_marks contents layers is.2.0 _ is.2.2

  given_marks : (contents : B → List ℕ) (layers : B → List Layer) (size : B → ℕ) (request : Request) (refusal : Refusal) → IsStarved refusal v w ⊎ IsRefusedAs contents layers size request refusal v w → places_of_marks w ≡ places_of_marks v
  given_marks contents layers size request refusal (inl starved) = ap places_of_marks starved.1
  given_marks contents layers size request refusal (inr is) = refused_marks contents layers size request refusal is

  pub stepped_takes : (holds : B → ℕ → List ℕ → Type 0) (contents : B → List ℕ) (layers : B → List Layer) (size faults done : B → ℕ) (event : Event) (places : ℕ) (result : Result Outcome NotDue) → DoesStep holds contents layers size faults done true event result v w
      → TakesByRequests (counted_with v places) (counted_with w places)
  stepped_takes holds contents layers size faults done event places (Ok outcome) does =
      let did = overflows_alike does.overflows in
      let requests = does.counts.0 in
      record { taken = omega (arith, did, requests) }
  stepped_takes holds contents layers size faults done event places (Err early) does =
      let marks = ap (λ (x : Volumed B). places_of_marks x) does.same in
      let kept = ap (λ (x : Volumed B). kept_for_marks x) does.same in
      let requests = ap (λ (x : Volumed B). x.requests) does.same in
      record { taken = omega (arith, marks, kept, requests) }

  -- a merge that begins, or does not
  pub begun_takes : {A : Type 0} (number places : ℕ) (r : Result A Refusal) → places + kept_for_marks v + 1 ≤ 65_536 → OnOk r (IsMergeBegun number v w) → OnOk r (begin_refusal number v ≡ None) → IfErr r (λ refusal. IsNotBegun number refusal v w)
      → TakesPlaces 1 kept_for_snaps r (counted_with v places) (counted_with w places)
  begun_takes number places (Ok a) within begun free refused = (let live = begun_live number begun free in done_takes 1 places places (kept_for_marks v) kept_for_snaps v w a refl within (omega (arith, live)))
  begun_takes number places (Err e) within begun free refused = refused_takes 1 places places (kept_for_marks v) kept_for_snaps v w e refl within (unbegun_other number e v w refused) (ap (λ marks. places + marks) (unbegun_marks v w number e refused))

-- one after the other
pub takes_none : {B : Type 0} (v : Counted B) → TakesByRequests v v
takes_none v = record { taken = refl }

pub takes_then : {B : Type 0} (u v w : Counted B) → TakesByRequests u v → TakesByRequests v w → TakesByRequests u w
takes_then u v w first second = record { taken = omega (arith, first.taken, second.taken) }

abbrev sent : ℕ → Result ℕ Refusal
sent number = Ok number

-- a request that is accepted, and one that is not
pub accepted_takes : {B : Type 0} (v w : Counted B) (contents : B → List ℕ) (layers : B → List Layer) (request : Request) (number : ℕ) → IsAcceptedAs contents layers request number v.volume w.volume → TakesPlaces 1 kept_for_marks (sent number) v w → TakesByRequests v w
accepted_takes v w contents layers request number is places =
    let did = ap did_count is.overflows in
    let given = is.given in
    let next = is.next in
    let takes = places.taken in
    record { taken = omega (arith, did, given, next, takes) }

pub unsent_takes : {B : Type 0} (v w : Counted B) (contents : B → List ℕ) (layers : B → List Layer) (size : B → ℕ) (request : Request) (refusal : Refusal) → IsStarved refusal v.volume w.volume ⊎ IsRefusedAs contents layers size request refusal v.volume w.volume → w.taken ≡ v.taken → TakesByRequests v w
unsent_takes v w contents layers size request refusal is same =
    let marks = given_marks v.volume w.volume contents layers size request refusal is in
    let requests = refused_given contents layers size request refusal v.volume w.volume is in
    record { taken = omega (arith, marks, requests, same) }
