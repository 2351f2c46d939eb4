-- A request is found under its number, and taken out, in a whole volume.
use Rattle.std.proofs.Common.{Bool, ◌≡◌, ℕ, zero, suc, ◌<◌, true, false, List, [], ◌∷◌, Option, Some, None, length, get_or, map, take, refl, sym, ◌∙◌, ap, subst, arith, nat_eq}
use Rattle.std.specs.Prelude.{◌==◌}
use Rattle.std.specs.List.{All, remove, position}
use Rattle.std.proofs.lemmas.List.Quantifiers.{position-Some}
use Rattle.plain_machine.specs.Plain.{asked_under, without}
use Rattle.in_flight.specs.Kinds.{in_flight}
use Rattle.in_flight.specs.declared.flights.Flight.{Flight}
use Rattle.volume_laws.specs.Books.{SnapBooks, MergeBooks, Books, listed, taken}
use Rattle.volume_laws.specs.Held.{LiveHolds, SnapHolds, RouteHolds, RefusedHolds, UntriedHolds}
use Rattle.volume_laws.specs.Merging.{MergeRouteHolds}
use Rattle.volume_laws.specs.Whole.{UnmergedHolds, OriginHolds}
use Rattle.volume_laws.specs.Steps.{TakesOut}
use Rattle.volume_laws.proofs.Lists.{All-remove}
use Rattle.volume_laws.proofs.Refusing.{merge_requests, live_requests}

-- the first request with a number
first_asked : (rs : List Flight) (k number : ℕ) (r : Flight) → k < length rs → r ≡ get_or rs k r → nat_eq r.number number ≡ true → ((j : ℕ) → j < k → nat_eq (get_or rs j r).number number ≡ false)
    → asked_under number (map in_flight rs) ≡ Some r.request
first_asked [] k number r within is mine before = absurd (omega (arith, within))
first_asked (x ∷ rs) zero number r within is mine before =
    rw (ap (λ (y : Flight). nat_eq y.number number) (sym is) ∙ mine) (ap (λ (y : Flight). Some y.request) (sym is))
first_asked (x ∷ rs) (suc k) number r within is mine before =
    rw (before 0 (omega arith)) (first_asked rs k number r (omega (arith, within)) is mine (λ j lt. before (suc j) (omega (arith, lt))))

first_out : (rs : List Flight) (k number : ℕ) (r : Flight) → k < length rs → r ≡ get_or rs k r → nat_eq r.number number ≡ true → ((j : ℕ) → j < k → nat_eq (get_or rs j r).number number ≡ false)
    → map in_flight (remove rs k) ≡ without number (map in_flight rs)
first_out [] k number r within is mine before = absurd (omega (arith, within))
first_out (x ∷ rs) zero number r within is mine before = rw (ap (λ (y : Flight). nat_eq y.number number) (sym is) ∙ mine) refl
first_out (x ∷ rs) (suc k) number r within is mine before =
    rw (before 0 (omega arith)) (ap (λ ys. in_flight x ∷ ys) (first_out rs k number r (omega (arith, within)) is mine (λ j lt. before (suc j) (omega (arith, lt)))))

-- what a look-up by number says
pub record IsFirst (number k : ℕ) (r : Flight) (rs : List Flight) : Type 0 where
  pub within : k < length rs
  pub mine : nat_eq r.number number ≡ true
  pub before : (j : ℕ) → j < k → nat_eq (get_or rs j r).number number ≡ false

pub found_first : (number k : ℕ) (r : Flight) (rs : List Flight) → position (λ (f : Flight). f.number == number) rs ≡ Some k → r ≡ get_or rs k r → IsFirst number k r rs
found_first number k r rs found is =
    let at = position-Some (λ (f : Flight). f.number == number) rs k r found in
    record { within = at.0; mine = ap (λ (y : Flight). nat_eq y.number number) is ∙ at.1; before = at.2 }

-- what is asked under the number
pub asked_first : (number k : ℕ) (r : Flight) (rs : List Flight) → position (λ (f : Flight). f.number == number) rs ≡ Some k → r ≡ get_or rs k r → asked_under number (map in_flight rs) ≡ Some r.request
asked_first number k r rs found is = let f = found_first number k r rs found is in first_asked rs k number r f.within is f.mine f.before

pub asked : (number k : ℕ) (r : Flight) (v w : Books) → TakesOut number k r v w → asked_under number (map in_flight v.requests) ≡ Some r.request
asked number k r v w e = asked_first number k r v.requests e.found e.was

pub gone : (number k : ℕ) (r : Flight) (v w : Books) → TakesOut number k r v w → map in_flight w.requests ≡ without number (map in_flight v.requests)
gone number k r v w e = let f = found_first number k r v.requests e.found e.was in ap (map in_flight) e.requests ∙ first_out v.requests k number r f.within e.was f.mine f.before

-- of the request that is found
pub found_holds : (P : Flight → Type 0) (number k : ℕ) (r : Flight) (v w : Books) → TakesOut number k r v w → All P v.requests → P r
found_holds P number k r v w e all = subst P (sym e.was) (all k r (found_first number k r v.requests e.found e.was).within)

-- what holds without it
pub origin_out : (o : List ℕ) (rs : List Flight) (k : ℕ) (merge : Option MergeBooks) → OriginHolds o rs merge → OriginHolds o (remove rs k) merge
origin_out o rs k None h = All-remove UnmergedHolds rs k h
origin_out o rs k (Some m) h = merge_requests o rs (remove rs k) m h (All-remove (MergeRouteHolds m.number m.chunk m.pairs (listed m) (taken m)) rs k h.routes)

pub live_out : {l : Bool} (o : List ℕ) (rs : List Flight) (v : SnapBooks) (k : ℕ) → LiveHolds l o rs v → LiveHolds l o (remove rs k) v
live_out o rs v k h = live_requests o rs (remove rs k) v h (All-remove (RouteHolds v.number v.chunk v.pairs v.marks) rs k h.routes)

pub snap_out : {l : Bool} (o : List ℕ) (rs : List Flight) (v : SnapBooks) (k : ℕ) → SnapHolds l o rs v → SnapHolds l o (remove rs k) v
snap_out o rs v k h = record {
  alive = λ live. live_out o rs v k (h.alive live);
  spoilt = λ dead. (let old = h.spoilt dead in record {
    copies = old.copies;
    unpublished = old.unpublished;
    routes = All-remove (RefusedHolds v.number) rs k old.routes;
    waited = λ waits. All-remove (UntriedHolds v.chunk (take v.sure v.pairs)) rs k (old.waited waits);
  });
}
