-- A request that was put in flight was accepted; where nothing changed, nothing but room was made.
use Rattle.std.specs.Prelude.{Result, Ok, Err, IfOk, IfErr}
use Rattle.std.proofs.Common.{◌≡◌, ℕ, List, [], ◌∷◌, ◌++◌, map, refl, sym, ◌∙◌, ap, subst}
use Rattle.device.specs.Layers.{Layer}
use Rattle.plain_machine.specs.Legal.{IsSubmitted}
use Rattle.plain_machine.specs.declared.request.Request.{Request}
use Rattle.plain_machine.specs.Plain.{InFlight}
use Rattle.in_flight.specs.Kinds.{in_flight, kind_of}
use Rattle.in_flight.specs.declared.flights.Flight.{Flight}
use Rattle.in_flight.specs.declared.flights.Kind.{Kind}
use Rattle.in_flight.specs.declared.flights.Route.{Route}
use Rattle.snapshot.specs.Kept.{Kept}
use Rattle.volume.specs.Volumed.{Volumed, is_loud_in_all, plain_of}
use Rattle.volume.specs.Causes.{lives_of}
use Rattle.volume.specs.Submitting.{IsEntered, IsAcceptedAs, SameButRoom, lives_after, spoiled_by}
use Rattle.volume.specs.Exact.{IsSubmittedAs}
use Rattle.volume.proofs.Keeping.{keeps_entered}
use Rattle.volume.proofs.Unflushed.{kept_is}
use Rattle.plain_machine.specs.Kept.{kept, kept_range}

-- one more is in flight
pub entered_flown : (rs qs : List Flight) (f : Flight) → map in_flight qs ≡ map in_flight rs → map in_flight (qs ++ f ∷ []) ≡ map in_flight rs ++ in_flight f ∷ []
entered_flown rs qs f same = pushed qs ∙ ap (λ xs. xs ++ in_flight f ∷ []) same
  where
    pushed : (xs : List Flight) → map in_flight (xs ++ f ∷ []) ≡ map in_flight xs ++ in_flight f ∷ []
    pushed [] = refl
    pushed (x ∷ xs) = ap (λ ys. in_flight x ∷ ys) (pushed xs)

-- as it is kept
pub kept_flown : (rs qs : List Flight) (f : Flight) → kept_range f.request.op f.request.range ≡ f.request.range → map in_flight qs ≡ map in_flight rs
    → map in_flight (qs ++ f ∷ []) ≡ map in_flight rs ++ (let x : InFlight = record { number = f.number; request = kept f.request } in x) ∷ []
kept_flown rs qs f whole same = entered_flown rs qs f same
    ∙ ap (λ (q : Request). map in_flight rs ++ (let x : InFlight = record { number = f.number; request = q } in x) ∷ []) (sym (kept_is f.request whole))

-- one that spoils nothing
pub entered_accepted : {B : Type 0} (contents : B → List ℕ) (layers : B → List Layer) (request : Request) (route : Route) (number : ℕ) (v w : Volumed B) (kind : Kind) → kind_of request ≡ kind → kept_range request.op request.range ≡ request.range → spoiled_by kind request.range.first v.merge v.snaps ≡ [] → lives_of v ≡ lives_after kind request.range.first v.merge v.snaps
    → IsEntered contents layers request route number v w → IsSubmittedAs contents layers request number v w → IsAcceptedAs contents layers request number v w
entered_accepted {B = B} contents layers request route number v w kind is_kind whole none live e exact = record {
  next = e.next;
  origin = ap (λ (x : Volumed _). x.origin) e.becomes;
  given = ap (λ (x : Volumed _). x.requests) e.becomes ∙ sym e.next;
  fresh = e.fresh;
  loud = ap (is_loud_in_all layers) e.becomes;
  legal = λ loud.
      (let first = request.range.first in
      subst (λ (ns : List ℕ). IsSubmitted ns (plain_of contents layers v) number request (plain_of contents layers w)) (sym none ∙ sym (ap (λ (q : Kind). spoiled_by q first v.merge v.snaps) is_kind)) (e.legal loud));
  lives =
      (let first = request.range.first in
      ap lives_of e.becomes ∙ live ∙ sym (ap (λ (q : Kind). lives_after q first v.merge v.snaps) is_kind));
  flown = ap (λ (x : Volumed _). map in_flight x.flights) e.becomes ∙ entered_flown v.flights v.flights e.flight refl
      ∙ ap (λ (x : InFlight). map in_flight v.flights ++ x ∷ []) (ap (λ (n : ℕ). let x : InFlight = record { number = n; request = e.flight.request } in x) e.number_is ∙ ap (λ (q : Request). let x : InFlight = record { number = number; request = q } in x) (e.request_is ∙ sym (kept_is request whole)));
  exact = exact;
  overflows = ap (λ (x : Volumed B). map (λ (s : Kept B). s.overflow) x.snaps) e.becomes;
  kept = keeps_entered contents layers v w e.flight e.becomes;
}

pub same_roomed : {B : Type 0} (v w : Volumed B) → w ≡ v → SameButRoom v w
same_roomed {B = B} v w e = subst (λ (x : Volumed B). SameButRoom v x) (sym e) (record { roomed = refl; becomes = refl })

-- what holds of each value, and of each error
pub if_ok : {X E : Type 0} (r : Result X E) (P Q : X → Type 0) → ((x : X) → P x → Q x) → IfOk r P → IfOk r Q
if_ok (Ok x) P Q f h = f x h
if_ok (Err e) P Q f h = tt

pub if_err : {X E : Type 0} (r : Result X E) (P Q : E → Type 0) → ((e : E) → P e → Q e) → IfErr r P → IfErr r Q
if_err (Ok x) P Q f h = tt
if_err (Err e) P Q f h = f e h
