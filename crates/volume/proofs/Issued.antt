-- Whether a request is to be issued, by its place.
use Rattle.std.proofs.Common.{◌≡◌, ℕ, zero, suc, ◌<◌, true, false, List, [], ◌∷◌, Some, None, length, get_or, refl, sym, ◌∙◌, ap, inl, inr, arith, nat_eq}
use Rattle.std.specs.List.{list_any, position}
use Rattle.std.proofs.lemmas.Bool.{cases_Bool, false≢true}
use Rattle.std.proofs.lemmas.List.Quantifiers.{position-Some}
use Rattle.in_flight.specs.Due.{is_issuable, is_routed}
use Rattle.in_flight.specs.declared.flights.Flight.{Flight}
use Rattle.in_flight.specs.declared.flights.Route.{Route}
use Rattle.volume_laws.specs.Due.{is_issued}
use Rattle.snapshot_list.proofs.Finds.{position_none}

issued_by : (number : ℕ) (fs : List Flight) (k : ℕ) (d : Flight) → k < length fs → nat_eq (get_or fs k d).number number ≡ true → ((j : ℕ) → j < k → nat_eq (get_or fs j d).number number ≡ false) → is_issued number fs ≡ is_issuable (get_or fs k d)
issued_by number [] k d lt mine before = absurd (omega (arith, lt))
issued_by number (f ∷ fs) zero d lt mine before = rw mine refl
issued_by number (f ∷ fs) (suc k) d lt mine before =
    (let first : nat_eq f.number number ≡ false = before 0 (omega arith) in rw first (issued_by number fs k d (omega (arith, lt)) mine (λ j less. before (suc j) (omega (arith, less)))))

pub issued_at : (number : ℕ) (fs : List Flight) (k : ℕ) (d : Flight) (route : Route) → position (λ (f : Flight). nat_eq f.number number) fs ≡ Some k → (get_or fs k d).route ≡ route → is_issued number fs ≡ is_routed route
issued_at number fs k d route found at = (let p = position-Some (λ (f : Flight). nat_eq f.number number) fs k d found in issued_by number fs k d p.0 p.1 p.2 ∙ ap is_routed at)

none_issued : (number : ℕ) (fs : List Flight) → list_any (λ (f : Flight). nat_eq f.number number) fs ≡ false → is_issued number fs ≡ false
none_issued number [] none = refl
none_issued number (f ∷ fs) none = elim (cases_Bool (nat_eq f.number number)) [
  | inl here ↦ (let any : true ≡ false = rw here at none in absurd (false≢true (sym any)))
  | inr other ↦ (let rest : list_any (λ (x : Flight). nat_eq x.number number) fs ≡ false = rw other at none in rw other (none_issued number fs rest))
]

pub issued_none : (number : ℕ) (fs : List Flight) → position (λ (f : Flight). nat_eq f.number number) fs ≡ None → is_issued number fs ≡ false
issued_none number fs none = none_issued number fs (position_none (λ (f : Flight). nat_eq f.number number) fs none)
