-- Where origin requests go, as to the present group of a merge.
use Rattle.std.proofs.Common.{◌≡◌, inl, inr, ℕ, Bool, true, false, List, [], ◌∷◌, ◌++◌, refl, sym, ◌∙◌, ap, subst, nat_eq}
use Rattle.std.specs.Prelude.{◌&&◌, ◌||◌, Option, Some, None}
use Rattle.std.specs.List.{list_any}
use Rattle.std.proofs.lemmas.Bool.{cases_eq, eq-eqb, ne_eqb, false≢true}
use Rattle.sector.specs.declared.pair.Pair.{Pair}
use Rattle.in_flight.specs.Kinds.{kind_of}
use Rattle.in_flight.specs.declared.flights.Flight.{Flight}
use Rattle.in_flight.specs.declared.flights.Kind.{Kind}
use Rattle.in_flight.specs.declared.flights.Kind.TheVariants.{OriginRead, OriginWrite}
use Rattle.in_flight.specs.declared.flights.Route.{Route}
use Rattle.in_flight.specs.declared.flights.Route.TheVariants.{Store}
use Rattle.volume_laws.specs.MergeDue.{is_none, last_of, goes_to, is_using, is_readable}
use Rattle.merge.specs.Due.{can_release_of, release_at, next_read_of, read_at_progress}
use Rattle.merge.specs.Lists.{waiting_of, reading_at, reading_of, copied_at, released_at, released_of, group_pairs, has_place}
use Rattle.merge.specs.Looks.{LooksAgree}
use Rattle.merge.specs.Merging.{Merging}
use Rattle.merge.specs.declared.group.Group.{Group}
use Rattle.merge.specs.declared.group.Progress.{Progress}
use Rattle.merge.specs.declared.group.Progress.TheVariants.{Open, Full, Flushed, Committed}

any_same : {X : Type 0} (f g : X → Bool) (xs : List X) → ((x : X) → f x ≡ g x) → list_any f xs ≡ list_any g xs
any_same f g [] same = refl
any_same f g (x ∷ xs) same = ap (λ b. b || list_any f xs) (same x) ∙ ap (λ b. g x || b) (any_same f g xs same)

pub any_never : {X : Type 0} (f : X → Bool) (xs : List X) → ((x : X) → f x ≡ false) → list_any f xs ≡ false
any_never f [] never = refl
any_never f (x ∷ xs) never = ap (λ b. b || list_any f xs) (never x) ∙ any_never f xs never

turned : (m n : ℕ) → nat_eq m n ≡ nat_eq n m
turned m n = elim (cases_eq m n) [
  | inl same ↦ eq-eqb m n same ∙ sym (eq-eqb n m (sym same))
  | inr other ↦ ne_eqb m n other ∙ sym (ne_eqb n m (λ e. other (sym e)))
]

-- a route to the store goes to a place of some pairs just where they have it
pub stored_read : (pairs : List Pair) (route : Route) (place : ℕ) → route ≡ Store place → has_place pairs place ≡ list_any (λ q. goes_to q.new OriginRead route) pairs
stored_read pairs route place is = any_same (λ (q : Pair). nat_eq q.new place) (λ (q : Pair). goes_to q.new OriginRead (Store place)) pairs (λ q. turned q.new place) ∙ ap (λ r. list_any (λ (q : Pair). goes_to q.new OriginRead r) pairs) (sym is)

pub stored_write : (pairs : List Pair) (route : Route) (place : ℕ) → route ≡ Store place → has_place pairs place ≡ list_any (λ q. goes_to q.new OriginWrite route) pairs
stored_write pairs route place is = any_same (λ (q : Pair). nat_eq q.new place) (λ (q : Pair). goes_to q.new OriginWrite (Store place)) pairs (λ q. turned q.new place) ∙ ap (λ r. list_any (λ (q : Pair). goes_to q.new OriginWrite r) pairs) (sym is)

-- any other goes to none
pub nowhere_read : (pairs : List Pair) (route there : Route) → route ≡ there → ((q : Pair) → goes_to q.new OriginRead there ≡ false) → false ≡ list_any (λ q. goes_to q.new OriginRead route) pairs
nowhere_read pairs route there is never = sym (ap (λ r. list_any (λ (q : Pair). goes_to q.new OriginRead r) pairs) is ∙ any_never (λ (q : Pair). goes_to q.new OriginRead there) pairs never)

pub nowhere_write : (pairs : List Pair) (route there : Route) → route ≡ there → ((q : Pair) → goes_to q.new OriginWrite there ≡ false) → false ≡ list_any (λ q. goes_to q.new OriginWrite route) pairs
nowhere_write pairs route there is never = sym (ap (λ r. list_any (λ (q : Pair). goes_to q.new OriginWrite r) pairs) is ∙ any_never (λ (q : Pair). goes_to q.new OriginWrite there) pairs never)

-- a snapshot's request uses none of them
pub unused : (pairs : List Pair) (f : Flight) (kind : Kind) → kind_of f.request ≡ kind → ((q : Pair) → goes_to q.new kind f.route ≡ false) → false ≡ is_using pairs f
unused pairs f kind is never = sym (ap (λ k. list_any (λ (q : Pair). goes_to q.new k f.route) pairs) is ∙ any_never (λ (q : Pair). goes_to q.new kind f.route) pairs never)

-- no pair waits where none can be read, whatever requests there are
last_some : (q : Pair) (qs : List Pair) → (p : Pair) × (last_of (q ∷ qs) ≡ Some p)
last_some q [] = (q, refl)
last_some q (p ∷ ps) = last_some p ps

none_waits : (waiting : List Pair) → is_readable [] (last_of waiting) ≡ false → waiting ≡ []
none_waits [] e = refl
none_waits (q ∷ qs) e = (let (p, is) = last_some q qs in absurd (false≢true (sym e ∙ ap (is_readable []) is)))

-- all pairs of a group whose area is written are to be released
released_at_end : {B : Type 0} (contents : B → List ℕ) (m : Merging B) (g : Group) (progress : Progress) → m.group ≡ Some g → g.progress ≡ progress → release_at progress ≡ true → LooksAgree contents true m → group_pairs m.group ≡ released_of m.group
released_at_end contents m g Open is far e looks = absurd (false≢true e)
released_at_end contents m g Full is far e looks = absurd (false≢true e)
released_at_end contents m g Flushed is far e looks = absurd (false≢true e)
released_at_end contents m g Committed is far e looks =
    let w : List Pair = waiting_of (Some g) in
    let here : (is_none (reading_at g.progress g) && is_readable [] (last_of w)) ≡ is_readable [] (read_at_progress g.progress g) =
    subst (λ (x : Option Group). (is_none (reading_of x) && is_readable [] (last_of (waiting_of x))) ≡ is_readable [] (next_read_of x)) is (looks.read []) in
    let none : w ≡ [] = none_waits w (subst (λ (p : Progress). (is_none (reading_at p g) && is_readable [] (last_of w)) ≡ is_readable [] (read_at_progress p g)) far here) in
    ap group_pairs is ∙ ap (λ (p : Progress). w ++ (reading_at p g ++ (copied_at p g ++ released_at g.progress g))) far
    ∙ ap (λ (x : List Pair). x ++ released_at g.progress g) none ∙ sym (ap released_of is)

pub released_all : {B : Type 0} (contents : B → List ℕ) (m : Merging B) (group : Option Group) → m.group ≡ group → can_release_of group ≡ true → LooksAgree contents true m → group_pairs m.group ≡ released_of m.group
released_all contents m None is e looks = absurd (false≢true e)
released_all contents m (Some g) is e looks = released_at_end contents m g g.progress is refl e looks
