-- What volumes with what stands behind them show, one by one.
use Rattle.std.proofs.Common.{◌≡◌, ℕ, zero, suc, ◌+◌, ◌<◌, Bool, true, false, List, [], ◌∷◌, Some, None, length, get_or, map, nat_lt, set, cond, refl, sym, ap, ◌∙◌, inl, inr, arith}
use Rattle.std.specs.Prelude.{Result, Ok, Err, IfErr, IfOk, OnErr, OnOk, slice_get, sum_by}
use Rattle.std.specs.List.{insert, position, position_or_len, remove}
use Rattle.std.proofs.lemmas.Bool.{cases_Bool}
use Rattle.std.proofs.lemmas.List.{get_or-map, length-map, map-set}
use Rattle.std.proofs.lemmas.List.Sums.{sum_by-cons}
use Rattle.std.proofs.lemmas.Option.{slice_get_read}
use Rattle.sector.specs.declared.refusal.Refusal.{Refusal}
use Rattle.sector.specs.declared.refusal.Refusal.TheVariants.{NoMemory}
use Rattle.plain_machine.specs.declared.event.Event.{Event}
use Rattle.plain_machine.specs.declared.event.NotDue.{NotDue}
use Rattle.plain_machine.specs.declared.event.Outcome.{Outcome}
use Rattle.layers.specs.declared.stack.Stack.{Stack}
use Rattle.volume.specs.Volumed.{Volumed}
use Rattle.command_semantics.specs.State.{Volume}
use Rattle.device_list.specs.Backed.{Backed, InBacked, IsNotDueIn}
use Rattle.device_list.specs.Flights.{InEvents, IsEventDone, IsNotDue, IsStepped}

abbrev pub shown_in : List Backed → List Volume
shown_in xs = map (λ (v : Backed). v.shown) xs

-- as many
pub shown_many : (xs : List Backed) → length (shown_in xs) ≡ length xs
shown_many xs = length-map xs (λ (v : Backed). v.shown)

pub shown_within : (xs : List Backed) (i : ℕ) → i < length xs → i < length (shown_in xs)
shown_within xs i lt = rw (shown_many xs) lt

-- the one at a place
pub shown_at : (xs : List Backed) (i : ℕ) (x : Backed) → i < length xs → x ≡ get_or xs i x → x.shown ≡ get_or (shown_in xs) i x.shown
shown_at xs i x lt at = ap (λ (v : Backed). v.shown) at ∙ sym (get_or-map (λ (v : Backed). v.shown) xs i x x.shown lt)

pub shown_there : (xs : List Backed) (i : ℕ) (x : Backed) → i < length xs → x ≡ get_or xs i x → slice_get (shown_in xs) i ≡ Some x.shown
shown_there xs i x lt at = slice_get_read (shown_in xs) (length (shown_in xs)) i x.shown refl (shown_within xs i lt) (shown_at xs i x lt at)

-- the first that passes
first_shown : (test : Volume → Bool) (xs : List Backed) → position_or_len test (shown_in xs) ≡ position_or_len (λ (v : Backed). test v.shown) xs
first_shown test [] = refl
first_shown test (x ∷ xs) = elim (cases_Bool (test x.shown)) [
  | inl passes ↦ rw passes refl
  | inr fails ↦ rw fails (ap (λ n. 1 + n) (first_shown test xs))
]

pub position_shown : (test : Volume → Bool) (xs : List Backed) → position test (shown_in xs) ≡ position (λ (v : Backed). test v.shown) xs
position_shown test xs =
    ap (λ n. cond (nat_lt n (length (shown_in xs))) (Some n) None) (first_shown test xs)
    ∙ ap (λ k. cond (nat_lt (position_or_len (λ (v : Backed). test v.shown) xs) k) (Some (position_or_len (λ (v : Backed). test v.shown) xs)) None) (shown_many xs)

-- what is counted of them
pub shown_sum : (f : Volume → ℕ) (xs : List Backed) → sum_by f (shown_in xs) ≡ sum_by (λ (v : Backed). f v.shown) xs
shown_sum f [] = refl
shown_sum f (x ∷ xs) = sum_by-cons f x.shown (shown_in xs) ∙ ap (λ n. f x.shown + n) (shown_sum f xs) ∙ sym (sum_by-cons (λ (v : Backed). f v.shown) x xs)

-- what was done to the volume of events behind, as what is shown tells it
pub was_done : (holds : Volumed Stack → Volumed Stack → Type 0) (old new : Backed) → InBacked holds old new → InEvents holds old.shown new.shown
was_done holds old new did = record { before = old.events; after = new.events; was = did.was; is = did.is; did = did.did }

pub asked_done : {A : Type 0} (holds : A → Volumed Stack → Volumed Stack → Type 0) (r : Result A Refusal) (old new : Backed) → IfOk r (λ x. InBacked (holds x) old new) → IfOk r (λ x. InEvents (holds x) old.shown new.shown)
asked_done holds (Ok x) old new did = was_done (holds x) old new did
asked_done holds (Err e) old new did = tt

-- where nothing changed, what is shown did not
pub still_shown : {A : Type 0} (r : Result A Refusal) (Q : Type 0) (old new : Backed) → IfErr r (λ _. (new ≡ old) × Q) → IfErr r (λ _. (new.shown ≡ old.shown) × Q)
still_shown (Ok x) Q old new same = tt
still_shown (Err e) Q old new same = (ap (λ (v : Backed). v.shown) same.0, same.1)

pub yet_shown : {A : Type 0} (r : Result A Refusal) (old new : Backed) → IfErr r (λ _. new ≡ old) → IfErr r (λ _. new.shown ≡ old.shown)
yet_shown (Ok x) old new same = tt
yet_shown (Err e) old new same = ap (λ (v : Backed). v.shown) same

pub same_shown : {A E : Type 0} (r : Result A E) (old new : Backed) → OnErr r (new ≡ old) → OnErr r (new.shown ≡ old.shown)
same_shown (Ok x) old new same = tt
same_shown (Err e) old new same = ap (λ (v : Backed). v.shown) same

-- one is put in its place
pub shown_set : (xs : List Backed) (i : ℕ) (x : Backed) → shown_in (set xs i x) ≡ set (shown_in xs) i x.shown
shown_set xs i x = map-set (λ (v : Backed). v.shown) xs i x

-- or taken away, or put in between
pub shown_remove : (xs : List Backed) (i : ℕ) → shown_in (remove xs i) ≡ remove (shown_in xs) i
shown_remove [] zero = refl
shown_remove [] (suc i) = refl
shown_remove (x ∷ xs) zero = refl
shown_remove (x ∷ xs) (suc i) = ap (λ ys. x.shown ∷ ys) (shown_remove xs i)

shown_insert_at : (xs : List Backed) (i : ℕ) (x : Backed) → shown_in (insert xs i x) ≡ insert (shown_in xs) i x.shown
shown_insert_at xs zero x = refl
shown_insert_at [] (suc i) x = refl
shown_insert_at (y ∷ xs) (suc i) x = ap (λ ys. y.shown ∷ ys) (shown_insert_at xs i x)

pub shown_insert : (xs : List Backed) (i : ℕ) (x : Backed) → shown_in (insert xs i x) ≡ insert (shown_in xs) i x.shown
shown_insert = shown_insert_at

-- the place is one of those that stand behind
pub shown_inside : (xs : List Backed) (i : ℕ) → i < length (shown_in xs) → i < length xs
shown_inside xs i lt = (let many = shown_many xs in omega (arith, lt, many))

-- events that were done, and those that are not due
pub steps_done : (event : Event) (r : Result Outcome NotDue) (old new : Backed) → IfOk r (λ outcome. InBacked (IsEventDone event outcome) old new) → IfOk r (λ outcome. IsStepped event outcome old.shown new.shown)
steps_done event (Ok outcome) old new did = was_done (IsEventDone event outcome) old new did
steps_done event (Err e) old new did = tt

pub none_due : (event : Event) (r : Result Outcome NotDue) (volume : Backed) → OnErr r (IsNotDueIn event volume) → OnErr r (IsNotDue event volume.shown)
none_due event (Ok outcome) volume why = tt
none_due event (Err e) volume why = record { events = volume.events; behind = why.behind; not_due = why.not_due }

pub ok_done : {A : Type 0} (holds : Volumed Stack → Volumed Stack → Type 0) (r : Result A Refusal) (old new : Backed) → OnOk r (InBacked holds old new) → OnOk r (InEvents holds old.shown new.shown)
ok_done holds (Ok x) old new did = was_done holds old new did
ok_done holds (Err e) old new did = tt

-- requests that were started, under their numbers, and those that were not
pub number_done : {A : Type 0} (holds : ℕ → A → Volumed Stack → Volumed Stack → Type 0) (r : Result ℕ Refusal) (asked : Result A Refusal) (old new : Backed) → IfOk r (λ n. IfOk asked (λ asks. InBacked (holds n asks) old new)) → IfOk r (λ n. IfOk asked (λ asks. InEvents (holds n asks) old.shown new.shown))
number_done holds (Ok n) asked old new did = asked_done (holds n) asked old new did
number_done holds (Err e) asked old new did = tt

pub refused_done : {A : Type 0} (holds : Refusal → A → Volumed Stack → Volumed Stack → Type 0) (r : Result ℕ Refusal) (asked : Result A Refusal) (old new : Backed) → IfErr r (λ e. IfOk asked (λ asks. InBacked (holds e asks) old new)) → IfErr r (λ e. IfOk asked (λ asks. InEvents (holds e asks) old.shown new.shown))
refused_done holds (Ok n) asked old new did = tt
refused_done holds (Err e) asked old new did = asked_done (holds e) asked old new did

-- memory ran out, and nothing changed
pub starved_shown : {A : Type 0} (r : Result A Refusal) (Q : Type 0) (old new : Backed) → IfErr r (λ e. (e ≡ NoMemory) × (new ≡ old) × Q) → IfErr r (λ e. (e ≡ NoMemory) × (new.shown ≡ old.shown) × Q)
starved_shown (Ok x) Q old new same = tt
starved_shown (Err e) Q old new same = (same.0, ap (λ (v : Backed). v.shown) same.1, same.2)

-- it was refused, and is what it was
pub refused_shown : (P : Type 0) (old new : Backed) → P × (new ≡ old) → P × (new.shown ≡ old.shown)
refused_shown P old new why = (why.0, ap (λ (v : Backed). v.shown) why.1)
