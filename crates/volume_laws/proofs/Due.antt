-- The event that is due first is due; where none is, nothing can go on.
use Rattle.std.proofs.Common.{◌≡◌, ◌≢◌, ◌⊎◌, inl, inr, ℕ, Bool, true, false, List, [], ◌∷◌, Option, Some, None, min, refl, sym, ◌∙◌, ap, subst, arith, nat_eq, eq-eqb, ne_eqb}
use Rattle.std.specs.Prelude.{◌&&◌, ◌||◌, AllPairs}
use Rattle.std.specs.List.{All, list_any}
use Rattle.std.proofs.lemmas.Bool.{cases_Bool, cases_lt}
use Rattle.std.proofs.lemmas.List.Elements.{All-cons, All-nil, All-head, All-tail}
use Rattle.plain_machine.specs.declared.event.Event.{Event}
use Rattle.plain_machine.specs.declared.event.Event.TheVariants.{Issue, CopyRead, CopyWrite, ZeroNext, WriteArea, Publish, WriteInvalid, FlushStore}
use Rattle.in_flight.specs.declared.copies.Stage.TheVariants.{Waiting, Read}
use Rattle.in_flight.specs.declared.copies.ChunkCopy.{ChunkCopy}
use Rattle.in_flight.specs.declared.copies.Mark.{Mark}
use Rattle.in_flight.specs.declared.flights.Flight.{Flight}
use Rattle.in_flight.specs.Due.{first_by, least, is_copy_at, number_of_copy, number_of_mark, number_of_flight, is_publishable, is_issuable}
use Rattle.volume_laws.specs.Due.{DueSnap, snap_number, can_mark, can_flush_store, can_commit, can_zero, copy_of, publishable_of, least_of, event_or, due_of, is_issued, is_due}
use Rattle.volume_laws.proofs.Lists.{AllPairs-head, AllPairs-tail}

or_left : (a b : Bool) → a ≡ true → (a || b) ≡ true
or_left a b e = rw e refl

or_right : (a b : Bool) → b ≡ true → (a || b) ≡ true
or_right true b e = refl
or_right false b e = e

and_both : (a b : Bool) → a ≡ true → b ≡ true → (a && b) ≡ true
and_both a b x y = rw (x, y) refl

-- the first element that passes is one that passes
pub first_any : {X : Type 0} (test : X → Bool) (number : X → ℕ) (xs : List X) (n : ℕ) → first_by test number xs ≡ Some n → list_any (λ x. nat_eq (number x) n && test x) xs ≡ true
first_any test number [] n e = cc
first_any test number (x ∷ xs) n e = elim (cases_Bool (test x)) [
  | inl here ↦ (let got : Some (number x) ≡ Some n = rw here at e in let same : number x ≡ n = cc in
      or_left (nat_eq (number x) n && test x) (list_any (λ y. nat_eq (number y) n && test y) xs) (and_both (nat_eq (number x) n) (test x) (eq-eqb (number x) n same) here))
  | inr other ↦ or_right (nat_eq (number x) n && test x) (list_any (λ y. nat_eq (number y) n && test y) xs) (first_any test number xs n (rw other at e))
]

-- where none passes, none does
pub first_none : {X : Type 0} (test : X → Bool) (number : X → ℕ) (xs : List X) → first_by test number xs ≡ None → All (λ x. test x ≡ false) xs
first_none test number [] e = All-nil (λ x. test x ≡ false)
first_none test number (x ∷ xs) e = elim (cases_Bool (test x)) [
  | inl here ↦ (let got : Some (number x) ≡ None = rw here at e in absurd (cc))
  | inr other ↦ All-cons (λ y. test y ≡ false) x xs other (first_none test number xs (rw other at e))
]

-- the lesser of two is one of them
least_one : (a b : Option ℕ) (n : ℕ) → least a b ≡ Some n → (a ≡ Some n) ⊎ (b ≡ Some n)
least_one None b n e = inr e
least_one (Some m) None n e = inl e
least_one (Some m) (Some k) n e = let got : min m k ≡ n = cc in elim (cases_lt m k) [
  | inl lt ↦ inl (let same : m ≡ n = omega arith in ap Some same)
  | inr ge ↦ inr (let same : k ≡ n = omega arith in ap Some same)
]

least_none : (a b : Option ℕ) → least a b ≡ None → (a ≡ None) × (b ≡ None)
least_none None b e = (refl, e)
least_none (Some m) None e = absurd (cc)
least_none (Some m) (Some k) e = absurd (cc)

-- the least of all is one of them
pub least_any : (f : DueSnap → Option ℕ) (test : DueSnap → Bool) (snaps : List DueSnap) (n : ℕ) → ((s : DueSnap) → f s ≡ Some n → test s ≡ true) → least_of f snaps ≡ Some n → list_any test snaps ≡ true
least_any f test [] n passes e = cc
least_any f test (s ∷ snaps) n passes e = elim (least_one (f s) (least_of f snaps) n e) [
  | inl here ↦ or_left (test s) (list_any test snaps) (passes s here)
  | inr later ↦ or_right (test s) (list_any test snaps) (least_any f test snaps n passes later)
]

pub least_all : (f : DueSnap → Option ℕ) (snaps : List DueSnap) → least_of f snaps ≡ None → All (λ s. f s ≡ None) snaps
least_all f [] e = All-nil (λ s. f s ≡ None)
least_all f (s ∷ snaps) e = let both = least_none (f s) (least_of f snaps) e in All-cons (λ x. f x ≡ None) s snaps both.0 (least_all f snaps both.1)

-- the first request that goes somewhere, where all numbers differ
pub first_issued : (rs : List Flight) (n : ℕ) → AllPairs (λ (f g : Flight). f.number ≢ g.number) rs → first_by is_issuable number_of_flight rs ≡ Some n → is_issued n rs ≡ true
first_issued [] n apart e = cc
first_issued (f ∷ fs) n apart e = elim (cases_Bool (is_issuable f)) [
  | inl here ↦ (let got : Some f.number ≡ Some n = rw here at e in let same : f.number ≡ n = cc in rw (eq-eqb f.number n same) here)
  | inr held ↦ (let later : first_by is_issuable number_of_flight fs ≡ Some n = rw held at e in
      rw (ne_eqb f.number n (not_here f fs n (AllPairs-head (λ (x y : Flight). x.number ≢ y.number) f fs apart) later))
      (first_issued fs n (AllPairs-tail (λ (x y : Flight). x.number ≢ y.number) f fs apart) later))
]
  where
    not_here : (f : Flight) (fs : List Flight) (n : ℕ) → All (λ (g : Flight). f.number ≢ g.number) fs → first_by is_issuable number_of_flight fs ≡ Some n → f.number ≢ n
    not_here f [] n all e same = cc
    not_here f (g ∷ gs) n all e same = elim (cases_Bool (is_issuable g)) [
      | inl here ↦ (let got : Some g.number ≡ Some n = rw here at e in let is : g.number ≡ n = cc in absurd (All-head (λ (x : Flight). f.number ≢ x.number) g gs all (same ∙ sym is)))
      | inr held ↦ not_here f gs n (All-tail (λ (x : Flight). f.number ≢ x.number) g gs all) (rw held at e) same
    ]

-- an event that is chosen, or another
event_cases : (found : Option ℕ) (event : ℕ → Event) (rest : Option Event) (e : Event) → event_or found event rest ≡ Some e → ((n : ℕ) × (found ≡ Some n) × (event n ≡ e)) ⊎ ((found ≡ None) × (rest ≡ Some e))
event_cases None event rest e is = inr (refl, is)
event_cases (Some n) event rest e is = inl (n, refl, (let same : event n ≡ e = cc in same))

event_none : (found : Option ℕ) (event : ℕ → Event) (rest : Option Event) → event_or found event rest ≡ None → (found ≡ None) × (rest ≡ None)
event_none None event rest is = (refl, is)
event_none (Some n) event rest is = absurd (cc)

-- what is due in no list
pub record IsIdle (snaps : List DueSnap) (rs : List Flight) : Type 0 where
  pub marked : All (λ s. can_mark s ≡ false) snaps
  pub flushed : All (λ s. can_flush_store s ≡ false) snaps
  pub published : All (λ s. publishable_of rs s ≡ None) snaps
  pub committed : All (λ s. can_commit s ≡ false) snaps
  pub zeroed : All (λ s. can_zero s ≡ false) snaps
  pub written : All (λ s. copy_of Read s ≡ None) snaps
  pub read : All (λ s. copy_of Waiting s ≡ None) snaps
  pub issued : All (λ f. is_issuable f ≡ false) rs

module _ (snaps : List DueSnap) (rs : List Flight) where
  abbrev after_read : Option Event
  after_read = event_or (first_by is_issuable number_of_flight rs) Issue None

  abbrev after_write : Option Event
  after_write = event_or (least_of (copy_of Waiting) snaps) CopyRead after_read

  abbrev after_zero : Option Event
  after_zero = event_or (least_of (copy_of Read) snaps) CopyWrite after_write

  abbrev after_commit : Option Event
  after_commit = event_or (first_by can_zero snap_number snaps) ZeroNext after_zero

  abbrev after_publish : Option Event
  after_publish = event_or (first_by can_commit snap_number snaps) WriteArea after_commit

  abbrev after_flush : Option Event
  after_flush = event_or (least_of (publishable_of rs) snaps) Publish after_publish

  abbrev after_invalid : Option Event
  after_invalid = event_or (first_by can_flush_store snap_number snaps) FlushStore after_flush

  pub nothing_due : due_of snaps rs ≡ None → IsIdle snaps rs
  nothing_due e =
      let a = event_none (first_by can_mark snap_number snaps) WriteInvalid after_invalid e in
      let j = event_none (first_by can_flush_store snap_number snaps) FlushStore after_flush a.1 in
      let b = event_none (least_of (publishable_of rs) snaps) Publish after_publish j.1 in
      let c = event_none (first_by can_commit snap_number snaps) WriteArea after_commit b.1 in
      let d = event_none (first_by can_zero snap_number snaps) ZeroNext after_zero c.1 in
      let f = event_none (least_of (copy_of Read) snaps) CopyWrite after_write d.1 in
      let g = event_none (least_of (copy_of Waiting) snaps) CopyRead after_read f.1 in
      let i = event_none (first_by is_issuable number_of_flight rs) Issue None g.1 in
      record {
        marked = first_none can_mark snap_number snaps a.0;
        flushed = first_none can_flush_store snap_number snaps j.0;
        published = least_all (publishable_of rs) snaps b.0;
        committed = first_none can_commit snap_number snaps c.0;
        zeroed = first_none can_zero snap_number snaps d.0;
        written = least_all (copy_of Read) snaps f.0;
        read = least_all (copy_of Waiting) snaps g.0;
        issued = first_none is_issuable number_of_flight rs i.0;
      }

  abbrev IsDue : Event → Type 0
  IsDue event = is_due snaps rs event ≡ true

  issue_due : (e : Event) → AllPairs (λ (f g : Flight). f.number ≢ g.number) rs → after_read ≡ Some e → IsDue e
  issue_due e apart is = elim (event_cases (first_by is_issuable number_of_flight rs) Issue None e is) [
    | inl h ↦ subst IsDue h.2 (first_issued rs h.0 apart h.1)
    | inr h ↦ (let no : None ≡ Some e = h.1 in absurd (cc))
  ]

  read_due : (e : Event) → AllPairs (λ (f g : Flight). f.number ≢ g.number) rs → after_write ≡ Some e → IsDue e
  read_due e apart is = elim (event_cases (least_of (copy_of Waiting) snaps) CopyRead after_read e is) [
    | inl h ↦ subst IsDue h.2 (least_any (copy_of Waiting) (λ s. list_any (λ (c : ChunkCopy). nat_eq c.number h.0 && is_copy_at Waiting c) s.books.copies) snaps h.0
        (λ s at. first_any (is_copy_at Waiting) number_of_copy s.books.copies h.0 at) h.1)
    | inr h ↦ issue_due e apart h.1
  ]

  write_due : (e : Event) → AllPairs (λ (f g : Flight). f.number ≢ g.number) rs → after_zero ≡ Some e → IsDue e
  write_due e apart is = elim (event_cases (least_of (copy_of Read) snaps) CopyWrite after_write e is) [
    | inl h ↦ subst IsDue h.2 (least_any (copy_of Read) (λ s. list_any (λ (c : ChunkCopy). nat_eq c.number h.0 && is_copy_at Read c) s.books.copies) snaps h.0
        (λ s at. first_any (is_copy_at Read) number_of_copy s.books.copies h.0 at) h.1)
    | inr h ↦ read_due e apart h.1
  ]

  zero_due : (e : Event) → AllPairs (λ (f g : Flight). f.number ≢ g.number) rs → after_commit ≡ Some e → IsDue e
  zero_due e apart is = elim (event_cases (first_by can_zero snap_number snaps) ZeroNext after_zero e is) [
    | inl h ↦ subst IsDue h.2 (first_any can_zero snap_number snaps h.0 h.1)
    | inr h ↦ write_due e apart h.1
  ]

  commit_due : (e : Event) → AllPairs (λ (f g : Flight). f.number ≢ g.number) rs → after_publish ≡ Some e → IsDue e
  commit_due e apart is = elim (event_cases (first_by can_commit snap_number snaps) WriteArea after_commit e is) [
    | inl h ↦ subst IsDue h.2 (first_any can_commit snap_number snaps h.0 h.1)
    | inr h ↦ zero_due e apart h.1
  ]

  publish_due : (e : Event) → AllPairs (λ (f g : Flight). f.number ≢ g.number) rs → after_flush ≡ Some e → IsDue e
  publish_due e apart is = elim (event_cases (least_of (publishable_of rs) snaps) Publish after_publish e is) [
    | inl h ↦ subst IsDue h.2 (least_any (publishable_of rs) (λ s. list_any (λ (m : Mark). nat_eq m.number h.0 && is_publishable s.books.number s.books.chunk rs m) s.books.marks) snaps h.0
        (λ s at. first_any (is_publishable s.books.number s.books.chunk rs) number_of_mark s.books.marks h.0 at) h.1)
    | inr h ↦ commit_due e apart h.1
  ]

  flush_due : (e : Event) → AllPairs (λ (f g : Flight). f.number ≢ g.number) rs → after_invalid ≡ Some e → IsDue e
  flush_due e apart is = elim (event_cases (first_by can_flush_store snap_number snaps) FlushStore after_flush e is) [
    | inl h ↦ subst IsDue h.2 (first_any can_flush_store snap_number snaps h.0 h.1)
    | inr h ↦ publish_due e apart h.1
  ]

  -- where an event is answered, it is due
  pub due_is_due : (e : Event) → AllPairs (λ (f g : Flight). f.number ≢ g.number) rs → due_of snaps rs ≡ Some e → is_due snaps rs e ≡ true
  due_is_due e apart is = elim (event_cases (first_by can_mark snap_number snaps) WriteInvalid after_invalid e is) [
    | inl h ↦ subst IsDue h.2 (first_any can_mark snap_number snaps h.0 h.1)
    | inr h ↦ flush_due e apart h.1
  ]
