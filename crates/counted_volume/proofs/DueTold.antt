-- An event that is due is one of those that there are, so that the list of those that are due has all of them.
use Rattle.std.proofs.Common.{◌≡◌, ℕ, ◌⊎◌, Bool, true, false, List, [], ◌∷◌, ◌++◌, Option, Some, None, map, cond, refl, sym, ◌∙◌, ap, subst, inl, inr, arith, nat_eq, if◌then◌else◌}
use Rattle.std.specs.Prelude.{◌||◌, ◌&&◌, ◌==◌, Contains, filter, IfOk, Result, Ok, Err}
use Rattle.std.specs.Global.{Vec}
use Rattle.std.specs.List.{flat_map, list_any}
use Rattle.std.specs.declared.alloc.AllocError.{AllocError}
use Rattle.std.proofs.lemmas.Bool.{eqb-true, false≢true}
use Rattle.std.proofs.lemmas.List.Elements.{All-contains, Contains-append_cases, Contains-append_left, Contains-append_right, Contains-push_cases, filter_passes}
use Rattle.device.specs.Layers.{Layer}
use Rattle.plain_machine.specs.declared.event.Event.{Event}
use Rattle.plain_machine.specs.declared.event.Event.TheVariants.{Issue, CopyRead, CopyWrite, ZeroNext, WriteArea, Publish, WriteInvalid, FlushStore, MergeGroup, MergeAreaRead, MergeRead, MergeWrite, MergeFlush, MergeCommit, MergeRelease}
use Rattle.in_flight.specs.Due.{is_copy_at, is_issuable, is_publishable}
use Rattle.in_flight.specs.declared.copies.ChunkCopy.{ChunkCopy}
use Rattle.in_flight.specs.declared.copies.Mark.{Mark}
use Rattle.in_flight.specs.declared.copies.Stage.TheVariants.{Waiting, Read}
use Rattle.in_flight.specs.declared.flights.Flight.{Flight}
use Rattle.volume_laws.specs.Books.{SnapBooks}
use Rattle.volume_laws.specs.Due.{DueSnap, books_of, can_commit, can_flush_store, can_mark, can_zero, is_due, is_issued}
use Rattle.volume_laws.specs.MergeDue.{DueMerge, is_merge_due}
use Rattle.snapshot.specs.Kept.{Kept, due_of_kept}
use Rattle.snapshot_list.proofs.Finds.{any_of}
use Rattle.volume.specs.Volumed.{Volumed, dues_of, is_due_by, is_due_of, merge_due}
use Rattle.counted_volume.specs.Trace.{IsAllDue, candidates_of, due_among, events_of_copies, events_of_copy, events_of_flights, events_of_marks, events_of_merge, events_of_snap}

first_true : (a b : Bool) → (a && b) ≡ true → a ≡ true
first_true true b h = refl
first_true false b h = h

-- one of two holds
either_true : (a b : Bool) → (a || b) ≡ true → (a ≡ true) ⊎ (b ≡ true)
either_true true b h = inl refl
either_true false b h = inr h

module _ {X : Type 0} where
  here : (x : X) (xs : List X) → Contains (x ∷ xs) x
  here x xs = (0, omega arith, refl)

  later : (y x : X) (xs : List X) → Contains xs x → Contains (y ∷ xs) x
  later y x xs h = Contains-append_right (y ∷ []) xs x h

  none_in : (x : X) (A : Type 0) → Contains [] x → A
  none_in x A h = let lt = h.1 in absurd (omega (arith, lt))

  head_or : (y x : X) (xs : List X) → Contains (y ∷ xs) x → (y ≡ x) ⊎ Contains xs x
  head_or y x xs h = elim (Contains-append_cases (y ∷ []) xs x h) [
    | inl first ↦ (elim (Contains-push_cases [] y x first) [
      | inl none ↦ none_in x ((y ≡ x) ⊎ Contains xs x) none
      | inr same ↦ inl same
    ])
    | inr rest ↦ inr rest
  ]

  -- one that passes stays
  kept_here : (f : X → Bool) (y : X) (xs : List X) (b : Bool) → f y ≡ b → b ≡ true → Contains (cond b (y ∷ filter f xs) (filter f xs)) y
  kept_here f y xs true is e = here y (filter f xs)
  kept_here f y xs false is e = absurd (false≢true e)

  kept_later : (f : X → Bool) (y x : X) (xs : List X) (b : Bool) → Contains (filter f xs) x → Contains (cond b (y ∷ filter f xs) (filter f xs)) x
  kept_later f y x xs true h = later y x (filter f xs) h
  kept_later f y x xs false h = h

  pub stays : (f : X → Bool) (x : X) (xs : List X) → f x ≡ true → Contains xs x → Contains (filter f xs) x
  stays f x [] passes h = none_in x (Contains [] x) h
  stays f x (y ∷ xs) passes h = elim (head_or y x xs h) [
    | inl same ↦ subst (λ z. Contains (cond (f y) (y ∷ filter f xs) (filter f xs)) z) same (kept_here f y xs (f y) refl (ap f same ∙ passes))
    | inr rest ↦ kept_later f y x xs (f y) (stays f x xs passes rest)
  ]

-- what is in the list of one that passes is in the list of all
pub any_flat : {X Y : Type 0} (test : X → Bool) (f : X → List Y) (y : Y) (xs : List X) → list_any test xs ≡ true → ((x : X) → test x ≡ true → Contains (f x) y) → Contains (flat_map f xs) y
any_flat test f y [] any each = absurd (false≢true any)
any_flat test f y (x ∷ xs) any each = elim (either_true (test x) (list_any test xs) any) [
  | inl first ↦ Contains-append_left (f x) (flat_map f xs) y (each x first)
  | inr rest ↦ Contains-append_right (f x) (flat_map f xs) y (any_flat test f y xs rest each)
]

pub any_map : {X Y : Type 0} (test : X → Bool) (f : X → Y) (y : Y) (xs : List X) → list_any test xs ≡ true → ((x : X) → test x ≡ true → f x ≡ y) → Contains (map f xs) y
any_map test f y [] any each = absurd (false≢true any)
any_map test f y (x ∷ xs) any each = elim (either_true (test x) (list_any test xs) any) [
  | inl first ↦ subst (λ z. Contains (f x ∷ map f xs) z) (each x first) (here (f x) (map f xs))
  | inr rest ↦ later (f x) y (map f xs) (any_map test f y xs rest each)
]

-- a request that goes somewhere is one of those in flight
issued_by : (number : ℕ) (f : Flight) (fs : List Flight) (b : Bool) → nat_eq f.number number ≡ b → (if b then is_issuable f else is_issued number fs) ≡ true → (is_issued number fs ≡ true → Contains (events_of_flights fs) (Issue number)) → Contains (Issue f.number ∷ events_of_flights fs) (Issue number)
issued_by number f fs true is due rest = subst (λ n. Contains (Issue f.number ∷ events_of_flights fs) (Issue n)) (eqb-true f.number number is) (here (Issue f.number) (events_of_flights fs))
issued_by number f fs false is due rest = later (Issue f.number) (Issue number) (events_of_flights fs) (rest due)

pub issued_in : (number : ℕ) (fs : List Flight) → is_issued number fs ≡ true → Contains (events_of_flights fs) (Issue number)
issued_in number [] due = absurd (false≢true due)
issued_in number (f ∷ fs) due = issued_by number f fs (nat_eq f.number number) refl due (issued_in number fs)

-- an event of a merge
pub merge_in : (snaps : List SnapBooks) (rs : List Flight) (d : DueMerge) (event : Event) → is_merge_due snaps rs d event ≡ true → Contains events_of_merge event
merge_in snaps rs d MergeRelease due = (0, omega arith, refl)
merge_in snaps rs d MergeCommit due = (1, omega arith, refl)
merge_in snaps rs d MergeFlush due = (2, omega arith, refl)
merge_in snaps rs d MergeWrite due = (3, omega arith, refl)
merge_in snaps rs d MergeRead due = (4, omega arith, refl)
merge_in snaps rs d MergeAreaRead due = (5, omega arith, refl)
merge_in snaps rs d MergeGroup due = (6, omega arith, refl)
merge_in snaps rs d (Issue n) due = absurd (false≢true due)
merge_in snaps rs d (CopyRead n) due = absurd (false≢true due)
merge_in snaps rs d (CopyWrite n) due = absurd (false≢true due)
merge_in snaps rs d (ZeroNext n) due = absurd (false≢true due)
merge_in snaps rs d (WriteArea n) due = absurd (false≢true due)
merge_in snaps rs d (Publish n) due = absurd (false≢true due)
merge_in snaps rs d (WriteInvalid n) due = absurd (false≢true due)
merge_in snaps rs d (FlushStore n) due = absurd (false≢true due)

module _ {B : Type 0} (contents : B → List ℕ) (layers : B → List Layer) where
  -- an event that some snapshot has is one of all
  in_snaps : (test : DueSnap → Bool) (event : Event) (snaps : List (Kept B)) → list_any test (map (due_of_kept contents layers) snaps) ≡ true → ((s : Kept B) → test (due_of_kept contents layers s) ≡ true → Contains (events_of_snap s) event) → Contains (flat_map events_of_snap snaps) event
  in_snaps test event snaps any each = any_flat (λ s. test (due_of_kept contents layers s)) events_of_snap event snaps (sym (any_of test (due_of_kept contents layers) snaps) ∙ any) each

  -- one of the snapshot itself, by its place among the first two, or behind the marks
  of_number : (s : Kept B) (event : ℕ → Event) (n : ℕ) (b : Bool) → (nat_eq s.number n && b) ≡ true → Contains (events_of_snap s) (event s.number) → Contains (events_of_snap s) (event n)
  of_number s event n b due at = subst (λ k. Contains (events_of_snap s) (event k)) (eqb-true s.number n (first_true (nat_eq s.number n) b due)) at

  behind_marks : (s : Kept B) (event : Event) → Contains (WriteArea s.number ∷ ZeroNext s.number ∷ events_of_copies s.copies) event → Contains (events_of_snap s) event
  behind_marks s event h =
      later (WriteInvalid s.number) event (FlushStore s.number ∷ (events_of_marks s.marks ++ WriteArea s.number ∷ ZeroNext s.number ∷ events_of_copies s.copies)) (later (FlushStore s.number) event _ (Contains-append_right (events_of_marks s.marks) (WriteArea s.number ∷ ZeroNext s.number ∷ events_of_copies s.copies) event h))

  behind_snap : (s : Kept B) (event : Event) → Contains (events_of_copies s.copies) event → Contains (events_of_snap s) event
  behind_snap s event h = behind_marks s event (later (WriteArea s.number) event (ZeroNext s.number ∷ events_of_copies s.copies) (later (ZeroNext s.number) event (events_of_copies s.copies) h))

  among_marks : (s : Kept B) (event : Event) → Contains (events_of_marks s.marks) event → Contains (events_of_snap s) event
  among_marks s event h =
      later (WriteInvalid s.number) event (FlushStore s.number ∷ (events_of_marks s.marks ++ WriteArea s.number ∷ ZeroNext s.number ∷ events_of_copies s.copies)) (later (FlushStore s.number) event _ (Contains-append_left (events_of_marks s.marks) (WriteArea s.number ∷ ZeroNext s.number ∷ events_of_copies s.copies) event h))

  own_in : (snaps : List (Kept B)) (rs : List Flight) (event : Event) → is_due (map (due_of_kept contents layers) snaps) rs event ≡ true → Contains (flat_map events_of_snap snaps) event ⊎ Contains (events_of_flights rs) event
  own_in snaps rs (WriteInvalid n) due =
      inl (in_snaps (λ s. (s.books.number == n) && can_mark s) (WriteInvalid n) snaps due (λ s at. of_number s WriteInvalid n _ at (here (WriteInvalid s.number) (FlushStore s.number ∷ (events_of_marks s.marks ++ WriteArea s.number ∷ ZeroNext s.number ∷ events_of_copies s.copies)))))
  own_in snaps rs (FlushStore n) due =
      inl (in_snaps (λ s. (s.books.number == n) && can_flush_store s) (FlushStore n) snaps due (λ s at. of_number s FlushStore n _ at (later (WriteInvalid s.number) (FlushStore s.number) (FlushStore s.number ∷ (events_of_marks s.marks ++ WriteArea s.number ∷ ZeroNext s.number ∷ events_of_copies s.copies)) (here (FlushStore s.number) (events_of_marks s.marks ++ WriteArea s.number ∷ ZeroNext s.number ∷ events_of_copies s.copies)))))
  own_in snaps rs (WriteArea n) due =
      inl (in_snaps (λ s. (s.books.number == n) && can_commit s) (WriteArea n) snaps due (λ s at. of_number s WriteArea n _ at (behind_marks s (WriteArea s.number) (here (WriteArea s.number) (ZeroNext s.number ∷ events_of_copies s.copies)))))
  own_in snaps rs (ZeroNext n) due =
      inl (in_snaps (λ s. (s.books.number == n) && can_zero s) (ZeroNext n) snaps due (λ s at. of_number s ZeroNext n _ at (behind_marks s (ZeroNext s.number) (later (WriteArea s.number) (ZeroNext s.number) (ZeroNext s.number ∷ events_of_copies s.copies) (here (ZeroNext s.number) (events_of_copies s.copies))))))
  own_in snaps rs (Publish n) due =
      inl (in_snaps (λ s. list_any (λ m. (m.number == n) && is_publishable s.books.number s.books.chunk rs m) s.books.marks) (Publish n) snaps due
      (λ s at. among_marks s (Publish n) (any_map (λ (m : Mark). (m.number == n) && is_publishable s.number s.state.chunk rs m) (λ m. Publish m.number) (Publish n) s.marks at (λ m passes. ap Publish (eqb-true m.number n (first_true (nat_eq m.number n) _ passes))))))
  own_in snaps rs (CopyWrite n) due =
      inl (in_snaps (λ s. list_any (λ c. (c.number == n) && is_copy_at Read c) s.books.copies) (CopyWrite n) snaps due
      (λ s at. behind_snap s (CopyWrite n) (any_flat (λ (c : ChunkCopy). (c.number == n) && is_copy_at Read c) events_of_copy (CopyWrite n) s.copies at
      (λ c passes. subst (λ k. Contains (events_of_copy c) (CopyWrite k)) (eqb-true c.number n (first_true (nat_eq c.number n) _ passes)) (here (CopyWrite c.number) (CopyRead c.number ∷ []))))))
  own_in snaps rs (CopyRead n) due =
      inl (in_snaps (λ s. list_any (λ c. (c.number == n) && is_copy_at Waiting c) s.books.copies) (CopyRead n) snaps due
      (λ s at. behind_snap s (CopyRead n) (any_flat (λ (c : ChunkCopy). (c.number == n) && is_copy_at Waiting c) events_of_copy (CopyRead n) s.copies at
      (λ c passes. subst (λ k. Contains (events_of_copy c) (CopyRead k)) (eqb-true c.number n (first_true (nat_eq c.number n) _ passes)) (later (CopyWrite c.number) (CopyRead c.number) (CopyRead c.number ∷ []) (here (CopyRead c.number) []))))))
  own_in snaps rs (Issue n) due = inr (issued_in n rs due)
  own_in snaps rs MergeGroup due = absurd (false≢true due)
  own_in snaps rs MergeAreaRead due = absurd (false≢true due)
  own_in snaps rs MergeRead due = absurd (false≢true due)
  own_in snaps rs MergeWrite due = absurd (false≢true due)
  own_in snaps rs MergeFlush due = absurd (false≢true due)
  own_in snaps rs MergeCommit due = absurd (false≢true due)
  own_in snaps rs MergeRelease due = absurd (false≢true due)

  module _ (v : Volumed B) (event : Event) where
    own_among : is_due (dues_of contents layers v) v.flights event ≡ true → Contains (candidates_of v) event
    own_among due = elim (own_in v.snaps v.flights event due) [
      | inl snap ↦ Contains-append_left (flat_map events_of_snap v.snaps) (events_of_flights v.flights ++ events_of_merge) event snap
      | inr flight ↦ Contains-append_right (flat_map events_of_snap v.snaps) (events_of_flights v.flights ++ events_of_merge) event (Contains-append_left (events_of_flights v.flights) events_of_merge event flight)
    ]

    merge_among : (d : DueMerge) → is_merge_due (map books_of (dues_of contents layers v)) v.flights d event ≡ true → Contains (candidates_of v) event
    merge_among d due =
        Contains-append_right (flat_map events_of_snap v.snaps) (events_of_flights v.flights ++ events_of_merge) event
        (Contains-append_right (events_of_flights v.flights) events_of_merge event (merge_in (map books_of (dues_of contents layers v)) v.flights d event due))

    by_merge : (m : Option DueMerge) → is_due_by (dues_of contents layers v) v.flights m event ≡ true → Contains (candidates_of v) event
    by_merge None due = own_among due
    by_merge (Some d) due = elim (either_true (is_due (dues_of contents layers v) v.flights event) (is_merge_due (map books_of (dues_of contents layers v)) v.flights d event) due) [
      | inl own ↦ own_among own
      | inr merge ↦ merge_among d merge
    ]

    -- an event that is due is one of those that there are
    pub among : is_due_of contents layers v event ≡ true → Contains (candidates_of v) event
    among due = by_merge (merge_due contents v.merge) due

  -- those that are due of them are all that are due
  pub all_due : (v : Volumed B) → IsAllDue contents layers v (due_among contents layers v)
  all_due v = record {
    due = λ event at. All-contains (λ e. is_due_of contents layers v e ≡ true) (due_among contents layers v) event (filter_passes (is_due_of contents layers v) (candidates_of v)) at;
    all = λ event due. stays (is_due_of contents layers v) event (candidates_of v) due (among v event due);
  }

  -- a list of them has all
  pub told_all : (v : Volumed B) (r : Result (Vec Event) AllocError) → IfOk r (λ events. events.items ≡ due_among contents layers v) → IfOk r (λ events. IsAllDue contents layers v events.items)
  told_all v (Ok events) is = subst (IsAllDue contents layers v) (sym is) (all_due v)
  told_all v (Err e) is = tt
