-- The event of a merge that is due first is due; where none is, nothing of the merge can go on.
use Rattle.std.proofs.Common.{◌≡◌, ◌≢◌, ◌⊎◌, inl, inr, Bool, true, false, List, Option, Some, None, map, refl, ◌∙◌, ap, subst}
use Rattle.std.specs.Prelude.{◌||◌, AllPairs}
use Rattle.plain_machine.specs.declared.event.Event.{Event}
use Rattle.plain_machine.specs.declared.event.Event.TheVariants.{MergeGroup, MergeAreaRead, MergeRead, MergeWrite, MergeFlush, MergeCommit, MergeRelease}
use Rattle.in_flight.specs.declared.flights.Flight.{Flight}
use Rattle.volume_laws.specs.Books.{SnapBooks}
use Rattle.volume_laws.specs.Due.{DueSnap, books_of, due_of, is_due}
use Rattle.volume_laws.specs.MergeDue.{DueMerge, can_group, can_read_area, can_read, can_write, can_flush, can_commit_group, can_release, one_of, merge_due, is_merge_due, due_or, due_with, is_due_with}
use Rattle.volume_laws.proofs.Due.{due_is_due}

one_cases : (here : Bool) (event : Event) (rest : Option Event) (e : Event) → one_of here event rest ≡ Some e → ((here ≡ true) × (event ≡ e)) ⊎ (rest ≡ Some e)
one_cases true event rest e is = inl (refl, (let same : event ≡ e = cc in same))
one_cases false event rest e is = inr is

one_none : (here : Bool) (event : Event) (rest : Option Event) → one_of here event rest ≡ None → (here ≡ false) × (rest ≡ None)
one_none true event rest is = absurd (cc)
one_none false event rest is = (refl, is)

-- what is due of no merge
pub record IsMergeIdle (snaps : List SnapBooks) (rs : List Flight) (d : DueMerge) : Type 0 where
  pub released : can_release rs d.books ≡ false
  pub committed : can_commit_group d ≡ false
  pub flushed : can_flush d ≡ false
  pub written : can_write snaps d.books ≡ false
  pub read : can_read rs d.books ≡ false
  pub area : can_read_area d ≡ false
  pub group : can_group d ≡ false

module _ (snaps : List SnapBooks) (rs : List Flight) (d : DueMerge) where
  abbrev after_area : Option Event
  after_area = one_of (can_group d) MergeGroup None

  abbrev after_read : Option Event
  after_read = one_of (can_read_area d) MergeAreaRead after_area

  abbrev after_write : Option Event
  after_write = one_of (can_read rs d.books) MergeRead after_read

  abbrev after_flush : Option Event
  after_flush = one_of (can_write snaps d.books) MergeWrite after_write

  abbrev after_commit : Option Event
  after_commit = one_of (can_flush d) MergeFlush after_flush

  abbrev after_release : Option Event
  after_release = one_of (can_commit_group d) MergeCommit after_commit

  pub no_merge_due : merge_due snaps rs d ≡ None → IsMergeIdle snaps rs d
  no_merge_due e =
      let a = one_none (can_release rs d.books) MergeRelease after_release e in
      let b = one_none (can_commit_group d) MergeCommit after_commit a.1 in
      let c = one_none (can_flush d) MergeFlush after_flush b.1 in
      let f = one_none (can_write snaps d.books) MergeWrite after_write c.1 in
      let g = one_none (can_read rs d.books) MergeRead after_read f.1 in
      let i = one_none (can_read_area d) MergeAreaRead after_area g.1 in
      let j = one_none (can_group d) MergeGroup None i.1 in
      record { released = a.0; committed = b.0; flushed = c.0; written = f.0; read = g.0; area = i.0; group = j.0 }

  abbrev IsDue : Event → Type 0
  IsDue event = is_merge_due snaps rs d event ≡ true

  group_due : (e : Event) → after_area ≡ Some e → IsDue e
  group_due e is = elim (one_cases (can_group d) MergeGroup None e is) [
    | inl h ↦ subst IsDue h.1 h.0
    | inr h ↦ (let no : None ≡ Some e = h in absurd (cc))
  ]

  area_due : (e : Event) → after_read ≡ Some e → IsDue e
  area_due e is = elim (one_cases (can_read_area d) MergeAreaRead after_area e is) [
    | inl h ↦ subst IsDue h.1 h.0
    | inr h ↦ group_due e h
  ]

  read_due : (e : Event) → after_write ≡ Some e → IsDue e
  read_due e is = elim (one_cases (can_read rs d.books) MergeRead after_read e is) [
    | inl h ↦ subst IsDue h.1 h.0
    | inr h ↦ area_due e h
  ]

  write_due : (e : Event) → after_flush ≡ Some e → IsDue e
  write_due e is = elim (one_cases (can_write snaps d.books) MergeWrite after_write e is) [
    | inl h ↦ subst IsDue h.1 h.0
    | inr h ↦ read_due e h
  ]

  flush_due : (e : Event) → after_commit ≡ Some e → IsDue e
  flush_due e is = elim (one_cases (can_flush d) MergeFlush after_flush e is) [
    | inl h ↦ subst IsDue h.1 h.0
    | inr h ↦ write_due e h
  ]

  commit_due : (e : Event) → after_release ≡ Some e → IsDue e
  commit_due e is = elim (one_cases (can_commit_group d) MergeCommit after_commit e is) [
    | inl h ↦ subst IsDue h.1 h.0
    | inr h ↦ flush_due e h
  ]

  -- where an event of a merge is answered, it is due
  pub merge_due_is_due : (e : Event) → merge_due snaps rs d ≡ Some e → is_merge_due snaps rs d e ≡ true
  merge_due_is_due e is = elim (one_cases (can_release rs d.books) MergeRelease after_release e is) [
    | inl h ↦ subst IsDue h.1 h.0
    | inr h ↦ commit_due e h
  ]

or_cases : (first rest : Option Event) (e : Event) → due_or first rest ≡ Some e → (first ≡ Some e) ⊎ (rest ≡ Some e)
or_cases None rest e is = inr is
or_cases (Some event) rest e is = inl is

or_none : (first rest : Option Event) → due_or first rest ≡ None → (first ≡ None) × (rest ≡ None)
or_none None rest is = (refl, is)
or_none (Some event) rest is = absurd (cc)

true_or : (b : Bool) → (true || b) ≡ true
true_or b = refl

or_true : (b : Bool) → (b || true) ≡ true
or_true true = refl
or_true false = refl

-- of a whole volume
pub due_with_is_due : (snaps : List DueSnap) (rs : List Flight) (d : DueMerge) (e : Event) → AllPairs (λ (f g : Flight). f.number ≢ g.number) rs → due_with snaps rs d ≡ Some e → is_due_with snaps rs d e ≡ true
due_with_is_due snaps rs d e apart is = elim (or_cases (due_of snaps rs) (merge_due (map books_of snaps) rs d) e is) [
  | inl here ↦ ap (λ b. b || is_merge_due (map books_of snaps) rs d e) (due_is_due snaps rs e apart here) ∙ true_or (is_merge_due (map books_of snaps) rs d e)
  | inr later ↦ ap (λ b. is_due snaps rs e || b) (merge_due_is_due (map books_of snaps) rs d e later) ∙ or_true (is_due snaps rs e)
]

pub nothing_due_with : (snaps : List DueSnap) (rs : List Flight) (d : DueMerge) → due_with snaps rs d ≡ None → (due_of snaps rs ≡ None) × (merge_due (map books_of snaps) rs d ≡ None)
nothing_due_with snaps rs d is = or_none (due_of snaps rs) (merge_due (map books_of snaps) rs d) is
