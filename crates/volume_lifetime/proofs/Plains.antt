-- What a plain machine shows of a snapshot that was taken and not written since: its array, or it is lost. So its merge gives
-- that array to the origin.
use Rattle.std.proofs.Common.{◌≡◌, ◌≢◌, inl, inr, ℕ, Bool, true, false, List, [], ◌∷◌, ◌++◌, filter, Some, None, refl, sym, ◌∙◌, ap, subst}
use Rattle.std.specs.Prelude.{◌==◌, not}
use Rattle.std.proofs.lemmas.Bool.{cases_Bool, cases_eq, eq-eqb, eqb-true, false≢true, ne_eqb}
use Rattle.sector.specs.declared.refusal.Refusal.{Refusal}
use Rattle.plain_machine.specs.declared.event.Event.{Event}
use Rattle.plain_machine.specs.declared.event.Outcome.{Outcome}
use Rattle.plain_machine.specs.declared.request.Overflowing.{Overflowing}
use Rattle.plain_machine.specs.declared.request.Request.{Request}
use Rattle.plain_machine.specs.Plain.{Plain, Entry, Saved, Live, Invalid, saved_under, without_saved}
use Rattle.plain_machine.specs.Legal.{IsBegun, IsDeclined, IsFinished, IsLegalStep, IsSubmitted, IsTaken}
use Rattle.plain_machine.specs.Unwritten.{StillShows, is_written, writes}
use Rattle.plain_machine.proofs.Unwritten.{saved_marked, step_keeps, still_spoiled, submit_keeps}
use Rattle.volume_lifetime.specs.Lived.{Taken, ShowsTaken, others}

-- it shows its array, or is lost, and no request in flight writes it
pub record IsKept (p : Plain) (t : Taken) : Type 0 where
  pub shows : StillShows t.number t.array p
  pub free : is_written t.number p.requests ≡ false

abbrev pub AreKept : Plain → List Taken → Type 0
AreKept p [] = Unit {0}
AreKept p (t ∷ taken) = IsKept p t × AreKept p taken

pub all_kept : (p q : Plain) (taken : List Taken) → ((t : Taken) → IsKept p t → IsKept q t) → AreKept p taken → AreKept q taken
all_kept p q [] each all = tt
all_kept p q (t ∷ taken) each all = (each t all.0, all_kept p q taken each all.1)

pub some_kept : (p q : Plain) (test : Taken → Bool) (taken : List Taken) → ((t : Taken) → test t ≡ true → IsKept p t → IsKept q t) → AreKept p taken → AreKept q (filter test taken)
some_kept p q test [] each all = tt
some_kept p q test (t ∷ taken) each all = elim (cases_Bool (test t)) [
  | inl stays ↦ rw stays (each t stays all.0, some_kept p q test taken each all.1)
  | inr goes ↦ rw goes (some_kept p q test taken each all.1)
]

not_true : (b : Bool) → not b ≡ true → b ≡ false
not_true true e = sym e
not_true false e = refl

-- where it is shown as before, and the requests are the same
same_kept : (p q : Plain) (t : Taken) → saved_under t.number q.saved ≡ saved_under t.number p.saved → q.requests ≡ p.requests → IsKept p t → IsKept q t
same_kept p q t at requests kept = record {
  shows = elim kept.shows [ inl live ↦ inl (at ∙ live) | inr lost ↦ inr (at ∙ lost) ];
  free = ap (is_written t.number) requests ∙ kept.free;
}

pub same_all : (p q : Plain) (taken : List Taken) → q ≡ p → AreKept p taken → AreKept q taken
same_all p q taken same all = subst (λ x. AreKept x taken) (sym same) all

-- one entry more or less, of another number
more_other : (number n : ℕ) (saved : Saved) (overflow : Overflowing) (entries : List Entry) → (n == number) ≡ false → saved_under number (entries ++ record { number = n; saved = saved; overflow = overflow } ∷ []) ≡ saved_under number entries
more_other number n saved overflow [] ne = rw ne refl
more_other number n saved overflow (e ∷ es) ne = elim (cases_Bool (e.number == number)) [
  | inl mine ↦ rw mine refl
  | inr other ↦ rw other (more_other number n saved overflow es ne)
]

less_other : (number n : ℕ) (entries : List Entry) → (n == number) ≡ false → saved_under number (without_saved n entries) ≡ saved_under number entries
less_other number n [] ne = refl
less_other number n (e ∷ es) ne = elim (cases_Bool (e.number == n)) [
  | inl here ↦ (let at : (e.number == number) ≡ false = ap (λ k. k == number) (eqb-true e.number n here) ∙ ne in rw here (rw at refl))
  | inr there ↦ elim (cases_Bool (e.number == number)) [
    | inl mine ↦ rw there (rw mine refl)
    | inr other ↦ rw there (rw other (less_other number n es ne))
  ]
]

some_none : (saved : Saved) → Some saved ≢ None
some_none saved e = cc

-- the last one is found where none has its number
pub saved_last : (number : ℕ) (saved : Saved) (overflow : Overflowing) (entries : List Entry) → saved_under number entries ≡ None → saved_under number (entries ++ record { number = number; saved = saved; overflow = overflow } ∷ []) ≡ Some saved
saved_last number saved overflow [] none = (let mine : (number == number) ≡ true = eq-eqb number number refl in rw mine refl)
saved_last number saved overflow (e ∷ es) none = elim (cases_Bool (e.number == number)) [
  | inl mine ↦ absurd (some_none e.saved (sym (rw mine refl) ∙ none))
  | inr other ↦ rw other (saved_last number saved overflow es (sym (rw other refl) ∙ none))
]

-- a request
pub submitted_keeps : (number : ℕ) (which : List ℕ) (request : Request) (p q : Plain) (taken : List Taken) → IsSubmitted which p number request q → AreKept p taken → AreKept q (filter (λ t. not (writes t.number request.dev request.op)) taken)
submitted_keeps number which request p q taken submitted all = some_kept p q (λ t. not (writes t.number request.dev request.op)) taken
    (λ t free kept. (let (shows, none) = submit_keeps t.number t.array p q kept.free kept.shows request (not_true (writes t.number request.dev request.op) free) (inl (number, which, submitted)) in record { shows = shows; free = none })) all

declined_keeps : (request : Request) (refusal : Refusal) (p q : Plain) (t : Taken) → IsDeclined request refusal p q → IsKept p t → IsKept q t
declined_keeps request refusal p q t (inl same) kept = subst (λ x. IsKept x t) (sym same) kept
declined_keeps request refusal p q t (inr (n, bytes, dev, op, inl (why, never, spoils))) kept = record {
  shows = still_spoiled (n ∷ []) t.number t.array p q (ap (λ (x : Plain). x.saved) spoils) kept.shows;
  free = ap (λ (x : Plain). is_written t.number x.requests) spoils ∙ kept.free;
}
declined_keeps request refusal p q t (inr (n, bytes, dev, op, inr (why, marks))) kept =
    same_kept p q t (ap (λ (x : Plain). saved_under t.number x.saved) marks.becomes ∙ saved_marked t.number n p.saved) (ap (λ (x : Plain). x.requests) marks.becomes) kept

pub refused_keeps : (request : Request) (refusal : Refusal) (p q : Plain) (taken : List Taken) → IsDeclined request refusal p q → AreKept p taken → AreKept q taken
refused_keeps request refusal p q taken declined all = all_kept p q taken (λ t kept. declined_keeps request refusal p q t declined kept) all

-- an event
pub stepped_keeps : (event : Event) (outcome : Outcome) (p q : Plain) (taken : List Taken) → IsLegalStep p event outcome q → AreKept p taken → AreKept q taken
stepped_keeps event outcome p q taken legal all = all_kept p q taken
    (λ t kept. (let (shows, none) = step_keeps t.number t.array p q kept.free kept.shows event (inl (outcome, legal)) in record { shows = shows; free = none })) all

-- a snapshot is taken
pub apart : (number : ℕ) (p : Plain) (t : Taken) → saved_under number p.saved ≡ None → IsKept p t → (number == t.number) ≡ false
apart number p t none kept = elim (cases_eq number t.number) [
  | inr other ↦ ne_eqb number t.number other
  | inl same ↦ elim kept.shows [
    | inl live ↦ absurd (some_none (Live t.array) (sym live ∙ ap (λ n. saved_under n p.saved) (sym same) ∙ none))
    | inr lost ↦ absurd (some_none Invalid (sym lost ∙ ap (λ n. saved_under n p.saved) (sym same) ∙ none))
  ]
]

pub taken_keeps : (number : ℕ) (array : List ℕ) (overflow : Overflowing) (p q : Plain) (taken : List Taken) → saved_under number p.saved ≡ None → IsTaken p number array overflow q → AreKept p taken → AreKept q taken
taken_keeps number array overflow p q taken none h all = all_kept p q taken
    (λ t kept. same_kept p q t (ap (λ (x : Plain). saved_under t.number x.saved) h.becomes ∙ more_other t.number number (Live array) overflow p.saved (apart number p t none kept)) (ap (λ (x : Plain). x.requests) h.becomes) kept) all

pub taken_kept : (number : ℕ) (array : List ℕ) (overflow : Overflowing) (p q : Plain) → saved_under number p.saved ≡ None → p.requests ≡ [] → IsTaken p number array overflow q → (let t : Taken = record { number = number; array = array } in IsKept q t)
taken_kept number array overflow p q none quiet h = record {
  shows = inl (ap (λ (x : Plain). saved_under number x.saved) h.becomes ∙ saved_last number (Live array) overflow p.saved none);
  free = ap (λ (x : Plain). is_written number x.requests) h.becomes ∙ ap (is_written number) quiet;
}

-- one is taken away, or merged
other_number : (number : ℕ) (t : Taken) → not (t.number == number) ≡ true → (number == t.number) ≡ false
other_number number t e = elim (cases_eq number t.number) [
  | inr other ↦ ne_eqb number t.number other
  | inl same ↦ (let here : (t.number == number) ≡ true = ap (λ n. t.number == n) same ∙ eq-eqb t.number t.number refl in absurd (false≢true (ap not (sym here) ∙ e)))
]

pub less_keeps : (number : ℕ) (p q : Plain) (taken : List Taken) → q.saved ≡ without_saved number p.saved → q.requests ≡ p.requests → AreKept p taken → AreKept q (others number taken)
less_keeps number p q taken saved requests all = some_kept p q (λ t. not (t.number == number)) taken
    (λ t other kept. same_kept p q t (ap (saved_under t.number) saved ∙ less_other t.number number p.saved (other_number number t other)) requests kept) all

pub finished_keeps : (p q : Plain) (taken : List Taken) → IsFinished p q → AreKept p taken → AreKept q taken
finished_keeps p q taken h all = all_kept p q taken (λ t kept. same_kept p q t (ap (λ (x : Plain). saved_under t.number x.saved) h.becomes) (ap (λ (x : Plain). x.requests) h.becomes) kept) all

-- where a merge begins the origin shows what was taken
pub begun_shows : (number : ℕ) (p q : Plain) (taken : List Taken) → IsBegun p number q → AreKept p taken → ShowsTaken number q.origin taken
begun_shows number p q [] h all = tt
begun_shows number p q (t ∷ taken) h all = ((λ same. ap (λ (x : Plain). x.origin) h.becomes ∙ mine (ap (λ n. saved_under n p.saved) same) all.0.shows), begun_shows number p q taken h all.1)
  where
    mine : saved_under t.number p.saved ≡ saved_under number p.saved → StillShows t.number t.array p → h.array ≡ t.array
    mine at (inl live) = (let both : Some (Live h.array) ≡ Some (Live t.array) = sym h.found ∙ sym at ∙ live in cc)
    mine at (inr lost) = (let both : Some (Live h.array) ≡ Some Invalid = sym h.found ∙ sym at ∙ lost in absurd cc)
