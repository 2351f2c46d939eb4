-- The copies that are started for an origin write or a merge, once the marks of the stores that were full are tried: each
-- snapshot is idle, or has one copy that waits, and the copies' numbers go up.
use Rattle.std.proofs.Common.{◌≡◌, inl, inr, ℕ, ◌+◌, ◌<◌, ◌≤◌, Bool, true, false, List, [], ◌∷◌, Option, Some, None, min, arith, refl, ap, ◌∙◌, sym, subst}
use Rattle.std.specs.Prelude.{◌==◌, ◌&&◌, ◌||◌, not, is_some, if◌then◌else◌}
use Rattle.std.specs.List.{list_any}
use Rattle.std.proofs.lemmas.Bool.{cases_Bool, cond-true, cond-false}
use Rattle.in_flight.specs.declared.copies.Stage.TheVariants.{Waiting}
use Rattle.in_flight.specs.Due.{least}
use Rattle.device.specs.declared.operation.Operation.TheVariants.{Writes, Flushes}
use Rattle.whole_commands.specs.Devices.{answers, met}
use Rattle.whole_commands.specs.Saving.{spoilt, header_written}
use Rattle.cow_format.specs.Picture.{place_of}
use Rattle.event_machine.specs.Held.{Copying, SnapHeld}
use Rattle.event_machine.specs.Due.{can_mark, copy_at, least_in}
use Rattle.event_machine.specs.Rest.{IsResting}
use Rattle.event_machine.specs.Submitting.{needs_none, is_filled, with_copy, started_all, refused_by}
use Rattle.whole_commands.proofs.Each.{Each}
use Rattle.event_machine.proofs.Lists.{Above}
use Rattle.event_machine.proofs.Around.{IsIdle, IsLater, idle_later, later_marks}

-- whether the mark of a spoiled snapshot is written
abbrev pub mark_goes : SnapHeld → Bool
mark_goes h = answers h.snap.store (Writes 0 h.snap.chunk)

-- a spoiled snapshot whose mark is written, and waits for a flush of the store; and one whose mark could not be written
abbrev pub mark_written : SnapHeld → SnapHeld
mark_written h = record h { snap = record h.snap { live = false; store = header_written h.snap }; untried = true; marked = true; copies = []; marks = [] }

abbrev pub mark_missed : SnapHeld → SnapHeld
mark_missed h = record h { snap = record h.snap { live = false; stale = true; store = header_written h.snap }; untried = false; marked = false; copies = []; marks = [] }

abbrev pub marked_of : SnapHeld → SnapHeld
marked_of h = if mark_goes h then mark_written h else mark_missed h

-- a spoiled snapshot whose mark is tried
abbrev pub tried_of : SnapHeld → SnapHeld
tried_of h = record h { snap = spoilt h.snap; untried = false; marked = mark_goes h; copies = []; marks = [] }

-- the one by the other
abbrev tried_by : SnapHeld → Bool → SnapHeld
tried_by h b = record h {
  snap = record h.snap { live = false; stale = not (b && answers (header_written h.snap) Flushes); store = if b then met (header_written h.snap) Flushes else header_written h.snap };
  untried = false;
  marked = b;
  copies = [];
  marks = [];
}

-- the mark's flush
abbrev pub mark_flushed : SnapHeld → SnapHeld
mark_flushed h = record h { snap = record h.snap { stale = not (answers h.snap.store Flushes); store = met h.snap.store Flushes }; untried = false }

pub tried_flushed : (h : SnapHeld) → mark_goes h ≡ true → tried_of h ≡ mark_flushed (mark_written h)
tried_flushed h goes = ap (tried_by h) goes

pub tried_missed : (h : SnapHeld) → mark_goes h ≡ false → tried_of h ≡ mark_missed h
tried_missed h fails = ap (tried_by h) fails

-- the copies that are started, once the marks of the stores that were full are written
abbrev pub marked_all : (SnapHeld → ℕ) → ℕ → List SnapHeld → List SnapHeld
marked_all at m [] = []
marked_all at m (h ∷ snaps) =
    if needs_none (at h) h then h ∷ marked_all at m snaps
    else (if is_filled h then marked_of h ∷ marked_all at m snaps
    else with_copy (m + 1) (at h) h ∷ marked_all at (m + 1) snaps)

abbrev pub primed : (SnapHeld → ℕ) → ℕ → List SnapHeld → List SnapHeld
primed at m [] = []
primed at m (h ∷ snaps) =
    if needs_none (at h) h then h ∷ primed at m snaps
    else (if is_filled h then tried_of h ∷ primed at m snaps
    else with_copy (m + 1) (at h) h ∷ primed at (m + 1) snaps)

pub primed_none : (at : SnapHeld → ℕ) (m : ℕ) (h : SnapHeld) (snaps : List SnapHeld) → needs_none (at h) h ≡ true → primed at m (h ∷ snaps) ≡ h ∷ primed at m snaps
primed_none at m h snaps none = cond-true _ _ _ none

pub primed_full : (at : SnapHeld → ℕ) (m : ℕ) (h : SnapHeld) (snaps : List SnapHeld) → needs_none (at h) h ≡ false → is_filled h ≡ true → primed at m (h ∷ snaps) ≡ tried_of h ∷ primed at m snaps
primed_full at m h snaps some full = cond-false _ _ _ some ∙ cond-true _ _ _ full

pub primed_copy : (at : SnapHeld → ℕ) (m : ℕ) (h : SnapHeld) (snaps : List SnapHeld) → needs_none (at h) h ≡ false → is_filled h ≡ false → primed at m (h ∷ snaps) ≡ with_copy (m + 1) (at h) h ∷ primed at (m + 1) snaps
primed_copy at m h snaps some room = cond-false _ _ _ some ∙ cond-false _ _ _ room

or_none : (b : Bool) → (b || false) ≡ b
or_none true = refl
or_none false = refl

-- while no copy is under way
pub needs_resting : (c : ℕ) (h : SnapHeld) → h.copies ≡ [] → needs_none c h ≡ (not h.snap.live || is_some (place_of h.pairs c))
needs_resting c h none = ap (λ (cs : List Copying). not h.snap.live || is_some (place_of h.pairs c) || list_any (λ p. p.pair.old == c) cs) none ∙ or_none (not h.snap.live || is_some (place_of h.pairs c))

-- no request is in flight that could be refused
pub refused_none : (at : SnapHeld → ℕ) (snaps : List SnapHeld) → refused_by at snaps [] ≡ []
refused_none at [] = refl
refused_none at (h ∷ snaps) = elim (cases_Bool (needs_none (at h) h || not (is_filled h))) [
  | inl stays ↦ cond-true _ _ _ stays ∙ refused_none at snaps
  | inr full ↦ cond-false _ _ _ full ∙ refused_none at snaps
]

pub started_none : (at : SnapHeld → ℕ) (m : ℕ) (h : SnapHeld) (snaps : List SnapHeld) → needs_none (at h) h ≡ true → started_all at m (h ∷ snaps) ≡ h ∷ started_all at m snaps
started_none at m h snaps none = cond-true _ _ _ none

pub resting_idle : (sectors : ℕ) (h : SnapHeld) → IsResting sectors h → IsIdle h
resting_idle sectors h rest = record { tried = rest.tried; copies = rest.copies; marks = rest.marks }

pub tried_later : (h : SnapHeld) → IsLater (tried_of h)
tried_later h = record { tried = refl; marks = refl; front = refl; unflushed = refl; read = refl }

pub copy_later : (n c : ℕ) (h : SnapHeld) → IsIdle h → IsLater (with_copy n c h)
copy_later n c h idle = record { tried = idle.tried; marks = idle.marks; front = rw idle.copies refl; unflushed = rw idle.copies refl; read = rw idle.copies refl }

pub primed_later : (at : SnapHeld → ℕ) (m : ℕ) (snaps : List SnapHeld) → Each IsIdle snaps → Each IsLater (primed at m snaps)
primed_later at m [] idle = tt
primed_later at m (h ∷ snaps) idle = elim (cases_Bool (needs_none (at h) h)) [
  | inl none ↦ rw (primed_none at m h snaps none) (idle_later h idle.0, primed_later at m snaps idle.1)
  | inr some ↦ elim (cases_Bool (is_filled h)) [
    | inl full ↦ rw (primed_full at m h snaps some full) (tried_later h, primed_later at m snaps idle.1)
    | inr room ↦ rw (primed_copy at m h snaps some room) (copy_later (m + 1) (at h) h idle.0, primed_later at (m + 1) snaps idle.1)
  ]
]

-- no mark is left to be written
pub marked_unmarkable : (h : SnapHeld) → can_mark (marked_of h) ≡ false
marked_unmarkable h = elim (cases_Bool (mark_goes h)) [
  | inl goes ↦ ap can_mark (cond-true _ _ _ goes)
  | inr fails ↦ ap can_mark (cond-false _ _ _ fails)
]

pub marked_all_marks : (at : SnapHeld → ℕ) (m : ℕ) (snaps : List SnapHeld) → Each IsIdle snaps → Each (λ d. can_mark d ≡ false) (marked_all at m snaps)
marked_all_marks at m [] idle = tt
marked_all_marks at m (h ∷ snaps) idle = elim (cases_Bool (needs_none (at h) h)) [
  | inl none ↦ subst (Each (λ d. can_mark d ≡ false)) (sym (cond-true _ _ _ none)) (later_marks h (idle_later h idle.0), marked_all_marks at m snaps idle.1)
  | inr some ↦ elim (cases_Bool (is_filled h)) [
    | inl full ↦ subst (Each (λ d. can_mark d ≡ false)) (sym (cond-false _ _ _ some ∙ cond-true _ _ _ full)) (marked_unmarkable h, marked_all_marks at m snaps idle.1)
    | inr room ↦ subst (Each (λ d. can_mark d ≡ false)) (sym (cond-false _ _ _ some ∙ cond-false _ _ _ room))
        (later_marks (with_copy (m + 1) (at h) h) (copy_later (m + 1) (at h) h idle.0), marked_all_marks at (m + 1) snaps idle.1)
  ]
]

above_least : (m : ℕ) (a b : Option ℕ) → Above m a → Above m b → Above m (least a b)
above_least m None b x y = y
above_least m (Some n) None x y = x
above_least m (Some n) (Some k) x y = omega arith

above_less : (m n : ℕ) (o : Option ℕ) → m ≤ n → Above n o → Above m o
above_less m n None le x = tt
above_less m n (Some k) le x = omega arith

pub least_low : (n : ℕ) (o : Option ℕ) → Above n o → least (Some n) o ≡ Some n
least_low n None x = refl
least_low n (Some k) x = let same : min n k ≡ n = omega arith in ap Some same

none_above : (m : ℕ) (o : Option ℕ) → o ≡ None → Above m o
none_above m o e = rw e tt

idle_none : (h : SnapHeld) → IsIdle h → copy_at Waiting h ≡ None
idle_none h idle = rw idle.copies refl

pub copy_some : (n c : ℕ) (h : SnapHeld) → IsIdle h → copy_at Waiting (with_copy n c h) ≡ Some n
copy_some n c h idle = rw idle.copies refl

-- the copies' numbers come after m
pub primed_above : (at : SnapHeld → ℕ) (m : ℕ) (snaps : List SnapHeld) → Each IsIdle snaps → Above m (least_in (copy_at Waiting) (primed at m snaps))
primed_above at m [] idle = tt
primed_above at m (h ∷ snaps) idle = elim (cases_Bool (needs_none (at h) h)) [
  | inl none ↦ rw (primed_none at m h snaps none)
      (above_least m (copy_at Waiting h) (least_in (copy_at Waiting) (primed at m snaps)) (none_above m (copy_at Waiting h) (idle_none h idle.0)) (primed_above at m snaps idle.1))
  | inr some ↦ elim (cases_Bool (is_filled h)) [
    | inl full ↦ rw (primed_full at m h snaps some full) (primed_above at m snaps idle.1)
    | inr room ↦ rw (primed_copy at m h snaps some room)
        (above_least m (copy_at Waiting (with_copy (m + 1) (at h) h)) (least_in (copy_at Waiting) (primed at (m + 1) snaps))
        (above_some m (copy_at Waiting (with_copy (m + 1) (at h) h)) (copy_some (m + 1) (at h) h idle.0))
        (above_less m (m + 1) (least_in (copy_at Waiting) (primed at (m + 1) snaps)) (omega arith) (primed_above at (m + 1) snaps idle.1)))
  ]
]
  where
    above_some : (m : ℕ) (o : Option ℕ) → o ≡ Some (m + 1) → Above m o
    above_some m o e = let lt : m < m + 1 = omega arith in subst (Above m) (sym e) lt
