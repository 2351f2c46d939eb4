-- FlushStore lowers the whole number of what is left, whether it is answered or spoils its snapshot.
use Rattle.std.proofs.Common.{◌≡◌, ◌⊎◌, inl, inr, ◌+◌, ◌<◌, ◌≤◌, Bool, true, false, List, [], ◌∷◌, length, map, refl, sym, ◌∙◌, ap, arith}
use Rattle.std.specs.Prelude.{◌&&◌, ◌||◌, not, sum_by}
use Rattle.std.specs.List.{list_any}
use Rattle.std.proofs.lemmas.Bool.{false≢true}
use Rattle.std.proofs.lemmas.List.Sums.{sum_by-cons}
use Rattle.in_flight.specs.Flushed.{flushed_stage, flushed_copy, safe_mark}
use Rattle.in_flight.specs.Due.{is_stage, front_ready, front_unflushed}
use Rattle.in_flight.specs.declared.copies.Stage.{Stage}
use Rattle.in_flight.specs.declared.copies.Stage.TheVariants.{Waiting, Read, Written, Flushed}
use Rattle.in_flight.specs.declared.copies.ChunkCopy.{ChunkCopy}
use Rattle.in_flight.specs.declared.copies.Mark.{Mark}
use Rattle.volume_laws.specs.Steps.{FlushesStore, SpoilsSnap}
use Rattle.volume_laws.specs.Due.{DueSnap, steps_at, steps_of, steps_of_mark, steps_of_area, left_in, is_unsafe, can_flush_store}
use Rattle.volume_laws.proofs.Left.{area_at, invalid_same, copies_some, spoiled_few, mark_some}

or_cases : (a b : Bool) → (a || b) ≡ true → (a ≡ true) ⊎ (b ≡ true)
or_cases true b e = inl refl
or_cases false b e = inr e

and_parts : (a b : Bool) → (a && b) ≡ true → (a ≡ true) × (b ≡ true)
and_parts true b e = (refl, e)
and_parts false b e = absurd (false≢true e)

not_true : (b : Bool) → not b ≡ true → b ≡ false
not_true true e = absurd (false≢true e)
not_true false e = refl

-- why a live snapshot waits for a flush of its store: its first copy, the area that is zeroed, or a mark
pub flush_cases : (s : DueSnap) → s.books.untried ≡ false → can_flush_store s ≡ true
    → (front_unflushed s.books.copies ≡ true) ⊎ ((((front_ready s.books.copies ≡ true) × ((s.waits ≡ true) × (s.needs ≡ false)))) ⊎ (list_any is_unsafe s.books.marks ≡ true))
flush_cases s tried e =
    let invalid : Bool = s.books.untried && s.books.marked in
    let front : Bool = front_unflushed s.books.copies in
    let area : Bool = front_ready s.books.copies && (s.waits && not s.needs) in
    elim (or_cases (invalid || front || area) (list_any is_unsafe s.books.marks) e) [
      | inr unsafe ↦ inr (inr unsafe)
      | inl more ↦ elim (or_cases (invalid || front) area more) [
        | inr zeroed ↦ (let (ready, rest) = and_parts (front_ready s.books.copies) (s.waits && not s.needs) zeroed in
            let (waits, needs) = and_parts s.waits (not s.needs) rest in
            inr (inl (ready, (waits, not_true s.needs needs))))
        | inl first ↦ elim (or_cases invalid front first) [
          | inr unflushed ↦ inl unflushed
          | inl mark ↦ absurd (false≢true (sym tried ∙ (and_parts s.books.untried s.books.marked mark).0))
        ]
      ]
    ]

-- what a flush of the store leaves of copies and marks
stage_le : (stage : Stage) → steps_at (flushed_stage stage) ≤ steps_at stage
stage_le Waiting = omega arith
stage_le Read = omega arith
stage_le Written = omega arith
stage_le Flushed = omega arith

stage_less : (stage : Stage) → is_stage Written stage ≡ true → steps_at (flushed_stage stage) < steps_at stage
stage_less Waiting e = absurd (false≢true e)
stage_less Read e = absurd (false≢true e)
stage_less Written e = omega arith
stage_less Flushed e = absurd (false≢true e)

copies_le : (cs : List ChunkCopy) → sum_by steps_of (map flushed_copy cs) ≤ sum_by steps_of cs
copies_le [] = omega arith
copies_le (c ∷ cs) =
    let a : sum_by steps_of (map flushed_copy (c ∷ cs)) ≡ steps_at (flushed_stage c.stage) + sum_by steps_of (map flushed_copy cs) = sum_by-cons steps_of (flushed_copy c) (map flushed_copy cs) in
    let b : sum_by steps_of (c ∷ cs) ≡ steps_at c.stage + sum_by steps_of cs = sum_by-cons steps_of c cs in
    omega (arith, a, b, stage_le c.stage, copies_le cs)

copies_less : (cs : List ChunkCopy) → front_unflushed cs ≡ true → sum_by steps_of (map flushed_copy cs) < sum_by steps_of cs
copies_less [] e = absurd (false≢true e)
copies_less (c ∷ cs) e =
    let a : sum_by steps_of (map flushed_copy (c ∷ cs)) ≡ steps_at (flushed_stage c.stage) + sum_by steps_of (map flushed_copy cs) = sum_by-cons steps_of (flushed_copy c) (map flushed_copy cs) in
    let b : sum_by steps_of (c ∷ cs) ≡ steps_at c.stage + sum_by steps_of cs = sum_by-cons steps_of c cs in
    omega (arith, a, b, stage_less c.stage e, copies_le cs)

marks_le : (ms : List Mark) → sum_by steps_of_mark (map safe_mark ms) ≤ sum_by steps_of_mark ms
marks_le [] = omega arith
marks_le (m ∷ ms) =
    let a : sum_by steps_of_mark (map safe_mark (m ∷ ms)) ≡ 1 + sum_by steps_of_mark (map safe_mark ms) = sum_by-cons steps_of_mark (safe_mark m) (map safe_mark ms) in
    let b : sum_by steps_of_mark (m ∷ ms) ≡ steps_of_mark m + sum_by steps_of_mark ms = sum_by-cons steps_of_mark m ms in
    omega (arith, a, b, mark_some m, marks_le ms)

unsafe_steps : (m : Mark) → is_unsafe m ≡ true → steps_of_mark m ≡ 3
unsafe_steps m e = rw (not_true m.safe e) refl

marks_less : (ms : List Mark) → list_any is_unsafe ms ≡ true → sum_by steps_of_mark (map safe_mark ms) < sum_by steps_of_mark ms
marks_less [] e = absurd (false≢true e)
marks_less (m ∷ ms) e =
    let a : sum_by steps_of_mark (map safe_mark (m ∷ ms)) ≡ 1 + sum_by steps_of_mark (map safe_mark ms) = sum_by-cons steps_of_mark (safe_mark m) (map safe_mark ms) in
    let b : sum_by steps_of_mark (m ∷ ms) ≡ steps_of_mark m + sum_by steps_of_mark ms = sum_by-cons steps_of_mark m ms in
    elim (or_cases (is_unsafe m) (list_any is_unsafe ms) e) [
      | inl here ↦ omega (arith, a, b, unsafe_steps m here, marks_le ms)
      | inr later ↦ omega (arith, a, b, mark_some m, marks_less ms later)
    ]

marks_some : (ms : List Mark) → list_any is_unsafe ms ≡ true → 3 ≤ sum_by steps_of_mark ms
marks_some [] e = absurd (false≢true e)
marks_some (m ∷ ms) e =
    let b : sum_by steps_of_mark (m ∷ ms) ≡ steps_of_mark m + sum_by steps_of_mark ms = sum_by-cons steps_of_mark m ms in
    elim (or_cases (is_unsafe m) (list_any is_unsafe ms) e) [
      | inl here ↦ omega (arith, b, unsafe_steps m here)
      | inr later ↦ omega (arith, b, marks_some ms later)
    ]

-- of the next area: what is firm is zeroed
area_flushed : (zeroed firm : Bool) → (firm ≡ true → zeroed ≡ true) → area_at true zeroed zeroed ≤ area_at true zeroed firm
area_flushed true true h = omega arith
area_flushed true false h = omega arith
area_flushed false true h = absurd (false≢true (h refl))
area_flushed false false h = omega arith

some_unflushed : (cs : List ChunkCopy) → front_unflushed cs ≡ true → 0 < length cs
some_unflushed [] e = absurd (false≢true e)
some_unflushed (c ∷ cs) e = omega arith

some_ready : (cs : List ChunkCopy) → front_ready cs ≡ true → 0 < length cs
some_ready [] e = absurd (false≢true e)
some_ready (c ∷ cs) e = omega arith

-- A flush of a live snapshot's store leaves no more, whatever waits for it.
pub flush_no_more : (s s' : DueSnap) → FlushesStore s.books s'.books → s.books.live ≡ true → s'.zeroed ≡ s.zeroed → s'.firm ≡ s.zeroed → (s.firm ≡ true → s.zeroed ≡ true) → left_in s' ≤ left_in s
flush_no_more s s' e live zeroed now firm =
    let invalid = invalid_same s.books s'.books e.same.untried e.same.marked in
    let copies : sum_by steps_of s'.books.copies ≡ sum_by steps_of (map flushed_copy s.books.copies) = ap (sum_by steps_of) e.copies in
    let marks : sum_by steps_of_mark s'.books.marks ≡ sum_by steps_of_mark (map safe_mark s.books.marks) = ap (sum_by steps_of_mark) e.marks in
    let was : steps_of_area s ≡ area_at true s.zeroed s.firm = ap (λ x. area_at x s.zeroed s.firm) live in
    let is : steps_of_area s' ≡ area_at true s.zeroed s.zeroed = ap (λ x. area_at x s'.zeroed s'.firm) (e.same.live ∙ live) ∙ ap (λ x. area_at true x s'.firm) zeroed ∙ ap (λ x. area_at true s.zeroed x) now in
    omega (arith, invalid, copies, marks, was, is, area_flushed s.zeroed s.firm firm, copies_le s.books.copies, marks_le s.books.marks)

-- The flush is answered. What the first copies wait for is not firm, and where they do not need it, it is zeroed.
pub flush_left : (s s' : DueSnap) → FlushesStore s.books s'.books → s.books.live ≡ true → s.books.untried ≡ false → s'.zeroed ≡ s.zeroed → s'.firm ≡ s.zeroed
    → (s.firm ≡ true → s.zeroed ≡ true) → (s.waits ≡ true → s.firm ≡ false) → (s.waits ≡ true → s.needs ≡ false → s.zeroed ≡ true) → can_flush_store s ≡ true → left_in s' < left_in s
flush_left s s' e live tried zeroed now firm waits needs due =
    let invalid = invalid_same s.books s'.books e.same.untried e.same.marked in
    let copies : sum_by steps_of s'.books.copies ≡ sum_by steps_of (map flushed_copy s.books.copies) = ap (sum_by steps_of) e.copies in
    let marks : sum_by steps_of_mark s'.books.marks ≡ sum_by steps_of_mark (map safe_mark s.books.marks) = ap (sum_by steps_of_mark) e.marks in
    let was : steps_of_area s ≡ area_at true s.zeroed s.firm = ap (λ x. area_at x s.zeroed s.firm) live in
    let is : steps_of_area s' ≡ area_at true s.zeroed s.zeroed = ap (λ x. area_at x s'.zeroed s'.firm) (e.same.live ∙ live) ∙ ap (λ x. area_at true x s'.firm) zeroed ∙ ap (λ x. area_at true s.zeroed x) now in
    let area = area_flushed s.zeroed s.firm firm in
    elim (flush_cases s tried due) [
      | inl unflushed ↦ omega (arith, invalid, copies, marks, was, is, area, copies_less s.books.copies unflushed, marks_le s.books.marks)
      | inr (inl (ready, (here, free))) ↦
          (let before : area_at true s.zeroed s.firm ≡ 3 = ap (λ x. area_at true x s.firm) (needs here free) ∙ ap (λ x. area_at true true x) (waits here) in
          let after : area_at true s.zeroed s.zeroed ≡ 0 = ap (λ x. area_at true x x) (needs here free) in
          omega (arith, invalid, copies, marks, was, is, before, after, copies_le s.books.copies, marks_le s.books.marks))
      | inr (inr unsafe) ↦ omega (arith, invalid, copies, marks, was, is, area, copies_le s.books.copies, marks_less s.books.marks unsafe)
    ]

-- it fails, and the snapshot is spoiled
pub flush_spoil_left : (s s' : DueSnap) → SpoilsSnap s.books s'.books → s.books.untried ≡ false → can_flush_store s ≡ true → left_in s' < left_in s
flush_spoil_left s s' e tried due =
    let few = spoiled_few s s' e in
    elim (flush_cases s tried due) [
      | inl unflushed ↦ omega (arith, few, copies_some s.books.copies (some_unflushed s.books.copies unflushed))
      | inr (inl (ready, rest)) ↦ omega (arith, few, copies_some s.books.copies (some_ready s.books.copies ready))
      | inr (inr unsafe) ↦ omega (arith, few, marks_some s.books.marks unsafe)
    ]
