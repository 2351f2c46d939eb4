-- Where the first empty slot stands.
use Rattle.std.proofs.Common.{◌≡◌, ◌≢◌, ℕ, zero, suc, ◌+◌, ◌<◌, ◌≤◌, List, [], ◌∷◌, length, get_or, arith, ap, ◌∙◌, sym}
use Rattle.std.proofs.lemmas.Bool.{eq-eqb, ne_eqb, cond-true, cond-false}
use Rattle.cow_salvage.specs.declared.using.Slot.{Slot}
use Rattle.std.specs.Prelude.{Bool, Option}
use Rattle.cow_reports.specs.declared.notes.Behind.{Behind}
use Rattle.cow_reports.specs.Noted.{row_from, front_by, lacks_by, behind_by, notes_by}

-- a row that ends where a slot has another number has so many slots
pub row_is : (slots : List Slot) (number front : ℕ) → front ≤ length slots → ((k : ℕ) (d : Slot) → k < front → (get_or slots k d).number ≡ number + k) → ((d : Slot) → front < length slots → (get_or slots front d).number ≢ number + front) → row_from number slots ≡ front
row_is [] number front few each ends = omega arith
row_is (s ∷ ss) number zero few each ends = cond-false _ _ _ (ne_eqb _ _ other)
  where
    other : s.number ≢ number
    other same = let e : s.number ≡ number + 0 = omega arith in ends s (omega arith) e
row_is (s ∷ ss) number (suc front) few each ends =
    let start : s.number ≡ number + 0 = each 0 s (omega arith) in
    let here : s.number ≡ number = omega arith in
    let rest : row_from (number + 1) ss ≡ front = row_is ss (number + 1) front (omega arith) each' ends' in
    cond-true _ _ _ (eq-eqb _ _ here) ∙ ap (λ n. n + 1) rest ∙ (omega arith)
  where
    each' : (k : ℕ) (d : Slot) → k < front → (get_or ss k d).number ≡ number + 1 + k
    each' k d lt = let at : (get_or ss k d).number ≡ number + suc k = each (suc k) d (omega arith) in omega arith

    ends' : (d : Slot) → front < length ss → (get_or ss front d).number ≢ number + 1 + front
    ends' d lt same = let e : (get_or ss front d).number ≡ number + suc front = omega arith in ends d (omega arith) e

-- the notes, by a front that is the first empty slot's
pub notes_are : (areas slots front : ℕ) (taken : Bool) (used used' used'' : List Slot) (lacks : Option ℕ) (behind : Option Behind) → used' ≡ used → used'' ≡ used → front ≤ length used' → ((k : ℕ) (d : Slot) → k < front → (get_or used' k d).number ≡ k) → ((d : Slot) → front < length used' → (get_or used' front d).number ≢ front) → lacks ≡ lacks_by areas slots front → (front ≡ front_by used'' → behind ≡ behind_by used'' taken) → record { lacks = lacks; behind = behind } ≡ notes_by areas used slots taken
notes_are areas slots front taken used used' used'' lacks behind same same' few each ends lack told =
    let at : front_by used' ≡ front = row_is used' 0 front few (λ k d lt. each k d lt ∙ (omega arith)) (λ d lt is. ends d lt (is ∙ (omega arith))) in
    let here : front ≡ front_by used = sym at ∙ ap front_by same in
    let here' : front ≡ front_by used'' = here ∙ ap front_by (sym same') in
    let first : lacks ≡ lacks_by areas slots (front_by used) = lack ∙ ap (lacks_by areas slots) here in
    let second : behind ≡ behind_by used taken = told here' ∙ ap (λ xs. behind_by xs taken) same' in
    cc
