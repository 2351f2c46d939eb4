-- What an event finds is the first of its kind, since no number stands twice.
use Rattle.std.proofs.Common.{◌≡◌, ◌≢◌, ℕ, ◌+◌, ◌<◌, Bool, true, false, List, [], ◌∷◌, ◌++◌, Some, None, length, get_or, map, refl, sym, ◌∙◌, ap, subst, arith, inl, inr}
use Rattle.std.specs.Prelude.{◌==◌, ◌&&◌, AllPairs}
use Rattle.std.specs.List.{All, list_any, position}
use Rattle.std.proofs.lemmas.Bool.{cases_Bool, eqb-true, false≢true}
use Rattle.std.proofs.lemmas.List.{length-map, length-append, get_or-map, get_or_append_left, get_or-append-add, get_or_default}
use Rattle.std.proofs.lemmas.List.Folds.{Any-from_list_any, list_any_at}
use Rattle.std.proofs.lemmas.List.Quantifiers.{position-Some}
use Rattle.device.specs.Layers.{Layer}
use Rattle.in_flight.specs.Due.{number_of_copy, number_of_mark, is_copy_at, is_publishable}
use Rattle.in_flight.specs.declared.copies.Mark.{Mark}
use Rattle.in_flight.specs.declared.copies.Stage.{Stage}
use Rattle.in_flight.specs.declared.flights.Flight.{Flight}
use Rattle.snapshot.specs.Kept.{Kept}
use Rattle.volume.specs.Volumed.{Volumed}
use Rattle.snapshot_list.specs.Numbers.{number_of_snap, numbers_in}
use Rattle.volume.specs.Whole.{AreNumbers, IsWhole, SharesNone}
use Rattle.snapshot_list.specs.Finding.{is_copy_of, has_copy_at, is_mark_of, has_mark_at}
use Rattle.volume.proofs.MovedLists.{IsFirst, first_position}

and_left : (a b : Bool) → (a && b) ≡ true → a ≡ true
and_left true b e = refl
and_left false b e = absurd (false≢true e)

-- a test that none below passes
not_by : (b : Bool) → (b ≡ true → ⊥) → b ≡ false
not_by b none = elim (cases_Bool b) [
  | inl passed ↦ absurd (none passed)
  | inr other ↦ other
]

position_any : {X : Type 0} (test : X → Bool) (xs : List X) (j : ℕ) → position test xs ≡ Some j → list_any test xs ≡ true
position_any test [] j found = (let e : None ≡ Some j = found in absurd (cc))
position_any test (x ∷ xs) j found = (let p = position-Some test (x ∷ xs) j x found in list_any_at test (x ∷ xs) j x p.0 p.1)

-- Elements whose numbers go up: one that passes a test for a number is the first that does.
pub first_number : {X : Type 0} (number : X → ℕ) (test : X → Bool) (n k : ℕ) (x : X) (xs : List X) → AllPairs (λ i j. i < j) (map number xs) → ((y : X) → test y ≡ true → number y ≡ n)
    → k < length xs → x ≡ get_or xs k x → test x ≡ true → IsFirst test k x xs
first_number {X = X} number test n k x xs up told within is passes = record {
  within = within;
  is = is;
  passes = passes;
  before = λ i d lt. not_by (test (get_or xs i d)) (λ passed.
      let d_in : k < length (map number xs) = omega (arith, within, length-map xs number) in
      let low : get_or (map number xs) i 0 ≡ n = get_or-map number xs i d 0 (omega (arith, lt, within)) ∙ told (get_or xs i d) passed in
      let high : get_or (map number xs) k 0 ≡ n = get_or-map number xs k x 0 within ∙ ap number (sym is) ∙ told x passes in
      let less : get_or (map number xs) i 0 < get_or (map number xs) k 0 = up i k 0 lt d_in in
      omega (arith, low, high, less));
}

-- of two lists' numbers
right_of : (P : ℕ → Type 0) (xs ys : List ℕ) → All P (xs ++ ys) → All P ys
right_of P xs ys all i d lt = subst P (get_or-append-add xs ys i d) (all (length xs + i) d (omega (arith, lt, length-append xs ys)))

left_of : (P : ℕ → Type 0) (xs ys : List ℕ) → All P (xs ++ ys) → All P xs
left_of P xs ys all i d lt = subst P (get_or_append_left xs ys d i lt) (all i d (omega (arith, lt, length-append xs ys)))

pub up_left : (xs ys : List ℕ) → AllPairs (λ i j. i < j) (xs ++ ys) → AllPairs (λ i j. i < j) xs
up_left xs ys up i j d lt within =
    let less : get_or (xs ++ ys) i d < get_or (xs ++ ys) j d = up i j d lt (omega (arith, within, length-append xs ys)) in
    let at_i = get_or_append_left xs ys d i (omega (arith, lt, within)) in
    let at_j = get_or_append_left xs ys d j within in
    omega (arith, less, at_i, at_j)

-- what holds of a snapshot's numbers holds of the number of a copy or a mark that passes a test
any_number : {X : Type 0} (number : X → ℕ) (test : X → Bool) (n : ℕ) (P : ℕ → Type 0) (xs : List X) → ((y : X) → test y ≡ true → number y ≡ n) → All P (map number xs) → list_any test xs ≡ true → P n
any_number {X = X} number test n P xs told all any =
    let h = Any-from_list_any test xs any in
    let i : ℕ = h.0 in
    let x : X = h.1 in
    let at : get_or (map number xs) i 0 ≡ n = get_or-map number xs i x 0 h.2 ∙ ap number h.3 ∙ told x h.4 in
    subst P at (all i 0 (omega (arith, h.2, length-map xs number)))

module _ {B : Type 0} (snaps : List (Kept B)) (apart : AllPairs SharesNone snaps) where
  -- a test of a snapshot by a number that only one of them has
  pub first_apart : (test : Kept B → Bool) (n k : ℕ) (s : Kept B) → ((x : Kept B) (P : ℕ → Type 0) → test x ≡ true → All P (numbers_in x) → P n) → k < length snaps → s ≡ get_or snaps k s → test s ≡ true → IsFirst test k s snaps
  first_apart test n k s told within is passes = record {
    within = within;
    is = is;
    passes = passes;
    before = λ i d lt. not_by (test (get_or snaps i d)) (λ passed.
        let none : SharesNone (get_or snaps i d) s = subst (λ (x : Kept B). SharesNone (get_or snaps i d) x) (get_or_default snaps k d s within ∙ sym is) (apart i k d lt within) in
        let other : All (λ m. n ≢ m) (numbers_in s) = told (get_or snaps i d) (λ m. All (λ j. m ≢ j) (numbers_in s)) passed none in
        told s (λ m. n ≢ m) passes other refl);
  }

module _ {B : Type 0} (contents : B → List ℕ) (layers : B → List Layer) (size : B → ℕ) (v : Volumed B) (h : IsWhole contents layers size v) (n k : ℕ) (s : Kept B) (within : k < length v.snaps) (is : s ≡ get_or v.snaps k s) where
  -- a snapshot by its number
  pub snap_first : (test : Kept B → Bool) → ((x : Kept B) → test x ≡ true → x.number ≡ n) → test s ≡ true → IsFirst test k s v.snaps
  snap_first test told passes = first_number number_of_snap test n k s v.snaps h.numbers.ascending told within is passes

  numbers : AreNumbers v.copies (numbers_in s)
  numbers = subst (λ (x : Kept B). AreNumbers v.copies (numbers_in x)) (sym is) (h.snaps k s within).numbers

  -- the snapshot of a copy
  pub copy_first : (stage : Stage) (j : ℕ) → position (is_copy_of stage n) s.copies ≡ Some j → IsFirst (λ (x : Kept B). has_copy_at stage n x) k s v.snaps
  copy_first stage j found = first_apart v.snaps h.apart (λ (x : Kept B). has_copy_at stage n x) n k s
      (λ x P passed all. any_number number_of_copy (is_copy_of stage n) n P x.copies (λ c e. eqb-true c.number n (and_left (c.number == n) (is_copy_at stage c) e))
      (right_of P (map number_of_mark x.marks) (map number_of_copy x.copies) all) passed) within is (position_any (is_copy_of stage n) s.copies j found)

  -- of a mark
  pub mark_first : (j : ℕ) → position (is_mark_of s v.flights n) s.marks ≡ Some j → IsFirst (λ (x : Kept B). has_mark_at v.flights n x) k s v.snaps
  mark_first j found = first_apart v.snaps h.apart (λ (x : Kept B). has_mark_at v.flights n x) n k s
      (λ x P passed all. any_number number_of_mark (is_mark_of x v.flights n) n P x.marks (λ m e. eqb-true m.number n (and_left (m.number == n) (is_publishable x.number x.state.chunk v.flights m) e))
      (left_of P (map number_of_mark x.marks) (map number_of_copy x.copies) all) passed) within is (position_any (is_mark_of s v.flights n) s.marks j found)

  -- and the mark in it
  pub mark_number : (j : ℕ) (m : Mark) → position (is_mark_of s v.flights n) s.marks ≡ Some j → m ≡ get_or s.marks j m → IsFirst (λ (x : Mark). x.number == n) j m s.marks
  mark_number j m found at =
      let p = position-Some (is_mark_of s v.flights n) s.marks j m found in
      first_number number_of_mark (λ (x : Mark). x.number == n) n j m s.marks (up_left (map number_of_mark s.marks) (map number_of_copy s.copies) numbers.ascending) (λ x e. eqb-true x.number n e) p.0 at
      (and_left (m.number == n) (is_publishable s.number s.state.chunk v.flights m) (ap (is_mark_of s v.flights n) at ∙ p.1))

-- a request by its number
pub flight_first : (n j : ℕ) (f : Flight) (fs : List Flight) → position (λ (x : Flight). x.number == n) fs ≡ Some j → f ≡ get_or fs j f → IsFirst (λ (x : Flight). x.number == n) j f fs
flight_first n j f fs found at = first_position (λ (x : Flight). x.number == n) j f fs at found
