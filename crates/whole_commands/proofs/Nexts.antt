-- The next place is one past the greatest, and past an area's place; and what it is after one more pair.
use Rattle.std.proofs.Common.{ℕ, suc, ◌<◌, ◌≤◌, List, [], ◌∷◌, map, arith, ◌≡◌, inl, inr, ◌+◌, ◌++◌, max, ap, sym, subst}
use Rattle.std.specs.List.{All}
use Rattle.std.proofs.lemmas.List.Elements.{All-cons, All-nil, All-weaker}
use Rattle.std.proofs.lemmas.Bool.{cases_Bool, cond-true, cond-false}
use Rattle.sector.specs.declared.pair.Pair.{Pair}
use Rattle.cow_format.specs.NextPlace.{IsNextPlace, stepped}
use Rattle.cow_format.proofs.NextPlaces.{next-loaded}
use Rattle.whole_commands.specs.Saves.{greatest, next_of}
use Rattle.cow_format.specs.Places.{is_area_place}

greatest_some : (pairs : List Pair) → 1 ≤ greatest pairs
greatest_some [] = omega arith
greatest_some (pair ∷ pairs) = let h = greatest_some pairs in omega arith

greatest_above : (pairs : List Pair) → All (λ k. k ≤ greatest pairs) (map (λ pair. pair.new) pairs)
greatest_above [] = All-nil _
greatest_above (pair ∷ pairs) = All-cons (λ k. k ≤ greatest (pair ∷ pairs)) _ _ (omega arith) (All-weaker (λ k. k ≤ greatest pairs) (λ k. k ≤ greatest (pair ∷ pairs)) (λ k h. omega arith) (map (λ p. p.new) pairs) (greatest_above pairs))

greatest_least : (pairs : List Pair) (m : ℕ) → 2 ≤ m → All (λ k. k < m) (map (λ pair. pair.new) pairs) → greatest pairs < m
greatest_least [] m two below = omega arith
greatest_least (pair ∷ pairs) m two below =
    let here : pair.new < m = below 0 0 (omega arith) in
    let h = greatest_least pairs m two (λ k d lt. below (suc k) d (omega arith)) in omega arith

-- the next place of a store with these pairs
pub next_of_is : (chunk : ℕ) (pairs : List Pair) → 0 < chunk → IsNextPlace chunk (map (λ pair. pair.new) pairs) (next_of chunk pairs)
next_of_is chunk pairs pos = next-loaded chunk (map (λ pair. pair.new) pairs) (greatest pairs) pos (greatest_some pairs) (greatest_above pairs) (greatest_least pairs)

-- the next place after one more pair
greatest_more : (ps : List Pair) (q : Pair) → greatest (ps ++ q ∷ []) ≡ max (greatest ps) q.new
greatest_more [] q = omega arith
greatest_more (p ∷ ps) q = let h = greatest_more ps q in omega arith

stepped_above : (chunk n : ℕ) → n ≤ stepped chunk n
stepped_above chunk n = elim (cases_Bool (is_area_place chunk n)) [
  | inl area ↦ subst (λ (x : ℕ). n ≤ x) (sym (cond-true _ _ _ area)) (omega arith)
  | inr free ↦ subst (λ (x : ℕ). n ≤ x) (sym (cond-false _ _ _ free)) (omega arith)
]

pub next_more : (chunk : ℕ) (ps : List Pair) (q : Pair) → q.new ≡ next_of chunk ps → next_of chunk (ps ++ q ∷ []) ≡ stepped chunk (q.new + 1)
next_more chunk ps q is =
    let above : greatest ps + 1 ≤ next_of chunk ps = stepped_above chunk (greatest ps + 1) in
    let more = greatest_more ps q in
    let same : greatest (ps ++ q ∷ []) ≡ q.new = omega arith in
    ap (λ g. stepped chunk (g + 1)) same

-- the next place of a store that was loaded
pub next_place_is : (chunk n : ℕ) (ps : List Pair) → 0 < chunk → IsNextPlace chunk (map (λ p. p.new) ps) n → n ≡ next_of chunk ps
next_place_is chunk n ps pos is =
    let other = next_of_is chunk ps pos in
    let below : n ≤ next_of chunk ps = is.least (next_of chunk ps) other.low other.free other.past in
    let above : next_of chunk ps ≤ n = other.least n is.low is.free is.past in
    omega arith
