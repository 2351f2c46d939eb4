-- Look-ups among pairs.
use Rattle.std.proofs.Common.{◌≡◌, ◌≢◌, ℕ, List, [], ◌∷◌, ◌++◌, Some, None, refl, sym, ◌∙◌, ap, nat_eq, inl, inr, if◌then◌else◌, ne_eqb, eq-eqb}
use Rattle.std.specs.List.{All}
use Rattle.std.specs.Prelude.{AllPairs}
use Rattle.std.proofs.lemmas.Bool.{cases_Bool, eqb-true, eqb-false}
use Rattle.std.proofs.lemmas.List.Elements.{All-head, All-tail, All-cons, All-nil, All-weaker}
use Rattle.sector.specs.declared.pair.Pair.{Pair}
use Rattle.cow_format.specs.Pairs.{IsApart}
use Rattle.cow_format.specs.Picture.{place_of}
use Rattle.volume_laws.proofs.Lists.{All-back, AllPairs-head, AllPairs-tail}

-- what is true of all pairs is true of the one that a look-up finds
pub place_of-All : (P : Pair → Type 0) (pairs : List Pair) (chunk place : ℕ) → All P pairs → place_of pairs chunk ≡ Some place
    → (pair : Pair) × (pair.old ≡ chunk) × (pair.new ≡ place) × P pair
place_of-All P [] chunk place all is = cc
place_of-All P (pair ∷ pairs) chunk place all is =
    elim (cases_Bool (nat_eq pair.old chunk)) [
      | inl same ↦ let got : Some pair.new ≡ Some place = rw same at is in (pair, eqb-true pair.old chunk same, cc, All-head P pair pairs all)
      | inr other ↦ place_of-All P pairs chunk place (All-tail P pair pairs all) (rw other at is)
    ]

-- no pair has the chunk
pub place_of-none : (pairs : List Pair) (chunk : ℕ) → All (λ p. p.old ≢ chunk) pairs → place_of pairs chunk ≡ None
place_of-none [] chunk all = refl
place_of-none (pair ∷ pairs) chunk all =
    rw (ne_eqb pair.old chunk (All-head (λ p. p.old ≢ chunk) pair pairs all)) (place_of-none pairs chunk (All-tail (λ p. p.old ≢ chunk) pair pairs all))

-- a pair behind the others
pub place_of-push_other : (pairs : List Pair) (pair : Pair) (chunk : ℕ) → pair.old ≢ chunk → place_of (pairs ++ pair ∷ []) chunk ≡ place_of pairs chunk
place_of-push_other [] pair chunk ne = rw (ne_eqb pair.old chunk ne) refl
place_of-push_other (first ∷ pairs) pair chunk ne =
    ap (λ rest. if nat_eq first.old chunk then Some first.new else rest) (place_of-push_other pairs pair chunk ne)

pub place_of-push_fresh : (pairs : List Pair) (pair : Pair) → place_of pairs pair.old ≡ None → place_of (pairs ++ pair ∷ []) pair.old ≡ Some pair.new
place_of-push_fresh [] pair fresh = rw (eq-eqb pair.old pair.old refl) refl
place_of-push_fresh (first ∷ pairs) pair fresh =
    elim (cases_Bool (nat_eq first.old pair.old)) [
      | inl same ↦ let no : Some first.new ≡ None = rw same at fresh in cc
      | inr other ↦ rw other (place_of-push_fresh pairs pair (rw other at fresh))
    ]

-- a look-up that found something finds it still
pub place_of-push_kept : (pairs : List Pair) (pair : Pair) (chunk place : ℕ) → place_of pairs chunk ≡ Some place → place_of (pairs ++ pair ∷ []) chunk ≡ Some place
place_of-push_kept [] pair chunk place found = cc
place_of-push_kept (first ∷ pairs) pair chunk place found =
    elim (cases_Bool (nat_eq first.old chunk)) [
      | inl same ↦ rw same (rw same at found)
      | inr other ↦ rw other (place_of-push_kept pairs pair chunk place (rw other at found))
    ]

-- a pair in the middle is found
pub place_of-middle : (front : List Pair) (q : Pair) (back : List Pair) → AllPairs IsApart (front ++ q ∷ back) → place_of (front ++ q ∷ back) q.old ≡ Some q.new
place_of-middle [] q back apart = rw (eq-eqb q.old q.old refl) refl
place_of-middle (p ∷ front) q back apart =
    let others : All (IsApart p) (front ++ q ∷ back) = AllPairs-head IsApart p (front ++ q ∷ back) apart in
    let one : IsApart p q = All-head (IsApart p) q back (All-back (IsApart p) front (q ∷ back) others) in
    rw (ne_eqb p.old q.old one.old) (place_of-middle front q back (AllPairs-tail IsApart p (front ++ q ∷ back) apart))

-- a look-up that finds nothing in a list finds nothing in its front
pub place_of-front_none : (front back : List Pair) (chunk : ℕ) → place_of (front ++ back) chunk ≡ None → place_of front chunk ≡ None
place_of-front_none [] back chunk none = refl
place_of-front_none (p ∷ front) back chunk none =
    elim (cases_Bool (nat_eq p.old chunk)) [
      | inl same ↦ let no : Some p.new ≡ None = rw same at none in cc
      | inr other ↦ rw other (place_of-front_none front back chunk (rw other at none))
    ]

-- a place that is not one of the back's was found in the front
pub place_of-front_some : (front back : List Pair) (chunk place : ℕ) → place_of (front ++ back) chunk ≡ Some place → All (λ q. q.new ≢ place) back → place_of front chunk ≡ Some place
place_of-front_some [] back chunk place some all =
    let found = place_of-All (λ q. q.new ≢ place) back chunk place all some in absurd (found.3 found.2)
place_of-front_some (p ∷ front) back chunk place some all =
    elim (cases_Bool (nat_eq p.old chunk)) [
      | inl same ↦ rw same (rw same at some)
      | inr other ↦ rw other (place_of-front_some front back chunk place (rw other at some) all)
    ]

-- pairs of other chunks have other places
pub other_places : (pairs : List Pair) (chunk place : ℕ) → AllPairs IsApart pairs → place_of pairs chunk ≡ Some place → All (λ q. q.old ≢ chunk → q.new ≢ place) pairs
other_places [] chunk place apart some = All-nil (λ q. q.old ≢ chunk → q.new ≢ place)
other_places (p ∷ pairs) chunk place apart some =
    let others : All (IsApart p) pairs = AllPairs-head IsApart p pairs apart in
    elim (cases_Bool (nat_eq p.old chunk)) [
      | inl same ↦ let here : Some p.new ≡ Some place = rw same at some in
          let is : p.new ≡ place = cc in
          All-cons (λ q. q.old ≢ chunk → q.new ≢ place) p pairs (λ ne. absurd (ne (eqb-true p.old chunk same)))
          (All-weaker (IsApart p) (λ q. q.old ≢ chunk → q.new ≢ place) (λ q one ne e. one.new (is ∙ sym e)) pairs others)
      | inr other ↦ let rest : place_of pairs chunk ≡ Some place = rw other at some in
          let found = place_of-All (IsApart p) pairs chunk place others rest in
          All-cons (λ q. q.old ≢ chunk → q.new ≢ place) p pairs (λ ne e. found.3.new (e ∙ sym found.2))
          (other_places pairs chunk place (AllPairs-tail IsApart p pairs apart) rest)
    ]

-- no pair of a list has a chunk that a look-up does not find
pub unnamed : (pairs : List Pair) (chunk : ℕ) → place_of pairs chunk ≡ None → All (λ q. q.old ≢ chunk) pairs
unnamed [] chunk none = All-nil (λ q. q.old ≢ chunk)
unnamed (p ∷ pairs) chunk none =
    elim (cases_Bool (nat_eq p.old chunk)) [
      | inl same ↦ let no : Some p.new ≡ None = rw same at none in cc
      | inr other ↦ All-cons (λ q. q.old ≢ chunk) p pairs (eqb-false p.old chunk other) (unnamed pairs chunk (rw other at none))
    ]

pub some_ne_none : (place : ℕ) → Some place ≢ None
some_ne_none place e = cc

-- a look-up that finds something in the front finds it in the whole
pub place_of-front_kept : (front back : List Pair) (chunk place : ℕ) → place_of front chunk ≡ Some place → place_of (front ++ back) chunk ≡ Some place
place_of-front_kept [] back chunk place found = cc
place_of-front_kept (p ∷ front) back chunk place found =
    elim (cases_Bool (nat_eq p.old chunk)) [
      | inl same ↦ rw same (rw same at found)
      | inr other ↦ rw other (place_of-front_kept front back chunk place (rw other at found))
    ]

-- nothing in the front, and the back does not have the chunk
pub place_of-whole_none : (front back : List Pair) (chunk : ℕ) → place_of front chunk ≡ None → place_of back chunk ≡ None → place_of (front ++ back) chunk ≡ None
place_of-whole_none [] back chunk none behind = behind
place_of-whole_none (p ∷ front) back chunk none behind =
    elim (cases_Bool (nat_eq p.old chunk)) [
      | inl same ↦ let none : Some p.new ≡ None = rw same at none in cc
      | inr other ↦ rw other (place_of-whole_none front back chunk (rw other at none) behind)
    ]
