-- Where copies are, by pairs that are added.
use Rattle.std.proofs.Common.{◌≡◌, ◌≢◌, ℕ, List, [], ◌∷◌, ◌++◌, Option, None, Some, Bool, true, false, cond, refl, arith, ap, ◌∙◌, sym, subst, inl, inr}
use Rattle.std.proofs.lemmas.Bool.{cases_Bool}
use Rattle.std.proofs.lemmas.Bool.Decides.{nat_tests}
use Rattle.std.specs.Prelude.{◌==◌, if◌then◌else◌}
use Rattle.std.specs.Ordering.{nat_cmp}
use Rattle.std.specs.Cmp.{unsigned_tied}
use Rattle.std.specs.BTreeMap.{BTreeMap, get, is_at}
use Rattle.sector.specs.declared.pair.Pair.{Pair}
use Rattle.cow_format.specs.Picture.{place_of}

-- the first pairs tell the place
pub place_front : (ps qs : List Pair) (c p : ℕ) → place_of ps c ≡ Some p → place_of (ps ++ qs) c ≡ Some p
place_front [] qs c p is = absurd (cc)
place_front (x ∷ ps) qs c p is = by (x.old == c) (place_front ps qs c p) is
  where
    by : (b : Bool) → (place_of ps c ≡ Some p → place_of (ps ++ qs) c ≡ Some p) → (if b then Some x.new else place_of ps c) ≡ Some p → (if b then Some x.new else place_of (ps ++ qs) c) ≡ Some p
    by true next is = is
    by false next is = next is

-- what has no place among more pairs has none among the first
pub none_front : (ps qs : List Pair) (c : ℕ) → place_of (ps ++ qs) c ≡ None → place_of ps c ≡ None
none_front [] qs c none = refl
none_front (x ∷ ps) qs c none = by (x.old == c) (none_front ps qs c) none
  where
    by : (b : Bool) → (place_of (ps ++ qs) c ≡ None → place_of ps c ≡ None) → (if b then Some x.new else place_of (ps ++ qs) c) ≡ None → (if b then Some x.new else place_of ps c) ≡ None
    by true next none = absurd (cc)
    by false next none = next none

-- a pair more has the place of its own chunk, if that had none
pub place_added : (ps : List Pair) (x : Pair) → place_of ps x.old ≡ None → place_of (ps ++ x ∷ []) x.old ≡ Some x.new
place_added [] x none = let same : (x.old == x.old) ≡ true = grind arith in rw same refl
place_added (y ∷ ps) x none = by (y.old == x.old) (place_added ps x) none
  where
    by : (b : Bool) → (place_of ps x.old ≡ None → place_of (ps ++ x ∷ []) x.old ≡ Some x.new) → (if b then Some y.new else place_of ps x.old) ≡ None → (if b then Some y.new else place_of (ps ++ x ∷ []) x.old) ≡ Some x.new
    by true next none = absurd (cc)
    by false next none = next none

-- and of no other
pub place_beside : (ps : List Pair) (x : Pair) (c : ℕ) → x.old ≢ c → place_of (ps ++ x ∷ []) c ≡ place_of ps c
place_beside [] x c other = let apart : (x.old == c) ≡ false = grind arith in rw apart refl
place_beside (y ∷ ps) x c other = by (y.old == c) (place_beside ps x c other)
  where
    by : (b : Bool) → place_of (ps ++ x ∷ []) c ≡ place_of ps c → (if b then Some y.new else place_of (ps ++ x ∷ []) c) ≡ (if b then Some y.new else place_of ps c)
    by true next = refl
    by false next = next

-- a pair more, whose chunk had none, is the one of its own chunk
pub place_more : (ps : List Pair) (x : Pair) (c : ℕ) → place_of ps x.old ≡ None → place_of (ps ++ x ∷ []) c ≡ cond (x.old == c) (Some x.new) (place_of ps c)
place_more ps x c none = elim (cases_Bool (x.old == c)) [
  | inl own ↦
      (let same : x.old ≡ c = grind (arith, nat_tests) in
      subst (λ (k : ℕ). place_of (ps ++ x ∷ []) k ≡ Some x.new) same (place_added ps x none) ∙ ap (λ (b : Bool). cond b (Some x.new) (place_of ps c)) (sym own))
  | inr other ↦
      (let apart : x.old ≢ c = grind (arith, nat_tests) in
      place_beside ps x c apart ∙ ap (λ (b : Bool). cond b (Some x.new) (place_of ps c)) (sym other))
]

-- a map that has the places of some pairs has those of one more, once that is put in
pub placed_more : (m n : BTreeMap ℕ ℕ) (ps qs : List Pair) (x : Pair) → ((c : ℕ) → get nat_cmp m c ≡ place_of ps c) → get nat_cmp m x.old ≡ None → ((q : ℕ) → get nat_cmp n q ≡ cond (is_at (nat_cmp x.old) q) (Some x.new) (get nat_cmp m q)) → qs ≡ ps ++ x ∷ [] → (c : ℕ) → get nat_cmp n c ≡ place_of qs c
placed_more m n ps qs x placed free put is c =
    put c
    ∙ ap (λ (b : Bool). cond b (Some x.new) (get nat_cmp m c)) (unsigned_tied x.old c)
    ∙ ap (λ (p : Option ℕ). cond (x.old == c) (Some x.new) p) (placed c)
    ∙ sym (place_more ps x c (sym (placed x.old) ∙ free))
    ∙ ap (λ (l : List Pair). place_of l c) (sym is)
