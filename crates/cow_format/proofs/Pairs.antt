-- Pairs of slots.
use Rattle.std.proofs.Common.{◌≡◌, ◌≢◌, inl, inr, ℕ, zero, suc, ◌+◌, ◌-◌, ◌<◌, ◌≤◌, List, [], ◌∷◌, ◌++◌, length, take, get_or, arith, refl, ap, ◌∙◌, sym, length-append}
use Rattle.std.proofs.lemmas.Bool.{cases_lt, eq-eqb, ne_eqb, cond-true, cond-false, cases_eq}
use Rattle.std.proofs.lemmas.List.{get_or_append_left, get_or-append-add, get_or-take, length-take-le}
use Rattle.cow_format.specs.Pairs.{listed, IsListed}
use Rattle.sector.specs.declared.pair.Pair.{Pair}

-- the list, from what each slot holds
pub listed-is : (slot : ℕ → Pair) (pairs : List Pair) (n k : ℕ) → ((i : ℕ) (d : Pair) → i < length pairs → slot (k + i) ≡ get_or pairs i d) → ((i : ℕ) → i < length pairs → (slot (k + i)).new ≢ 0) → (slot (k + length pairs)).new ≡ 0 → length pairs ≤ n → listed slot n k ≡ pairs
listed-is slot [] zero k each valid ends lt = refl
listed-is slot [] (suc n) k each valid ends lt =
    let e : (slot k).new ≡ 0 = ap (λ x. (slot x).new) (omega arith) ∙ ends in
    cond-true _ _ _ (eq-eqb _ _ e)
listed-is slot (p ∷ ps) zero k each valid ends lt = absurd (omega arith)
listed-is slot (p ∷ ps) (suc n) k each valid ends lt =
    let at : k ≡ k + 0 = omega arith in
    let here : slot k ≡ p = ap slot at ∙ each 0 p (omega arith) in
    let full : (slot k).new ≢ 0 = λ e. valid 0 (omega arith) (ap (λ x. (slot x).new) (sym at) ∙ e) in
    let there : listed slot n (k + 1) ≡ ps =
    listed-is slot ps n (k + 1)
    (λ i d h. ap slot (omega arith) ∙ each (suc i) d (omega arith))
    (λ i h e. valid (suc i) (omega arith) (ap (λ x. (slot x).new) (omega arith) ∙ e))
    (ap (λ x. (slot x).new) (omega arith) ∙ ends) (omega arith) in
    cond-false _ _ _ (ne_eqb _ _ full) ∙ ap (λ x. x ∷ listed slot n (k + 1)) here ∙ ap (λ x. p ∷ x) there

-- each slot, from the list
AtEach : (ℕ → Pair) → ℕ → ℕ → Type 0
AtEach slot n k = (i : ℕ) (d : Pair) → i < length (listed slot n k) → (slot (k + i) ≡ get_or (listed slot n k) i d) × ((slot (k + i)).new ≢ 0)

listed-step : (slot : ℕ → Pair) (n k i : ℕ) (d : Pair) → AtEach slot n (k + 1) → (slot k).new ≢ 0 → i < suc (length (listed slot n (k + 1))) → (slot (k + i) ≡ get_or (slot k ∷ listed slot n (k + 1)) i d) × ((slot (k + i)).new ≢ 0)
unfolding AtEach
listed-step slot n k zero d ih ne lt = let at : k + 0 ≡ k = omega arith in rw at (refl, ne)
listed-step slot n k (suc i) d ih ne lt = let at : k + suc i ≡ k + 1 + i = omega arith in rw at (ih i d (omega arith))

listed-each : (slot : ℕ → Pair) (n k : ℕ) → AtEach slot n k
unfolding AtEach
listed-each slot zero k i d lt = absurd (omega arith)
listed-each slot (suc n) k i d lt = elim (cases_eq (slot k).new 0) [
  | inl e ↦ (let nil : listed slot (suc n) k ≡ [] = cond-true _ _ _ (eq-eqb _ _ e) in absurd (let h : i < 0 = rw nil at lt in omega arith))
  | inr ne ↦ (let some : listed slot (suc n) k ≡ slot k ∷ listed slot n (k + 1) = cond-false _ _ _ (ne_eqb _ _ ne) in rw some (listed-step slot n k i d (listed-each slot n (k + 1)) ne (rw some at lt)))
]

-- the slot after the list
listed-ends : (slot : ℕ → Pair) (n k : ℕ) → length (listed slot n k) < n → (slot (k + length (listed slot n k))).new ≡ 0
listed-ends slot zero k lt = absurd (omega arith)
listed-ends slot (suc n) k lt = elim (cases_eq (slot k).new 0) [
  | inl e ↦ (let nil : listed slot (suc n) k ≡ [] = cond-true _ _ _ (eq-eqb _ _ e) in rw nil (ap (λ x. (slot x).new) (omega arith) ∙ e))
  | inr ne ↦ (let some : listed slot (suc n) k ≡ slot k ∷ listed slot n (k + 1) = cond-false _ _ _ (ne_eqb _ _ ne) in
      let short : suc (length (listed slot n (k + 1))) < suc n = rw some at lt in
      rw some (ap (λ x. (slot x).new) (omega arith) ∙ listed-ends slot n (k + 1) (omega arith)))
]

listed-short : (slot : ℕ → Pair) (n k : ℕ) → length (listed slot n k) ≤ n
listed-short slot zero k = omega arith
listed-short slot (suc n) k = elim (cases_eq (slot k).new 0) [
  | inl e ↦ (let nil : listed slot (suc n) k ≡ [] = cond-true _ _ _ (eq-eqb _ _ e) in rw nil (omega arith))
  | inr ne ↦ (let some : listed slot (suc n) k ≡ slot k ∷ listed slot n (k + 1) = cond-false _ _ _ (ne_eqb _ _ ne) in
      let h = listed-short slot n (k + 1) in rw some (omega arith))
]

-- slots that hold the list
pub IsListed-from : (slot : ℕ → Pair) (n : ℕ) → ((k : ℕ) → n ≤ k → (slot k).new ≡ 0) → IsListed slot (listed slot n 0)
unfolding AtEach
IsListed-from slot n past = record {
  each = λ k d lt. ap slot (omega arith) ∙ (listed-each slot n 0 k d lt).0;
  valid = λ k lt e. (listed-each slot n 0 k (record { old = 0; new = 0 }) lt).1 (ap (λ x. (slot x).new) (omega arith) ∙ e);
  ends = elim (cases_lt (length (listed slot n 0)) n) [
    | inl lt ↦ ap (λ x. (slot x).new) (omega arith) ∙ listed-ends slot n 0 lt
    | inr ge ↦ past _ ge
  ];
}

pub listed-from : (slot : ℕ → Pair) (pairs : List Pair) (n : ℕ) → IsListed slot pairs → length pairs ≤ n → listed slot n 0 ≡ pairs
listed-from slot pairs n is short =
    listed-is slot pairs n 0 (λ i d lt. ap slot (omega arith) ∙ is.each i d lt) (λ i lt e. is.valid i lt (ap (λ x. (slot x).new) (omega arith) ∙ e)) (ap (λ x. (slot x).new) (omega arith) ∙ is.ends) short

-- what commits, clearings and other writes do to it
pub listed-more : (slot slot' : ℕ → Pair) (ps qs : List Pair) → IsListed slot ps → ((k : ℕ) → k < length ps → slot' k ≡ slot k) → ((i : ℕ) (d : Pair) → i < length qs → slot' (length ps + i) ≡ get_or qs i d) → ((i : ℕ) (d : Pair) → i < length qs → (get_or qs i d).new ≢ 0) → (slot' (length ps + length qs)).new ≡ 0 → IsListed slot' (ps ++ qs)
listed-more slot slot' ps qs is same new valid ends = record {
  each = λ k d lt. elim (cases_lt k (length ps)) [
    | inl lo ↦ same k lo ∙ is.each k d lo ∙ sym (get_or_append_left ps qs d k lo)
    | inr hi ↦ (let e : k ≡ length ps + (k - length ps) = omega arith in let inside : k - length ps < length qs = omega (arith, length-append ps qs) in
        ap slot' e ∙ new (k - length ps) d inside ∙ sym (ap (λ x. get_or (ps ++ qs) x d) e ∙ get_or-append-add ps qs (k - length ps) d))
  ];
  valid = λ k lt e. elim (cases_lt k (length ps)) [
    | inl lo ↦ is.valid k lo (ap (λ p. p.new) (sym (same k lo)) ∙ e)
    | inr hi ↦ (let at : k ≡ length ps + (k - length ps) = omega arith in let inside : k - length ps < length qs = omega (arith, length-append ps qs) in
        valid (k - length ps) (slot' k) inside (ap (λ p. p.new) (sym (ap slot' at ∙ new (k - length ps) (slot' k) inside)) ∙ e))
  ];
  ends = ap (λ x. (slot' x).new) (length-append ps qs) ∙ ends;
}

pub listed-less : (slot slot' : ℕ → Pair) (ps : List Pair) (n : ℕ) → IsListed slot ps → n ≤ length ps → ((k : ℕ) → k < n → slot' k ≡ slot k) → (slot' n).new ≡ 0 → IsListed slot' (take n ps)
listed-less slot slot' ps n is short same ends = let len : length (take n ps) ≡ n = length-take-le n ps short in record {
  each = λ k d lt. same k (omega arith) ∙ is.each k d (omega arith) ∙ sym (get_or-take n ps k d (omega arith));
  valid = λ k lt e. is.valid k (omega arith) (ap (λ p. p.new) (sym (same k (omega arith))) ∙ e);
  ends = ap (λ x. (slot' x).new) len ∙ ends;
}

pub listed-kept : (slot slot' : ℕ → Pair) (ps : List Pair) → IsListed slot ps → ((k : ℕ) → k ≤ length ps → slot' k ≡ slot k) → IsListed slot' ps
listed-kept slot slot' ps is same = record {
  each = λ k d lt. same k (omega arith) ∙ is.each k d lt;
  valid = λ k lt e. is.valid k lt (ap (λ p. p.new) (sym (same k (omega arith))) ∙ e);
  ends = ap (λ p. p.new) (same _ (omega arith)) ∙ is.ends;
}
