-- Marks of the numbers of pairs that were read.
use Rattle.std.proofs.Common.{◌≡◌, ◌≢◌, inl, inr, ℕ, ◌+◌, ◌<◌, List, length, get_or, set, arith, ap, ◌∙◌, sym, subst, Bool, true, false, replicate}
use Rattle.std.specs.Prelude.{AllPairs}
use Rattle.std.proofs.lemmas.Bool.{cases_eq, cases_lt, true≢false}
use Rattle.std.proofs.lemmas.List.{get_or-set_same, get_or-set_other, length-set, get_or-replicate, length-replicate, get_or_past, get_or_default}
use Rattle.sector.specs.declared.pair.Pair.{Pair}
use Rattle.cow_format.specs.Pairs.{IsApart}
use Rattle.store.specs.Stored.{new_of, old_of}
use Rattle.store.proofs.Areas.{no_chunks}

-- the numbers that have a mark are those of the first so many pairs
pub record AreMarked (f : Pair → ℕ) (pairs : List Pair) (i : ℕ) (marks : List Bool) : Type 0 where
  pub inside : (k : ℕ) → k < length pairs → f (get_or pairs k no_chunks) < length marks
  pub each : (k : ℕ) → k < i → get_or marks (f (get_or pairs k no_chunks)) false ≡ true
  pub only : (n : ℕ) → get_or marks n false ≡ true → (k : ℕ) × ((k < i) × (f (get_or pairs k no_chunks) ≡ n))

pub marked_none : (f : Pair → ℕ) (pairs : List Pair) (marks : List Bool) (n : ℕ) → marks ≡ replicate n false → ((k : ℕ) → k < length pairs → f (get_or pairs k no_chunks) < n) → AreMarked f pairs 0 marks
marked_none f pairs marks n is below = record {
  inside = λ k lt. let h = below k lt in omega (arith, ap length is, length-replicate n false);
  each = λ k lt. absurd (omega arith);
  only = λ m set. absurd (true≢false (sym set ∙ ap (λ ms. get_or ms m false) is ∙ unset m));
}
  where
    unset : (m : ℕ) → get_or (replicate n false) m false ≡ false
    unset m = elim (cases_lt m n) [
      | inl lt ↦ get_or-replicate n m false false lt
      | inr past ↦ get_or_past (replicate n false) m false (omega (arith, length-replicate n false))
    ]

-- one more
pub marked_more : (f : Pair → ℕ) (pairs : List Pair) (i x : ℕ) (marks marks' : List Bool) → i < length pairs → x ≡ f (get_or pairs i no_chunks) → marks' ≡ set marks x true → AreMarked f pairs i marks → AreMarked f pairs (i + 1) marks'
marked_more f pairs i x marks marks' lt at is marked =
    let inside : x < length marks = let h = marked.inside i lt in omega arith in
    let here : (n : ℕ) → n ≡ x → get_or marks' n false ≡ true = λ n e. ap (λ ms. get_or ms n false) is ∙ ap (λ m. get_or (set marks x true) m false) e ∙ get_or-set_same marks x true false inside in
    let there : (n : ℕ) → n ≢ x → get_or marks' n false ≡ get_or marks n false = λ n ne. ap (λ ms. get_or ms n false) is ∙ get_or-set_other marks x n true false ne in
    record {
      inside = λ k lt. let h = marked.inside k lt in omega (arith, ap length is, length-set marks x true);
      each = λ k lt. elim (cases_eq (f (get_or pairs k no_chunks)) x) [
        | inl e ↦ here _ e
        | inr ne ↦ elim (cases_eq k i) [
          | inl same ↦ absurd (ne (ap (λ j. f (get_or pairs j no_chunks)) same ∙ sym at))
          | inr other ↦ there _ ne ∙ marked.each k (omega arith)
        ]
      ];
      only = λ n set. elim (cases_eq n x) [
        | inl e ↦ (i, (omega arith, sym at ∙ sym e))
        | inr ne ↦ (let before = marked.only n (sym (there n ne) ∙ set) in (before.0, (omega (arith, before.1.0), before.1.1)))
      ];
    }

-- a pair whose number has a mark is not apart from an earlier one
pub old_twice : (pairs : List Pair) (i x : ℕ) (marks : List Bool) → i < length pairs → x ≡ (get_or pairs i no_chunks).old → AreMarked old_of pairs i marks → get_or marks x false ≡ true → AllPairs IsApart pairs → ⊥
old_twice pairs i x marks lt at marked set apart = let before = marked.only x set in (apart before.0 i no_chunks before.1.0 lt).old (before.1.1 ∙ at)

pub new_twice : (pairs : List Pair) (i x : ℕ) (marks : List Bool) → i < length pairs → x ≡ (get_or pairs i no_chunks).new → AreMarked new_of pairs i marks → get_or marks x false ≡ true → AllPairs IsApart pairs → ⊥
new_twice pairs i x marks lt at marked set apart = let before = marked.only x set in (apart before.0 i no_chunks before.1.0 lt).new (before.1.1 ∙ at)

-- a number that has no mark is none of the earlier ones
pub unmarked : (f : Pair → ℕ) (pairs : List Pair) (i x : ℕ) (marks : List Bool) → i < length pairs → x ≡ f (get_or pairs i no_chunks) → AreMarked f pairs i marks → get_or marks x false ≡ false → (k : ℕ) (d : Pair) → k < i → f (get_or pairs k d) ≢ f (get_or pairs i d)
unmarked f pairs i x marks lt at marked unset k d below same =
    let e : f (get_or pairs k no_chunks) ≡ x = ap f (get_or_default pairs k no_chunks d (omega arith)) ∙ same ∙ ap f (get_or_default pairs i d no_chunks lt) ∙ sym at in
    true≢false (sym (marked.each k below) ∙ ap (λ n. get_or marks n false) e ∙ unset)

-- one pair more is apart from those before
pub apart_more : (pairs : List Pair) (i x y : ℕ) (olds news : List Bool) → i < length pairs → x ≡ (get_or pairs i no_chunks).old → y ≡ (get_or pairs i no_chunks).new → AreMarked old_of pairs i olds → AreMarked new_of pairs i news → get_or olds x false ≡ false → get_or news y false ≡ false
    → ((j k : ℕ) (d : Pair) → j < k → k < i → IsApart (get_or pairs j d) (get_or pairs k d)) → (j k : ℕ) (d : Pair) → j < k → k < i + 1 → IsApart (get_or pairs j d) (get_or pairs k d)
apart_more pairs i x y olds news lt at to old new no_old no_new before j k d below upto = elim (cases_eq k i) [
  | inl e ↦ subst (λ m. IsApart (get_or pairs j d) (get_or pairs m d)) (sym e) (record {
    old = unmarked old_of pairs i x olds lt at old no_old j d (omega arith);
    new = unmarked new_of pairs i y news lt to new no_new j d (omega arith);
  })
  | inr ne ↦ before j k d below (omega arith)
]
