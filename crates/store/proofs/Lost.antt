-- A load's operations on a disk with a cache.
use Rattle.std.proofs.Common.{◌≡◌, inl, inr, ℕ, ◌<◌, Bool, List, sym, ap, ◌∙◌, subst, true, false}
use Rattle.std.proofs.lemmas.Bool.{false≢true}
use Rattle.sector.specs.Bytes.{sector_at}
use Rattle.crash_laws.specs.Stop.{IsTorn, MayLeave, Within}
use Rattle.crash_laws.specs.Firm.{AddsNow, IsFirm}
use Rattle.store.specs.Loading.{is_left}
use Rattle.store.specs.declared.state.Left.{Left}
use Rattle.store.specs.declared.state.Left.TheVariants.{Nothing}

-- one that holds nothing but what is there is written
pub torn_within : (old new : ℕ → List ℕ → Type 0) (was now c : List ℕ) (size : ℕ) → IsFirm old was size → AddsNow old new now → MayLeave (Within old new) size c → IsTorn size was now c
torn_within old new was now c size firm adds left = record {
  whole = left.whole;
  each = λ s lt. elim (left.each s lt) [
    | inl before ↦ inl (firm s lt (sector_at c s) before)
    | inr after ↦ elim (adds s (sector_at c s) after) [ inl before ↦ inl (firm s lt (sector_at c s) before) | inr there ↦ inr there ]
  ];
}

-- one whose bytes stay as they are
pub left_before : (old new : ℕ → List ℕ → Type 0) (was now c : List ℕ) (size : ℕ) → ((s : ℕ) → s < size → old s (sector_at was s)) → now ≡ was → AddsNow old new now → MayLeave (Within old new) size c → MayLeave old size c
left_before old new was now c size there same adds left = record {
  whole = left.whole;
  each = λ s lt. elim (left.each s lt) [
    | inl before ↦ before
    | inr after ↦ elim (adds s (sector_at c s) after) [
      | inl before ↦ before
      | inr is ↦ subst (λ (v : List ℕ). old s v) (sym (is ∙ ap (λ z. sector_at z s) same)) (there s lt)
    ]
  ];
}

-- it still holds nothing else
pub firm_same : (old new : ℕ → List ℕ → Type 0) (was now : List ℕ) (size : ℕ) → now ≡ was → AddsNow old new now → IsFirm old was size → IsFirm new now size
firm_same old new was now size same adds firm = λ s lt v h. elim (adds s v h) [
  | inl before ↦ firm s lt v before ∙ sym (ap (λ z. sector_at z s) same)
  | inr is ↦ is
]

-- no write is left
pub none_left : {P : Type 0} (left : Left) → left ≡ Nothing → is_left left ≡ true → P
none_left left ready some = absurd (false≢true (sym (ap is_left ready) ∙ some))

-- by what the type keeps
pub firm_kept : (old new : ℕ → List ℕ → Type 0) (was now : List ℕ) (size : ℕ) (loud loud' left awaits : Bool) → loud' ≡ loud → now ≡ was → (loud ≡ true → AddsNow old new now) → (loud ≡ true → left ≡ true → awaits ≡ false → IsFirm old was size)
    → loud' ≡ true → left ≡ true → awaits ≡ false → IsFirm new now size
firm_kept old new was now size loud loud' left awaits still same adds firm on some waits = firm_same old new was now size same (adds (sym still ∙ on)) (firm (sym still ∙ on) some waits)
