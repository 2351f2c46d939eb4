-- What an operation adds to what a device may hold.
use Rattle.std.proofs.Common.{◌≡◌, ◌⊎◌, inl, inr, ℕ, ◌+◌, ◌-◌, ◌*◌, ◌<◌, ◌≤◌, List, length, arith, sym, ap, ◌∙◌}
use Rattle.std.specs.Prelude.{Result, Ok, Err, OnOk, OnErr}
use Rattle.sector.specs.Bytes.{sector_at, with_sectors}
use Rattle.sector.proofs.Sectors.{sectors_at-with_inside}
use Rattle.crash_laws.specs.Firm.{AddsNow, IsFirm}

-- one that adds nothing, or nothing but what is there then
pub adds_none : (old new : ℕ → List ℕ → Type 0) (now : List ℕ) → ((s : ℕ) (v : List ℕ) → new s v → old s v) → AddsNow old new now
adds_none old new now less s v h = inl (less s v h)

-- a write that was done
pub adds_written : (old new : ℕ → List ℕ → Type 0) (was now bytes : List ℕ) (first count : ℕ) → ((s : ℕ) (v : List ℕ) → new s v → old s v ⊎ ((first ≤ s) × (s < first + count) × (v ≡ sector_at bytes (s - first))))
    → now ≡ with_sectors was first bytes → 512 * first + length bytes ≤ length was → length bytes ≡ 512 * count → AddsNow old new now
adds_written old new was now bytes first count stop written fits whole s v h = elim (stop s v h) [
  | inl before ↦ inl before
  | inr given ↦ inr (given.2 ∙ sym (ap (λ z. sector_at z s) written ∙ sectors_at-with_inside was first count bytes s 1 fits whole given.0 (let below = given.1 in omega arith)))
]

-- one that was done where it was answered
pub adds_answered : {E : Type 0} (result : Result (Unit {0}) E) (L : Type 0) (old new : ℕ → List ℕ → Type 0) (was now bytes : List ℕ) (first count : ℕ) → ((s : ℕ) (v : List ℕ) → new s v → old s v ⊎ ((first ≤ s) × (s < first + count) × (v ≡ sector_at bytes (s - first))))
    → OnErr result ((s : ℕ) (v : List ℕ) → new s v → old s v) → OnOk result (L → now ≡ with_sectors was first bytes) → 512 * first + length bytes ≤ length was → length bytes ≡ 512 * count → L → AddsNow old new now
adds_answered (Ok _) L old new was now bytes first count stop failed written fits whole loud = adds_written old new was now bytes first count stop (written loud) fits whole
adds_answered (Err e) L old new was now bytes first count stop failed written fits whole loud = adds_none old new now failed

-- one after the other, where the first leaves the bytes
pub adds_then : (old mid new : ℕ → List ℕ → Type 0) (was now : List ℕ) → was ≡ now → AddsNow old mid was → AddsNow mid new now → AddsNow old new now
adds_then old mid new was now same first then s v h = elim (then s v h) [
  | inl before ↦ elim (first s v before) [
    | inl kept ↦ inl kept
    | inr there ↦ inr (there ∙ ap (λ z. sector_at z s) same)
  ]
  | inr there ↦ inr there
]

-- a flush that was answered
pub firm_answered : {E : Type 0} (result : Result (Unit {0}) E) (L : Type 0) (holds : ℕ → List ℕ → Type 0) (now : List ℕ) (size : ℕ) → OnOk result (L → (s : ℕ) (v : List ℕ) → s < size → holds s v → v ≡ sector_at now s) → OnOk result (L → IsFirm holds now size)
firm_answered (Ok _) L holds now size flushed = λ loud s lt v h. flushed loud s v lt h
firm_answered (Err e) L holds now size flushed = tt
