-- How much a volume was asked for whose journal is full.
use Rattle.std.proofs.Common.{◌≡◌, ◌≢◌, ◌⊎◌, ℕ, ◌+◌, ◌*◌, ◌≤◌, ◌<◌, Bool, true, false, inl, inr, ◌∙◌, ap, arith}
use Rattle.std.specs.Prelude.{nat_le, Result, Ok, Err, IfErr}
use Rattle.std.proofs.lemmas.Bool.{le-leb, ltb-true}
use Rattle.sector.specs.declared.refusal.Refusal.{Refusal}
use Rattle.sector.specs.declared.refusal.Refusal.TheVariants.{JournalFull}
use Rattle.counted_volume.specs.Places.{is_full_for, IsFullFirst}

-- a volume whose journal has too few places left was asked for much
pub asked_much : (more taken requests given asked : ℕ) → more ≤ 3 → taken ≤ requests + 5 * given + 40 → requests ≤ asked → is_full_for more taken ≡ true → nat_le 65_000 (asked + 5 * given) ≡ true
asked_much more taken requests given asked few looked fewer full =
    let over : 65_536 < taken + more = ltb-true 65_536 (taken + more) full in
    let much : 65_000 ≤ asked + 5 * given = omega (arith, over) in
    le-leb 65_000 (asked + 5 * given) much

-- what a call tells that finds its journal full
pub full_then : (full : Bool) (e : Refusal) → (((full ≡ true) × (e ≡ JournalFull)) ⊎ ((full ≡ false) × (e ≢ JournalFull))) → e ≡ JournalFull → full ≡ true
full_then full e (inl here) is = here.0
full_then full e (inr other) is = absurd (other.1 is)

-- a call that is refused so, and took no snapshot, was of a volume that was asked for much
pub asked_err : (more : ℕ) (e : Refusal) (taken requests given asked after : ℕ) → (((is_full_for more taken ≡ true) × (e ≡ JournalFull)) ⊎ ((is_full_for more taken ≡ false) × (e ≢ JournalFull))) → more ≤ 3 → taken ≤ requests + 5 * given + 40 → requests ≤ asked → after ≡ given → e ≡ JournalFull → nat_le 65_000 (asked + 5 * after) ≡ true
asked_err more e taken requests given asked after full few looked fewer same is =
    ap (λ n. nat_le 65_000 (asked + 5 * n)) same ∙ asked_much more taken requests given asked few looked fewer (full_then (is_full_for more taken) e full is)

-- the same of its result
pub asked_first : {A : Type 0} (result : Result A Refusal) (taken requests given asked after : ℕ) → taken ≤ requests + 5 * given + 40 → requests ≤ asked → after ≡ given → IsFullFirst (is_full_for 1 taken) result → IfErr result (λ e. e ≡ JournalFull → nat_le 65_000 (asked + 5 * after) ≡ true)
asked_first (Ok done) taken requests given asked after looked fewer same full = tt
asked_first (Err e) taken requests given asked after looked fewer same full = asked_err 1 e taken requests given asked after full (omega arith) looked fewer same

-- and so of a command of several requests, of which some were taken before: its journal is full behind it
pub asked_last : {A : Type 0} (result : Result A Refusal) (taken requests given asked : ℕ) → taken ≤ requests + 5 * given + 40 → requests ≤ asked → IfErr result (λ e. e ≡ JournalFull → is_full_for 1 taken ≡ true) → IfErr result (λ e. e ≡ JournalFull → nat_le 65_000 (asked + 5 * given) ≡ true)
asked_last (Ok done) taken requests given asked looked fewer full = tt
asked_last (Err e) taken requests given asked looked fewer full = λ is. asked_much 1 taken requests given asked (omega arith) looked fewer (full is)
