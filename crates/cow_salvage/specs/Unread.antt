-- To be believed: what a salvage tells of sectors that can't be read is said in these words.
-- Which sectors of an image can't be read, by which reads of it may fail and which may succeed.
use Rattle.std.specs.Prelude.{◌≡◌, ◌⊎◌, ℕ, ◌+◌, ◌*◌, ◌<◌, ◌≤◌, true, false, List}
use Rattle.std.specs.List.{All}
use Rattle.cow_salvage.specs.declared.span.Span.{Span}
use Rattle.cow_salvage.specs.Spans.{is_in, AreApart, AreJust}

-- a read of this sector alone may fail
abbrev pub IsLost : (ℕ → ℕ → Type 0) → ℕ → Type 0
IsLost may_fail s = may_fail (512 * s) 512

-- a read that takes this sector in may succeed
abbrev pub IsGiven : (ℕ → ℕ → Type 0) → ℕ → Type 0
IsGiven may_give s = (at : ℕ) × (n : ℕ) × (at ≤ 512 * s) × (512 * s + 512 ≤ at + n) × may_give at n

-- These spans, neighbours joined, are sectors below an end that can't be read, and each other one can: of an image that may
-- fail just at the reads that it may not give they are all that can't be read, and only those.
abbrev pub AreUnread : (ℕ → ℕ → Type 0) → (ℕ → ℕ → Type 0) → ℕ → List Span → Type 0
AreUnread may_fail may_give end spans = AreJust (IsLost may_fail) (IsGiven may_give) end spans

-- spans that end below a sector, in their order
abbrev pub Stand : ℕ → List Span → Type 0
Stand first spans = AreApart spans × All (λ span. span.first + span.count ≤ first) spans

-- the same of the sectors from one on, added to spans that end below it
abbrev pub AddUnread : (ℕ → ℕ → Type 0) → (ℕ → ℕ → Type 0) → ℕ → List Span → ℕ → List Span → Type 0
AddUnread may_fail may_give first before end spans = AreJust (λ s. (is_in before s ≡ true) ⊎ IsLost may_fail s) (λ s. ((s < first) × (is_in before s ≡ false)) ⊎ IsGiven may_give s) end spans
