-- Runs of sectors.
use Rattle.std.specs.Prelude.{◌≡◌, ℕ, ◌+◌, ◌<◌, ◌≤◌, ◌&&◌, Bool, true, false, List, [], ◌∷◌, nat_le, nat_lt}
use Rattle.std.specs.List.{All, list_any}
use Rattle.cow_salvage.specs.declared.span.Span.{Span}

-- whether a sector stands in one of these spans
abbrev pub is_in : List Span → ℕ → Bool
is_in spans sector = list_any (λ span. nat_le span.first sector && nat_lt sector (span.first + span.count)) spans

-- none is empty, and between each and those behind it is a sector at least
abbrev pub AreApart : List Span → Type 0
AreApart [] = Unit {0}
AreApart (span ∷ spans) = (0 < span.count) × All (λ next. span.first + span.count < next.first) spans × AreApart spans

-- these spans, neighbours joined, have sectors below an end of each of which one thing holds; of each other one the other does
pub record AreJust (Is Not : ℕ → Type 0) (end : ℕ) (spans : List Span) : Type 0 where
  pub apart : AreApart spans
  pub inside : All (λ span. span.first + span.count ≤ end) spans
  pub told : (s : ℕ) → is_in spans s ≡ true → Is s
  pub others : (s : ℕ) → s < end → is_in spans s ≡ false → Not s

-- these spans, neighbours joined, have just the sectors below an end that are marked
abbrev pub AreMarked : (ℕ → Bool) → ℕ → List Span → Type 0
AreMarked mark end spans = AreJust (λ s. mark s ≡ true) (λ s. mark s ≡ false) end spans
