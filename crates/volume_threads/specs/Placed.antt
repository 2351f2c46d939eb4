-- Each volume of a rig has its place. This project's own.
use Rattle.std.specs.Prelude.{◌≡◌, ◌<◌, ℕ, List, length, slice_index_or}

abbrev pub AreNumbered : {P : Type 0} → (P → ℕ) → List P → Type 0
AreNumbered {P = P} number places = (k : ℕ) (d : P) → k < length places → number (slice_index_or places k d) ≡ k
