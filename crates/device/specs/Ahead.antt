-- To be believed, as soon as a volume stands over files: what is done ahead of an operation is said in these words.
-- This project's own. A device that did something before it was asked for it. If it does all that it answers afterwards, then it did
-- so before, its bytes are as they were, and a stop may leave no more than before. Else nothing is said of its bytes but their number.
use Rattle.std.specs.Prelude.{◌≡◌, ◌⊎◌, ℕ, ◌+◌, ◌<◌, ◌≤◌, true, List}
use Rattle.device.specs.declared.operation.Operation.TheVariants.{Reads}
use Rattle.device.specs.Layers.{Layer, fate, is_answered, is_loud}

pub record IsAhead {B : Type 0} (holds : B → ℕ → List ℕ → Type 0) (contents : B → List ℕ) (layers : B → List Layer) (size faults done : B → ℕ) (old new : B) : Type 0 where
  pub loud : is_loud (layers new) ≡ true → is_loud (layers old) ≡ true
  pub same : is_loud (layers new) ≡ true → contents new ≡ contents old
  pub stop : is_loud (layers new) ≡ true → (s : ℕ) (v : List ℕ) → holds new s v → holds old s v
  pub sized : size new ≡ size old
  pub faulty : faults new ≡ faults old
  pub counted : done new ≡ done old

-- each read that passed still passes, if none that passed has a sector of these
abbrev pub PassesBeside : List Layer → List Layer → ℕ → ℕ → Type 0
PassesBeside old new first count =
    ((f n : ℕ) → 0 < n → is_answered (fate old (Reads f n)) ≡ true → (f + n ≤ first) ⊎ (first + count ≤ f))
    → (f n : ℕ) → 0 < n → is_answered (fate old (Reads f n)) ≡ true → is_answered (fate new (Reads f n)) ≡ true
