-- A device that was looked at: nothing was written to it. This project's own.
use Rattle.std.specs.Prelude.{◌≡◌, ℕ, true, List}
use Rattle.device.specs.Layers.{Layer, is_loud}

-- If it does all that it answers afterwards, then it did so before, its bytes are as they were, and a stop may leave no more of it.
pub record IsSeen {B : Type 0} (holds : B → ℕ → List ℕ → Type 0) (contents : B → List ℕ) (layers : B → List Layer) (size : B → ℕ) (old new : B) : Type 0 where
  pub loud : is_loud (layers new) ≡ true → is_loud (layers old) ≡ true
  pub same : is_loud (layers new) ≡ true → contents new ≡ contents old
  pub stop : is_loud (layers new) ≡ true → (s : ℕ) (v : List ℕ) → holds new s v → holds old s v
  pub sized : size new ≡ size old
