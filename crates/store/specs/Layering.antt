-- A device whose layers may have become others, and nothing else. This project's own.
use Rattle.std.specs.Prelude.{◌≡◌, ℕ, List}

pub record IsRelayered {B : Type 0} (contents durable : B → List ℕ) (size faults done : B → ℕ) (old new : B) : Type 0 where
  pub contents_are : contents new ≡ contents old
  pub durable_are : durable new ≡ durable old
  pub size_is : size new ≡ size old
  pub faults_are : faults new ≡ faults old
  pub done_are : done new ≡ done old
