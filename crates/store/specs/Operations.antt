-- One operation of a device, as its layers answer it and as it is counted.
use Rattle.std.specs.Prelude.{◌≡◌, ℕ, Bool, List, if◌then◌else◌}
use Rattle.sector.specs.Bytes.{next_count}
use Rattle.device.specs.declared.operation.Operation.{Operation}
use Rattle.device.specs.Layers.{Layer, fate, is_answered, layers_after, is_loud}

-- the answer, the layers afterwards, and how many operations were answered by a fault and were done
pub record IsOneOperation (op : Operation) (ok : Bool) (old new : List Layer) (faults faults' done done' : ℕ) : Type 0 where
  pub answer : ok ≡ is_answered (fate old op)
  pub layers : new ≡ layers_after old op
  pub loud : is_loud new ≡ is_loud old
  pub faulty : faults' ≡ (if ok then faults else next_count faults)
  pub counted : done' ≡ next_count done
