-- Devices that a read leaves as they are. This project's own.
use Rattle.std.specs.Prelude.{◌≡◌, ℕ}
use Rattle.std.specs.List.{All}
use Rattle.device.specs.declared.operation.Operation.TheVariants.{Reads}
use Rattle.device.specs.Layers.{layers_after}
use Rattle.whole_commands.specs.Devices.{Device}
use Rattle.whole_commands.specs.Snaps.{Volume}

-- no read changes the device's layers
abbrev pub IsUnmoved : Device → Type 0
IsUnmoved device = (first count : ℕ) → layers_after device.layers (Reads first count) ≡ device.layers

-- nor those of any device
pub record AreUnmoved (v : Volume) : Type 0 where
  pub origin : IsUnmoved v.origin
  pub snaps : All (λ s. IsUnmoved s.store) v.snaps
