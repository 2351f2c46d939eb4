-- A volume that tells of its order.
use Rattle.std.proofs.Common.{◌≡◌, ◌<◌, true, length, map}
use Rattle.std.specs.Prelude.{AllPairs}
use Rattle.whole_commands.specs.Snaps.{Snap}
use Rattle.volume_commands.specs.Ordered.{IsOrdered}
use Rattle.command_semantics.specs.State.{Volume, merged_in}
use Rattle.command_semantics.proofs.SoundFrames.{both}
use Rattle.device_commands.specs.Order.{IsInOrder}

pub in_order : (volume : Volume) → length volume.snaps ≡ length volume.state.snaps → AllPairs (λ m n. m < n) (map (λ (s : Snap). s.number) volume.state.snaps) → (volume.sound ≡ true → volume.quiet ≡ true → IsOrdered (merged_in volume)) → IsInOrder volume
in_order volume named numbers ordered =
    record { named = named; numbers = numbers; ordered = λ sound. (let h = both volume.sound volume.quiet sound in ordered h.0 h.1) }
