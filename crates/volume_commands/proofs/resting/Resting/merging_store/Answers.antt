-- It is the device of the merge.
use Rattle.std.proofs.Common.{◌≡◌}
use Rattle.volume_commands.proofs.Begun.{holds_merging}
use Rattle.volume_commands.proofs.resting.Resting.merging_store.Goals as goal

pub returns-clause-some : goal.returns-clause-some
returns-clause-some g c =
    rw (← c.self.view_is) (holds_merging (λ m. c.in-Ok.device.now ≡ m.device) (λ s. c.in-Ok.device.now ≡ s.device) c.in-Some.number c.self.inside.volume.volume c.in-Some.ensures.value c.in-Ok.ensures.ok)
