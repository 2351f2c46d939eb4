-- They are the numbers of the merge.
use Rattle.std.proofs.Common.{◌≡◌, Some}
use Rattle.volume.specs.Asking.{merging_usage}
use Rattle.volume.specs.Leaving.{usage_of}
use Rattle.volume_commands.proofs.Begun.{holds_merging, used_merging}
use Rattle.volume_commands.proofs.resting.Resting.merging_usage.Goals as goal

pub returns-clause-some : goal.returns-clause-some
returns-clause-some g c =
    rw (← c.self.view_is) (used_merging c.self.inside.volume.volume.merge c.in-Ok.usage
    (holds_merging (λ m. c.in-Ok.usage ≡ Some (merging_usage m)) (λ s. c.in-Ok.usage ≡ usage_of s) c.in-Some.number c.self.inside.volume.volume c.in-Some.ensures.value c.in-Ok.ensures.ok))
