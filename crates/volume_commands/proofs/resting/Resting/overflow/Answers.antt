-- The snapshot that is lent may overflow, or did.
use Rattle.std.proofs.Common.{sym, ◌∙◌, ap}
use Rattle.volume_commands.specs.Rested.{Attached}
use Rattle.volume_commands.proofs.Lends.{seen_at}
use Rattle.volume_commands.specs.Recorded.{Recorded}
use Rattle.volume_commands.proofs.resting.Resting.overflow.Goals as goal

pub returns : goal.returns
returns g c = λ d. c.overflow.ensures ∙ ap (λ (x : Attached g.row.B.Denot). x.overflow) (sym (seen_at c.self.inside.volume.volume c.args.self.now.rested (ap (λ (r : Recorded g.row.B.Denot). r.rested) c.self.view_is) c.args.k c.snap.result.now c.requires c.snap.ensures.value d))
