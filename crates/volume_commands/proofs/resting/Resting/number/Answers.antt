-- The snapshot that is lent is the first with its number.
use Rattle.std.proofs.Common.{Some, sym, ◌∙◌, ap}
use Rattle.volume_commands.specs.Rested.{Attached, snap_at, without}
use Rattle.volume_commands.proofs.Lends.{seen_at, first_at}
use Rattle.volume_commands.specs.Recorded.{Recorded}
use Rattle.volume_commands.proofs.resting.Resting.number.Goals as goal

pub returns-clause-value : goal.returns-clause-value
returns-clause-value g c = λ d. c.number.ensures ∙ ap (λ (x : Attached g.row.B.Denot). x.number) (sym (seen_at c.self.inside.volume.volume c.args.self.now.rested (ap (λ (r : Recorded g.row.B.Denot). r.rested) c.self.view_is) c.args.k c.snap.result.now c.requires c.snap.ensures.value d))

pub returns-clause-first : goal.returns-clause-first
returns-clause-first g c = λ d.
    let first = first_at c.self.inside.volume.volume c.args.self.now.rested (ap (λ (r : Recorded g.row.B.Denot). r.rested) c.self.view_is) c.args.k c.snap.result.now c.requires c.snap.ensures.value c.snap.ensures.first in
    ap (λ n. snap_at n c.args.self.now.rested.snaps) c.number.ensures ∙ first.0 ∙ ap (λ (x : Attached g.row.B.Denot). Some x) (sym (seen_at c.self.inside.volume.volume c.args.self.now.rested (ap (λ (r : Recorded g.row.B.Denot). r.rested) c.self.view_is) c.args.k c.snap.result.now c.requires c.snap.ensures.value d))

pub returns-clause-rest : goal.returns-clause-rest
returns-clause-rest g c =
    let first = first_at c.self.inside.volume.volume c.args.self.now.rested (ap (λ (r : Recorded g.row.B.Denot). r.rested) c.self.view_is) c.args.k c.snap.result.now c.requires c.snap.ensures.value c.snap.ensures.first in
    ap (λ n. without n c.args.self.now.rested.snaps) c.number.ensures ∙ first.1
