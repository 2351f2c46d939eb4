use Rattle.std.proofs.Common.{rules, IfOk, ◌≡◌}
use Rattle.counted_volume.specs.Trace.{due_among}
use Rattle.counted_volume.proofs.DueTold.{told_all}
use Rattle.counted_volume.proofs.counted_volume.CountedVolume.due_events.Goals as goal

pub returns-clause-all : goal.returns-clause-all
returns-clause-all g c =
    let are : IfOk c.due_of.result (λ events. events.items ≡ due_among g.B.Block.contents g.B.Block.layers c.args.self.now.volume) = search rules in
    told_all g.B.Block.contents g.B.Block.layers c.args.self.now.volume c.due_of.result are
