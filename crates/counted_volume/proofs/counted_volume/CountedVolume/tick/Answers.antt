-- Layers alone changed.
use Rattle.std.proofs.Common.{◌+◌, ap}
use Rattle.volume.specs.Volumed.{Volumed}
use Rattle.counted_volume.proofs.Fewer.{unseen_have, unseen_marks}
use Rattle.counted_volume.proofs.counted_volume.CountedVolume.tick.Goals as goal

pub invariant_of-self : goal.invariant_of-self
invariant_of-self g c = unseen_have c.self.inside.volume c.tick.new.self g.B.Block.contents g.B.Block.layers c.self.inside.places c.tick.ensures.does.plain (let same = c.tick.ensures.does.ticked.becomes in (ap (λ (x : Volumed _). x.requests) same, ap (λ (x : Volumed _). x.attached) same)) c.self.invariant

pub returns : goal.returns
returns g c = rw (← c.self.view_is) (record { does = c.tick.ensures.does; taken = ap (λ marks. c.self.inside.places + marks) (unseen_marks c.self.inside.volume c.tick.new.self g.B.Block.contents g.B.Block.layers c.tick.ensures.does.plain) })
