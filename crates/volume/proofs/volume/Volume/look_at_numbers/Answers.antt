-- By what the type keeps.
use Rattle.std.proofs.Common.{◌∙◌, ap}
use Rattle.volume.specs.Volumed.{Volumed}
use Rattle.volume.proofs.MergeLasts.{kept_merge}
use Rattle.volume.proofs.volume.Volume.look_at_numbers.Goals as goal

pub returns : goal.returns
returns g c = record {
  ascending = rw (← c.self.view_is) c.self.invariant.whole.numbers.ascending;
  some = λ merge is. (kept_merge g.B.Block.contents g.B.Block.layers g.B.Block.size _ merge c.self.invariant.whole (ap (λ (x : Volumed _). x.merge) c.self.view_is ∙ is)).holds.text.some;
}
