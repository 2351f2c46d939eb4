-- Beside a merge an event is due that is due without it, or one of the merge.
use Rattle.std.proofs.Common.{ap, sym, false, ◌∙◌}
use Rattle.volume.specs.Volumed.{Volumed}
use Rattle.volume.proofs.DueLooks.{beside_look}
use Rattle.volume.proofs.volume.Volume.is_due.Goals as goal

pub returns-else-is_due_aside : goal.returns-else-is_due_aside
returns-else-is_due_aside g c =
    beside_look g.B.Block.contents g.B.Block.layers c.args.self.now c.in-Some.merge (ap (λ (x : Volumed g.row.B.Denot). x.merge) (sym c.self.view_is) ∙ c.in-Some.is) c.args.event false c.is_due_in_merge.result
    c.if-is_due_aside.ensures c.is_due_in_merge.ensures
