use Rattle.std.proofs.Common.{sym, ap, ◌∙◌}
use Rattle.snapshot.specs.Kept.{Kept}
use Rattle.audited_volume.proofs.Lost.{number_at}
use Rattle.audited_volume.proofs.Placed.{none_before}
use Rattle.audited_volume.proofs.noting.number_at.Goals as goal

pub returns-clause-number : goal.returns-clause-number
returns-clause-number g c d =
    number_at g.B.Block.contents (g.B.Block.contents c.args.volume.now.origin) c.args.volume.now.snaps c.args.k c.snap.result.now c.requires d
    ∙ ap (λ (x : Kept _). x.number) (sym (c.snap.ensures.value c.snap.result.now)) ∙ sym c.number.ensures

pub returns-clause-first : goal.returns-clause-first
returns-clause-first g c j d lt same =
    none_before g.B.Block.contents (g.B.Block.contents c.args.volume.now.origin) c.snap.result.now.number c.args.volume.now.snaps c.args.k c.snap.ensures.first j d lt (same ∙ c.number.ensures)
