-- The copies are counted in the snapshots.
use Rattle.std.proofs.Common.{◌∙◌, ap, nat_eq}
use Rattle.std.specs.Prelude.{◌&&◌, count_by}
use Rattle.volume.specs.Volumed.{Volumed}
use Rattle.snapshot_list.specs.Starting.{starts}
use Rattle.volume.proofs.volume.Volume.starting.Goals as goal

pub returns-in-SnapWrite : goal.returns-in-SnapWrite
returns-in-SnapWrite g c = rw (← c.in-SnapWrite.ensures)
    (c.starting_count_of.ensures
    ∙ ap (count_by (λ s. nat_eq s.number c.in-SnapWrite.number && starts c.args.request.now.range.first s)) (c.as_slice-snaps.ensures.value ∙ ap (λ (x : Volumed g.row.B.Denot). x.snaps) c.self.view_is))
