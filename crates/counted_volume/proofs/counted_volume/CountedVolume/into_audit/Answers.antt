-- An audit with as many places, or the volume that there was.
use Rattle.std.proofs.Common.{ap}
use Rattle.sector.specs.declared.refusal.Refusal.{Refusal}
use Rattle.volume.specs.Volumed.{Volumed}
use Rattle.counted_volume.specs.Places.{counted_with}
use Rattle.counted_volume.proofs.Fewer.{going_places}
use Rattle.counted_volume.proofs.counted_volume.CountedVolume.into_audit.Goals as goal

pub returns-in-Ok-clause-taken : goal.returns-in-Ok-clause-taken
returns-in-Ok-clause-taken g c =
    let ok = c.in-Ok.ensures.ok in
    rw (← c.self.view_is) (going_places c.in-Ok.audit c.self.inside.volume c.self.inside.places c.count_live-live.result ok.1 ok.2 ok.3 ok.4 c.in-Ok.ensures.taken c.count_live-live.ensures.count c.self.invariant)

pub returns-in-Err-clause-err : goal.returns-in-Err-clause-err
returns-in-Err-clause-err g c =
    let same = c.in-Err.ensures.err in
    rw (← c.self.view_is) (
      ap (λ (e : Refusal × Volumed g.row.B.Denot). e.0) same,
      ap (λ (e : Refusal × Volumed g.row.B.Denot). counted_with e.1 c.self.inside.places) same,
    )
