-- Nothing was done yet.
use Rattle.std.proofs.Common.{subst, sym}
use Rattle.volume.specs.Layering.{Measures}
use Rattle.volume.specs.Volumed.{Volumed}
use Rattle.volume_lifetime.specs.Life.{HasLife}
use Rattle.volume_lifetime.proofs.Life.{life_begins}
use Rattle.volume_lifetime.proofs.lived_volume.LivedVolume.new.Goals as goal

pub invariant_of-result : goal.invariant_of-result
invariant_of-result g c =
    let m : Measures g.row.B.Denot = record { contents = g.B.Block.contents; durable = g.B.Block.durable; size = g.B.Block.size; faults = g.B.Block.fault_count; done = g.B.Block.done_count } in
    subst (λ (v : Volumed g.row.B.Denot). HasLife g.B.Block.may_hold m g.B.Block.layers v) (sym c.in_ok-volume.ensures.ok) (life_begins g.B.Block.may_hold m g.B.Block.layers c.args.origin)
