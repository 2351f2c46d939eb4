-- The numbers that were given, and those that are left, are no more than all stores have places.
use Rattle.std.proofs.Common.{◌≡◌, ap, arith}
use Rattle.volume.specs.Volumed.{Volumed}
use Rattle.volume.proofs.volume.Volume.last_copy.Goals as goal

pub returns-clause-few : goal.returns-clause-few
returns-clause-few g c =
    let left = c.self.invariant.whole.numbers_left in
    let same : c.self.inside.attached ≡ c.args.self.now.attached = ap (λ (x : Volumed g.row.B.Denot). x.attached) c.self.view_is in
    omega (arith, left, same)
