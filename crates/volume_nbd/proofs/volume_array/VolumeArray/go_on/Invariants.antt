-- Nothing was done so far.
use Rattle.std.proofs.Common.{◌≡◌}
use Rattle.volume_nbd.proofs.volume_array.VolumeArray.go_on.Given as goal

abbrev pub invariant-loop : goal.invariant-loop
invariant-loop g l = l.self ≡ record l.fn.self { starved = l.self.starved }
