use Rattle.std.proofs.Common.{◌≡◌, map, take}
use Rattle.plain_machine.specs.Plain.{may_overflow}
use Rattle.audited_volume.proofs.looking.mays_in.Given as goal

abbrev pub invariant-loop-k : goal.invariant-loop-k
invariant-loop-k g l = l.may.items ≡ map (λ s. may_overflow s.overflow) (take l.k l.volume.snaps)
