use Rattle.std.proofs.Common.{◌≡◌, map, take}
use Rattle.audited_volume.proofs.looking.lives_in.Given as goal

abbrev pub invariant-loop-k : goal.invariant-loop-k
invariant-loop-k g l = l.lives.items ≡ map (λ s. s.live) (take l.k l.volume.snaps)
