use Rattle.std.proofs.Common.{◌≡◌, take}
use Rattle.std.specs.Prelude.{◌&&◌}
use Rattle.std.specs.List.{list_all}
use Rattle.device.specs.Layers.{is_loud}
use Rattle.audited_volume.proofs.looking.is_loud_now.Given as goal

abbrev pub invariant-loop-k : goal.invariant-loop-k
invariant-loop-k g l = l.loud ≡ (is_loud (g.B.Block.layers l.volume.origin) && list_all (λ s. is_loud (g.B.Block.layers s.device)) (take l.k l.volume.snaps))
