use Rattle.std.proofs.Common.{◌≡◌, ◌++◌, drop}
use Rattle.device_list.specs.Layers.{stores_from}
use Rattle.device_list.proofs.origin.NamedVolume.trace_stores.Given as goal

abbrev pub invariant-loop-k : goal.invariant-loop-k
invariant-loop-k l = l.out.items ++ stores_from l.k (drop l.k l.self.shown.snaps) l.self.shown ≡ l.initial.out.items ++ stores_from 0 l.self.shown.snaps l.self.shown
