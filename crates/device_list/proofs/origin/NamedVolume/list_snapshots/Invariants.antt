use Rattle.std.proofs.Common.{◌≡◌, ◌++◌, drop}
use Rattle.command_semantics.specs.Listing.{snapshots_from}
use Rattle.device_list.proofs.origin.NamedVolume.list_snapshots.Given as goal

abbrev pub invariant-loop-k : goal.invariant-loop-k
invariant-loop-k l = l.out.items ++ snapshots_from l.k (drop l.k l.self.shown.snaps) l.self.shown ≡ l.initial.out.items ++ snapshots_from 0 l.self.shown.snaps l.self.shown
