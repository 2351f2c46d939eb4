use Rattle.std.proofs.Common.{get_or, sym}
use Rattle.device_list.proofs.Places.{snapshot_dev, at_place, dev_there}
use Rattle.device_list.proofs.sectors.dev_of.Goals as goal

pub returns-in-Snapshot-clause-value : goal.returns-in-Snapshot-clause-value
returns-in-Snapshot-clause-value c =
    let lt = rw c.in-Snapshot.is at c.requires in
    rw c.in-Snapshot.is (sym (snapshot_dev c.args.volume.now.rested c.in-Snapshot.k c.number.result lt c.number.ensures.value))

pub returns-in-Snapshot-clause-there : goal.returns-in-Snapshot-clause-there
returns-in-Snapshot-clause-there c =
    let lt = rw c.in-Snapshot.is at c.requires in
    let at = at_place c.args.volume.now.rested c.in-Snapshot.k lt in
    dev_there c.number.result c.args.volume.now.rested.snaps (get_or c.args.volume.now.rested.snaps c.in-Snapshot.k at.0) (c.number.ensures.first at.0)
