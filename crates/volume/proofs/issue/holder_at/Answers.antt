-- The snapshot that is found is the request's.
use Rattle.volume.proofs.Named.{found_snap, missing_snap}
use Rattle.volume.proofs.issue.holder_at.Goals as goal

pub returns-in-Snap-clause-found : goal.returns-in-Snap-clause-found
returns-in-Snap-clause-found g c = found_snap c.args.snaps.now c.args.dev c.in-Snap.number c.snap_at.result c.snap_at.ensures c.in-Snap.is

pub returns-in-Snap-clause-none : goal.returns-in-Snap-clause-none
returns-in-Snap-clause-none g c = missing_snap c.args.snaps.now c.args.dev c.in-Snap.number c.snap_at.result c.snap_at.ensures c.in-Snap.is
