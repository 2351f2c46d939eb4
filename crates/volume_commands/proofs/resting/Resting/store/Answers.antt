-- The snapshot that is found has it, or the one that is being merged.
use Rattle.std.proofs.Common.{get_or, inl, inr}
use Rattle.volume_commands.specs.Rested.{attached_of}
use Rattle.volume_commands.proofs.Seen.{dev_missing}
use Rattle.volume_commands.proofs.Closes.{found_snap}
use Rattle.volume_commands.proofs.resting.Resting.store.Goals as goal

pub returns-in-Ok-clause-ok : goal.returns-in-Ok-clause-ok
returns-in-Ok-clause-ok g c = elim c.in-Ok.ensures.ok [
  | inl merging ↦ rw (← c.self.view_is) (inr merging)
  | inr other ↦ (let at = other.1 in rw (← c.self.view_is) (inl (attached_of (get_or c.self.inside.volume.volume.snaps at.0 at.1), found_snap c.args.number at.0 at.1 c.self.inside.volume.volume at.2, at.3)))
]

pub returns-in-Err-clause-err : goal.returns-in-Err-clause-err
returns-in-Err-clause-err g c =
    let out = c.in-Err.ensures.err in
    rw (← c.self.view_is) (out.0, dev_missing c.args.number c.self.inside.volume.volume out.1.snaps, out.1.merge)
