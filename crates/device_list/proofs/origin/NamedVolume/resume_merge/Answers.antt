use Rattle.std.proofs.Common.{refl}
use Rattle.device_list.proofs.Resumes.{resumes}
use Rattle.device_list.proofs.origin.NamedVolume.resume_merge.Goals as goal

pub returns : goal.returns
returns c =
    let did = c.resume_merge.ensures.seen in
    rw (← c.self.view_is) (record {
      done = resumes _ _ c.self.inside.volume.rested c.resume_merge.new.self.rested refl refl c.self.inside.merging c.resume_merge.result refl c.self.invariant.begun did.merged did.flying did.begun c.resume_merge.ensures.does.err did.same did.quiet (rw did.kept.attached (rw did.quiet refl));
    })
