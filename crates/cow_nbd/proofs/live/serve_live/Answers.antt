use Rattle.std.proofs.Common.{◌*◌, List, refl, subst}
use Rattle.cow_format.specs.Pairs.{pairs_of}
use Rattle.cow_image.specs.Shown.{shown}
use Rattle.nbd_options.specs.declared.export.Export.{Export}
use Rattle.nbd_read_session.specs.Talk.{Talk, beginning}
use Rattle.cow_nbd.specs.Live.{all_marked}
use Rattle.cow_nbd.proofs.InUse.{live_known}
use Rattle.cow_nbd.proofs.live.serve_live.Goals as goal

pub returns-in-Ok : goal.returns-in-Ok
returns-in-Ok g c = λ h heard is his.
    (let s = c.args.picture.now.snapshot in
    let bytes = shown s.chunk (h 0).origin (h 0).store (pairs_of s.chunk (h 0).store) 0 (512 * s.size) in
    let all = c.in-Ok.ensures.answers (λ _. all_marked bytes) heard (λ _. live_known s.chunk s.size (g.F.MovingFiles.history s.files) h is) his in
    (_, (c.as_slice.ensures, refl, refl, refl, refl), all.0, all.1, subst (λ (es : List Export). Talk es (λ _. all_marked bytes) (λ _ _ _. Unit {0}) beginning heard all.0 all.1) c.as_slice-2.ensures all.2, all.3))
