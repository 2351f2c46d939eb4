use Rattle.std.proofs.Common.{◌*◌, refl}
use Rattle.cow_image.specs.Shown.{shown}
use Rattle.cow_nbd.specs.Shows.{arrays, has_copy}
use Rattle.cow_nbd.proofs.Arrays.{known_both, tells_changes}
use Rattle.cow_nbd.proofs.serving.serve_pictures.Goals as goal

pub returns-in-Ok : goal.returns-in-Ok
returns-in-Ok g c = λ o b heard ois bis his.
    let p = c.args.pictures.now in
    let all = c.in-Ok.ensures.answers (arrays (shown p.chunk o b p.pairs.items 0 (512 * p.size)) o (has_copy p.chunk p.pairs.items)) heard (known_both p.chunk p.pairs.items p.size (g.O.Image.bytes p.origin) (g.C.Image.bytes p.cow) o b ois bis) his in
    (_, (_, _, c.as_slice-3.ensures, (c.as_slice.ensures, refl, refl, refl, refl), (c.as_slice-2.ensures, refl, refl, refl, refl)), all.0, all.1, all.2, all.3, tells_changes p.chunk p.pairs.items p.size o b)
