use Rattle.std.proofs.Common.{◌≡◌, ◌+◌, ◌-◌, ◌*◌, take, drop, ap, ◌∙◌, refl, arith}
use Rattle.sector.specs.Bytes.{with_sectors}
use Rattle.device.specs.Disk.{disk_contents}
use Rattle.torn_disk.proofs.tear.write_one.Goals as goal

pub returns-clause-contents : goal.returns-clause-contents
returns-clause-contents c =
    let long : c.args.i * 512 + 512 - c.args.i * 512 ≡ 512 = omega arith in
    let from : c.args.i * 512 ≡ 512 * c.args.i = omega arith in
    c.write.ensures.passed refl
    ∙ ap (λ x. with_sectors (disk_contents c.args.disk.now) (c.args.range.first + c.args.i) x) (ap (λ n. take n (drop (c.args.i * 512) c.args.bytes.now)) long ∙ ap (λ n. take 512 (drop n c.args.bytes.now)) from)
