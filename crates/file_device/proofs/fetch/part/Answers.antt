use Rattle.std.proofs.Common.{◌≡◌, ◌+◌, ◌*◌, ◌-◌, take, drop, ap, ◌∙◌, arith}
use Rattle.file_device.proofs.fetch.part.Goals as goal

pub returns : goal.returns
returns c =
    let long : c.args.first * 512 + c.args.count * 512 - c.args.first * 512 ≡ 512 * c.args.count = omega arith in
    let from : c.args.first * 512 ≡ 512 * c.args.first = omega arith in
    ap (λ n. take n (drop (c.args.first * 512) c.args.all.now)) long ∙ ap (λ n. take (512 * c.args.count) (drop n c.args.all.now)) from
