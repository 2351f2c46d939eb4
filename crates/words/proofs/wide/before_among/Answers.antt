use Rattle.std.proofs.Common.{◌∙◌, ap, arith, cond, take, drop, eqb, w8}
use Rattle.std.proofs.lemmas.Simd.{bitmask_splat, first_set_mask_l, length-chunk}
use lib.Count.{count_trailing_zeros}
use Rattle.words.proofs.wide.before_among.Goals as goal

pub returns : goal.returns
returns c =
    let v = take 16 (drop c.args.at c.args.bytes.now) in
    let long = length-chunk c.args.at 16 c.args.bytes.now c.requires in
    c.first_set.ensures
    ∙ ap (λ mask. cond (eqb mask 0) 16 (count_trailing_zeros 64 mask)) (bitmask_splat w8 eqb v 16 c.args.byte long (omega arith))
    ∙ first_set_mask_l (λ x. eqb x c.args.byte) v 16 long (omega arith)
