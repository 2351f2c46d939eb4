use Rattle.std.proofs.Common.{◌%◌, ◌∙◌, sym, ap, arith, eqb, w8}
use Rattle.std.specs.Prelude.{not}
use Rattle.std.proofs.lemmas.Simd.{tops_compared, mask_l-mod, length-zip2}
use lib.Lanes.{mask_l, zip2}
use Rattle.words.proofs.Padded.{same_lanes}
use Rattle.words.proofs.names.are_same.Goals as goal

pub returns : goal.returns
returns c =
    let xs = c.args.one.now in
    let ys = c.args.other.now in
    let long = c.told-one ∙ sym c.told-other in
    let lanes = length-zip2 (λ x y. not (eqb x y)) xs ys long in
    ap (λ ms. eqb (mask_l ms % 18446744073709551616) 0) (tops_compared w8 (λ x y. not (eqb x y)) xs ys)
    ∙ ap (λ m. eqb m 0) (mask_l-mod (zip2 (λ x y. not (eqb x y)) xs ys) 64 (omega (arith, lanes, c.told-one)))
    ∙ same_lanes xs ys long
