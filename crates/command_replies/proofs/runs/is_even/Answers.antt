use Rattle.std.proofs.Common.{◌∙◌, sym, arith, take, drop, eqb, w8}
use Rattle.std.specs.Prelude.{not}
use Rattle.std.proofs.lemmas.Simd.{bitmask_splat, length-chunk}
use Rattle.command_replies.proofs.RunLemmas.{even_lanes, is_zero}
use Rattle.command_replies.proofs.runs.is_even.Goals as goal

pub returns : goal.returns
returns c = λ same.
    let long = length-chunk c.args.at 64 c.args.bytes.now c.requires in
    even_lanes (take 64 (drop c.args.at c.args.bytes.now)) c.args.byte long
    (sym (bitmask_splat w8 (λ x y. not (eqb x y)) (take 64 (drop c.args.at c.args.bytes.now)) 64 c.args.byte long (omega arith)) ∙ is_zero _ same)
