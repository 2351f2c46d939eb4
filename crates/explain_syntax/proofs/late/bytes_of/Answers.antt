use Rattle.std.proofs.Common.{◌≡◌, ◌-◌, ◌^◌, ap, arith, drop, []}
use Rattle.std.proofs.Math.ListN.{drop_of_length-le}
use Rattle.words.specs.Texts.{texts}
use Rattle.command.specs.DataWords.{total}
use Rattle.explain_syntax.specs.Late.{size_of}
use Rattle.explain_syntax.proofs.Behind.{all_size}
use Rattle.explain_syntax.proofs.late.bytes_of.Goals as goal

pub returns : goal.returns
unfolding size_of
returns c =
    let none : drop c.loop-word.word-index c.args.words.now ≡ [] = drop_of_length-le c.args.words.now (omega arith) in
    all_size c.loop-word.bytes (total (texts (drop c.loop-word.word-index c.args.words.now))) (total (texts c.args.words.now)) (2 ^ 64 - 1)
    c.loop-word.invariant.all (ap (λ words. total (texts words)) none) c.loop-word.invariant.small
