use Rattle.std.proofs.Common.{◌∙◌, ap, sym, drop, take, length-drop}
use Rattle.std.proofs.Math.Seq.{take-length}
use Rattle.words.specs.Texts.{texts}
use Rattle.explain_syntax.proofs.Behind.{texts_behind}
use Rattle.explain_syntax.proofs.late.words_from.Goals as goal

pub returns-then-place-words : goal.returns-then-place-words
returns-then-place-words c =
    let rest = drop c.args.place c.args.words.now in
    ap texts (ap (λ n. take n rest) (sym (length-drop c.args.place c.args.words.now)) ∙ take-length rest)
    ∙ texts_behind c.args.words.now c.args.place
