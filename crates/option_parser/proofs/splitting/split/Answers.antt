use Rattle.std.proofs.Common.{rules, ◌≡◌, ap, ◌∙◌, map, drop}
use Rattle.std.specs.String.{string_bytes}
use Rattle.std.proofs.lemmas.List.{take_all}
use Rattle.option_parser.specs.Reading.{read_all, all_read, texts_of}
use Rattle.option_parser.proofs.OneByOne.{reads_all}
use Rattle.option_parser.proofs.splitting.split.Goals as goal

pub returns : goal.returns
returns c =
    let behind : map string_bytes c.in-Some.words.now ≡ drop 1 (map string_bytes c.args.words.now) = search rules in
    ap all_read (c.loop-word.invariant ∙ ap (λ words. read_all (texts_of c.args.valued.now) (map string_bytes words)) (take_all c.loop-word.word-index c.in-Some.words.now c.loop-word-test.false) ∙ ap (read_all (texts_of c.args.valued.now)) behind)
    ∙ reads_all (texts_of c.args.valued.now) (drop 1 (map string_bytes c.args.words.now))
