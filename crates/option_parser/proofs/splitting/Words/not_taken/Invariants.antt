use Rattle.std.proofs.Common.{◌≡◌, map, drop, not}
use Rattle.std.specs.Prelude.{find}
use Rattle.option_parser.specs.Splits.{GivenOption, is_one_of}
use Rattle.option_parser.specs.Reading.{given_of, texts_of}
use Rattle.option_parser.proofs.splitting.Words.not_taken.Given as goal

abbrev pub invariant-loop-given : goal.invariant-loop-given
invariant-loop-given l = find (λ (given : GivenOption). not (is_one_of (texts_of l.taken) given.option)) (map given_of (drop l.given-index l.given-items)) ≡ find (λ (given : GivenOption). not (is_one_of (texts_of l.taken) given.option)) (map given_of l.given-items)
