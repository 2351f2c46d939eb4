use Rattle.std.proofs.Common.{◌≡◌, ◌++◌, map, drop}
use Rattle.option_parser.specs.Splits.{all_values}
use Rattle.option_parser.specs.Reading.{given_of, texts_of}
use Rattle.option_parser.proofs.splitting.Words.values.Given as goal

abbrev pub invariant-loop-given : goal.invariant-loop-given
invariant-loop-given l = texts_of l.values.items ++ all_values l.option (map given_of (drop l.given-index l.given-items)) ≡ all_values l.option (map given_of l.given-items)
