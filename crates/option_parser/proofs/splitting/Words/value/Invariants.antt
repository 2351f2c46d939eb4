use Rattle.std.proofs.Common.{◌≡◌, map, drop, None}
use Rattle.option_parser.specs.Splits.{last_value}
use Rattle.option_parser.specs.Reading.{given_of, text_in}
use Rattle.option_parser.proofs.splitting.Words.value.Given as goal

abbrev pub invariant-loop-given : goal.invariant-loop-given
invariant-loop-given l = last_value (text_in l.value) l.option (map given_of (drop l.given-index l.given-items)) ≡ last_value None l.option (map given_of l.given-items)
