use Rattle.std.proofs.Common.{◌≡◌, map, drop}
use Rattle.std.specs.List.{list_any}
use Rattle.std.specs.Str.{bytes_eq}
use Rattle.option_parser.specs.Splits.{GivenOption}
use Rattle.option_parser.specs.Reading.{given_of}
use Rattle.option_parser.proofs.splitting.Words.has.Given as goal

abbrev pub invariant-loop-given : goal.invariant-loop-given
invariant-loop-given l = list_any (λ (given : GivenOption). bytes_eq given.option l.option) (map given_of (drop l.given-index l.given-items)) ≡ list_any (λ (given : GivenOption). bytes_eq given.option l.option) (map given_of l.given-items)
