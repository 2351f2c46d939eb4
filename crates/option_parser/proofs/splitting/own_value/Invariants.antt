use Rattle.std.proofs.Common.{◌≡◌, drop}
use Rattle.option_parser.specs.Splits.{own_value}
use Rattle.option_parser.specs.Reading.{texts_of}
use Rattle.option_parser.proofs.splitting.own_value.Given as goal

abbrev pub invariant-loop-option : goal.invariant-loop-option
invariant-loop-option l = own_value (texts_of (drop l.option-index l.valued)) l.word ≡ own_value (texts_of l.valued) l.word
