use Rattle.std.proofs.Common.{◌≡◌, drop}
use Rattle.option_parser.specs.Splits.{is_one_of}
use Rattle.option_parser.specs.Reading.{texts_of}
use Rattle.option_parser.proofs.splitting.is_one_of.Given as goal

abbrev pub invariant-loop-option : goal.invariant-loop-option
invariant-loop-option l = is_one_of (texts_of (drop l.option-index l.options)) l.word ≡ is_one_of (texts_of l.options) l.word
