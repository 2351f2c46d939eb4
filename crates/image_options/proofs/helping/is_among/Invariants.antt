use Rattle.std.proofs.Common.{◌≡◌, drop}
use Rattle.option_parser.specs.Splits.{is_one_of}
use Rattle.option_parser.specs.Reading.{texts_of}
use Rattle.image_options.proofs.helping.is_among.Given as goal

abbrev pub invariant-loop-command : goal.invariant-loop-command
invariant-loop-command l = is_one_of (texts_of (drop l.command-index l.commands)) l.word ≡ is_one_of (texts_of l.commands) l.word
