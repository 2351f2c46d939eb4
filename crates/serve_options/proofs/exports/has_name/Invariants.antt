use Rattle.std.proofs.Common.{◌≡◌, map, drop}
use Rattle.option_parser.specs.Reading.{text_of}
use Rattle.serve_options.specs.Exports.{has_export}
use Rattle.serve_options.proofs.exports.has_name.Given as goal

abbrev pub invariant-loop-cow : goal.invariant-loop-cow
invariant-loop-cow l = has_export (map text_of (drop l.cow-index l.cows)) l.name ≡ has_export (map text_of l.cows) l.name
