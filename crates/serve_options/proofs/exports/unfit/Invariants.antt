use Rattle.std.proofs.Common.{◌≡◌, [], map, take, drop}
use Rattle.option_parser.specs.Reading.{text_of}
use Rattle.serve_options.specs.Exports.{first_unfit}
use Rattle.serve_options.proofs.exports.unfit.Given as goal

abbrev pub invariant-loop-place : goal.invariant-loop-place
invariant-loop-place l = first_unfit (map text_of (take l.place l.cows)) (map text_of (drop l.place l.cows)) ≡ first_unfit [] (map text_of l.cows)
