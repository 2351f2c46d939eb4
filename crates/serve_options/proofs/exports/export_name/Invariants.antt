use Rattle.std.proofs.Common.{◌≡◌, ◌≤◌, [], take, drop}
use Rattle.serve_options.specs.Exports.{last_part}
use Rattle.serve_options.proofs.exports.export_name.Given as goal

abbrev pub invariant-loop-place : goal.invariant-loop-place
invariant-loop-place l = (l.from ≤ l.place) × (last_part (drop l.from (take l.place l.cow)) (drop l.place l.cow) ≡ last_part [] l.cow)
