-- None of the files so far is this one.
use Rattle.std.proofs.Common.{◌≢◌, take}
use Rattle.std.specs.List.{All}
use Rattle.serve_files.proofs.opening.are_apart.Given as goal

abbrev pub invariant-loop-other : goal.invariant-loop-other
invariant-loop-other l = All (λ other. other.which ≢ l.file.which) (take l.other-index l.others)
