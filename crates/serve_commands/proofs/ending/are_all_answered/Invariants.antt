-- The files of the snapshots so far have answered.
use Rattle.std.proofs.Common.{◌≡◌, Some, map, take, true}
use Rattle.std.specs.List.{All}
use Rattle.file_calls.specs.Kept.{are_answered}
use Rattle.file_calls.specs.Note.{call_of}
use Rattle.merge.specs.Merging.{Merging}
use Rattle.serve_commands.proofs.ending.are_all_answered.Given as goal

abbrev pub invariant-loop-snap : goal.invariant-loop-snap
invariant-loop-snap l = record {
  origin : are_answered (map call_of l.volume.origin.file.file.noted.notes) ≡ true;
  merged : (m : Merging _) → l.volume.merge ≡ Some m → are_answered (map call_of m.device.file.file.noted.notes) ≡ true;
  stores : All (λ snap. are_answered (map call_of snap.device.file.file.noted.notes) ≡ true) (take l.snap-index l.snaps);
}
