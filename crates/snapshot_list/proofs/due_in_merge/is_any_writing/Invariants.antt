-- None of the requests so far writes at the place.
use Rattle.std.proofs.Common.{◌≡◌, drop}
use Rattle.std.specs.List.{list_any}
use Rattle.volume_laws.specs.MergeDue.{is_writing}
use Rattle.snapshot_list.proofs.due_in_merge.is_any_writing.Given as goal

abbrev pub invariant-loop-f : goal.invariant-loop-f
invariant-loop-f l = list_any (is_writing l.place) l.flights ≡ list_any (is_writing l.place) (drop l.f-index l.flights)
