-- None of the requests so far goes to the group.
use Rattle.std.proofs.Common.{◌≡◌, drop}
use Rattle.std.specs.List.{list_any}
use Rattle.volume_laws.specs.MergeDue.{is_using}
use Rattle.merge.specs.Lists.{group_pairs}
use Rattle.snapshot_list.proofs.due_in_merge.is_any_using.Given as goal

abbrev pub invariant-loop-f : goal.invariant-loop-f
invariant-loop-f g l = list_any (is_using (group_pairs l.merge.group)) l.flights ≡ list_any (is_using (group_pairs l.merge.group)) (drop l.f-index l.flights)
