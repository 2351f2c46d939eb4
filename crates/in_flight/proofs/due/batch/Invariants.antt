-- The copies so far are ready, and have slots.
use Rattle.std.proofs.Common.{◌≡◌, ◌+◌, ◌≤◌, drop}
use Rattle.std.specs.List.{prefix_len}
use Rattle.in_flight.specs.Due.{is_ready}
use Rattle.in_flight.proofs.due.batch.Given as goal

abbrev pub invariant-loop-copy : goal.invariant-loop-copy
invariant-loop-copy l = (prefix_len is_ready l.copies ≡ l.count + prefix_len is_ready (drop l.copy-index l.copies)) × (l.count ≤ l.slots)
