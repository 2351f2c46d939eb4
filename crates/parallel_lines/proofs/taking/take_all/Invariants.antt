-- The volumes that are left are the first of the table, and what was taken has the places after them.
use Rattle.std.proofs.Common.{◌≡◌, ◌+◌, ◌≤◌, drop, length, take, vec_len, vec_capacity}
use Rattle.device_list.proofs.Showing.{shown_in}
use Rattle.parallel_lines.specs.Taking.{AreSlots}
use Rattle.parallel_lines.proofs.taking.take_all.Given as goal

abbrev pub invariant-loop-volume : goal.invariant-loop-volume
invariant-loop-volume l = record {
  front : l.volumes.items ≡ take (length l.volumes.items) l.fn.volumes.items;
  few : length l.volumes.items ≤ length l.fn.volumes.items;
  slots : AreSlots (drop (length l.volumes.items) l.used) l.slots.items l.audits.items (drop (length l.volumes.items) (shown_in l.fn.volumes.items));
  many : vec_len l.slots + vec_len l.volumes ≡ vec_len l.fn.volumes;
  taken : vec_len l.audits ≤ vec_len l.slots;
  room : vec_capacity l.volumes ≡ vec_capacity l.fn.volumes;
  slot_room : vec_len l.fn.volumes ≤ vec_capacity l.slots;
  audit_room : vec_len l.fn.volumes ≤ vec_capacity l.audits;
}

abbrev pub decreases-loop-volume : goal.decreases-loop-volume
decreases-loop-volume l = vec_len l.volumes
