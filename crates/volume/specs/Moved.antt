-- A volume as the event machine that its events step: the same devices, snapshots, copies and requests, without the
-- buffers' room. This project's own.
use Rattle.std.specs.Prelude.{ℕ, true, List, Option, Some, None, map}
use Rattle.device.specs.Layers.{Layer}
use Rattle.plain_machine.specs.declared.request.Reply.{Reply}
use Rattle.whole_commands.specs.Devices.{Device}
use Rattle.event_machine.specs.Held.{SnapHeld, Moving}
use Rattle.event_machine.specs.Seen.{Seen, held_of as held_seen, going_of}
use Rattle.snapshot.specs.Kept.{Kept, due_of_kept}
use Rattle.event_machine.specs.MergeSeen.{MergeSeen, held_in}
use Rattle.merge.specs.Merging.{Merging, due_of as merging_due}
use Rattle.volume.specs.Volumed.{Volumed}

-- a snapshot as `whole_commands` sees it
abbrev pub seen_of : {B : Type 0} → (B → List ℕ) → (B → List Layer) → Kept B → Seen
seen_of contents layers s = record { due = due_of_kept contents layers s; layers = layers s.device; stale = s.stale; next = s.next }

abbrev pub held_of : {B : Type 0} → (B → List ℕ) → (B → List Layer) → Kept B → SnapHeld
held_of contents layers s = held_seen (seen_of contents layers s)

abbrev pub device_of : {B : Type 0} → (B → List ℕ) → (B → List Layer) → B → Device
device_of contents layers device = record { bytes = contents device; layers = layers device }

-- the merge, if one is begun; whether writes to the origin disk are done is not seen of it
abbrev pub merge_seen : {B : Type 0} → (B → List ℕ) → (B → List Layer) → Option (Merging B) → Option MergeSeen
merge_seen contents layers None = None
merge_seen contents layers (Some m) = Some (record { due = merging_due contents true m; layers = layers m.device; next = m.next })

-- with the last reply
abbrev pub moving_of : {B : Type 0} → (B → List ℕ) → (B → List Layer) → Option Reply → Volumed B → Moving
moving_of contents layers replied v = record {
  origin = device_of contents layers v.origin;
  snaps = map (held_of contents layers) v.snaps;
  merge = held_in (merge_seen contents layers v.merge);
  requests = map going_of v.flights;
  replied = replied;
  started = v.copies;
}
