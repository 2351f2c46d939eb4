-- Which events are looked at in a batch. This project's own.
use Rattle.std.specs.Prelude.{ℕ, Bool, List, [], ◌∷◌, Option, Some, None, if◌then◌else◌}
use Rattle.std.specs.List.{flat_map}
use Rattle.device.specs.Layers.{Layer}
use Rattle.plain_machine.specs.declared.event.Event.{Event}
use Rattle.group_commit.specs.Rounds.{issues_of, publications_of, reads_of, store_event, writes_of}
use Rattle.group_commit.specs.declared.rounds.Batch.{Batch}
use Rattle.group_commit.specs.declared.rounds.Batch.TheVariants.{Issues, Reads, Writes, Flushes, Publications, MoreIssues, Marks, Zeros, Areas}
use Rattle.snapshot.specs.Kept.{Kept}
use Rattle.volume.specs.Volumed.{Volumed, is_due_of}

-- an event, where it is due
abbrev pub if_due : (Event → Bool) → Option Event → List Event
if_due is_due None = []
if_due is_due (Some event) = if is_due event then event ∷ [] else []

-- those of a batch for a snapshot and its copies, of a batch that is of no requests
abbrev pub events_at : {B : Type 0} → (Event → Bool) → Batch → Kept B → List Event
events_at is_due Issues s = []
events_at is_due Reads s = reads_of s.copies
events_at is_due Writes s = writes_of s.copies
events_at is_due Flushes s = if_due is_due (store_event Flushes s.number)
events_at is_due Publications s = publications_of s.marks
events_at is_due MoreIssues s = []
events_at is_due Marks s = if_due is_due (store_event Marks s.number)
events_at is_due Zeros s = if_due is_due (store_event Zeros s.number)
events_at is_due Areas s = if_due is_due (store_event Areas s.number)

-- those of a batch: of all requests, or of all snapshots in their order
abbrev pub gathered : {B : Type 0} → (B → List ℕ) → (B → List Layer) → Batch → Volumed B → List Event
gathered contents layers Issues v = issues_of v.flights
gathered contents layers MoreIssues v = issues_of v.flights
gathered contents layers batch v = flat_map (events_at (is_due_of contents layers v) batch) v.snaps
