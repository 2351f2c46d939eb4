-- What a volume keeps, as `volume_laws` has it, seen as the machine of this crate: without the buffers of copies that wait
-- and of reads in flight.
use Rattle.std.specs.Prelude.{◌≡◌, ℕ, Bool, true, List, [], Option, Some, None, map, if◌then◌else◌}
use Rattle.device.specs.Layers.{Layer}
use Rattle.plain_machine.specs.declared.event.Outcome.{Outcome}
use Rattle.plain_machine.specs.declared.event.Outcome.TheVariants.{Done, Fault, Reply as Replied}
use Rattle.plain_machine.specs.declared.request.Reply.{Reply}
use Rattle.in_flight.specs.declared.copies.ChunkCopy.{ChunkCopy}
use Rattle.in_flight.specs.declared.copies.Stage.TheVariants.{Waiting}
use Rattle.in_flight.specs.declared.flights.Flight.{Flight}
use Rattle.in_flight.specs.Due.{is_stage, front_ready}
use Rattle.volume_laws.specs.Due.{DueSnap}
use Rattle.whole_commands.specs.Devices.{Device}
use Rattle.event_machine.specs.Held.{Copying, SnapHeld, Going, Moving}
use Rattle.event_machine.specs.Due.{needs_area, waits_for_area}

-- a snapshot: its books and what is due of it, its store's layers, whether the store is stale, and its next place
pub record Seen : Type 0 where
  pub due : DueSnap
  pub layers : List Layer
  pub stale : Bool
  pub next : ℕ

abbrev pub copying_of : ChunkCopy → Copying
copying_of p = record { number = p.number; pair = p.pair; stage = p.stage; bytes = if is_stage Waiting p.stage then [] else p.buffer.items }

abbrev pub going_of : Flight → Going
going_of f = record { number = f.number; request = f.request; route = f.route }

abbrev pub held_of : Seen → SnapHeld
held_of s = record {
  snap = record {
    number = s.due.books.number;
    chunk = s.due.books.chunk;
    live = s.due.books.live;
    overflow = s.due.books.overflow;
    stale = s.stale;
    store = record { bytes = s.due.books.store; layers = s.layers };
  };
  untried = s.due.books.untried;
  marked = s.due.books.marked;
  pairs = s.due.books.pairs;
  next = s.next;
  zeroed = s.due.zeroed;
  firm = s.due.firm;
  copies = map copying_of s.due.books.copies;
  marks = s.due.books.marks;
}

abbrev pub due_in : Seen → DueSnap
due_in s = s.due

-- a volume without a merge over its origin's device, with the reply that was last given and the count of the copies that were started
abbrev pub moving_of : Device → List Seen → List Flight → Option Reply → ℕ → Moving
moving_of origin snaps flights replied started =
    record { origin = origin; snaps = map held_of snaps; merge = None; requests = map going_of flights; replied = replied; started = started }

-- the last reply after an event with this outcome
abbrev pub replied_by : Outcome → Option Reply → Option Reply
replied_by Done before = before
replied_by Fault before = before
replied_by (Replied number reply) before = Some reply

-- where its first copy may be committed, it needs the next area, and waits for it, as its pairs say
pub record NeedsAsSeen (s : Seen) : Type 0 where
  pub needs : front_ready s.due.books.copies ≡ true → s.due.needs ≡ needs_area (held_of s)
  pub waits : front_ready s.due.books.copies ≡ true → s.due.waits ≡ waits_for_area (held_of s)
