-- What a merge keeps, as `volume_laws` has it, seen as the machine of this crate: without the buffer's room.
use Rattle.std.specs.Prelude.{◌≡◌, ℕ, ◌+◌, ◌*◌, List, [], ◌∷◌, length, take, Option, Some, None}
use Rattle.sector.specs.declared.pair.Pair.{Pair}
use Rattle.device.specs.Layers.{Layer}
use Rattle.plain_machine.specs.declared.request.Reply.{Reply}
use Rattle.in_flight.specs.Copies.{count_of}
use Rattle.in_flight.specs.declared.flights.Flight.{Flight}
use Rattle.volume_laws.specs.Books.{MergeBooks}
use Rattle.volume_laws.specs.MergeDue.{DueMerge}
use Rattle.whole_commands.specs.Devices.{Device}
use Rattle.event_machine.specs.Held.{MergeHeld, Moving, with_merge}
use Rattle.event_machine.specs.Seen.{Seen, moving_of}

-- its books and what is due of it, its store's layers, and its next place
pub record MergeSeen : Type 0 where
  pub due : DueMerge
  pub layers : List Layer
  pub next : ℕ

-- the bytes in the buffer, for an origin of so many sectors: as many as the chunk that was read has there
abbrev pub buffered : ℕ → ℕ → List Pair → List ℕ → List ℕ
buffered chunk sectors [] buffer = []
buffered chunk sectors (q ∷ pairs) buffer = take (512 * count_of chunk sectors q.old) buffer

abbrev pub merge_held_of : MergeSeen → MergeHeld
merge_held_of s = record {
  merge = record {
    number = s.due.books.number;
    chunk = s.due.books.chunk;
    failed = s.due.failed;
    current = s.due.current;
    next = s.next;
    store = record { bytes = s.due.books.store; layers = s.layers };
  };
  pairs = s.due.books.pairs;
  waiting = s.due.books.waiting;
  reading = s.due.books.reading;
  buffer = buffered s.due.books.chunk s.due.books.sectors s.due.books.reading s.due.books.buffer;
  copied = s.due.books.copied;
  released = s.due.books.released;
  flushed = s.due.flushed;
}

-- a merge that may be begun: what the machine has of it, and its books
abbrev pub held_in : Option MergeSeen → Option MergeHeld
held_in None = None
held_in (Some s) = Some (merge_held_of s)

abbrev pub books_in : Option MergeSeen → Option MergeBooks
books_in None = None
books_in (Some s) = Some s.due.books

-- a volume with a merge
abbrev pub merging_as : MergeSeen → Device → List Seen → List Flight → Option Reply → ℕ → Moving
merging_as s origin snaps flights replied started = with_merge (merge_held_of s) (moving_of origin snaps flights replied started)

-- the pairs that stand in the current area are as many as are counted there
abbrev pub IsFilledAsSeen : MergeSeen → Type 0
IsFilledAsSeen s = length s.due.books.pairs ≡ s.due.current * (32 * s.due.books.chunk) + s.due.filled
