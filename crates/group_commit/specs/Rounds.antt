-- The order of a round, this project's choice: copies are read, written and flushed together; the flush that makes them last also
-- makes the last round's commit last, so what that one committed is published, and only then are the new pairs committed. A
-- round that is alone so takes two syncs, and with more always waiting each round takes one.
use Rattle.std.specs.Prelude.{ℕ, List, Option, Some, None, map}
use Rattle.std.specs.List.{filter}
use Rattle.plain_machine.specs.declared.event.Event.{Event}
use Rattle.plain_machine.specs.declared.event.Event.TheVariants.{Issue, CopyRead, CopyWrite, FlushStore, Publish, WriteInvalid, ZeroNext, WriteArea}
use Rattle.in_flight.specs.Due.{is_copy_at, is_issuable}
use Rattle.in_flight.specs.declared.copies.ChunkCopy.{ChunkCopy}
use Rattle.in_flight.specs.declared.copies.Mark.{Mark}
use Rattle.in_flight.specs.declared.copies.Stage.TheVariants.{Waiting, Read}
use Rattle.in_flight.specs.declared.flights.Flight.{Flight}
use Rattle.group_commit.specs.declared.rounds.Batch.{Batch}
use Rattle.group_commit.specs.declared.rounds.Batch.TheVariants.{Issues, Reads, Writes, Flushes, Publications, MoreIssues, Marks, Zeros, Areas}

abbrev pub after : Batch → Option Batch
after Issues = Some Reads
after Reads = Some Writes
after Writes = Some Flushes
after Flushes = Some Publications
after Publications = Some MoreIssues
after MoreIssues = Some Marks
after Marks = Some Zeros
after Zeros = Some Areas
after Areas = None

-- the event of a batch for a store, by its snapshot's number
abbrev pub store_event : Batch → ℕ → Option Event
store_event Issues snap = None
store_event Reads snap = None
store_event Writes snap = None
store_event Flushes snap = Some (FlushStore snap)
store_event Publications snap = None
store_event MoreIssues snap = None
store_event Marks snap = Some (WriteInvalid snap)
store_event Zeros snap = Some (ZeroNext snap)
store_event Areas snap = Some (WriteArea snap)

-- of all requests that go somewhere
abbrev pub issues_of : List Flight → List Event
issues_of flights = map (λ f. Issue f.number) (filter is_issuable flights)

-- of all copies that wait, and of all that were read
abbrev pub reads_of : List ChunkCopy → List Event
reads_of copies = map (λ c. CopyRead c.number) (filter (is_copy_at Waiting) copies)

abbrev pub writes_of : List ChunkCopy → List Event
writes_of copies = map (λ c. CopyWrite c.number) (filter (is_copy_at Read) copies)

-- of all copies whose pairs last
abbrev pub publications_of : List Mark → List Event
publications_of marks = map (λ m. Publish m.number) (filter (λ m. m.safe) marks)
