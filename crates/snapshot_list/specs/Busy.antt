-- Of which snapshots more may be due than reads of chunks, and what is due first of them.
use Rattle.std.specs.Prelude.{◌≡◌, ◌==◌, ◌||◌, not, Bool, List, length, Option, None}
use Rattle.std.specs.List.{list_any}
use Rattle.plain_machine.specs.declared.event.Event.{Event}
use Rattle.plain_machine.specs.declared.event.Event.TheVariants.{Issue, CopyRead, CopyWrite, ZeroNext, WriteArea, Publish, WriteInvalid, FlushStore}
use Rattle.in_flight.specs.Due.{first_by, is_issuable, is_stage, number_of_flight}
use Rattle.in_flight.specs.declared.copies.ChunkCopy.{ChunkCopy}
use Rattle.in_flight.specs.declared.copies.Stage.TheVariants.{Waiting, Read}
use Rattle.in_flight.specs.declared.flights.Flight.{Flight}
use Rattle.volume_laws.specs.Due.{DueSnap, can_commit, can_flush_store, can_mark, can_zero, copy_of, event_or, least_of, publishable_of, snap_number}

-- a copy that does not wait to be read any more
abbrev pub is_begun : ChunkCopy → Bool
is_begun c = not (is_stage Waiting c.stage)

-- a snapshot with such a copy, with a mark, or with a header that is to be marked invalid
abbrev pub is_busy : DueSnap → Bool
is_busy s = s.books.untried || not (length s.books.marks == 0) || list_any is_begun s.books.copies

-- what is due first of some snapshots, but reads of chunks
abbrev pub busy_due : List DueSnap → List Flight → Option Event
busy_due snaps rs =
    event_or (first_by can_mark snap_number snaps) WriteInvalid
    (event_or (first_by can_flush_store snap_number snaps) FlushStore
    (event_or (least_of (publishable_of rs) snaps) Publish
    (event_or (first_by can_commit snap_number snaps) WriteArea
    (event_or (first_by can_zero snap_number snaps) ZeroNext
    (event_or (least_of (copy_of Read) snaps) CopyWrite None)))))

-- and where nothing of that is: a read of a chunk, or a request
abbrev pub waiting_due : List DueSnap → List Flight → Option Event
waiting_due snaps rs =
    event_or (least_of (copy_of Waiting) snaps) CopyRead
    (event_or (first_by is_issuable number_of_flight rs) Issue None)

-- of some of the snapshots the same is due as of all, but reads of chunks
pub record AreAlike (part all : List DueSnap) : Type 0 where
  pub marking : first_by can_mark snap_number part ≡ first_by can_mark snap_number all
  pub flushing : first_by can_flush_store snap_number part ≡ first_by can_flush_store snap_number all
  pub publishing : (rs : List Flight) → least_of (publishable_of rs) part ≡ least_of (publishable_of rs) all
  pub committing : first_by can_commit snap_number part ≡ first_by can_commit snap_number all
  pub zeroing : first_by can_zero snap_number part ≡ first_by can_zero snap_number all
  pub writing : least_of (copy_of Read) part ≡ least_of (copy_of Read) all
