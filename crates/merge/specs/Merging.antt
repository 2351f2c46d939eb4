-- To be believed: `run`'s output, a volume's steps or its attach are said in these words.
-- What callers see of a merge, and what that is as plain records. This project's own.
use Rattle.std.specs.Prelude.{ℕ, Bool, false, List, Option, Some, None}
use Rattle.sector.specs.declared.pair.Pair.{Pair}
use Rattle.store.specs.declared.state.State.{State}
use Rattle.volume_laws.specs.Books.{MergeBooks}
use Rattle.volume_laws.specs.MergeDue.{DueMerge}
use Rattle.merge.specs.declared.group.Group.{Group}
use Rattle.merge.specs.Lists.{is_flushed, waiting_of, reading_of, copied_of, released_of}

-- A merge, with the device of its store. next: the store's next place. buffer: a chunk of room, with the chunk that was
-- read at its front.
pub record Merging (B : Type 0) : Type 0 where
  pub number : ℕ
  pub device : B
  pub state : State
  pub next : ℕ
  pub pairs : List Pair
  pub group : Option Group
  pub buffer : List ℕ
  pub failed : Bool

-- its books, over what a device's bytes are. loud: whether writes to the store and to the origin disk that answer Ok are done
abbrev pub books_of : {B : Type 0} → (B → List ℕ) → Bool → Merging B → MergeBooks
books_of contents loud m = record {
  number = m.number;
  loud = loud;
  chunk = m.state.chunk;
  sectors = m.state.origin;
  size = m.state.size;
  store = contents m.device;
  pairs = m.pairs;
  waiting = waiting_of m.group;
  reading = reading_of m.group;
  buffer = m.buffer;
  copied = copied_of m.group;
  released = released_of m.group;
}

-- whether all chunks of the group are copied, and the origin disk was flushed since
abbrev pub flushed_of : Option Group → Bool
flushed_of None = false
flushed_of (Some g) = is_flushed g.progress

-- what says which of its events are due
abbrev pub due_of : {B : Type 0} → (B → List ℕ) → Bool → Merging B → DueMerge
due_of contents loud m = record { books = books_of contents loud m; failed = m.failed; flushed = flushed_of m.group; filled = m.state.filled; current = m.state.current }
