-- To be believed: `run`'s output, a volume's steps or its attach are said in these words.
-- What callers see of one snapshot, and what that is as plain records. This project's own.
use Rattle.std.specs.Prelude.{◌==◌, ◌&&◌, ◌||◌, not, ℕ, ◌+◌, ◌-◌, ◌*◌, Bool, false, List, Option, Some, None, take, if◌then◌else◌}
use Rattle.std.specs.List.{list_any}
use Rattle.sector.specs.declared.pair.Pair.{Pair}
use Rattle.device.specs.Layers.{Layer, is_loud}
use Rattle.plain_machine.specs.declared.request.Overflowing.{Overflowing}
use Rattle.in_flight.specs.declared.copies.ChunkCopy.{ChunkCopy}
use Rattle.in_flight.specs.declared.copies.Mark.{Mark}
use Rattle.in_flight.specs.Due.{batch}
use Rattle.store.specs.declared.state.State.{State}
use Rattle.volume_laws.specs.Books.{SnapBooks}
use Rattle.volume_laws.specs.Due.{DueSnap}

-- A snapshot, with the device of its store. untried: it is spoiled, and the mark that its store is invalid was not yet tried:
-- written, and flushed since. marked: its header was written with that mark. stale: the mark failed, or its flush did. overflow: what a write of it does that finds its store full, and whether one did. next: the store's next place. begun: the pairs that the store began and did not commit.
-- room: how many copies may start without more memory. kept_back: how many more a merge may start, one at a time; spare:
-- whether the buffer for its next one is there; merging: the number of the one that it started, until that is published.
pub record Kept (B : Type 0) : Type 0 where
  pub number : ℕ
  pub live : Bool
  pub untried : Bool
  pub marked : Bool
  pub stale : Bool
  pub overflow : Overflowing
  pub device : B
  pub state : State
  pub next : ℕ
  pub pairs : List Pair
  pub begun : List Pair
  pub copies : List ChunkCopy
  pub marks : List Mark
  pub room : ℕ
  pub kept_back : ℕ
  pub spare : Bool
  pub merging : Option ℕ

-- its books, over what a device's bytes and layers are
abbrev pub books_of : {B : Type 0} → (B → List ℕ) → (B → List Layer) → Kept B → SnapBooks
books_of contents layers s = record {
  number = s.number;
  live = s.live;
  untried = s.untried;
  marked = s.marked;
  overflow = s.overflow;
  loud = is_loud (layers s.device);
  chunk = s.state.chunk;
  sectors = s.state.origin;
  size = s.state.size;
  store = contents s.device;
  pairs = s.pairs;
  sure = s.state.sure;
  begun = s.begun;
  copies = s.copies;
  marks = s.marks;
}

-- how many of the first copies the next write of the area commits
abbrev pub batch_of : State → List ChunkCopy → ℕ
batch_of s copies = batch (32 * s.chunk - s.filled) copies

-- whether the last of them fills the current area
abbrev pub fills_area : State → List ChunkCopy → Bool
fills_area s copies = s.filled + batch_of s copies == 32 * s.chunk

-- and the next area is not zeroed yet
abbrev pub needs_area : State → List ChunkCopy → Bool
needs_area s copies = fills_area s copies && not s.zeroed

-- or is, and the store was not flushed since, or is not
abbrev pub waits_area : State → List ChunkCopy → Bool
waits_area s copies = fills_area s copies && not s.firm

-- whether the copy that a merge started is one of these
abbrev pub is_among : Option ℕ → List ChunkCopy → Bool
is_among None copies = false
is_among (Some n) copies = list_any (λ p. p.number == n) copies

-- whether the buffer for a merge's next copy is there once the first copies are committed, so many of them: its present
-- copy gives it back
abbrev pub spare_after : {B : Type 0} → ℕ → Kept B → Bool
spare_after count s = s.spare || is_among s.merging (take count s.copies)

-- the copy that a merge started, but for one that is published now
abbrev pub unpublished : ℕ → Option ℕ → Option ℕ
unpublished n None = None
unpublished n (Some k) = if k == n then None else Some k

-- what says which of its events are due
abbrev pub due_of_kept : {B : Type 0} → (B → List ℕ) → (B → List Layer) → Kept B → DueSnap
due_of_kept contents layers s = record { books = books_of contents layers s; needs = needs_area s.state s.copies; waits = waits_area s.state s.copies; zeroed = s.state.zeroed; firm = s.state.firm }
