-- Why a merge goes on: what it keeps of its group, of the other snapshots, and of its place in the areas.
use Rattle.std.specs.Prelude.{◌≡◌, ◌≢◌, ℕ, ◌+◌, ◌*◌, ◌≤◌, true, List, [], ◌∷◌, ◌++◌, length, Option, Some, None}
use Rattle.std.specs.List.{All}
use Rattle.sector.specs.declared.pair.Pair.{Pair}
use Rattle.in_flight.specs.Copies.{count_of}
use Rattle.volume_laws.specs.Books.{SnapBooks, MergeBooks, Books, group_of}
use Rattle.volume_laws.specs.Published.{IsSavedOver, next_over}
use Rattle.volume_laws.specs.MergeDue.{DueMerge, last_of}
use Rattle.volume_laws.specs.Waits.{IsSaving, IsQuiet}

-- the pair whose chunk is copied next: the one in the buffer, or the last that waits
abbrev pub next_pairs : List Pair → Option Pair → List Pair
next_pairs (q ∷ pairs) last = q ∷ pairs
next_pairs [] None = []
next_pairs [] (Some q) = q ∷ []

abbrev pub next_in : MergeBooks → List Pair
next_in m = next_pairs m.reading (last_of m.waiting)

-- in each live snapshot a copy of the first chunk is under way that it has not published, of those that the chunk of a pair
-- touches on an origin of so many sectors; or it has published all of them
abbrev pub IsSavedSoon : ℕ → ℕ → List SnapBooks → Pair → Type 0
IsSavedSoon chunk sectors snaps q = All (λ s. s.live ≡ true → IsSaving (next_over (chunk * q.old) (count_of chunk sectors q.old) s) s) snaps

-- each live snapshot has published each chunk that it touches, on an origin of so many sectors
abbrev pub IsSavedIn : ℕ → ℕ → List SnapBooks → Pair → Type 0
IsSavedIn chunk sectors snaps q = All (IsSavedOver (chunk * q.old) (count_of chunk sectors q.old)) snaps

-- the stages of a group: at most one chunk is in the buffer; what is flushed is copied; what is released is committed
pub record IsStaged (d : DueMerge) : Type 0 where
  pub one : length d.books.reading ≤ 1
  pub read : d.flushed ≡ true → d.books.waiting ≡ []
  pub written : d.flushed ≡ true → d.books.reading ≡ []
  pub copied : d.books.released ≢ [] → d.books.copied ≡ []
  pub over : d.books.released ≢ [] → d.books.waiting ≡ []
  pub out : d.books.released ≢ [] → d.books.reading ≡ []
  pub none : d.failed ≡ true → group_of d.books ≡ []

-- A merge, also while the copies of the chunk that it copies next are being started.
pub record MergeSteady (snaps : List SnapBooks) (d : DueMerge) : Type 0 where
  pub staged : IsStaged d
  pub ending : (kept : List Pair) × (d.books.pairs ≡ kept ++ (d.books.waiting ++ (d.books.reading ++ d.books.copied)))
  pub area : length d.books.pairs ≡ d.current * (32 * d.books.chunk) + d.filled
  pub saved : All (IsSavedIn d.books.chunk d.books.sectors snaps) (d.books.copied ++ d.books.released)

-- A merge among the other snapshots, where those copies are started. area: the pairs fill the areas below the current one, and the slots in use of that one.
pub record MergeGoes (snaps : List SnapBooks) (d : DueMerge) : Type 0 where
  pub staged : IsStaged d
  pub ending : (kept : List Pair) × (d.books.pairs ≡ kept ++ (d.books.waiting ++ (d.books.reading ++ d.books.copied)))
  pub area : length d.books.pairs ≡ d.current * (32 * d.books.chunk) + d.filled
  pub next : All (IsSavedSoon d.books.chunk d.books.sectors snaps) (next_in d.books)
  pub saved : All (IsSavedIn d.books.chunk d.books.sectors snaps) (d.books.copied ++ d.books.released)

-- a volume with a merge is quiet where no request is in flight, nothing is left of any snapshot, and no group is formed
pub record IsQuietMerge (v : Books) (d : DueMerge) : Type 0 where
  pub volume : IsQuiet v
  pub group : group_of d.books ≡ []
