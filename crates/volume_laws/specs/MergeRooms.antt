-- What each other live snapshot keeps back for a merge, so that no event of the merge needs memory: nodes for the chunks
-- that it lacks of those that the merge's pairs touch, and the buffer of one chunk, which comes back when the copy is
-- committed. A merge has at most one copy under way in a snapshot, and starts the next when that one is published. This
-- project's own.
use Rattle.std.specs.Prelude.{◌≡◌, ◌≢◌, ◌==◌, ◌⊎◌, ◌||◌, ℕ, ◌+◌, ◌<◌, ◌≤◌, Bool, true, false, List, ◌∷◌, ◌++◌, length, take, Option, Some, None, Any, count_by, slice_index_or, if◌then◌else◌}
use Rattle.std.specs.List.{All, list_any}
use Rattle.sector.specs.declared.pair.Pair.{Pair}
use Rattle.cow_format.specs.Picture.{place_of}
use Rattle.in_flight.specs.Copies.{count_of}
use Rattle.in_flight.specs.declared.copies.ChunkCopy.{ChunkCopy}
use Rattle.in_flight.specs.declared.copies.Mark.{Mark}
use Rattle.volume_laws.specs.Books.{SnapBooks}
use Rattle.volume_laws.specs.Touched.{lacks_chunk, touched_by}
use Rattle.volume_laws.specs.MergeWaits.{IsSavedIn}
use Rattle.volume_laws.specs.Steps.{StartsCopy}
use Rattle.volume_laws.specs.Waits.{IsSaving}

-- A snapshot. kept_back: nodes that its requests may not take. spare: it has the buffer of a whole chunk. merging: the number
-- of the one copy that the merge started, until that is published.
pub record RoomSnap : Type 0 where
  pub books : SnapBooks
  pub kept_back : ℕ
  pub spare : Bool
  pub merging : Option ℕ

abbrev pub room_books : RoomSnap → SnapBooks
room_books s = s.books

-- the copy of this number is of the chunk, and so is the mark
abbrev pub IsCopyNumbered : ℕ → ℕ → SnapBooks → Type 0
IsCopyNumbered n c s = Any (λ p. (p.number ≡ n) × (p.pair.old ≡ c)) s.copies

abbrev pub IsMarkNumbered : ℕ → ℕ → SnapBooks → Type 0
IsMarkNumbered n c s = (place_of s.pairs c ≢ None) × Any (λ m. (m.number ≡ n) × (m.chunk ≡ c)) s.marks

-- the merge's copy is under way, or it is committed, and its buffer is back
abbrev pub IsMerging : ℕ → ℕ → RoomSnap → Type 0
IsMerging n c s = IsCopyNumbered n c s.books ⊎ ((s.spare ≡ true) × IsMarkNumbered n c s.books)

-- That copy is of one of the chunks that the merge wants, and each that stands behind it is saved, or a copy of it is under
-- way.
pub record MergesChunk (chunks : List ℕ) (n : ℕ) (s : RoomSnap) : Type 0 where
  pub index : ℕ
  pub within : index < length chunks
  pub mine : IsMerging n (slice_index_or chunks index 0) s
  pub later : (j : ℕ) → index < j → j < length chunks → IsSaving (slice_index_or chunks j 0) s.books

-- what a live snapshot keeps back for the chunks that a merge wants
pub record KeepsBack (chunks : List ℕ) (s : RoomSnap) : Type 0 where
  pub nodes : count_by (λ c. lacks_chunk c s.books) chunks ≤ s.kept_back
  pub spare : s.merging ≡ None → s.spare ≡ true
  pub merging : (n : ℕ) → s.merging ≡ Some n → MergesChunk chunks n s

-- for the pairs of a merge, whose chunks have so many sectors, on an origin of so many
abbrev pub KeepBack : ℕ → ℕ → List Pair → List RoomSnap → Type 0
KeepBack chunk sectors pairs snaps = All (λ s. s.books.live ≡ true → KeepsBack (touched_by s.books.chunk chunk sectors pairs) s) snaps

-- The pair that the merge takes up next: the live snapshots have published all chunks that later ones touch.
pub record ComesNext (chunk sectors : ℕ) (pairs : List Pair) (snaps : List SnapBooks) (q : Pair) : Type 0 where
  pub front : List Pair
  pub back : List Pair
  pub ends : pairs ≡ front ++ q ∷ back
  pub some : 0 < count_of chunk sectors q.old
  pub saved : All (IsSavedIn chunk sectors snaps) back

-- a copy for the merge can be started without memory
pub record CanMerge (s : RoomSnap) : Type 0 where
  pub some : 0 < s.kept_back
  pub spare : s.spare ≡ true
  pub idle : s.merging ≡ None

-- and is started
pub record StartsMerging (p : ChunkCopy) (s s' : RoomSnap) : Type 0 where
  pub start : StartsCopy p s.books s'.books
  pub kept_back : s'.kept_back + 1 ≡ s.kept_back
  pub spare : s'.spare ≡ false
  pub merging : s'.merging ≡ Some p.number

-- an event that leaves what is kept back
pub record SameRoom (s s' : RoomSnap) : Type 0 where
  pub kept_back : s'.kept_back ≡ s.kept_back
  pub spare : s'.spare ≡ s.spare
  pub merging : s'.merging ≡ s.merging

-- whether the merge's copy is one of these
abbrev pub is_among : Option ℕ → List ChunkCopy → Bool
is_among None copies = false
is_among (Some n) copies = list_any (λ p. p.number == n) copies

-- WriteArea of the first copies: the merge's copy gives its buffer back
pub record CommitsRoom (count : ℕ) (s s' : RoomSnap) : Type 0 where
  pub kept_back : s'.kept_back ≡ s.kept_back
  pub spare : s'.spare ≡ (s.spare || is_among s.merging (take count s.books.copies))
  pub merging : s'.merging ≡ s.merging

-- the merge's copy, but for one that is published now
abbrev pub unpublished : ℕ → Option ℕ → Option ℕ
unpublished n None = None
unpublished n (Some k) = if k == n then None else Some k

-- Publish of a mark
pub record PublishesRoom (m : Mark) (s s' : RoomSnap) : Type 0 where
  pub kept_back : s'.kept_back ≡ s.kept_back
  pub spare : s'.spare ≡ s.spare
  pub merging : s'.merging ≡ unpublished m.number s.merging
