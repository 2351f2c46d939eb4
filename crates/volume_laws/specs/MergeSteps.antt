-- What each event of a merge does to its books, and to what says which event of it is due. The store's bytes and the origin
-- disk's stand in the laws that say what is seen of the event.
use Rattle.std.specs.Prelude.{◌≡◌, ◌≢◌, ℕ, ◌+◌, ◌*◌, ◌-◌, ◌<◌, true, false, List, [], ◌∷◌, ◌++◌, Some, length}
use Rattle.sector.specs.declared.pair.Pair.{Pair}
use Rattle.volume_laws.specs.Books.{MergeBooks, Books, group_of}
use Rattle.volume_laws.specs.MergeDue.{DueMerge}

-- MergeGroup: the last pairs of the current area form the group
pub record FormsGroup (kept group : List Pair) (d d' : DueMerge) : Type 0 where
  pub running : d.failed ≡ false
  pub none : group_of d.books ≡ []
  pub some : group ≢ []
  pub ends : d.books.pairs ≡ kept ++ group
  pub books : d'.books ≡ record d.books { waiting = group }
  pub failed : d'.failed ≡ false
  pub flushed : d'.flushed ≡ false
  pub filled : d'.filled ≡ d.filled
  pub current : d'.current ≡ d.current

-- MergeRead: the chunk of the last waiting pair comes into the buffer
pub record ReadsBack (rest : List Pair) (q : Pair) (bytes : List ℕ) (d d' : DueMerge) : Type 0 where
  pub running : d.failed ≡ false
  pub last : d.books.waiting ≡ rest ++ q ∷ []
  pub empty : d.books.reading ≡ []
  pub books : d'.books ≡ record d.books { waiting = rest; reading = q ∷ []; buffer = bytes }
  pub failed : d'.failed ≡ false
  pub flushed : d'.flushed ≡ false
  pub filled : d'.filled ≡ d.filled
  pub current : d'.current ≡ d.current

-- MergeWrite: the buffered chunk is written to the origin disk
pub record WritesBack (q : Pair) (d d' : DueMerge) : Type 0 where
  pub running : d.failed ≡ false
  pub full : d.books.reading ≡ q ∷ []
  pub books : d'.books ≡ record d.books { reading = []; copied = q ∷ d.books.copied }
  pub failed : d'.failed ≡ false
  pub flushed : d'.flushed ≡ false
  pub filled : d'.filled ≡ d.filled
  pub current : d'.current ≡ d.current

-- MergeFlush: all chunks of the group are copied, and the origin is flushed
pub record FlushesBack (d d' : DueMerge) : Type 0 where
  pub running : d.failed ≡ false
  pub all_read : d.books.waiting ≡ []
  pub all_written : d.books.reading ≡ []
  pub some : d.books.copied ≢ []
  pub was : d.flushed ≡ false
  pub books : d'.books ≡ d.books
  pub failed : d'.failed ≡ false
  pub flushed : d'.flushed ≡ true
  pub filled : d'.filled ≡ d.filled
  pub current : d'.current ≡ d.current

-- MergeCommit: the area is written without the group's pairs
pub record CommitsGroup (kept : List Pair) (store : List ℕ) (d d' : DueMerge) : Type 0 where
  pub running : d.failed ≡ false
  pub all_read : d.books.waiting ≡ []
  pub all_written : d.books.reading ≡ []
  pub some : d.books.copied ≢ []
  pub ends : d.books.pairs ≡ kept ++ d.books.copied
  pub books : d'.books ≡ record d.books { store = store; pairs = kept; copied = []; released = d.books.copied ++ d.books.released }
  pub failed : d'.failed ≡ false
  pub filled : d'.filled + length d.books.copied ≡ d.filled
  pub current : d'.current ≡ d.current

-- no group is formed any more; the pairs that are not committed away stay
abbrev pub without_group : MergeBooks → MergeBooks
without_group m = record m { waiting = []; reading = []; copied = []; released = [] }

-- MergeRelease: the group ends, and held writes are routed again
pub record ReleasesGroup (d d' : DueMerge) : Type 0 where
  pub running : d.failed ≡ false
  pub some : d.books.released ≢ []
  pub books : d'.books ≡ without_group d.books
  pub failed : d'.failed ≡ false
  pub filled : d'.filled ≡ d.filled
  pub current : d'.current ≡ d.current

-- MergeAreaRead: the area before the current one, which is empty, is read in its place
pub record ReadsArea (d d' : DueMerge) : Type 0 where
  pub running : d.failed ≡ false
  pub none : group_of d.books ≡ []
  pub empty : d.filled ≡ 0
  pub before : 0 < d.current
  pub books : d'.books ≡ d.books
  pub failed : d'.failed ≡ false
  pub flushed : d'.flushed ≡ false
  pub filled : d'.filled ≡ 32 * d.books.chunk
  pub current : d'.current ≡ d.current - 1

-- a fault of one of the merge's own operations, which comes before the commit: the merge is failed, and its group ends
pub record FailsMerge (d d' : DueMerge) : Type 0 where
  pub running : d.failed ≡ false
  pub uncommitted : d.books.released ≡ []
  pub books : d'.books ≡ without_group d.books
  pub failed : d'.failed ≡ true
  pub filled : d'.filled ≡ d.filled
  pub current : d'.current ≡ d.current

-- a failed merge runs again
pub record Resumes (d d' : DueMerge) : Type 0 where
  pub was : d.failed ≡ true
  pub books : d'.books ≡ d.books
  pub failed : d'.failed ≡ false
  pub filled : d'.filled ≡ d.filled
  pub current : d'.current ≡ d.current

-- an origin write goes to its chunk's place on the merging store
pub record WritesStore (store : List ℕ) (d d' : DueMerge) : Type 0 where
  pub books : d'.books ≡ record d.books { store = store }
  pub failed : d'.failed ≡ d.failed
  pub flushed : d'.flushed ≡ d.flushed
  pub filled : d'.filled ≡ d.filled
  pub current : d'.current ≡ d.current

-- in a whole volume the merge changes, and of the rest at most the origin disk's bytes
pub record ChangesMerge (m m' : MergeBooks) (v w : Books) : Type 0 where
  pub was : v.merge ≡ Some m
  pub merge : w.merge ≡ Some m'
  pub sectors : w.sectors ≡ v.sectors
  pub loud : w.loud ≡ v.loud
  pub snaps : w.snaps ≡ v.snaps
  pub requests : w.requests ≡ v.requests
