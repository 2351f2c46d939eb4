-- What the bytes are after an event of a merge, beside what it does to the merge's books.
use Rattle.std.specs.Prelude.{◌≡◌, ℕ, ◌+◌, ◌*◌, true, false, List, length, take}
use Rattle.std.specs.List.{All}
use Rattle.sector.specs.Bytes.{sectors_at, with_sectors}
use Rattle.sector.specs.declared.pair.Pair.{Pair}
use Rattle.cow_format.specs.Places.{area_place, ChangesOnly}
use Rattle.cow_format.specs.Pairs.{pairs_of, IsInside}
use Rattle.in_flight.specs.Copies.{count_of}
use Rattle.store.specs.Grouping.{run_at}
use Rattle.volume_laws.specs.Books.{MergeBooks}
use Rattle.volume_laws.specs.Steps.{WritesDisk}
use Rattle.merge.specs.declared.group.Group.{Group}
use Rattle.merge.specs.declared.group.Progress.TheVariants.{Open}
use Rattle.merge.specs.Merging.{Merging}

-- MergeRead: the front of the buffer is the chunk of a pair, as long as it is on the origin
pub record ReadsInto (q : Pair) (v w : MergeBooks) : Type 0 where
  pub read : take (512 * count_of v.chunk v.sectors q.old) w.buffer ≡ sectors_at v.store (v.chunk * q.new) (count_of v.chunk v.sectors q.old)
  pub sized : length w.buffer ≡ 512 * v.chunk

-- MergeWrite: that front is written to its place on the origin disk
pub record WritesOrigin (q : Pair) (origin origin' : List ℕ) (v : MergeBooks) : Type 0 where
  pub disk : WritesDisk (v.chunk * q.old) (count_of v.chunk v.sectors q.old) origin origin'
  pub written : v.loud ≡ true → sectors_at origin' (v.chunk * q.old) (count_of v.chunk v.sectors q.old) ≡ take (512 * count_of v.chunk v.sectors q.old) v.buffer

-- MergeCommit: area a is written, and the store has the pairs that are left
pub record WritesArea (a : ℕ) (v w : MergeBooks) : Type 0 where
  pub only : ChangesOnly v.chunk (area_place v.chunk a) v.store w.store
  pub stored : v.loud ≡ true → pairs_of v.chunk w.store ≡ w.pairs

-- a request writes at a place, `off` sectors from the chunk's beginning
pub record WritesPlaceOf (place off : ℕ) (bytes : List ℕ) (v w : MergeBooks) : Type 0 where
  pub only : ChangesOnly v.chunk place v.store w.store
  pub written : v.loud ≡ true → w.store ≡ with_sectors v.store (v.chunk * place + off) bytes

-- What is known of a merge whose group has chunks that wait, none of which is in the buffer.
pub record IsWaiting {B : Type 0} (g : Group) (m : Merging B) : Type 0 where
  pub running : m.failed ≡ false
  pub far : g.progress ≡ Open
  pub inside : All (IsInside m.state.chunk m.state.origin m.state.size) (run_at g.first 0 g.waiting)
  pub room : length m.buffer ≡ 512 * m.state.chunk
