-- To be believed: `run`'s output, a volume's steps or its attach are said in these words.
-- What a snapshot shows: each chunk that was copied from its place on the store, every other from the origin. The
-- kernel's admin-guide page on snapshots says so in words.
use Rattle.std.specs.Prelude.{◌≡◌, ◌==◌, ℕ, ◌+◌, ◌*◌, ◌/◌, ◌%◌, ◌<◌, List, [], ◌∷◌, length, Option, Some, None, if◌then◌else◌, slice_index, map}
use Rattle.std.specs.List.{range_with_len}
use Rattle.sector.specs.declared.pair.Pair.{Pair}
use Rattle.cow_format.specs.Pairs.{pairs_of}

-- the place of a chunk's copy, by the first of these pairs that names it
abbrev pub place_of : List Pair → ℕ → Option ℕ
place_of [] c = None
place_of (pair ∷ pairs) c = if pair.old == c then Some pair.new else place_of pairs c

-- byte i of the origin, or of the store's chunk that has its copy
abbrev pub byte_of : ℕ → List ℕ → List ℕ → ℕ → Option ℕ → ℕ
byte_of chunk origin store i None = slice_index origin i
byte_of chunk origin store i (Some n) = slice_index store (512 * (chunk * n) + i % (512 * chunk))

-- byte i of the picture by these pairs
abbrev pub picture_at : ℕ → List ℕ → List ℕ → List Pair → ℕ → ℕ
picture_at chunk origin store pairs i = byte_of chunk origin store i (place_of pairs (i / (512 * chunk)))

-- the picture: the array, as long as the origin, that the origin's bytes and the store's raw bytes stand for
unfoldable pub picture : ℕ → List ℕ → List ℕ → List ℕ
picture chunk origin store = map (picture_at chunk origin store (pairs_of chunk store)) (range_with_len 0 (length origin))

-- the front of a pair's new chunk is its old chunk, as long as that is
pub record IsCopied (chunk : ℕ) (origin store : List ℕ) (pair : Pair) : Type 0 where
  pub front : (i : ℕ) → i < length origin → i / (512 * chunk) ≡ pair.old → slice_index store (512 * (chunk * pair.new) + i % (512 * chunk)) ≡ slice_index origin i
