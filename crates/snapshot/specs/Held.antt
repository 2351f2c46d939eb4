-- What a snapshot keeps true of itself. This project's own.
use Rattle.std.specs.Prelude.{◌≡◌, ◌==◌, ℕ, ◌+◌, ◌*◌, ◌^◌, ◌<◌, ◌≤◌, not, Bool, true, false, List, [], ◌∷◌, length, map, Option, Some, None, MatchBool, vec_capacity}
use Rattle.std.specs.List.{All}
use Rattle.std.specs.Global.{Vec}
use Rattle.sector.specs.declared.pair.Pair.{Pair}
use Rattle.chunk.specs.Sizes.{is_chunk}
use Rattle.in_flight.specs.Copies.{count_of, pair_of}
use Rattle.in_flight.specs.declared.copies.ChunkCopy.{ChunkCopy}
use Rattle.in_flight.specs.declared.copies.Mark.{Mark}
use Rattle.store.specs.declared.state.Left.TheVariants.{Nothing}
use Rattle.store.specs.declared.state.State.{State}

-- a copy's buffer is as long as its chunk
pub record IsBuffered (chunk origin : ℕ) (p : ChunkCopy) : Type 0 where
  pub room : length p.buffer.items ≡ 512 * count_of chunk origin p.pair.old

-- while a snapshot is live and has so many copies, the area after the current one is zeroed only for some of them, whose
-- pairs fill the current one
abbrev pub IsAhead : Bool → State → ℕ → Type 0
IsAhead live s copies = live ≡ true → s.zeroed ≡ true → (0 < copies) × (32 * s.chunk ≤ s.filled + copies)

-- Its flags, its store's state, the pairs that the store began, its copies and its marks. A live one's store takes copies;
-- a spoiled one has none, and a mark fails only where it was tried. The store is marked invalid once the mark was written,
-- which is of a spoiled one, and was where the mark was tried and did not fail.
pub record IsSnapshot (live untried marked stale : Bool) (s : State) (begun : List Pair) (copies : List ChunkCopy) (marks : List Mark) : Type 0 where
  pub allowed : is_chunk s.chunk ≡ true
  pub ready : s.left ≡ Nothing
  pub copying : live ≡ true → s.copying ≡ true
  pub tried : live ≡ true → untried ≡ false
  pub sound : live ≡ true → stale ≡ false
  pub failed : stale ≡ true → untried ≡ false
  pub dead : marked ≡ true → live ≡ false
  pub written : live ≡ false → untried ≡ false → stale ≡ false → marked ≡ true
  pub valid : s.valid ≡ not marked
  pub agree : begun ≡ map pair_of copies
  pub buffers : All (IsBuffered s.chunk s.origin) copies
  pub idle : live ≡ false → copies ≡ []
  pub unmarked : live ≡ false → marks ≡ []
  pub ahead : IsAhead live s (length copies)

-- how many copies a merge can start that has its buffer, and how many marks it can still make: one of each at a time
abbrev pub copies_kept : Bool → ℕ
copies_kept true = 1
copies_kept false = 0

abbrev pub marks_kept : Bool → Option ℕ → ℕ
marks_kept true None = 1
marks_kept true (Some n) = 0
marks_kept false merging = 0

-- Its room: the store has reserved the pairs of requests and of a merge, and those beside them; no list grows where
-- a copy starts or is committed.
pub record HasRoom (room kept_back left reserved copies marks copies_capacity marks_capacity : ℕ) (spare : Bool) (merging : Option ℕ) : Type 0 where
  pub for_pairs : room + (kept_back + left) ≡ reserved
  pub counted : kept_back + left < 2 ^ 64
  pub for_copies : copies + (room + copies_kept spare) ≤ copies_capacity
  pub for_marks : marks + (copies + (room + marks_kept spare merging)) ≤ marks_capacity

-- the first copy of a number has so much room in its buffer
abbrev pub IsLent : ℕ → ℕ → List ChunkCopy → Type 0
IsLent room n [] = ⊥
IsLent room n (p ∷ ps) = MatchBool (p.number == n) (room ≤ vec_capacity p.buffer) (IsLent room n ps)

-- The buffer for a merge's copies has room for a chunk; the copy that a merge started has it, until it is committed.
pub record IsSpared (chunk : ℕ) (spare : Option (Vec ℕ)) (merging : Option ℕ) (copies : List ChunkCopy) : Type 0 where
  pub here : (buffer : Vec ℕ) → spare ≡ Some buffer → 512 * chunk ≤ vec_capacity buffer
  pub lent : (n : ℕ) → spare ≡ None → merging ≡ Some n → IsLent (512 * chunk) n copies
