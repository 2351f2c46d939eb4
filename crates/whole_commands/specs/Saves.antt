-- To be believed: `run`'s output, a volume's steps or its attach are said in these words.
-- What saving one chunk of the origin leaves on a store: functions of whole lists of bytes, with no events, no holds and
-- no copies in flight. The format is that of dm-snap-persistent.c; that a spoiled store is marked is this project's rule.
use Rattle.std.specs.Prelude.{◌==◌, ℕ, ◌+◌, ◌*◌, ◌/◌, ◌%◌, Bool, true, false, List, [], ◌∷◌, ◌++◌, length, max, nat_lt, is_some, replicate, if◌then◌else◌}
use Rattle.sector.specs.Bytes.{with_part}
use Rattle.sector.specs.declared.pair.Pair.{Pair}
use Rattle.cow_format.specs.Slots.{pair_bytes}
use Rattle.cow_format.specs.Places.{chunk_at, area_place}
use Rattle.cow_format.specs.Pairs.{pairs_of}
use Rattle.cow_format.specs.NextPlace.{stepped}
use Rattle.cow_format.specs.Picture.{place_of}
use Rattle.cow_header.specs.HeaderText.{header_bytes}

-- the greatest new chunk of these pairs; 1, the place of area 0, without pairs
abbrev pub greatest : List Pair → ℕ
greatest [] = 1
greatest (pair ∷ pairs) = max pair.new (greatest pairs)

-- the place that is handed out next, while no copy is pending
abbrev pub next_of : ℕ → List Pair → ℕ
next_of chunk pairs = stepped chunk (greatest pairs + 1)

-- the pairs once chunk c is saved
abbrev pub pairs_after : ℕ → List Pair → ℕ → List Pair
pairs_after chunk pairs c = if is_some (place_of pairs c) then pairs else pairs ++ record { old = c; new = next_of chunk pairs } ∷ []

-- a store's bytes, and whether its snapshot is still live
pub record Saving : Type 0 where
  pub store : List ℕ
  pub live : Bool

-- the store with the header that says it is invalid
abbrev pub marked : ℕ → List ℕ → List ℕ
marked chunk store = with_part store 0 (header_bytes (512 * chunk) false chunk)

-- the snapshot is spoiled, and its store is marked
abbrev pub spoilt : ℕ → List ℕ → Saving
spoilt chunk store = record { store = marked chunk store; live = false }

-- the store with a copy of the origin's chunk c in its chunk n; a short last chunk is copied short
abbrev pub copied : ℕ → List ℕ → List ℕ → ℕ → ℕ → List ℕ
copied chunk origin store c n = with_part store (512 * (chunk * n)) (chunk_at chunk origin c)

-- the store with area a all zero
abbrev pub zeroed : ℕ → List ℕ → ℕ → List ℕ
zeroed chunk store a = with_part store (512 * (chunk * area_place chunk a)) (replicate (512 * chunk) 0)

-- the store with a pair in slot k, where the slots of all areas are counted on
abbrev pub paired : ℕ → List ℕ → ℕ → Pair → List ℕ
paired chunk store k pair =
    with_part store (512 * (chunk * area_place chunk (k / (32 * chunk))) + 16 * (k % (32 * chunk))) (pair_bytes pair)

-- The pair is committed to slot k. Where it fills its area, the next area is zeroed first; a store that lacks that area
-- is spoiled.
abbrev pub committed : ℕ → List ℕ → ℕ → Pair → Saving
committed chunk store k pair =
    if (k + 1) % (32 * chunk) == 0 then
    (if nat_lt (length store) (512 * (chunk * (area_place chunk ((k + 1) / (32 * chunk)) + 1))) then spoilt chunk store
    else record { store = paired chunk (zeroed chunk store ((k + 1) / (32 * chunk))) k pair; live = true })
    else record { store = paired chunk store k pair; live = true }

-- Chunk c of the origin is saved: nothing where the store has it; else it is copied to the next place and its pair is
-- committed. A store that is full is spoiled.
unfoldable pub saved : ℕ → List ℕ → List ℕ → ℕ → Saving
saved chunk origin store c =
    let pairs = pairs_of chunk store in
    let n = next_of chunk pairs in
    if is_some (place_of pairs c) then record { store = store; live = true }
    else (if nat_lt (length store) (512 * (chunk * (n + 1))) then spoilt chunk store
    else committed chunk (copied chunk origin store c n) (length pairs) (record { old = c; new = n }))
