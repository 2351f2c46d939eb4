-- To be believed: `run`'s output, a volume's steps or its attach are said in these words.
-- What attaching makes of a store: the format of dm-snap-persistent.c. The order of the refusals, that area 0 comes before
-- the header, that a tail is cleared, and that the pairs are tested at all, are this project's rules.
use Rattle.std.specs.Prelude.{◌==◌, ℕ, ◌+◌, ◌-◌, ◌*◌, ◌/◌, ◌%◌, Bool, true, ◌&&◌, ◌||◌, not, nat_lt, nat_le, List, [], ◌∷◌, length, replicate, Result, Ok, Err, if◌then◌else◌}
use Rattle.std.specs.List.{list_all, list_any}
use Rattle.sector.specs.Bytes.{with_part, sector_at}
use Rattle.sector.specs.declared.pair.Pair.{Pair}
use Rattle.sector.specs.declared.refusal.Refusal.{Refusal}
use Rattle.sector.specs.declared.refusal.Refusal.TheVariants.{StoreTooSmall, Damaged}
use Rattle.cow_format.specs.Places.{area_place, is_area_place}
use Rattle.cow_format.specs.Pairs.{pairs_of}
use Rattle.cow_format.specs.Picture.{picture}
use Rattle.cow_header.specs.HeaderText.{header_bytes, found_in}
use Rattle.cow_header.specs.declared.found.Found.{Found}
use Rattle.cow_header.specs.declared.found.Found.TheVariants.{Fresh, Header}
use Rattle.plain_machine.specs.Plain.{Live}
use Rattle.whole_commands.specs.Saves.{zeroed}
use Rattle.whole_commands.specs.Faultless.{Snap}

-- a fresh store: area 0 is zeroed, and then the header is written
unfoldable pub made : ℕ → List ℕ → List ℕ
made chunk store = with_part (zeroed chunk store 0) 0 (header_bytes (512 * chunk) true chunk)

-- a written store: in the area of the first empty slot all bytes after that slot are zero
unfoldable pub trimmed : ℕ → List ℕ → List ℕ
trimmed chunk store =
    let k = length (pairs_of chunk store) in
    with_part store (512 * (chunk * area_place chunk (k / (32 * chunk))) + 16 * (k % (32 * chunk) + 1))
    (replicate (512 * chunk - 16 * (k % (32 * chunk) + 1)) 0)

-- whether a pair's chunks are there: the old one begins inside the origin, and the new one lies wholly inside the store
-- and is neither the header nor an area's place
abbrev pub is_inside : ℕ → ℕ → ℕ → Pair → Bool
is_inside chunk origin store pair =
    nat_lt (chunk * pair.old) origin && nat_le (chunk * (pair.new + 1)) store && nat_lt 0 pair.new && not (is_area_place chunk pair.new)

-- whether two pairs have a chunk in common
abbrev pub is_shared : Pair → Pair → Bool
is_shared p q = (p.old == q.old) || (p.new == q.new)

-- whether no two pairs have a chunk in common
abbrev pub are_apart : List Pair → Bool
are_apart [] = true
are_apart (pair ∷ pairs) = not (list_any (is_shared pair) pairs) && are_apart pairs

-- whether a store of so many sectors may be loaded for an origin of so many: its pairs are well formed, and each full area
-- is followed by an area inside the store
unfoldable pub is_loadable : ℕ → ℕ → ℕ → List Pair → Bool
is_loadable chunk origin store pairs =
    list_all (is_inside chunk origin store) pairs && are_apart pairs && nat_le (chunk * (area_place chunk (length pairs / (32 * chunk)) + 1)) store

-- a store of less than two chunks
abbrev pub is_too_small : ℕ → List ℕ → Bool
is_too_small chunk store = nat_lt (length store) (512 * (2 * chunk))

-- the snapshot of a fresh store shows the origin
abbrev pub taken_fresh : ℕ → List ℕ → List ℕ → Result Snap Refusal
taken_fresh chunk array store =
    if is_too_small chunk store then Err StoreTooSmall else Ok (record { chunk = chunk; saved = Live array; store = made chunk store })

-- that of a written store shows the chunks that it has in place of the origin's
abbrev pub taken_written : ℕ → List ℕ → List ℕ → Result Snap Refusal
taken_written chunk array store =
    if is_too_small chunk store then Err StoreTooSmall
    else (if is_loadable chunk (length array / 512) (length store / 512) (pairs_of chunk store)
    then Ok (record { chunk = chunk; saved = Live (picture chunk array store); store = trimmed chunk store })
    else Err Damaged)

abbrev pub taken_as : ℕ → List ℕ → List ℕ → Result Found Refusal → Result Snap Refusal
taken_as chunk array store (Err refusal) = Err refusal
taken_as chunk array store (Ok Fresh) = taken_fresh chunk array store
taken_as chunk array store (Ok (Header own)) = taken_written own array store

-- The snapshot that is taken over a store with these raw bytes, of an origin that shows this array. Chunks are as large
-- as the header says, in a fresh store as the table line says.
unfoldable pub taken : ℕ → List ℕ → List ℕ → Result Snap Refusal
taken chunk array store = taken_as chunk array store (found_in (sector_at store 0))
