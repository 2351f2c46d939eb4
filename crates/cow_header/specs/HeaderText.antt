-- To be believed: `run`'s output, a volume's steps or its attach are said in these words.
-- What the first sector of a store says, and the text of a header: the format of dm-snap-persistent.c. The order of the
-- refusals, and that an invalid header is refused, are this project's own choice.
use Rattle.std.specs.Prelude.{◌≡◌, ◌≢◌, ◌==◌, ℕ, ◌-◌, List, ◌++◌, replicate, Bool, true, not, if◌then◌else◌, Result, Ok, Err}
use Rattle.sector.specs.Number.{number_at, number_bytes}
use Rattle.chunk.specs.Sizes.{is_chunk}
use Rattle.cow_header.specs.declared.found.Found.{Found}
use Rattle.cow_header.specs.declared.found.Found.TheVariants.{Fresh, Header}
use Rattle.sector.specs.declared.refusal.Refusal.{Refusal}
use Rattle.sector.specs.declared.refusal.Refusal.TheVariants.{BadHeader, BadVersion, BadChunk, Invalid}

-- the magic number, whose bytes are `SnAp`
abbrev pub magic_number : ℕ
magic_number = 0x70416e53

-- a sector of a header: magic number, valid mark, version, chunk size, four bytes each
pub record IsHeader (bytes : List ℕ) (mark version chunk : ℕ) : Type 0 where
  pub begins : number_at bytes 0 4 ≡ magic_number
  pub marked : number_at bytes 4 4 ≡ mark
  pub versioned : number_at bytes 8 4 ≡ version
  pub sized : number_at bytes 12 4 ≡ chunk

-- a sector of a fresh store
abbrev pub IsFresh : List ℕ → Type 0
IsFresh bytes = number_at bytes 0 4 ≡ 0

-- a sector of a store that may be loaded, whose chunks have so many sectors
abbrev pub IsGood : List ℕ → ℕ → Type 0
IsGood bytes chunk = (mark : ℕ) × (mark ≢ 0) × IsHeader bytes mark 1 chunk × (is_chunk chunk ≡ true)

-- the answer by the four numbers, the first that holds
abbrev pub found_by : ℕ → ℕ → ℕ → ℕ → Result Found Refusal
found_by magic mark version chunk =
    if magic == 0 then Ok Fresh
    else (if not (magic == magic_number) then Err BadHeader
    else (if not (version == 1) then Err BadVersion
    else (if not (is_chunk chunk) then Err BadChunk
    else (if mark == 0 then Err Invalid else Ok (Header chunk)))))

-- the answer for a first sector
abbrev pub found_in : List ℕ → Result Found Refusal
found_in bytes = found_by (number_at bytes 0 4) (number_at bytes 4 4) (number_at bytes 8 4) (number_at bytes 12 4)

-- the text of a chunk of so many bytes that is a header
unfoldable pub header_bytes : ℕ → Bool → ℕ → List ℕ
header_bytes length valid chunk =
    number_bytes 4 magic_number ++ (number_bytes 4 (if valid then 1 else 0) ++ (number_bytes 4 1 ++ (number_bytes 4 chunk ++ replicate (length - 16) 0)))
