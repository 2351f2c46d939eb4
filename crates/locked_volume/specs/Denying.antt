-- Why a volume with a journal takes no request, and why it begins no merge, by what its entries say that it shows and by what stays
-- of it. The limits and the order of the refusals are this project's own; that a lost snapshot is Invalid, and that one whose store
-- overflowed takes no write, is the kernel's rule, of its admin-guide page on snapshots.
use Rattle.std.specs.Prelude.{◌≡◌, ◌≢◌, ◌⊎◌, ◌==◌, ◌≤◌, ℕ, ◌+◌, Bool, true, false, List, [], ◌∷◌, ◌++◌, length, Option, Some, None}
use Rattle.sector.specs.declared.refusal.Refusal.{Refusal}
use Rattle.sector.specs.declared.refusal.Refusal.TheVariants.{Invalid as IsInvalid, JournalFull, MergeInProgress, MergingSnapshot, NoMemory, NoSuchDevice, OutOfRange, Overflow, TooMany}
use Rattle.plain_machine.specs.Kept.{kept_range}
use Rattle.plain_machine.specs.Plain.{Invalid, is_in, overflow_under, saved_under, Shown}
use Rattle.plain_machine.specs.declared.request.Dev.{Dev}
use Rattle.plain_machine.specs.declared.request.Dev.TheVariants.{Origin, Snap}
use Rattle.plain_machine.specs.declared.request.Op.TheVariants.{Write}
use Rattle.plain_machine.specs.declared.request.Overflowing.TheVariants.{Did}
use Rattle.plain_machine.specs.declared.request.Request.{Request}
use Rattle.audited_volume.specs.declared.entry.Entry.{Entry}
use Rattle.audited_volume.specs.declared.entry.Entry.TheVariants.{Begun}
use Rattle.audited_volume.specs.Replay.{replay}
use Rattle.locked_volume.specs.Keeping.{Begins}
use Rattle.volume.specs.Submitting.{is_piece_of}
use Rattle.locked_volume.specs.Fixed.{Fixed, StaysFrom, piece_at}

-- what a seat asks of a volume: a request, or that the merge of the snapshot with a number begins
pub data Wish : Type 0 where
  Serve : (request : Request) → Wish
  Begin : (number : ℕ) → Wish

-- whether a number is that of the snapshot that is being merged, which stands with its chunk
abbrev pub is_merged : ℕ → Option (ℕ × ℕ) → Bool
is_merged number None = false
is_merged number (Some m) = m.0 == number

-- the number of the snapshot that is being merged
abbrev pub merged_number : Option (ℕ × ℕ) → Option ℕ
merged_number None = None
merged_number (Some m) = Some m.0

-- The entries say which snapshot is being merged, where no device ever dropped writes.
abbrev pub Agrees : Fixed → Shown → Type 0
Agrees g shown = g.loud ≡ true → shown.begun ≡ merged_number g.merged

-- There is no snapshot with a number.
abbrev pub IsMissing : Fixed → ℕ → Type 0
IsMissing g number = (is_merged number g.merged ≡ false) × (is_in g.numbers number ≡ false)

-- The snapshot with a number is lost: the arrays say so, where no device ever dropped writes.
abbrev pub IsLost : Fixed → Shown → ℕ → Type 0
IsLost g shown number = (is_merged number g.merged ≡ false) × (is_in g.numbers number ≡ true) × (g.loud ≡ true → saved_under number shown.saved ≡ Some Invalid)

-- A device takes no request. The origin takes each.
abbrev pub IsClosed : Fixed → Shown → Dev → Refusal → Type 0
IsClosed g shown Origin refusal = ⊥
IsClosed g shown (Snap number) refusal =
    ((refusal ≡ MergingSnapshot) × (is_merged number g.merged ≡ true)) ⊎ ((refusal ≡ NoSuchDevice) × IsMissing g number) ⊎ ((refusal ≡ IsInvalid) × IsLost g shown number)

-- It is a write of a snapshot whose store overflowed: the journal says so, where no device ever dropped writes.
abbrev pub IsShut : Fixed → Shown → Request → Type 0
IsShut g shown request =
    (number : ℕ) × (bytes : List ℕ) × (request.dev ≡ Snap number) × (request.op ≡ Write bytes)
    × (is_merged number g.merged ≡ false) × (is_in g.numbers number ≡ true) × (g.loud ≡ true → overflow_under number shown.saved ≡ Did)

-- A device takes requests: it is the origin, or a snapshot that is there, is not being merged and is not lost.
abbrev pub IsOpen : Fixed → Shown → Dev → Type 0
IsOpen g shown Origin = Unit {0}
IsOpen g shown (Snap number) =
    (is_merged number g.merged ≡ false) × (is_in g.numbers number ≡ true) × (g.loud ≡ true → saved_under number shown.saved ≢ Some Invalid)

-- A journal of so many entries may take none: of its 65,536 places those that were taken before it began, its entries, at most 64
-- requests in flight, and at most two that are kept for each of eight snapshots, leave none.
abbrev pub IsCrowded : Fixed → ℕ → Type 0
IsCrowded g count = 65_536 ≤ g.taken + count + 80

-- What is asked of a volume is denied, as it stands, by a reason that holds, with so many entries in its journal. (TooMany: 64
-- requests are in flight, or more than 256 copies would be pending.) Which reason comes first is said where the volume is asked.
abbrev pub IsDenied : Fixed → Shown → ℕ → Wish → Refusal → Type 0
IsDenied g shown count (Serve request) refusal =
    IsClosed g shown request.dev refusal
    ⊎ ((refusal ≡ Overflow) × IsShut g shown request)
    ⊎ ((refusal ≡ OutOfRange) × IsOpen g shown request.dev × (is_piece_of (piece_at g) g.sectors (kept_range request.op request.range) ≡ false))
    ⊎ ((refusal ≡ TooMany) × IsOpen g shown request.dev × (is_piece_of (piece_at g) g.sectors (kept_range request.op request.range) ≡ true))
    ⊎ ((refusal ≡ JournalFull) × IsCrowded g count)
IsDenied g shown count (Begin number) refusal =
    ((refusal ≡ MergeInProgress) × (g.merged ≢ None) × (IsMissing g number → ⊥))
    ⊎ ((refusal ≡ NoSuchDevice) × IsMissing g number)
    ⊎ ((refusal ≡ IsInvalid) × (g.merged ≡ None) × IsLost g shown number)
    ⊎ ((refusal ≡ JournalFull) × IsCrowded g count)

-- It was denied when the journal had these entries after those of the start, which are what its seat had seen then; or memory was
-- refused.
abbrev pub WasDenied : List Entry → Fixed → List Entry → Wish → Refusal → Type 0
WasDenied start fixed seen wish refusal =
    (refusal ≡ NoMemory)
    ⊎ ((g : Fixed) × StaysFrom fixed g × Agrees g (replay g.base (start ++ seen)) × IsDenied g (replay g.base (start ++ seen)) (length (start ++ seen)) wish refusal)

-- The merge of the snapshot with a number began, after all that its seat had seen before.
abbrev pub WasBegun : ℕ → List Entry → List Entry → Type 0
WasBegun number before seen = (front : List Entry) × Begins before front × (seen ≡ front ++ Begun number ∷ [])
