-- To be believed: the two arrays that a server of a store shows, and what it says to a client.
use Rattle.std.specs.Prelude.{◌≡◌, ℕ, zero, suc, ◌+◌, ◌*◌, ◌/◌, ◌<◌, ◌≤◌, ◌⊎◌, List, [], ◌∷◌, ◌++◌, length, slice_index, codes, Option, Some, None, Bool, false, true, IsTrue}
use Rattle.std.specs.Option.{is_some}
use Rattle.std.specs.Io.KnownBytes.{Appends}
use Rattle.sector.specs.declared.pair.Pair.{Pair}
use Rattle.cow_format.specs.Picture.{place_of}
use Rattle.cow_image.specs.Shown.{shown}
use Rattle.cow_image.specs.Fails.{ShownFails, ReadFails}
use Rattle.nbd_messages.specs.Replies.{greeting}
use Rattle.nbd_options.specs.declared.export.Export.{Export}
use Rattle.nbd_read_session.specs.Blocks.{Array}
use Rattle.nbd_read_session.specs.Talk.{Talk, Turn, beginning}

-- whether a byte lies in a chunk of which the store has a copy
abbrev pub has_copy : ℕ → List Pair → ℕ → Bool
has_copy chunk pairs i = is_some (place_of pairs (i / (512 * chunk)))

-- What is not marked need not be read where the origin is at hand: there the snapshot shows what the origin holds.
abbrev pub TellsChanges : (ℕ → Bool) → List ℕ → List ℕ → Type 0
TellsChanges marks snapshot origin = (i : ℕ) → i < length snapshot → marks i ≡ false → slice_index snapshot i ≡ slice_index origin i

-- the arrays, by their numbers: the snapshot's, and then the origin's; of both the same bytes are marked
abbrev pub arrays : List ℕ → List ℕ → (ℕ → Bool) → ℕ → Array
arrays snapshot origin marks zero = record { bytes = snapshot; marks = marks }
arrays snapshot origin marks (suc k) = record { bytes = origin; marks = marks }

-- An export of this name, of so many sectors. It is only read: of the flags, it has that there are flags, 1, that it is only read,
-- 2, that it takes FLUSH, 4, and that several connections show the same bytes, 256. The lengths of requests are not told. A client
-- may ask which bytes are marked, or may not.
abbrev pub IsExport : ℕ → Bool → List ℕ → Export → Type 0
IsExport size bitmap name export = (export.name.now ≡ name) × (export.size ≡ 512 * size) × (export.flags ≡ 263) × (export.blocks ≡ None) × (export.bitmap ≡ bitmap)

-- the two exports
abbrev pub AreExports : ℕ → List Export → Type 0
AreExports size exports = (first : Export) × (second : Export) × (exports ≡ first ∷ second ∷ []) × IsExport size true (codes "snapshot") first × IsExport size true (codes "origin") second

-- All that is written to a client of whom this was heard: the greeting, and the answers to the messages, where just these
-- reads may fail, and these bytes are marked, which tell what changed.
abbrev pub IsServedBy : (ℕ → ℕ → ℕ → Type 0) → ℕ → List ℕ → List ℕ → (ℕ → Bool) → List ℕ → Option (List ℕ) → Option (List ℕ) → Type 0
IsServedBy may_fail size snapshot origin marks heard old new =
    (exports : List Export) × AreExports size exports
    × (said : List ℕ) × (turns : List Turn) × Talk exports (arrays snapshot origin marks) may_fail beginning heard said turns × Appends old new (greeting ++ said)
    × TellsChanges marks snapshot origin

-- a read of an array may fail: past its end, or where a read of the images may
abbrev pub FailsAt : (ℕ → ℕ → Type 0) → (ℕ → ℕ → Type 0) → ℕ → List Pair → ℕ → ℕ → ℕ → ℕ → Type 0
FailsAt origin cow chunk pairs size zero at count = (512 * size < at + count) ⊎ ShownFails origin cow chunk pairs at count
FailsAt origin cow chunk pairs size (suc k) at count = (512 * size < at + count) ⊎ origin at count

-- A read of an array of a fresh store may fail: past its end, or where a read of some of the origin's bytes there may. Both
-- arrays are the origin.
abbrev pub FailsFresh : (ℕ → ℕ → Type 0) → ℕ → ℕ → ℕ → ℕ → Type 0
FailsFresh origin size export at count = (512 * size < at + count) ⊎ ((from : ℕ) × (n : ℕ) × (at ≤ from) × (from + n ≤ at + count) × ReadFails origin from n)

-- an array's bytes by pairs, where both images' bytes are known
abbrev pub known_shown : ℕ → List Pair → ℕ → Option (List ℕ) → Option (List ℕ) → Option (List ℕ)
known_shown chunk pairs size None store = None
known_shown chunk pairs size (Some origin) None = None
known_shown chunk pairs size (Some origin) (Some store) = Some (shown chunk origin store pairs 0 (512 * size))

abbrev pub known_marked : (ℕ → Bool) → Option (List ℕ) → Option Array
known_marked marks None = None
known_marked marks (Some bytes) = Some (record { bytes = bytes; marks = marks })

abbrev pub known_at : ℕ → List Pair → ℕ → Option (List ℕ) → Option (List ℕ) → ℕ → Option Array
known_at chunk pairs size origin store zero = known_marked (has_copy chunk pairs) (known_shown chunk pairs size origin store)
known_at chunk pairs size origin store (suc k) = known_marked (has_copy chunk pairs) origin

-- or where it is told, or may be told, that the images changed
abbrev pub OrChanged : Bool → Type 0 → (ℕ → ℕ → ℕ → Type 0) → ℕ → ℕ → ℕ → Type 0
OrChanged told may_change fails export at count = fails export at count ⊎ (IsTrue told ⊎ may_change)
