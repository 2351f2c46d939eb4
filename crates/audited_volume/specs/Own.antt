-- To be believed: a block's clause is said in these words.
-- What a seat reads after a write of its own: what it wrote, or a later change of that. This project's own.
use Rattle.std.specs.Prelude.{◌≡◌, ◌⊎◌, ◌==◌, ◌&&◌, not, nat_lt, ℕ, ◌+◌, ◌-◌, ◌*◌, ◌<◌, ◌≤◌, Bool, true, false, List, ◌∷◌, ◌++◌, length, slice_index}
use Rattle.std.specs.List.{list_any}
use Rattle.plain_machine.specs.declared.request.Dev.{Dev}
use Rattle.plain_machine.specs.declared.request.Dev.TheVariants.{Origin, Snap}
use Rattle.plain_machine.specs.declared.request.Op.{Op}
use Rattle.plain_machine.specs.declared.request.Op.TheVariants.{Read, Write, Flush}
use Rattle.plain_machine.specs.declared.request.Reply.{Reply}
use Rattle.plain_machine.specs.declared.request.Reply.TheVariants.{Data, Written, Flushed, Refused}
use Rattle.audited_volume.specs.declared.entry.Answered.{Answered as AnsweredEntry}
use Rattle.audited_volume.specs.declared.entry.Entry.{Entry}
use Rattle.audited_volume.specs.declared.entry.Entry.TheVariants.{Answered, Spoiled, Overflowed, Attached, Detached, Begun, Finished}
use Rattle.audited_volume.specs.Entries.{entries_by}

-- A write that was done put this byte at a place of a device.
pub record HasPut (dev : Dev) (i byte : ℕ) (a : AnsweredEntry) : Type 0 where
  pub bytes : List ℕ
  pub dev_is : a.request.dev ≡ dev
  pub op_is : a.request.op ≡ Write bytes
  pub done : a.reply ≡ Written
  pub from : 512 * a.request.range.first ≤ i
  pub below : i < 512 * a.request.range.first + length bytes
  pub byte_is : byte ≡ slice_index bytes (i - 512 * a.request.range.first)

-- A read was answered with this byte of a place of a device.
pub record HasGot (dev : Dev) (i byte : ℕ) (a : AnsweredEntry) : Type 0 where
  pub bytes : List ℕ
  pub dev_is : a.request.dev ≡ dev
  pub reply_is : a.reply ≡ Data bytes
  pub from : 512 * a.request.range.first ≤ i
  pub below : i < 512 * (a.request.range.first + a.request.range.count)
  pub byte_is : byte ≡ slice_index bytes (i - 512 * a.request.range.first)

-- whether a place is among so many bytes from a sector on
abbrev pub has_place : ℕ → ℕ → ℕ → Bool
has_place first long i = not (nat_lt i (512 * first)) && nat_lt i (512 * first + long)

abbrev pub is_dev : Dev → Dev → Bool
is_dev Origin Origin = true
is_dev Origin (Snap n) = false
is_dev (Snap number) Origin = false
is_dev (Snap number) (Snap n) = n == number

-- whether a request that was answered so wrote a place of a device
abbrev pub puts : Dev → ℕ → Dev → Op → ℕ → Reply → Bool
puts dev i of (Write bytes) first Written = is_dev dev of && has_place first (length bytes) i
puts dev i of (Write bytes) first (Data read) = false
puts dev i of (Write bytes) first Flushed = false
puts dev i of (Write bytes) first (Refused failure) = false
puts dev i of Read first reply = false
puts dev i of Flush first reply = false

-- whether it is the snapshot of a number
abbrev pub is_snap : ℕ → Dev → Bool
is_snap n Origin = false
is_snap n (Snap number) = n == number

-- Whether an entry may change a byte of a device: a write of it; of the origin a merge that begins; of a snapshot that it is
-- taken, taken away, or begins to be merged.
abbrev pub changes : Dev → ℕ → Entry → Bool
changes dev i (Answered a) = puts dev i a.request.dev a.request.op a.request.range.first a.reply
changes dev i (Spoiled n) = false
changes dev i (Overflowed n) = false
changes dev i (Attached n array overflow fresh) = is_snap n dev
changes dev i (Detached n) = is_snap n dev
changes Origin i (Begun n) = true
changes (Snap number) i (Begun n) = n == number
changes dev i Finished = false

-- Two requests of a list of entries, one behind the other: each byte that the first wrote and the second read is the same, or an
-- entry between them may have changed it.
pub record Meets (first second : AnsweredEntry) (entries : List Entry) : Type 0 where
  pub front : List Entry
  pub between : List Entry
  pub back : List Entry
  pub order : entries ≡ front ++ (Answered first ∷ (between ++ (Answered second ∷ back)))
  pub meets : (dev : Dev) (i put got : ℕ) → HasPut dev i put first → HasGot dev i got second → (got ≡ put) ⊎ (list_any (changes dev i) between ≡ true)

-- So of each two requests of a seat, one behind the other.
abbrev pub MeetsOwn : ℕ → List Entry → Type 0
MeetsOwn seat entries = (before between after : List AnsweredEntry) (first second : AnsweredEntry) → entries_by seat entries ≡ before ++ (first ∷ (between ++ (second ∷ after))) → Meets first second entries
