-- To be believed: `run`'s output, a volume's steps or its attach are said in these words.
-- What a reply says, and what it does to the arrays.
use Rattle.std.specs.Prelude.{◌≡◌, ℕ, List, Some}
use Rattle.sector.specs.Bytes.{sectors_at, with_sectors}
use Rattle.sector.specs.declared.range.Range.{Range}
use Rattle.plain_machine.specs.declared.request.Dev.{Dev}
use Rattle.plain_machine.specs.declared.request.Dev.TheVariants.{Origin, Snap}
use Rattle.plain_machine.specs.declared.request.Op.{Op}
use Rattle.plain_machine.specs.declared.request.Op.TheVariants.{Read, Write, Flush}
use Rattle.plain_machine.specs.declared.request.Reply.{Reply}
use Rattle.plain_machine.specs.declared.request.Reply.TheVariants.{Data, Written, Flushed, Refused}
use Rattle.plain_machine.specs.declared.request.Failure.TheVariants.{Invalid, Io, Overflow}
use Rattle.plain_machine.specs.Plain.{Plain, Live, Invalid as Spoilt, saved_under, with_saved}

-- no array changes
pub record SameArrays (old new : Plain) : Type 0 where
  pub origin : new.origin ≡ old.origin
  pub begun : new.begun ≡ old.begun
  pub saved : new.saved ≡ old.saved

-- the array that a device shows
abbrev pub Shows : Plain → Dev → List ℕ → Type 0
Shows plain Origin array = array ≡ plain.origin
Shows plain (Snap number) array = saved_under number plain.saved ≡ Some (Live array)

-- that one array changes, and no other
pub record WritesOrigin (old new : Plain) (array : List ℕ) : Type 0 where
  pub origin : new.origin ≡ array
  pub begun : new.begun ≡ old.begun
  pub saved : new.saved ≡ old.saved

pub record WritesSnap (number : ℕ) (old new : Plain) (array : List ℕ) : Type 0 where
  pub origin : new.origin ≡ old.origin
  pub begun : new.begun ≡ old.begun
  pub saved : new.saved ≡ with_saved number (Live array) old.saved

abbrev pub Assigns : Dev → Plain → Plain → List ℕ → Type 0
Assigns Origin old new array = WritesOrigin old new array
Assigns (Snap number) old new array = WritesSnap number old new array

-- a device that shows nothing any more
abbrev pub IsSpoilt : Plain → Dev → Type 0
IsSpoilt plain Origin = ⊥
IsSpoilt plain (Snap number) = saved_under number plain.saved ≡ Some Spoilt

-- a device that shows an array
abbrev pub IsShowing : Plain → Dev → Type 0
IsShowing plain dev = (array : List ℕ) × Shows plain dev array

-- A read answers the array's sectors. A write puts its bytes into that one array. A flush changes no array. Invalid is answered for a spoiled
-- snapshot alone, Io for a device that shows an array alone, and then no array changes. Overflow is answered to no request.
abbrev pub Serves : Plain → Dev → Op → Range → Reply → Plain → Type 0
Serves old dev Read range (Data bytes) new =
    SameArrays old new × ((array : List ℕ) × Shows old dev array × (bytes ≡ sectors_at array range.first range.count))
Serves old dev (Write bytes) range Written new =
    (array : List ℕ) × Shows old dev array × Assigns dev old new (with_sectors array range.first bytes)
Serves old dev Flush range Flushed new = SameArrays old new × IsShowing old dev
Serves old dev op range (Refused Io) new = SameArrays old new × IsShowing old dev
Serves old dev op range (Refused Invalid) new = SameArrays old new × IsSpoilt old dev
Serves old dev op range (Refused Overflow) new = ⊥
Serves old dev Read range Written new = ⊥
Serves old dev Read range Flushed new = ⊥
Serves old dev (Write bytes) range (Data read) new = ⊥
Serves old dev (Write bytes) range Flushed new = ⊥
Serves old dev Flush range (Data read) new = ⊥
Serves old dev Flush range Written new = ⊥
