-- To be believed: `run`'s output, a volume's steps or its attach are said in these words.
-- The legal steps of the plain machine.
use Rattle.std.specs.Prelude.{◌≡◌, ◌≢◌, ◌⊎◌, ℕ, Bool, false, List, [], ◌∷◌, ◌++◌, Some, None}
use Rattle.sector.specs.declared.refusal.Refusal.{Refusal}
use Rattle.sector.specs.declared.refusal.Refusal.TheVariants.{Invalid, Overflow}
use Rattle.plain_machine.specs.declared.request.Dev.{Dev}
use Rattle.plain_machine.specs.declared.request.Dev.TheVariants.{Origin, Snap}
use Rattle.plain_machine.specs.declared.request.Op.{Op}
use Rattle.plain_machine.specs.declared.request.Op.TheVariants.{Read, Write, Flush}
use Rattle.plain_machine.specs.declared.request.Overflowing.{Overflowing}
use Rattle.plain_machine.specs.declared.request.Overflowing.TheVariants.{Never, May}
use Rattle.plain_machine.specs.declared.request.Request.{Request}
use Rattle.plain_machine.specs.declared.request.Reply.{Reply}
use Rattle.plain_machine.specs.declared.event.Event.{Event}
use Rattle.plain_machine.specs.declared.event.Event.TheVariants.{Issue}
use Rattle.plain_machine.specs.declared.event.Outcome.{Outcome}
use Rattle.plain_machine.specs.declared.event.Outcome.TheVariants.{Done, Fault, Reply as Replied}
use Rattle.plain_machine.specs.Plain.{Entry, Plain, Saved, Live, saved_under, without_saved, asked_under, without, spoiled, overflow_under, did_overflow, marked}
use Rattle.plain_machine.specs.Serves.{Serves}
use Rattle.plain_machine.specs.Kept.{kept}

-- these snapshots are spoiled, and nothing else changes: with none of them the event is silent
abbrev pub Spoils : List ℕ → Plain → Plain → Type 0
Spoils which old new = new ≡ spoiled which old

-- The request with this number is answered, and is in flight no more.
pub record IsAnswered (old : Plain) (number : ℕ) (reply : Reply) (new : Plain) : Type 0 where
  pub request : Request
  pub asked : asked_under number old.requests ≡ Some request
  pub gone : new.requests ≡ without number old.requests
  pub served : Serves old request.dev request.op request.range reply new

-- The request with this number is a flush of the origin beside a merge: the merging store is flushed for it, and then the
-- origin disk, by an Issue each.
pub record IsBegunFlush (number : ℕ) (old : Plain) : Type 0 where
  pub request : Request
  pub asked : asked_under number old.requests ≡ Some request
  pub origin : request.dev ≡ Origin
  pub flush : request.op ≡ Flush
  pub begun : old.begun ≢ None

-- An event that was due: only Issue replies, and it changes nothing else; every other event is silent or spoils. An Issue
-- that does not reply is the first of a flush of the origin beside a merge, and changes nothing.
abbrev pub IsLegalStep : Plain → Event → Outcome → Plain → Type 0
IsLegalStep old event (Replied number reply) new = (event ≡ Issue number) × IsAnswered old number reply new
IsLegalStep old (Issue number) Done new = (new ≡ old) × IsBegunFlush number old
IsLegalStep old (Issue number) Fault new = ⊥
IsLegalStep old event outcome new = (which : List ℕ) × Spoils which old new

-- A write found the full store of a live snapshot that may overflow: that one is marked, and nothing else changes.
pub record Overflows (number : ℕ) (old new : Plain) : Type 0 where
  pub array : List ℕ
  pub live : saved_under number old.saved ≡ Some (Live array)
  pub may : overflow_under number old.saved ≡ May
  pub becomes : new ≡ marked number old

-- whether it is a write of a snapshot whose store overflowed: such a snapshot takes none
abbrev pub is_shut : Dev → Op → List Entry → Bool
is_shut Origin op entries = false
is_shut (Snap number) Read entries = false
is_shut (Snap number) Flush entries = false
is_shut (Snap number) (Write bytes) entries = did_overflow (overflow_under number entries)

-- An accepted request is in flight under its number; snapshots whose stores were found full may be spoiled.
pub record IsSubmitted (which : List ℕ) (old : Plain) (number : ℕ) (request : Request) (new : Plain) : Type 0 where
  pub writable : is_shut request.dev request.op old.saved ≡ false
  pub becomes : new ≡ record old { saved = (spoiled which old).saved; requests = old.requests ++ record { number = number; request = kept request } ∷ [] }

-- What a write of a snapshot does that finds its store full: it spoils the snapshot and is refused with Invalid, or, of one
-- that may overflow, it marks it and is refused with Overflow.
abbrev pub IsFull : ℕ → Refusal → Plain → Plain → Type 0
IsFull number refusal old new =
    ((refusal ≡ Invalid) × (overflow_under number old.saved ≡ Never) × Spoils (number ∷ []) old new) ⊎ ((refusal ≡ Overflow) × Overflows number old new)

-- A refused request changes nothing, but for a write of a snapshot whose store is found full.
abbrev pub IsDeclined : Request → Refusal → Plain → Plain → Type 0
IsDeclined request refusal old new =
    (new ≡ old) ⊎ ((number : ℕ) × (bytes : List ℕ) × (request.dev ≡ Snap number) × (request.op ≡ Write bytes) × IsFull number refusal old new)

-- A snapshot is taken: of the origin as it is over a fresh store, or of what a written store makes of it. It may overflow, or
-- never does.
pub record IsTaken (old : Plain) (number : ℕ) (array : List ℕ) (overflow : Overflowing) (new : Plain) : Type 0 where
  pub strict : did_overflow overflow ≡ false
  pub becomes : new ≡ record old { saved = old.saved ++ record { number = number; saved = Live array; overflow = overflow } ∷ [] }

-- A snapshot is taken away, and no array changes.
pub record IsDetached (old : Plain) (number : ℕ) (new : Plain) : Type 0 where
  pub saved : Saved
  pub found : saved_under number old.saved ≡ Some saved
  pub becomes : new ≡ record old { saved = without_saved number old.saved }

-- A merge begins: the one assignment origin := snapshot.
pub record IsBegun (old : Plain) (number : ℕ) (new : Plain) : Type 0 where
  pub array : List ℕ
  pub found : saved_under number old.saved ≡ Some (Live array)
  pub alone : old.begun ≡ None
  pub becomes : new ≡ record old { origin = array; begun = Some number; saved = without_saved number old.saved }

-- The merged snapshot is taken away, and no array changes.
pub record IsFinished (old new : Plain) : Type 0 where
  pub number : ℕ
  pub merged : old.begun ≡ Some number
  pub becomes : new ≡ record old { begun = None }
