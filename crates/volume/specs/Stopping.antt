-- What the devices of a volume may be left with where the machine stops before, after or within a call, while no device
-- drops writes. holds: what a device may hold in a sector after a stop, each sector by itself: what it held at its last flush, or
-- what was written since. This project's own; the bytes are those of dm-snap-persistent.c.
use Rattle.std.specs.Prelude.{◌≡◌, ◌⊎◌, ℕ, ◌<◌, true, List, Option, Some, None, length, slice_index_or}
use Rattle.sector.specs.Bytes.{sector_at}
use Rattle.sector.specs.declared.range.Range.{Range}
use Rattle.device.specs.Layers.{Layer}
use Rattle.cow_format.specs.Pairs.{pairs_of}
use Rattle.cow_format.specs.Picture.{place_of}
use Rattle.plain_machine.specs.declared.event.Event.{Event}
use Rattle.plain_machine.specs.declared.event.Event.TheVariants.{Issue}
use Rattle.plain_machine.specs.declared.request.Dev.{Dev}
use Rattle.plain_machine.specs.declared.request.Dev.TheVariants.{Origin, Snap}
use Rattle.plain_machine.specs.declared.request.Op.{Op}
use Rattle.plain_machine.specs.declared.request.Op.TheVariants.{Read, Write, Flush}
use Rattle.plain_machine.specs.declared.request.Request.{Request}
use Rattle.plain_machine.specs.Plain.{InFlight, asked_under}
use Rattle.crash_laws.specs.Stop.{MayLeave, Within}
use Rattle.crash_laws.specs.Again.{IsOpen}
use Rattle.crash_laws.specs.Clauses.{Held, Given, Gives, StopsSnap, StopsMerge, StopsDisk}
use Rattle.snapshot.specs.Kept.{Kept}
use Rattle.merge.specs.Due.{is_finished_of}
use Rattle.merge.specs.Merging.{Merging}
use Rattle.volume.specs.Volumed.{Volumed, is_loud_in_all}

-- the array that a request is of: a snapshot's, or the origin's
abbrev pub array_of : Dev → Option ℕ
array_of Origin = None
array_of (Snap number) = Some number

-- the write that a request does, and that of the request which an event issues
abbrev pub given_as : Dev → Range → Op → Option Given
given_as dev range Read = None
given_as dev range Flush = None
given_as dev range (Write bytes) = Some (record { array = array_of dev; first = range.first; count = range.count; bytes = bytes })

abbrev pub given_in : Option Request → Option Given
given_in None = None
given_in (Some request) = given_as request.dev request.range request.op

abbrev pub given_by : Event → List InFlight → Option Given
given_by (Issue number) requests = given_in (asked_under number requests)
given_by event requests = None

-- a snapshot, as far as stops speak of it
abbrev pub stopping_of : {B : Type 0} → Kept B → Held B
stopping_of s = record { number = s.number; live = s.live; untried = s.untried; stale = s.stale; device = s.device; chunk = s.state.chunk; pairs = s.pairs }

-- A finished merge that is not taken out: the origin disk by itself too is left with values that were open for the origin's array,
-- up to the call's own write.
abbrev pub StopsFinished : {B : Type 0} → (B → ℕ → List ℕ → Type 0) → (B → ℕ) → Option Given → ℕ → B → B → B → Type 0
StopsFinished holds size given chunk origin origin' store =
    (o : List ℕ) → MayLeave (Within (holds origin) (holds origin')) (size origin) o → (s : ℕ) → s < size origin → IsOpen chunk (holds origin) (holds store) (size origin) (size store) s (sector_at o s) ⊎ Gives given None s (sector_at o s)

-- A chunk that has no copy in any content which a store may be left with; and a call through which each such chunk stays one: no
-- pair comes back that surely was gone.
abbrev pub IsOut : {B : Type 0} → (B → ℕ → List ℕ → Type 0) → (B → ℕ) → ℕ → B → ℕ → Type 0
IsOut holds size chunk store c = (d : List ℕ) → MayLeave (holds store) (size store) d → place_of (pairs_of chunk d) c ≡ None

abbrev pub StaysOut : {B : Type 0} → (B → ℕ → List ℕ → Type 0) → (B → ℕ) → ℕ → B → B → Type 0
StaysOut holds size chunk store store' = (c : ℕ) → IsOut holds size chunk store c → IsOut holds size chunk store' c

-- the origin's array: over the merging store where a merge is begun, or else the origin disk itself
abbrev pub StopsOrigin : {B : Type 0} → (B → ℕ → List ℕ → Type 0) → (B → ℕ) → Option Given → B → B → Option (Merging B) → Option (Merging B) → Type 0
StopsOrigin holds size given origin origin' None after = StopsDisk holds size given origin origin'
StopsOrigin holds size given origin origin' (Some m) None = ⊥
StopsOrigin holds size given origin origin' (Some m) (Some m') =
    StopsMerge holds size given m.state.chunk origin origin' m.device m'.device × (is_finished_of m ≡ true → StopsFinished holds size given m.state.chunk origin origin' m.device) × StaysOut holds size m.state.chunk m.device m'.device

-- Every snapshot's store is loaded again with its array, and the origin with its own, whatever of the call is done, and whatever
-- of what was written since the last flush of a device is lost: each sector of an array holds a value that was open for it
-- before, or one that a write gives. A spoiled snapshot's store is refused, and while its mark is untried it may be.
pub record StopsVolume {B : Type 0} (holds : B → ℕ → List ℕ → Type 0) (size : B → ℕ) (given : Option Given) (old new : Volumed B) : Type 0 where
  pub snaps : (k : ℕ) (s t : Kept B) → k < length old.snaps → s ≡ slice_index_or old.snaps k s → t ≡ slice_index_or new.snaps k t → StopsSnap holds size given old.origin new.origin (stopping_of s) (stopping_of t)
  pub origin : StopsOrigin holds size given old.origin new.origin old.merge new.merge

-- The same where no device drops writes, of a moment between two operations; and of the moments before and after a call that
-- writes to no device of the volume.
abbrev pub StopsNow : {B : Type 0} → (B → ℕ → List ℕ → Type 0) → (B → List Layer) → (B → ℕ) → Volumed B → Type 0
StopsNow holds layers size v = is_loud_in_all layers v ≡ true → StopsVolume holds size None v v

abbrev pub StopsAround : {B : Type 0} → (B → ℕ → List ℕ → Type 0) → (B → List Layer) → (B → ℕ) → Volumed B → Volumed B → Type 0
StopsAround holds layers size old new = StopsNow holds layers size old × StopsNow holds layers size new
