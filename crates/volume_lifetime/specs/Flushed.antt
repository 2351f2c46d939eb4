-- To be believed: what `live` says of flushes is said in these words.
-- Disks with caches: what a stop may lose of each array, before, within or after each deed. An array is a snapshot's, by its number,
-- or the origin's (None). That a flush makes last what was written before it is what a volatile cache of a disk promises (the kernel's
-- documentation of block devices, writeback cache control); the words are this project's own.
use Rattle.std.specs.Prelude.{◌≡◌, ◌⊎◌, ◌==◌, not, ℕ, ◌<◌, Bool, true, false, List, [], ◌∷◌, ◌++◌, filter, map, Option, Some, None, Ok, if◌then◌else◌}
use Rattle.sector.specs.Bytes.{sector_at}
use Rattle.device.specs.Layers.{Layer}
use Rattle.cow_format.specs.Picture.{picture}
use Rattle.crash_laws.specs.Stop.{MayLeave, Within}
use Rattle.crash_laws.specs.Again.{LoadsAgain}
use Rattle.crash_laws.specs.Clauses.{Given, Gives}
use Rattle.plain_machine.specs.Plain.{InFlight, Live, Invalid, Plain, Saved, saved_under}
use Rattle.plain_machine.specs.declared.event.Event.{Event}
use Rattle.plain_machine.specs.declared.event.Event.TheVariants.{Issue}
use Rattle.plain_machine.specs.declared.event.Outcome.{Outcome}
use Rattle.plain_machine.specs.declared.event.Outcome.TheVariants.{Done as Silent, Reply as Replied}
use Rattle.plain_machine.specs.declared.request.Op.{Op}
use Rattle.plain_machine.specs.declared.request.Op.TheVariants.{Read, Write, Flush}
use Rattle.plain_machine.specs.declared.request.Reply.{Reply}
use Rattle.plain_machine.specs.declared.request.Reply.TheVariants.{Data, Written, Flushed as IsFlushed, Refused}
use Rattle.plain_machine.specs.declared.request.Request.{Request}
use Rattle.snapshot.specs.Kept.{Kept}
use Rattle.merge.specs.Due.{is_finished_of}
use Rattle.merge.specs.Merging.{Merging}
use Rattle.volume.specs.AddedUp.{IsSomeOf}
use Rattle.volume.specs.Causes.{IsAt}
use Rattle.volume.specs.Layering.{Measures}
use Rattle.volume.specs.Stopping.{array_of, given_in}
use Rattle.volume.specs.Volumed.{Volumed, plain_of}
use Rattle.volume_lifetime.specs.declared.deed.Deed.{Deed}
use Rattle.volume_lifetime.specs.declared.deed.Deed.TheVariants.{Submit, Step, Attach, BeginMerge}
use Rattle.volume_lifetime.specs.declared.deed.Done.{Done}
use Rattle.volume_lifetime.specs.declared.deed.Done.TheVariants.{Submitted, Stepped, Attached, Begun}
use Rattle.volume_lifetime.specs.Lived.{IsSeen}

-- An array that was made last: its bytes at the attach, or at the Issue of the flush (beside a merge an origin's flush has two, and
-- each sector is of one of them); and what was written of it since: by the writes that were in flight at the attach, or when the flush
-- was submitted, and by those that were accepted since.
pub record Flushed : Type 0 where
  pub array : Option ℕ
  pub bytes : List (List ℕ)
  pub since : List Given

-- what such a sector may be
abbrev pub Allows : Flushed → ℕ → List ℕ → Type 0
Allows f s x = IsSomeOf (λ b. x ≡ sector_at b s) f.bytes ⊎ IsSomeOf (λ g. Gives (Some g) g.array s x) f.since

abbrev pub is_same : Option ℕ → Option ℕ → Bool
is_same None None = true
is_same (Some a) (Some b) = a == b
is_same None (Some b) = false
is_same (Some a) None = false

-- with a write more, if it is one of this array
abbrev pub with_write : Option Given → Flushed → Flushed
with_write None f = f
with_write (Some g) f = if is_same g.array f.array then record f { since = g ∷ f.since } else f

abbrev pub with_writes : List InFlight → Flushed → Flushed
with_writes [] f = f
with_writes (r ∷ rs) f = with_write (given_in (Some r.request)) (with_writes rs f)

-- an array's bytes; none of a snapshot that is spoiled or is not there
abbrev pub bytes_of : Option Saved → List ℕ
bytes_of None = []
bytes_of (Some Invalid) = []
bytes_of (Some (Live array)) = array

abbrev pub array_in : Option ℕ → Plain → List ℕ
array_in None p = p.origin
array_in (Some number) p = bytes_of (saved_under number p.saved)

-- with the bytes of its array as they are
abbrev pub with_bytes : Plain → Flushed → Flushed
with_bytes p f = record f { bytes = array_in f.array p ∷ f.bytes }

-- an array at a moment, with the writes that are in flight then
abbrev pub noted_at : Option ℕ → Plain → Flushed
noted_at array p = with_writes p.requests (record { array = array; bytes = []; since = [] })

-- What was made to last; and what a flush in flight makes last once it is answered.
pub record Asked : Type 0 where
  pub number : ℕ
  pub will : Flushed

pub record History : Type 0 where
  pub made : List Flushed
  pub asked : List Asked

-- what is noted by its number
abbrev pub issued : ℕ → Plain → Asked → Asked
issued number p a = if a.number == number then record a { will = with_bytes p a.will } else a

abbrev pub of_number : ℕ → Asked → Bool
of_number number a = a.number == number

abbrev pub not_of : ℕ → Asked → Bool
not_of number a = not (a.number == number)

abbrev pub will_of : Asked → Flushed
will_of a = a.will

-- A flush that is answered makes its array last; one that is refused does not.
abbrev pub answered : ℕ → Reply → Plain → History → History
answered number IsFlushed p h = record { made = map will_of (filter (of_number number) (map (issued number p) h.asked)) ++ h.made; asked = filter (not_of number) h.asked }
answered number (Data bytes) p h = record h { asked = filter (not_of number) h.asked }
answered number Written p h = record h { asked = filter (not_of number) h.asked }
answered number (Refused failure) p h = record h { asked = filter (not_of number) h.asked }

-- a request that is accepted
abbrev pub more_write : Option Given → Asked → Asked
more_write given a = record a { will = with_write given a.will }

abbrev pub more_asked : Op → ℕ → Option ℕ → Plain → List Asked → List Asked
more_asked Flush number array p asked = record { number = number; will = noted_at array p } ∷ asked
more_asked Read number array p asked = asked
more_asked (Write bytes) number array p asked = asked

abbrev pub accepted : Request → ℕ → Plain → History → History
accepted request number p h = record {
  made = map (with_write (given_in (Some request))) h.made;
  asked = more_asked request.op number (array_of request.dev) p (map (more_write (given_in (Some request))) h.asked);
}

-- A merge begins: the origin is what its snapshot was.
abbrev pub is_of : Option ℕ → Flushed → Bool
is_of array f = is_same f.array array

abbrev pub is_not_of : Option ℕ → Flushed → Bool
is_not_of array f = not (is_same f.array array)

abbrev pub of_origin : Flushed → Flushed
of_origin f = record f { array = None }

abbrev pub handed : ℕ → List Flushed → List Flushed
handed number made = map of_origin (filter (is_of (Some number)) made) ++ filter (is_not_of None) made

-- An event: an Issue of a flush notes the bytes, also the first of two, which answers nothing.
abbrev pub stepped_on : Event → Outcome → Plain → History → History
stepped_on event (Replied number reply) p h = answered number reply p h
stepped_on (Issue number) Silent p h = record h { asked = map (issued number p) h.asked }
stepped_on event outcome p h = h

-- After a deed, with what the plain machine shows then. No snapshot has the number that a new one is given.
abbrev pub noted : {B : Type 0} → Deed B → Done B → Plain → History → History
noted (Submit request) (Submitted (Ok number)) p h = accepted request number p h
noted (Step event) (Stepped (Ok outcome)) p h = stepped_on event outcome p h
noted (Attach store chunk overflow) (Attached (Ok number)) p h = record h { made = with_bytes p (noted_at (Some number) p) ∷ with_bytes p (noted_at None p) ∷ filter (is_not_of (Some number)) h.made }
noted (BeginMerge number) (Begun (Ok done)) p h = record h { made = handed number h.made }
noted deed done p h = h

-- Whatever a stop leaves of a disk, and of a store, shows in each sector what is allowed.
abbrev pub ShowsDisk : (ℕ → List ℕ → Type 0) → ℕ → Flushed → Type 0
ShowsDisk origin_holds sectors f = (o : List ℕ) → MayLeave origin_holds sectors o → (s : ℕ) → s < sectors → Allows f s (sector_at o s)

abbrev pub ShowsOver : (ℕ → List ℕ → Type 0) → (ℕ → List ℕ → Type 0) → ℕ → ℕ → ℕ → Flushed → Type 0
ShowsOver origin_holds store_holds chunk sectors size f =
    (o c : List ℕ) → MayLeave origin_holds sectors o → MayLeave store_holds size c → (s : ℕ) → s < sectors → Allows f s (sector_at (picture chunk o c) s)

-- The origin's array: over the merging store where a merge is begun, and on the disk itself where none is, or it is finished.
abbrev pub LastsOrigin : {B : Type 0} → (B → ℕ → List ℕ → Type 0) → (B → ℕ) → Flushed → B → B → Option (Merging B) → Option (Merging B) → Type 0
LastsOrigin holds size f origin origin' None after = ShowsDisk (Within (holds origin) (holds origin')) (size origin) f
LastsOrigin holds size f origin origin' (Some m) None = ⊥
LastsOrigin holds size f origin origin' (Some m) (Some m') =
    ShowsOver (Within (holds origin) (holds origin')) (Within (holds m.device) (holds m'.device)) m.state.chunk (size origin) (size m.device) f
    × (is_finished_of m ≡ true → ShowsDisk (Within (holds origin) (holds origin')) (size origin) f)

-- and a live snapshot's, by its place
abbrev pub LastsArray : {B : Type 0} → (B → ℕ → List ℕ → Type 0) → (B → ℕ) → Flushed → Option ℕ → Volumed B → Volumed B → Type 0
LastsArray holds size f None old new = LastsOrigin holds size f old.origin new.origin old.merge new.merge
LastsArray holds size f (Some number) old new =
    (place : ℕ) (s t : Kept _) → IsAt place s old → IsAt place t new → s.number ≡ number → s.live ≡ true →
    ShowsOver (Within (holds old.origin) (holds new.origin)) (Within (holds s.device) (holds t.device)) s.state.chunk (size old.origin) (size s.device) f

abbrev pub LastAll : {B : Type 0} → (B → ℕ → List ℕ → Type 0) → (B → ℕ) → List Flushed → Volumed B → Volumed B → Type 0
LastAll holds size [] old new = Unit {0}
LastAll holds size (f ∷ made) old new = LastsArray holds size f f.array old new × LastAll holds size made old new

-- each live snapshot's store is loaded again, and so is the merging one
abbrev pub LoadsMerging : {B : Type 0} → (B → ℕ → List ℕ → Type 0) → (B → ℕ) → B → Option (Merging B) → Option (Merging B) → Type 0
LoadsMerging holds size origin None after = Unit {0}
LoadsMerging holds size origin (Some m) None = ⊥
LoadsMerging holds size origin (Some m) (Some m') = (c : List ℕ) → MayLeave (Within (holds m.device) (holds m'.device)) (size m.device) c → LoadsAgain m.state.chunk (size origin) (size m.device) c

pub record LoadAgain {B : Type 0} (holds : B → ℕ → List ℕ → Type 0) (size : B → ℕ) (old new : Volumed B) : Type 0 where
  pub snaps : (place : ℕ) (s t : Kept B) → IsAt place s old → IsAt place t new → s.live ≡ true → (c : List ℕ) → MayLeave (Within (holds s.device) (holds t.device)) (size s.device) c → LoadsAgain s.state.chunk (size old.origin) (size s.device) c
  pub merge : LoadsMerging holds size old.origin old.merge new.merge

-- A stop between a moment and another, between which one operation is done at most: all stores are loaded again, and each sector of
-- each array is what was made last, or what a write since gives.
pub record LosesNothing {B : Type 0} (holds : B → ℕ → List ℕ → Type 0) (size : B → ℕ) (made : List Flushed) (old new : Volumed B) : Type 0 where
  pub loads : LoadAgain holds size old new
  pub lasts : LastAll holds size made old new

-- within an event; no other deed does an operation, but an attach, which flushes the origin
abbrev pub LosesWithin : {B : Type 0} → (B → ℕ → List ℕ → Type 0) → (B → ℕ) → List Flushed → Deed B → Volumed B → Volumed B → Type 0
LosesWithin holds size made (Step event) old new = LosesNothing holds size made old new
LosesWithin holds size made deed old new = Unit {0}

-- all of these deeds with their answers, one after another: before each, within it, and after the last
abbrev pub LoseNothing : {B : Type 0} → (B → ℕ → List ℕ → Type 0) → Measures B → (B → List Layer) → History → List (Deed B) → List (Done B) → Volumed B → Volumed B → Type 0
LoseNothing holds m layers h [] [] old new = (new ≡ old) × LosesNothing holds m.size h.made old old
LoseNothing {B} holds m layers h (deed ∷ deeds) (done ∷ dones) old new =
    (mid : Volumed B) × IsSeen m layers deed done old mid × LosesNothing holds m.size h.made old old × LosesWithin holds m.size h.made deed old mid
    × LoseNothing holds m layers (noted deed done (plain_of m.contents layers mid) h) deeds dones mid new
LoseNothing holds m layers h [] (done ∷ dones) old new = ⊥
LoseNothing holds m layers h (deed ∷ deeds) [] old new = ⊥
