-- To be believed: `live`'s clause is said in these words.
-- A volume's whole life as one list: what callers see of each deed by its answer, why, and what a merge gives back. The plain
-- machine and its steps are those of the kernel's admin-guide page on snapshots; the words here are this project's own.
use Rattle.std.specs.Prelude.{◌≡◌, ◌==◌, not, ℕ, ◌*◌, true, List, [], ◌∷◌, length, filter, None, Ok, Err, if◌then◌else◌}
use Rattle.device.specs.Layers.{Layer, is_loud}
use Rattle.plain_machine.specs.Plain.{Plain, overflow_of, saved_under}
use Rattle.plain_machine.specs.Legal.{IsBegun, IsDeclined, IsDetached, IsFinished, IsLegalStep, IsSubmitted, IsTaken}
use Rattle.plain_machine.specs.Unwritten.{writes}
use Rattle.plain_machine.specs.declared.request.Op.TheVariants.{Write}
use Rattle.in_flight.specs.Kinds.{kind_of}
use Rattle.snapshot.specs.Opening.{shown_array}
use Rattle.volume.specs.Causes.{HasCause, IsOneAtMost, lives_of}
use Rattle.volume.specs.Fresh.{is_fresh}
use Rattle.volume.specs.Layering.{Measures}
use Rattle.volume.specs.Stepping.{KeepsDevices}
use Rattle.volume.specs.Submitting.{lives_after}
use Rattle.volume.specs.Volumed.{Volumed, plain_of}
use Rattle.volume_lifetime.specs.declared.deed.Deed.{Deed}
use Rattle.volume_lifetime.specs.declared.deed.Deed.TheVariants.{Submit, Step, Tick, Tell, Attach, Detach, BeginMerge, ResumeMerge, FinishMerge}
use Rattle.volume_lifetime.specs.declared.deed.Done.{Done}
use Rattle.volume_lifetime.specs.declared.deed.Done.TheVariants.{Submitted, Stepped, Ticked, Told, Attached, Detached, Begun, Resumed, Finished}

-- what is asked of a deed: a write brings as many bytes as its range has
abbrev pub IsFitDeed : {B : Type 0} → Deed B → Type 0
IsFitDeed (Submit request) = (bytes : List ℕ) → request.op ≡ Write bytes → length bytes ≡ 512 * request.range.count
IsFitDeed deed = Unit {0}

-- a deed brings no device that drops writes
abbrev pub IsLoudDeed : {B : Type 0} → (B → List Layer) → Deed B → Type 0
IsLoudDeed layers (Attach store chunk overflow) = is_loud (layers store.device) ≡ true
IsLoudDeed layers deed = Unit {0}

-- What callers see of a deed, by its answer. A snapshot is taken under a number that no other has, while no request is in
-- flight. Of whatever is refused nothing is seen, but of a write that finds its store full. An answer of another deed is none.
abbrev pub Sees : {B : Type 0} → (B → List ℕ) → Deed B → Done B → Plain → Plain → Type 0
Sees contents (Submit request) (Submitted (Ok number)) old new = (which : List ℕ) × IsSubmitted which old number request new
Sees contents (Submit request) (Submitted (Err refusal)) old new = IsDeclined request refusal old new
Sees contents (Step event) (Stepped (Ok outcome)) old new = IsLegalStep old event outcome new
Sees contents (Step event) (Stepped (Err early)) old new = new ≡ old
Sees contents (Tick seconds) Ticked old new = new ≡ old
Sees contents (Tell dev depth message) (Told result) old new = new ≡ old
Sees contents (Attach store chunk overflow) (Attached (Ok number)) old new =
    (saved_under number old.saved ≡ None) × (old.requests ≡ []) × IsTaken old number (shown_array old.origin (contents store.device)) (overflow_of overflow) new
Sees contents (Attach store chunk overflow) (Attached (Err refused)) old new = new ≡ old
Sees contents (Detach number) (Detached (Ok store)) old new = IsDetached old number new
Sees contents (Detach number) (Detached (Err refusal)) old new = new ≡ old
Sees contents (BeginMerge number) (Begun (Ok done)) old new = IsBegun old number new
Sees contents (BeginMerge number) (Begun (Err refusal)) old new = new ≡ old
Sees contents ResumeMerge (Resumed result) old new = new ≡ old
Sees contents FinishMerge (Finished (Ok store)) old new = IsFinished old new
Sees contents FinishMerge (Finished (Err refusal)) old new = new ≡ old
Sees contents deed done old new = ⊥

-- Why: an event's outcome has its cause, and does one operation at most; an accepted request touches no device, and loses just
-- the snapshots whose stores were found full.
abbrev pub HasReason : {B : Type 0} → Measures B → Deed B → Done B → Volumed B → Volumed B → Type 0
HasReason m (Step event) (Stepped (Ok outcome)) old new = HasCause m.faults event outcome old new × IsOneAtMost m.done old new
HasReason m (Submit request) (Submitted (Ok number)) old new = (lives_of new ≡ lives_after (kind_of request) request.range.first old.merge old.snaps) × KeepsDevices old new
HasReason m deed done old new = Unit {0}

-- once a merge is taken out, what the origin shows stands on the disk itself
abbrev pub StandsOnDisk : {B : Type 0} → Measures B → (B → List Layer) → Deed B → Done B → Volumed B → Type 0
StandsOnDisk m layers FinishMerge (Finished (Ok store)) new = m.contents new.origin ≡ (plain_of m.contents layers new).origin
StandsOnDisk m layers deed done new = Unit {0}

-- a deed with its answer, where no device drops writes
pub record IsSeen {B : Type 0} (m : Measures B) (layers : B → List Layer) (deed : Deed B) (done : Done B) (old new : Volumed B) : Type 0 where
  pub sees : Sees m.contents deed done (plain_of m.contents layers old) (plain_of m.contents layers new)
  pub reason : HasReason m deed done old new
  pub disk : StandsOnDisk m layers deed done new

-- a snapshot that was taken over a fresh store and not written since, and what the origin showed when it was taken
pub record Taken : Type 0 where
  pub number : ℕ
  pub array : List ℕ

-- those of other numbers
abbrev pub others : ℕ → List Taken → List Taken
others number taken = filter (λ t. not (t.number == number)) taken

-- Those after a deed: one more where a snapshot is taken over a fresh store; one less where a write of it is accepted, where it
-- is taken away, and where its merge begins.
abbrev pub remembered : {B : Type 0} → (B → List ℕ) → Deed B → Done B → Plain → List Taken → List Taken
remembered contents (Attach store chunk overflow) (Attached (Ok number)) old taken = if is_fresh (contents store.device) then record { number = number; array = old.origin } ∷ taken else taken
remembered contents (Submit request) (Submitted (Ok number)) old taken = filter (λ t. not (writes t.number request.dev request.op)) taken
remembered contents (Detach number) (Detached (Ok store)) old taken = others number taken
remembered contents (BeginMerge number) (Begun (Ok done)) old taken = others number taken
remembered contents deed done old taken = taken

-- the origin shows what it showed when the snapshot of a number was taken, if that is one of these
abbrev pub ShowsTaken : ℕ → List ℕ → List Taken → Type 0
ShowsTaken number origin [] = Unit {0}
ShowsTaken number origin (t ∷ taken) = (t.number ≡ number → origin ≡ t.array) × ShowsTaken number origin taken

-- right after its merge begins the origin shows that
abbrev pub Undoes : {B : Type 0} → Measures B → (B → List Layer) → List Taken → Deed B → Done B → Volumed B → Type 0
Undoes m layers taken (BeginMerge number) (Begun (Ok done)) new = ShowsTaken number (plain_of m.contents layers new).origin taken
Undoes m layers taken deed done new = Unit {0}

-- all of these deeds with their answers, one after another
abbrev pub IsLived : {B : Type 0} → Measures B → (B → List Layer) → List Taken → List (Deed B) → List (Done B) → Volumed B → Volumed B → Type 0
IsLived m layers taken [] [] old new = new ≡ old
IsLived {B} m layers taken (deed ∷ deeds) (done ∷ dones) old new =
    (mid : Volumed B) × IsSeen m layers deed done old mid × Undoes m layers taken deed done mid
    × IsLived m layers (remembered m.contents deed done (plain_of m.contents layers old) taken) deeds dones mid new
IsLived m layers taken [] (done ∷ dones) old new = ⊥
IsLived m layers taken (deed ∷ deeds) [] old new = ⊥
