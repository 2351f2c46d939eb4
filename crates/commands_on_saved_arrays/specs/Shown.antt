-- To be believed: what commands do to what volumes show is said in these words.
-- How what is shown after a command compares with what was shown before. Volumes are told apart by their order.
use Rattle.std.specs.Prelude.{◌≡◌, ◌⊎◌, ℕ, ◌*◌, ◌<◌, true, List, [], ◌∷◌, length, slice_get, slice_set, take, Some, Result, Ok, Err}
use Rattle.std.specs.List.{remove}
use Rattle.sector.specs.Bytes.{with_sectors}
use Rattle.sector.specs.declared.refusal.Refusal.{Refusal}
use Rattle.sector.specs.declared.refusal.Refusal.TheVariants.{Invalid as InvalidRefusal, Io as IoRefusal, Overflow as OverflowRefusal}
use Rattle.plain_machine.specs.Plain.{Saved, Live, Invalid}
use Rattle.whole_commands.specs.Refusals.{is_starved}
use Rattle.command_semantics.specs.declared.place.Role.{Role}
use Rattle.command_semantics.specs.declared.place.Role.TheVariants.{Origin, Under, Snapshot, Store, Merging, MergingStore}
use Rattle.commands_on_saved_arrays.specs.Arrays.{Named, Arrays}

-- volume v shows something else, and every other what it showed
abbrev pub IsChangedAt : ℕ → (Arrays → Arrays → Type 0) → List Arrays → List Arrays → Type 0
IsChangedAt v how old new = (a : Arrays) × (b : Arrays) × (slice_get old v ≡ Some a) × how a b × (new ≡ slice_set old v b)

-- each snapshot shows what it showed, or is lost for good
abbrev pub AreKept : List Named → List Named → Type 0
AreKept [] [] = Unit {0}
AreKept [] (t ∷ ts) = ⊥
AreKept (s ∷ ss) [] = ⊥
AreKept (s ∷ ss) (t ∷ ts) = (t.name ≡ s.name) × ((t.saved ≡ s.saved) ⊎ (t.saved ≡ Invalid)) × AreKept ss ts

-- A merge went on: the origin shows what it showed, and snapshots may be lost.
pub record IsGoneOn (old new : Arrays) : Type 0 where
  pub name : new.name ≡ old.name
  pub array : new.array ≡ old.array
  pub snaps : AreKept old.snaps new.snaps

-- The merge of snapshot k began: the origin shows what that showed, which is none of the snapshots any more, and each other
-- snapshot shows what it showed.
pub record IsMergedBack (k : ℕ) (old new : Arrays) : Type 0 where
  pub snapshot : Named
  pub was : slice_get old.snaps k ≡ Some snapshot
  pub name : new.name ≡ old.name
  pub array : snapshot.saved ≡ Live new.array
  pub snaps : new.snaps ≡ remove old.snaps k

-- Bytes were written to the origin from this sector on; snapshots may be lost.
pub record IsOriginWritten (first : ℕ) (bytes : List ℕ) (old new : Arrays) : Type 0 where
  pub name : new.name ≡ old.name
  pub array : new.array ≡ with_sectors old.array first bytes
  pub snaps : AreKept old.snaps new.snaps

-- Nothing but what snapshot k shows has changed.
pub record IsSnapshotChanged (k : ℕ) (how : Saved → Saved → Type 0) (old new : Arrays) : Type 0 where
  pub snapshot : Named
  pub saved : Saved
  pub was : slice_get old.snaps k ≡ Some snapshot
  pub becomes : how snapshot.saved saved
  pub name : new.name ≡ old.name
  pub array : new.array ≡ old.array
  pub snaps : new.snaps ≡ slice_set old.snaps k (record { name = snapshot.name; saved = saved })

-- bytes were written to what is shown, from this sector on
abbrev pub IsSavedWritten : ℕ → List ℕ → Saved → Saved → Type 0
IsSavedWritten first bytes (Live array) new = new ≡ Live (with_sectors array first bytes)
IsSavedWritten first bytes Invalid new = ⊥

-- bytes were written to the origin or to a snapshot, whose role this is
abbrev pub IsWrittenTo : Role → ℕ → List ℕ → Arrays → Arrays → Type 0
IsWrittenTo Origin first bytes old new = IsOriginWritten first bytes old new
IsWrittenTo (Under depth) first bytes old new = ⊥
IsWrittenTo (Snapshot k) first bytes old new = IsSnapshotChanged k (IsSavedWritten first bytes) old new
IsWrittenTo (Store k depth) first bytes old new = ⊥
IsWrittenTo Merging first bytes old new = ⊥
IsWrittenTo (MergingStore depth) first bytes old new = ⊥

-- some first sectors of the bytes were, but not all
abbrev pub IsPartWrittenTo : Role → ℕ → List ℕ → Arrays → Arrays → Type 0
IsPartWrittenTo role first bytes old new = (count : ℕ) × (512 * count < length bytes) × IsWrittenTo role first (take (512 * count) bytes) old new

-- a write of a snapshot that is lost, or is lost by it
abbrev pub IsLostBy : Role → Arrays → Arrays → Type 0
IsLostBy Origin old new = ⊥
IsLostBy (Under depth) old new = ⊥
IsLostBy (Snapshot k) old new = IsSnapshotChanged k (λ before saved. saved ≡ Invalid) old new
IsLostBy (Store k depth) old new = ⊥
IsLostBy Merging old new = ⊥
IsLostBy (MergingStore depth) old new = ⊥

-- whether a write that is refused for this reason may leave some first sectors: a device failed, or its snapshot's store
-- overflowed, or memory or a journal's room was wanting
abbrev pub StopsWrite : Refusal → Type 0
StopsWrite refusal = (refusal ≡ IoRefusal) ⊎ (refusal ≡ OverflowRefusal) ⊎ (is_starved refusal ≡ true)

-- Why a write is refused: before it began, and nothing changed; or its snapshot is lost; or it stopped, and some first sectors
-- stand.
abbrev pub IsWriteRefused : Role → ℕ → List ℕ → Refusal → Arrays → Arrays → Type 0
IsWriteRefused role first bytes refusal old new =
    (new ≡ old) ⊎ ((refusal ≡ InvalidRefusal) × IsLostBy role old new) ⊎ (StopsWrite refusal × IsPartWrittenTo role first bytes old new)

-- a write, by its answer
abbrev pub IsWriteDone : Role → ℕ → List ℕ → Result (Unit {0}) Refusal → Arrays → Arrays → Type 0
IsWriteDone role first bytes (Ok answer) old new = IsWrittenTo role first bytes old new
IsWriteDone role first bytes (Err refusal) old new = IsWriteRefused role first bytes refusal old new
