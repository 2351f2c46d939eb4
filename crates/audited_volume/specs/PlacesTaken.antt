-- What a call notes in the journal. This project's own.
use Rattle.std.specs.Prelude.{◌≡◌, ◌≢◌, ◌⊎◌, nat_lt, ℕ, ◌+◌, ◌<◌, Bool, true, false, IfOk, List, [], ◌∷◌, ◌++◌, length, map, OnErr, Option, Some, None, Result, Ok, Err, slice_index_or}
use Rattle.plain_machine.specs.declared.event.Outcome.{Outcome}
use Rattle.plain_machine.specs.declared.event.Outcome.TheVariants.{Reply as Replied}
use Rattle.plain_machine.specs.Kept.{kept}
use Rattle.plain_machine.specs.Plain.{overflow_of}
use Rattle.plain_machine.specs.declared.request.Dev.TheVariants.{Snap}
use Rattle.plain_machine.specs.declared.request.Reply.{Reply}
use Rattle.plain_machine.specs.declared.request.Request.{Request}
use Rattle.std.specs.List.{remove}
use Rattle.sector.specs.declared.refusal.Refusal.{Refusal}
use Rattle.sector.specs.declared.refusal.Refusal.TheVariants.{JournalFull, NoMemory, Overflow}
use Rattle.device.specs.Layers.{Layer}
use Rattle.snapshot_list.specs.Finding.{place_of_snap}
use Rattle.volume.specs.Beginning.{IsNotBegun}
use Rattle.volume.specs.Submitting.{IsRefusedAs}
use Rattle.audited_volume.specs.declared.entry.Entry.{Entry}
use Rattle.audited_volume.specs.declared.entry.Entry.TheVariants.{Answered, Attached, Overflowed, Spoiled}
use Rattle.audited_volume.specs.declared.entry.Receipt.{Receipt}
use Rattle.audited_volume.specs.Books.{AuditShape, count_of}
use Rattle.audited_volume.specs.Entries.{answered_of}
use Rattle.audited_volume.specs.Noted.{kept_count}
use Rattle.audited_volume.specs.Replay.{replay}
use Rattle.audited_volume.specs.Seats.{seated_under, without_seated}

-- how many places are taken: before the audit began, by its entries, by each request in flight, which may come to one, by each
-- live snapshot, which may too, and by each of these whose store may still overflow, which may come to one more
abbrev pub places_of : {B : Type 0} → AuditShape B → ℕ
places_of a = a.taken + length a.entries + length a.held + kept_count a.lives a.may

-- whether so many more may be too many
abbrev pub is_full_by : {B : Type 0} → ℕ → AuditShape B → Bool
is_full_by more a = nat_lt 65_536 (places_of a + more)

-- what came of an event, without its receipt
abbrev pub outcome_in : {E : Type 0} → Result (Outcome × Option Receipt) E → Result Outcome E
outcome_in (Ok r) = Ok r.0
outcome_in (Err e) = Err e

-- nothing changes what the journal began with
pub record KeepsBase {B : Type 0} (old new : AuditShape B) : Type 0 where
  pub base : new.base ≡ old.base
  pub taken : new.taken ≡ old.taken
  pub loud : new.loud ≡ old.loud
  pub folded : new.folded ≡ old.folded

-- entries of spoiled snapshots alone are new
pub record OnlySpoils {B : Type 0} (old new : AuditShape B) : Type 0 where
  pub which : List ℕ
  pub entries : new.entries ≡ old.entries ++ map Spoiled which

-- the entry of a store that overflowed, by a write of this request, is new
pub record HasOverflowed {B : Type 0} (request : Request) (old new : AuditShape B) : Type 0 where
  pub number : ℕ
  pub dev : request.dev ≡ Snap number
  pub entries : new.entries ≡ old.entries ++ Overflowed number ∷ []

-- What is noted of a request that was refused: spoils alone, or, of the first write that found the full store of a snapshot that
-- may overflow, its mark alone.
pub record IsRefusalNoted {B : Type 0} (request : Request) (refusal : Refusal) (old new : AuditShape B) : Type 0 where
  pub held : new.held ≡ old.held
  pub noted : OnlySpoils old new ⊎ HasOverflowed request old new
  pub others : refusal ≢ Overflow → OnlySpoils old new

-- A reply to a seat's request under a number has one entry more, for which there is this receipt, and the request is in
-- flight no more. Its count is the seat's, with this entry.
pub record HasReceipt {B : Type 0} (seat number : ℕ) (reply : Reply) (r : Receipt) (old new : AuditShape B) : Type 0 where
  pub by : r.seat ≡ seat
  pub answer : r.reply ≡ reply
  pub asked : seated_under number old.held ≡ Some (record { number = number; seat = seat; request = r.request })
  pub gone : new.held ≡ without_seated number old.held
  pub count : r.count ≡ count_of seat old + 1
  pub added : new.entries ≡ old.entries ++ Answered (answered_of r) ∷ []

-- An event that gave no reply. A request that is issued and not answered yet stays its seat's.
pub record IsSilent {B : Type 0} (old new : AuditShape B) : Type 0 where
  pub held : new.held ≡ old.held
  pub spoils : OnlySpoils old new

-- what is noted of an event: a reply has a receipt, and nothing else has
abbrev pub IsNoted : {B : Type 0} → ℕ → Outcome → Option Receipt → AuditShape B → AuditShape B → Type 0
IsNoted seat (Replied number reply) (Some receipt) old new = HasReceipt seat number reply receipt old new
IsNoted seat (Replied number reply) None old new = ⊥
IsNoted seat outcome None old new = IsSilent old new
IsNoted seat outcome (Some receipt) old new = ⊥

-- What an event comes to, as one record: one that is done is noted as what came of it, one that is not changes nothing, and none
-- changes what the journal began with.
pub record IsApplied {B E : Type 0} (seat : ℕ) (result : Result (Outcome × Option Receipt) E) (old new : AuditShape B) : Type 0 where
  pub noted : IfOk result (λ r. IsNoted seat r.0 r.1 old new)
  pub base : KeepsBase old new
  pub err : OnErr result (new ≡ old)

-- a request is in flight for a seat, as it is kept
pub record IsHeld {B : Type 0} (seat number : ℕ) (request : Request) (old new : AuditShape B) : Type 0 where
  pub held : new.held ≡ old.held ++ record { number = number; seat = seat; request = kept request } ∷ []
  pub spoils : OnlySpoils old new

-- A call that was refused before the volume was asked: the journal is full, which comes first, or memory was refused.
abbrev pub IsBarred : {B : Type 0} → ℕ → Refusal → AuditShape B → AuditShape B → Type 0
IsBarred more refusal old new =
    (((is_full_by more old ≡ true) × (refusal ≡ JournalFull)) ⊎ ((is_full_by more old ≡ false) × (refusal ≡ NoMemory))) × (new ≡ old)

-- A request is refused: before the volume was asked, or as the volume says.
abbrev pub IsNotSubmitted : {B : Type 0} → (B → List ℕ) → (B → List Layer) → (B → ℕ) → Request → Refusal → AuditShape B → AuditShape B → Type 0
IsNotSubmitted contents layers size request refusal old new =
    IsBarred 1 refusal old new ⊎ ((is_full_by 1 old ≡ false) × IsRefusedAs contents layers size request refusal old.volume new.volume)

-- nothing but the volume changes
pub record KeepsJournal {B : Type 0} (old new : AuditShape B) : Type 0 where
  pub becomes : new ≡ record old { volume = new.volume }

-- why a call is refused that takes no memory: the journal is full, which comes first, or the volume refuses
abbrev pub IsUnchanged : Bool → Option Refusal → Refusal → Type 0
IsUnchanged full others refusal = ((full ≡ true) × (refusal ≡ JournalFull)) ⊎ ((full ≡ false) × (others ≡ Some refusal))

-- The snapshot with a number is none of those that are looked at any more, and this is noted.
pub record HasLeft {B : Type 0} (number : ℕ) (entry : Entry) (old new : AuditShape B) : Type 0 where
  pub place : ℕ
  pub found : place_of_snap number old.volume.snaps ≡ Some place
  pub becomes : new ≡ record old { volume = new.volume; entries = old.entries ++ entry ∷ []; lives = remove old.lives place; may = remove old.may place }

-- A merge does not begin: the journal is full, which comes first, and nothing changed; or as the volume says.
abbrev pub IsNotMerged : {B : Type 0} → ℕ → Refusal → AuditShape B → AuditShape B → Type 0
IsNotMerged number refusal old new =
    ((is_full_by 1 old ≡ true) × (refusal ≡ JournalFull) × (new ≡ old))
    ⊎ ((is_full_by 1 old ≡ false) × IsNotBegun number refusal old.volume new.volume × KeepsJournal old new)

-- how many places a snapshot takes: for its entry, and those that are kept free while it is live, and may overflow
abbrev pub places_for : Bool → ℕ
places_for true = 3
places_for false = 2

-- One snapshot more is looked at, which may overflow or never does, and what it shows is noted, and whether its store was fresh.
pub record HasTaken {B : Type 0} (number : ℕ) (wanted fresh : Bool) (old new : AuditShape B) : Type 0 where
  pub array : List ℕ
  pub becomes : new ≡ record old { volume = new.volume; entries = old.entries ++ Attached number array (overflow_of wanted) fresh ∷ []; lives = old.lives ++ true ∷ []; may = old.may ++ wanted ∷ []; loud = new.loud }

-- No snapshot is taken: the journal is full, which comes first, or there is no memory for the entry, and the store is as it was;
-- or as the volume says.
abbrev pub IsNotAttached : Bool → Refusal → Type 0 → Type 0 → Type 0
IsNotAttached full refusal same others =
    ((full ≡ true) × (refusal ≡ JournalFull) × same) ⊎ ((full ≡ false) × (((refusal ≡ NoMemory) × same) ⊎ others))

-- A checkpoint: no entry is left, and no place is taken by any that was before; the base is what the entries made of it where
-- no device ever dropped writes, and each seat's count is the same, all of it folded. Nothing else changes.
pub record IsCheckpoint {B : Type 0} (old new : AuditShape B) : Type 0 where
  pub becomes : new ≡ record old { base = new.base; taken = 0; entries = []; folded = new.folded }
  pub base : old.loud ≡ true → new.base ≡ replay old.base old.entries
  pub seats : length new.folded ≡ 9
  pub folded : (seat : ℕ) → seat < 9 → slice_index_or new.folded seat 0 ≡ count_of seat old
