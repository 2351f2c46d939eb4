-- To be believed: what `run` says of stops is said in these words.
-- Calls added up, on disks with caches: the values that a stop after a list of calls may leave in a sector of an array, and where
-- they come from. holds: what a device may hold in a sector after a stop. This project's own.
use Rattle.std.specs.Prelude.{◌≡◌, ◌⊎◌, ℕ, ◌<◌, Bool, true, false, List, [], ◌∷◌, Option, Some, None, map}
use Rattle.std.specs.List.{list_any}
use Rattle.sector.specs.Bytes.{sector_at}
use Rattle.plain_machine.specs.Plain.{InFlight}
use Rattle.plain_machine.specs.Unwritten.{writes, is_written}
use Rattle.in_flight.specs.Kinds.{in_flight}
use Rattle.crash_laws.specs.Stop.{MayLeave}
use Rattle.crash_laws.specs.Again.{IsOpen}
use Rattle.crash_laws.specs.Clauses.{Gives}
use Rattle.snapshot.specs.Kept.{Kept}
use Rattle.merge.specs.Merging.{Merging}
use Rattle.volume.specs.declared.calls.Call.{Call}
use Rattle.volume.specs.declared.calls.Call.TheVariants.{Submit, Step, Tick, Message as Tell, BeginMerge, ResumeMerge}
use Rattle.volume.specs.Causes.{IsAt}
use Rattle.volume.specs.Stopping.{given_in}
use Rattle.volume.specs.Volumed.{Volumed}

-- a value that a stop may leave in a sector of a live snapshot's array: some content of the origin disk and of its store shows it
pub record IsOpenSnap {B : Type 0} (holds : B → ℕ → List ℕ → Type 0) (size : B → ℕ) (v : Volumed B) (number s : ℕ) (x : List ℕ) : Type 0 where
  pub place : ℕ
  pub snap : Kept B
  pub at : IsAt place snap v
  pub mine : snap.number ≡ number
  pub live : snap.live ≡ true
  pub shows : IsOpen snap.state.chunk (holds v.origin) (holds snap.device) (size v.origin) (size snap.device) s x

-- some content of a disk that may be left has it
pub record IsLeftAt (holds : ℕ → List ℕ → Type 0) (size s : ℕ) (x : List ℕ) : Type 0 where
  pub bytes : List ℕ
  pub left : MayLeave holds size bytes
  pub is : x ≡ sector_at bytes s

-- and in one of the origin's array, over the merging store where a merge is begun
abbrev pub IsOpenOrigin : {B : Type 0} → (B → ℕ → List ℕ → Type 0) → (B → ℕ) → B → Option (Merging B) → ℕ → List ℕ → Type 0
IsOpenOrigin holds size origin None s x = IsLeftAt (holds origin) (size origin) s x
IsOpenOrigin holds size origin (Some m) s x = IsOpen m.state.chunk (holds origin) (holds m.device) (size origin) (size m.device) s x

-- in one of an array: the origin's (None), or that of the snapshot of a number
abbrev pub IsOpenIn : {B : Type 0} → (B → ℕ → List ℕ → Type 0) → (B → ℕ) → Volumed B → Option ℕ → ℕ → List ℕ → Type 0
IsOpenIn holds size v None s x = (s < size v.origin) × IsOpenOrigin holds size v.origin v.merge s x
IsOpenIn holds size v (Some number) s x = (s < size v.origin) × IsOpenSnap holds size v number s x

-- one of a list
abbrev pub IsSomeOf : {X : Type 0} → (X → Type 0) → List X → Type 0
IsSomeOf P [] = ⊥
IsSomeOf P (x ∷ xs) = P x ⊎ IsSomeOf P xs

-- a write that is in flight, or that a call submits, gives a value to a sector of an array
abbrev pub GivesAsked : Option ℕ → ℕ → List ℕ → InFlight → Type 0
GivesAsked array s x r = Gives (given_in (Some r.request)) array s x

abbrev pub GivesCall : Option ℕ → ℕ → List ℕ → Call → Type 0
GivesCall array s x (Submit request) = Gives (given_in (Some request)) array s x
GivesCall array s x call = ⊥

abbrev pub IsGiven : List InFlight → List Call → Option ℕ → ℕ → List ℕ → Type 0
IsGiven requests calls array s x = IsSomeOf (GivesAsked array s x) requests ⊎ IsSomeOf (GivesCall array s x) calls

-- An array's values come from itself; the origin's also from a snapshot that one of the calls begins to merge into it.
abbrev pub Merges : Option ℕ → Call → Type 0
Merges from (BeginMerge number) = from ≡ Some number
Merges from call = ⊥

abbrev pub ComesFrom : List Call → Option ℕ → Option ℕ → Type 0
ComesFrom calls array from = (from ≡ array) ⊎ ((array ≡ None) × IsSomeOf (Merges from) calls)

-- After some calls: the value was open before all of them, or a write gives it that was in flight then or that one of them submits.
pub record IsFrom {B : Type 0} (holds : B → ℕ → List ℕ → Type 0) (size : B → ℕ) (calls : List Call) (old : Volumed B) (array : Option ℕ) (s : ℕ) (x : List ℕ) : Type 0 where
  pub from : Option ℕ
  pub comes : ComesFrom calls array from
  pub is : IsOpenIn holds size old from s x ⊎ IsGiven (map in_flight old.flights) calls from s x

-- So is each value that is open for an array after them.
abbrev pub OpensOnly : {B : Type 0} → (B → ℕ → List ℕ → Type 0) → (B → ℕ) → List Call → Volumed B → Volumed B → Type 0
OpensOnly holds size calls old new = (array : Option ℕ) (s : ℕ) (x : List ℕ) → IsOpenIn holds size new array s x → IsFrom holds size calls old array s x

-- whether a call submits a write of that snapshot
abbrev pub is_write_of : ℕ → Call → Bool
is_write_of number (Submit request) = writes number request.dev request.op
is_write_of number (Step event) = false
is_write_of number (Tick seconds) = false
is_write_of number (Tell dev depth message) = false
is_write_of number (BeginMerge merged) = false
is_write_of number ResumeMerge = false

-- A live snapshot that none of the calls and no request in flight writes: a stop after them leaves in each sector of its array a
-- value that it might have left there before them.
abbrev pub OpensNoneUnwritten : {B : Type 0} → (B → ℕ → List ℕ → Type 0) → (B → ℕ) → List Call → Volumed B → Volumed B → Type 0
OpensNoneUnwritten holds size calls old new =
    (number : ℕ) → is_written number (map in_flight old.flights) ≡ false → list_any (is_write_of number) calls ≡ false → (s : ℕ) (x : List ℕ) → IsOpenIn holds size new (Some number) s x → IsOpenIn holds size old (Some number) s x
