-- To be believed: what `serve_commands` says of snapshots that nobody writes is said in these words.
-- A snapshot that was live as a session was opened, and of which the client wrote nothing since: in use, behind a stop, and merged. It is
-- what the kernel's admin-guide page on snapshots means by one of which the origin may change; the words are this project's own.
use Rattle.std.specs.Prelude.{◌≡◌, ◌||◌, ℕ, ◌<◌, Bool, true, false, List, [], ◌∷◌, Option, Some, None, Ok, Err, slice_get}
use Rattle.sector.specs.Bytes.{sector_at}
use Rattle.device.specs.Layers.{Layer}
use Rattle.cow_header.specs.declared.found.Found.{Found}
use Rattle.crash_laws.specs.Stop.{MayLeave}
use Rattle.plain_machine.specs.Plain.{Live, saved_under}
use Rattle.plain_machine.specs.Unwritten.{StillShows, writes}
use Rattle.plain_machine.specs.declared.request.Dev.{Dev}
use Rattle.snapshot.specs.Kept.{Kept}
use Rattle.volume.specs.Causes.{IsAt}
use Rattle.volume.specs.Layering.{Measures}
use Rattle.volume.specs.Volumed.{Volumed, is_loud_in_all, plain_of}
use Rattle.volume_lifetime.specs.Lasted.{LastsTaken}
use Rattle.volume_lifetime.specs.Lived.{Taken}
use Rattle.nbd_backend.specs.Calls.{Call, Choose, Submit, Step}
use Rattle.volume_nbd.specs.Served.{Served}
use Rattle.volume_nbd.specs.Submits.{op_of}
use Rattle.volume_opening.specs.Loaded.{IsLoaded}
use Rattle.volume_opening.specs.Merged.{IsMerged}

-- the device that is used behind these calls, the last of which stands first: the first one, or an export that was chosen
abbrev pub chosen_by : Bool → Option Dev → Dev → Dev
chosen_by false export before = before
chosen_by true None before = before
chosen_by true (Some dev) before = dev

abbrev pub used_after : List Dev → Dev → List Call → Dev
used_after exports first [] = first
used_after exports first (Choose place told ∷ calls) = chosen_by told (slice_get exports place) (used_after exports first calls)
used_after exports first (Submit work part told ∷ calls) = used_after exports first calls
used_after exports first (Step told ∷ calls) = used_after exports first calls

-- whether one of them took in a piece that writes the snapshot
abbrev pub is_given : ℕ → List Dev → Dev → List Call → Bool
is_given number exports first [] = false
is_given number exports first (Choose place told ∷ calls) = is_given number exports first calls
is_given number exports first (Submit work part (Ok taken) ∷ calls) = writes number (used_after exports first calls) (op_of work.kind work.count part) || is_given number exports first calls
is_given number exports first (Submit work part (Err refused) ∷ calls) = is_given number exports first calls
is_given number exports first (Step told ∷ calls) = is_given number exports first calls

-- Stores are loaded one after another, under these numbers.
abbrev pub AreLoaded : {B : Type 0} → (B → ℕ → List ℕ → Type 0) → Measures B → (B → List Layer) → (B → Bool) → List ℕ → Volumed B → Volumed B → Type 0
AreLoaded holds m layers failed [] old new = new ≡ old
AreLoaded {B} holds m layers failed (number ∷ numbers) old new =
    (mid : Volumed B) × (chunk : ℕ) × (overflow : Bool) × (store : B) × (found : Found) × IsLoaded holds m layers failed chunk overflow store number found old mid × AreLoaded holds m layers failed numbers mid new

-- Files with these bytes are opened: over an origin's a snapshot's store is loaded under this number, maybe behind others, and maybe
-- further ones.
pub record IsLoadedFrom {B : Type 0} (holds : B → ℕ → List ℕ → Type 0) (m : Measures B) (layers : B → List Layer) (failed : B → Bool) (origin store : List ℕ) (number : ℕ) (new : Volumed B) : Type 0 where
  pub old : Volumed B
  pub origin_is : m.contents old.origin ≡ origin
  pub device : B
  pub store_is : m.contents device ≡ store
  pub chunk : ℕ
  pub overflow : Bool
  pub found : Found
  pub loaded : Volumed B
  pub loads : IsLoaded holds m layers failed chunk overflow device number found old loaded
  pub others : List ℕ
  pub more : AreLoaded holds m layers failed others loaded new
  pub kept : is_loud_in_all layers new ≡ true

-- And then that snapshot is merged.
pub record IsMergedFrom {B : Type 0} (holds : B → ℕ → List ℕ → Type 0) (m : Measures B) (layers : B → List Layer) (failed : B → Bool) (origin store : List ℕ) (new : Volumed B) : Type 0 where
  pub number : ℕ
  pub opened : Volumed B
  pub from : IsLoadedFrom holds m layers failed origin store number opened
  pub merges : IsMerged holds m.contents layers m.size failed number opened new

-- Whatever a stop leaves of the origin's file and of the snapshot's, merged it gives its array back.
abbrev pub GivesBack : {B : Type 0} → (B → ℕ → List ℕ → Type 0) → Measures B → (B → List Layer) → (B → Bool) → Volumed B → Taken → Type 0
GivesBack holds m layers failed v t =
    (place : ℕ) (s : Kept _) → IsAt place s v → s.number ≡ t.number → s.live ≡ true → (o c : List ℕ) → MayLeave (holds v.origin) (m.size v.origin) o → MayLeave (holds s.device) (m.size s.device) c
    → (new : Volumed _) → IsMergedFrom holds m layers failed o c new → (n : ℕ) → n < m.size v.origin → sector_at (plain_of m.contents layers new).origin n ≡ sector_at t.array n

-- A snapshot shows the array that it showed, or is lost. While it is live, whatever a stop leaves of all files together is loaded again,
-- and shows that array in each sector; and once that is merged, so does the origin.
pub record StaysAs {B : Type 0} (holds : B → ℕ → List ℕ → Type 0) (m : Measures B) (layers : B → List Layer) (failed : B → Bool) (t : Taken) (v : Served B) : Type 0 where
  pub shows : StillShows t.number t.array (plain_of m.contents layers v.volume)
  pub lasts : LastsTaken holds m.size v.volume t
  pub undoes : GivesBack holds m layers failed v.volume t

-- All that these calls wrote nothing of stay so, while the files kept what they answered.
abbrev pub KeepsNow : {B : Type 0} → (B → ℕ → List ℕ → Type 0) → Measures B → (B → List Layer) → (B → Bool) → Served B → List Call → Served B → Type 0
KeepsNow holds m layers failed start calls v =
    (number : ℕ) (array : List ℕ) → saved_under number (plain_of m.contents layers start.volume).saved ≡ Some (Live array) → is_given number start.exports start.chosen calls ≡ false
    → is_loud_in_all layers v.volume ≡ true → StaysAs holds m layers failed (record { number = number; array = array }) v
