-- To be believed: what `live` says of stops is said in these words.
-- Disks with caches: whatever a stop leaves after a list of deeds, the snapshots that were taken over fresh stores and not written
-- since are as they were taken. holds: what a device may hold in a sector after a stop. This project's own.
use Rattle.std.specs.Prelude.{◌≡◌, ◌⊎◌, ℕ, ◌<◌, Bool, true, List, [], ◌∷◌, Some, Ok, map}
use Rattle.sector.specs.Bytes.{sector_at}
use Rattle.device.specs.Layers.{Layer}
use Rattle.cow_format.specs.Picture.{picture}
use Rattle.plain_machine.specs.Plain.{Plain}
use Rattle.in_flight.specs.Kinds.{in_flight}
use Rattle.snapshot.specs.Kept.{Kept}
use Rattle.snapshot.specs.Opening.{shown_array}
use Rattle.snapshot.specs.declared.opening.StoreDev.{StoreDev}
use Rattle.crash_laws.specs.Stop.{MayLeave}
use Rattle.crash_laws.specs.Again.{LoadsAgain}
use Rattle.volume.specs.AddedUp.{GivesAsked, IsOpenIn, IsSomeOf}
use Rattle.volume.specs.Causes.{IsAt}
use Rattle.volume.specs.Layering.{Measures}
use Rattle.volume.specs.Volumed.{Volumed, plain_of}
use Rattle.volume_lifetime.specs.declared.deed.Deed.{Deed}
use Rattle.volume_lifetime.specs.declared.deed.Deed.TheVariants.{Attach}
use Rattle.volume_lifetime.specs.declared.deed.Done.{Done}
use Rattle.volume_lifetime.specs.declared.deed.Done.TheVariants.{Attached}
use Rattle.volume_lifetime.specs.Lived.{IsSeen, Taken, remembered}

-- Whatever a stop leaves of the origin's disk and of the store of a snapshot that is remembered: while it is live, its store is loaded
-- again, and shows in each sector what the origin showed when the snapshot was taken.
abbrev pub LastsTaken : {B : Type 0} → (B → ℕ → List ℕ → Type 0) → (B → ℕ) → Volumed B → Taken → Type 0
LastsTaken holds size v t =
    (place : ℕ) (s : Kept _) → IsAt place s v → s.number ≡ t.number → s.live ≡ true → (o c : List ℕ) → MayLeave (holds v.origin) (size v.origin) o → MayLeave (holds s.device) (size s.device) c
    → LoadsAgain s.state.chunk (size v.origin) (size s.device) c × ((n : ℕ) → n < size v.origin → sector_at (picture s.state.chunk o c) n ≡ sector_at t.array n)

abbrev pub LastAll : {B : Type 0} → (B → ℕ → List ℕ → Type 0) → (B → ℕ) → Volumed B → List Taken → Type 0
LastAll holds size v [] = Unit {0}
LastAll holds size v (t ∷ taken) = LastsTaken holds size v t × LastAll holds size v taken

-- all of these deeds with their answers, one after another; after each all that is remembered then lasts
abbrev pub IsLasting : {B : Type 0} → (B → ℕ → List ℕ → Type 0) → Measures B → (B → List Layer) → List Taken → List (Deed B) → List (Done B) → Volumed B → Volumed B → Type 0
IsLasting holds m layers taken [] [] old new = new ≡ old
IsLasting {B} holds m layers taken (deed ∷ deeds) (done ∷ dones) old new =
    (mid : Volumed B) × IsSeen m layers deed done old mid × LastAll holds m.size mid (remembered m.contents deed done (plain_of m.contents layers old) taken)
    × IsLasting holds m layers (remembered m.contents deed done (plain_of m.contents layers old) taken) deeds dones mid new
IsLasting holds m layers taken [] (done ∷ dones) old new = ⊥
IsLasting holds m layers taken (deed ∷ deeds) [] old new = ⊥

-- a deed takes a snapshot, of this array
pub record TakesAs {B : Type 0} (contents : B → List ℕ) (deed : Deed B) (done : Done B) (old : Plain) (number : ℕ) (array : List ℕ) : Type 0 where
  pub store : StoreDev B
  pub chunk : ℕ
  pub overflow : Bool
  pub attach : deed ≡ Attach store chunk overflow
  pub attached : done ≡ Attached (Ok number)
  pub shown : array ≡ shown_array old.origin (contents store.device)

-- One deed: no value is open for a live snapshot then but those that were, those that a write in flight gives, and of one that it
-- takes those of its array.
abbrev pub OpensByDeed : {B : Type 0} → (B → ℕ → List ℕ → Type 0) → Measures B → (B → List Layer) → Deed B → Done B → Volumed B → Volumed B → Type 0
OpensByDeed holds m layers deed done old new =
    (number s : ℕ) (x : List ℕ) → IsOpenIn holds m.size new (Some number) s x →
    IsOpenIn holds m.size old (Some number) s x ⊎ (IsSomeOf (GivesAsked (Some number) s x) (map in_flight old.flights) ⊎ ((array : List ℕ) × TakesAs m.contents deed done (plain_of m.contents layers old) number array × (x ≡ sector_at array s)))
