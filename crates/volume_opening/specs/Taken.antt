-- What it means that a snapshot was taken over an empty store. This project's own; the bytes are those of dm-snap-persistent.c.
use Rattle.std.specs.Prelude.{◌≡◌, ℕ, Bool, true, false, List, [], ◌∷◌, None, Ok}
use Rattle.sector.specs.Bytes.{sector_at}
use Rattle.device.specs.Layers.{Layer, is_loud}
use Rattle.cow_format.specs.Picture.{picture}
use Rattle.cow_header.specs.HeaderText.{found_in}
use Rattle.cow_header.specs.declared.found.Found.TheVariants.{Fresh}
use Rattle.crash_laws.specs.Firm.{IsFirm}
use Rattle.whole_commands.specs.Loads.{made}
use Rattle.snapshot.specs.Kept.{Kept}
use Rattle.volume.specs.Volumed.{Volumed, is_loud_in_all}

-- A volume over this origin has one snapshot, over this store, and nothing in flight, as an attach to a volume without snapshots leaves it.
pub record IsOver {B : Type 0} (holds : B → ℕ → List ℕ → Type 0) (contents : B → List ℕ) (layers : B → List Layer) (size : B → ℕ) (chunk : ℕ) (origin store : B) (v : Volumed B) : Type 0 where
  pub one : (s : Kept B) × (v.snaps ≡ s ∷ [])
  pub alone : v.merge ≡ None
  pub quiet : v.flights ≡ []
  pub loud : is_loud_in_all layers v ≡ true → (is_loud (layers origin) ≡ true) × (is_loud (layers store) ≡ true)
  pub origin_is : contents v.origin ≡ contents origin
  pub origin_lasts : is_loud_in_all layers v ≡ true → IsFirm (holds v.origin) (contents v.origin) (size v.origin)
  pub store_is : is_loud_in_all layers v ≡ true → found_in (sector_at (contents store) 0) ≡ Ok Fresh → (s : Kept B) → v.snaps ≡ s ∷ [] → contents s.device ≡ made chunk (contents store)
  pub store_lasts : is_loud_in_all layers v ≡ true → (s : Kept B) → v.snaps ≡ s ∷ [] → IsFirm (holds s.device) (contents s.device) (size s.device)

-- A volume over this origin has one snapshot, over this store, and nothing in flight. Where its devices do all that they answer: the
-- store was empty, and has a header and an empty area now; the snapshot shows the origin, of which no byte has changed; and a stop
-- leaves of both nothing but what is there. No device left a write or a sync unanswered.
pub record IsTaken {B : Type 0} (holds : B → ℕ → List ℕ → Type 0) (contents : B → List ℕ) (layers : B → List Layer) (size : B → ℕ) (failed : B → Bool) (chunk : ℕ) (origin store : B) (v : Volumed B) : Type 0 where
  pub one : (s : Kept B) × (v.snaps ≡ s ∷ [])
  pub alone : v.merge ≡ None
  pub quiet : v.flights ≡ []
  pub answered : (failed v.origin ≡ false) × ((s : Kept B) → v.snaps ≡ s ∷ [] → failed s.device ≡ false)
  pub loud : is_loud_in_all layers v ≡ true → (is_loud (layers origin) ≡ true) × (is_loud (layers store) ≡ true)
  pub empty : is_loud_in_all layers v ≡ true → found_in (sector_at (contents store) 0) ≡ Ok Fresh
  pub origin_is : is_loud_in_all layers v ≡ true → contents v.origin ≡ contents origin
  pub origin_lasts : is_loud_in_all layers v ≡ true → IsFirm (holds v.origin) (contents v.origin) (size v.origin)
  pub store_is : is_loud_in_all layers v ≡ true → (s : Kept B) → v.snaps ≡ s ∷ [] → contents s.device ≡ made chunk (contents store)
  pub store_lasts : is_loud_in_all layers v ≡ true → (s : Kept B) → v.snaps ≡ s ∷ [] → IsFirm (holds s.device) (contents s.device) (size s.device)
  pub shown : is_loud_in_all layers v ≡ true → (s : Kept B) → v.snaps ≡ s ∷ [] → picture chunk (contents v.origin) (contents s.device) ≡ contents origin
