-- To be believed: what an origin and its store hold while another program writes them, and how a writer saves what it overwrites.
-- The kernel's admin-guide page on snapshots says so in words: a chunk is copied to the store before the first write to it.
use Rattle.std.specs.Prelude.{◌≡◌, ℕ, ◌+◌, ◌*◌, ◌/◌, ◌%◌, ◌<◌, ◌≤◌, List, length, take, slice_index, Option, None, Some, Ok}
use Rattle.sector.specs.Bytes.{sector_at}
use Rattle.cow_header.specs.HeaderText.{found_in}
use Rattle.cow_header.specs.declared.found.Found.TheVariants.{Header}
use Rattle.cow_format.specs.Pairs.{pairs_of}
use Rattle.cow_format.specs.Picture.{place_of}

-- both files at one moment
pub record Files : Type 0 where
  pub origin : List ℕ
  pub store : List ℕ

-- what is known of all moments of two files does not change
abbrev pub SamePast : {S : Type 0} → (S → Option (ℕ → Files)) → S → S → Type 0
SamePast history old new = history new ≡ history old

-- Each byte was read at a moment of its own, from one to another: a read of many bytes may see a write in part.
abbrev pub AreRead : (ℕ → List ℕ) → ℕ → ℕ → ℕ → List ℕ → Type 0
AreRead file first last at bytes = (i : ℕ) → i < length bytes → (m : ℕ) × (first ≤ m) × (m ≤ last) × (slice_index bytes i ≡ slice_index (file m) (at + i))

-- a sector was read at one moment
abbrev pub IsReadOnce : (ℕ → List ℕ) → ℕ → ℕ → ℕ → List ℕ → Type 0
IsReadOnce file first last sector bytes = (m : ℕ) × (first ≤ m) × (m ≤ last) × (bytes ≡ sector_at (file m) sector)

-- the header is a good one, which that of a lost snapshot is not
abbrev pub IsLive : ℕ → Files → Type 0
IsLive chunk files = found_in (sector_at files.store 0) ≡ Ok (Header chunk)

-- What a writer does to both files that saves first, and neither merges the snapshot nor writes it.
pub record IsSavedFirst (chunk : ℕ) (before after : Files) : Type 0 where
  -- pairs are added behind those that there are
  pub grows : take (length (pairs_of chunk before.store)) (pairs_of chunk after.store) ≡ pairs_of chunk before.store
  -- the copies that there are stay
  pub stays : (c p i : ℕ) → place_of (pairs_of chunk before.store) c ≡ Some p → i < 512 * chunk → slice_index after.store (512 * (chunk * p) + i) ≡ slice_index before.store (512 * (chunk * p) + i)
  -- a new copy has what the origin held
  pub copied : (i p : ℕ) → i < length before.origin → place_of (pairs_of chunk before.store) (i / (512 * chunk)) ≡ None → place_of (pairs_of chunk after.store) (i / (512 * chunk)) ≡ Some p → slice_index after.store (512 * (chunk * p) + i % (512 * chunk)) ≡ slice_index before.origin i
  -- where the origin has changed there is a copy
  pub saved : (i : ℕ) → place_of (pairs_of chunk after.store) (i / (512 * chunk)) ≡ None → slice_index after.origin i ≡ slice_index before.origin i

-- A writer that saves first, or marks the header: it does so before it writes what it could not save, and the mark stays.
abbrev pub IsSaving : ℕ → (ℕ → Files) → Type 0
IsSaving chunk files = (before after : ℕ) → before ≤ after → IsLive chunk (files after) → IsLive chunk (files before) × IsSavedFirst chunk (files before) (files after)
