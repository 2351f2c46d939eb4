-- What lasts of a snapshot whose store drops no writes, over an origin disk, while not all of it is flushed. holds: what a device
-- may hold in a sector after a stop. This project's own; the bytes are those of dm-snap-persistent.c.
use Rattle.std.specs.Prelude.{◌≡◌, ℕ, ◌<◌, true, false, List, length, slice_index_or}
use Rattle.sector.specs.declared.pair.Pair.{Pair}
use Rattle.device.specs.Layers.{Layer, is_loud}
use Rattle.cow_format.specs.Pairs.{pairs_of, AreWellFormed}
use Rattle.in_flight.specs.declared.copies.ChunkCopy.{ChunkCopy}
use Rattle.in_flight.specs.declared.copies.Stage.TheVariants.{Flushed}
use Rattle.cache_loss_laws.specs.Kept.{Kept as Lost, IsThere, SnapLasts, SnapRefused}
use Rattle.snapshot.specs.Kept.{Kept}

-- the pair of a copy that was written and flushed
pub record IsReady (copies : List ChunkCopy) (q : Pair) : Type 0 where
  pub index : ℕ
  pub copy : ChunkCopy
  pub within : index < length copies
  pub is : copy ≡ slice_index_or copies index copy
  pub flushed : copy.stage ≡ Flushed
  pub pair : copy.pair ≡ q

-- a snapshot of an origin disk, as far as losses speak of it
abbrev pub lost_of : {B : Type 0} → (B → ℕ) → B → Kept B → Lost
lost_of size origin s = record {
  chunk = s.state.chunk;
  sectors = size origin;
  size = size s.device;
  current = s.state.current;
  zeroed = s.state.zeroed;
  firm = s.state.firm;
  marked = s.marked;
  pairs = s.pairs;
  sure = s.state.sure;
}

-- what a volume's own facts say of it, over what is there, and what lasts of it
abbrev pub IsThereOn : {B : Type 0} → (B → ℕ → List ℕ → Type 0) → (B → List ℕ) → (B → ℕ) → B → Kept B → Type 0
IsThereOn holds contents size origin s = IsThere (holds origin) (holds s.device) (contents origin) (contents s.device) (IsReady s.copies) (lost_of size origin s)

abbrev pub SnapLastsOn : {B : Type 0} → (B → ℕ → List ℕ → Type 0) → (B → List ℕ) → (B → ℕ) → B → Kept B → Type 0
SnapLastsOn holds contents size origin s = SnapLasts (holds origin) (holds s.device) (contents origin) (contents s.device) (IsReady s.copies) (lost_of size origin s)

-- Where neither the origin's device nor its store drops writes, its array lasts while it is live, or spoiled with its mark
-- untried; and once the mark was tried and did not fail, it is refused.
pub record SnapLasting {B : Type 0} (holds : B → ℕ → List ℕ → Type 0) (contents : B → List ℕ) (layers : B → List Layer) (size : B → ℕ) (origin : B) (s : Kept B) : Type 0 where
  pub unmarked : s.live ≡ true → s.marked ≡ false
  pub formed : AreWellFormed s.state.chunk (size origin) (size s.device) s.pairs
  pub listed : is_loud (layers s.device) ≡ true → pairs_of s.state.chunk (contents s.device) ≡ s.pairs
  pub live : is_loud (layers origin) ≡ true → is_loud (layers s.device) ≡ true → s.live ≡ true → SnapLastsOn holds contents size origin s
  pub untried : is_loud (layers origin) ≡ true → is_loud (layers s.device) ≡ true → s.live ≡ false → s.untried ≡ true → SnapLastsOn holds contents size origin s
  pub tried : is_loud (layers origin) ≡ true → is_loud (layers s.device) ≡ true → s.live ≡ false → s.untried ≡ false → s.stale ≡ false → SnapRefused (holds s.device)
