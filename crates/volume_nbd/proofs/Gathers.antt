-- The events of a batch that is of no requests.
use Rattle.std.proofs.Common.{◌≡◌, ◌≢◌, ℕ, List, refl}
use Rattle.std.specs.List.{flat_map}
use Rattle.device.specs.Layers.{Layer}
use Rattle.group_commit.specs.declared.rounds.Batch.{Batch}
use Rattle.group_commit.specs.declared.rounds.Batch.TheVariants.{Issues, Reads, Writes, Flushes, Publications, MoreIssues, Marks, Zeros, Areas}
use Rattle.volume.specs.Volumed.{Volumed, is_due_of}
use Rattle.volume_nbd.specs.Gathering.{events_at, gathered}

module _ {B : Type 0} (contents : B → List ℕ) (layers : B → List Layer) (v : Volumed B) where
  pub gathered_each : (batch : Batch) → batch ≢ Issues → batch ≢ MoreIssues → gathered contents layers batch v ≡ flat_map (events_at (is_due_of contents layers v) batch) v.snaps
  gathered_each Issues other more = absurd (other refl)
  gathered_each Reads other more = refl
  gathered_each Writes other more = refl
  gathered_each Flushes other more = refl
  gathered_each Publications other more = refl
  gathered_each MoreIssues other more = absurd (more refl)
  gathered_each Marks other more = refl
  gathered_each Zeros other more = refl
  gathered_each Areas other more = refl
