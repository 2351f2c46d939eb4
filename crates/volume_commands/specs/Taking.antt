-- A volume between two commands has one snapshot more, or was refused one. This project's own.
use Rattle.std.specs.Prelude.{◌≡◌, ◌≢◌, ℕ, Bool, true, false, List, [], ◌∷◌, ◌++◌}
use Rattle.sector.specs.declared.refusal.Refusal.{Refusal}
use Rattle.sector.specs.declared.refusal.Refusal.TheVariants.{Io}
use Rattle.device.specs.Layers.{Layer, is_loud}
use Rattle.plain_machine.specs.Plain.{overflow_of}
use Rattle.snapshot.specs.declared.opening.StoreDev.{StoreDev}
use Rattle.volume.specs.Attached.{IsTriedOrigin}
use Rattle.volume_commands.specs.Rested.{Attached, Rested}

-- the last of its snapshots, under this number, over the store's device, which may overflow or not; the origin was flushed
pub record IsTakenAs {B : Type 0} (contents : B → List ℕ) (layers : B → List Layer) (size : B → ℕ) (number : ℕ) (wanted : Bool) (store : StoreDev B) (old new : Rested B) : Type 0 where
  pub snap : Attached B
  pub origin : IsTriedOrigin contents layers size old.origin new.origin
  pub snaps : new.snaps ≡ old.snaps ++ snap ∷ []
  pub requests : new.requests ≡ old.requests
  pub copies : new.copies ≡ old.copies
  pub attached : new.attached ≡ number
  pub number_is : snap.number ≡ number
  pub live : snap.live ≡ true
  pub stale : snap.stale ≡ false
  pub overflow : snap.overflow ≡ overflow_of wanted
  pub sizes : size snap.store ≡ size store.device
  pub loud : is_loud (layers snap.store) ≡ is_loud (layers store.device)

-- Nothing changed but the origin's device, which was flushed or not, and shows the same bytes; after another refusal than Io it
-- was not.
pub record IsRefusedAt {B : Type 0} (contents : B → List ℕ) (layers : B → List Layer) (size : B → ℕ) (refusal : Refusal) (old new : Rested B) : Type 0 where
  pub becomes : new ≡ record old { origin = new.origin; events = record old.events { origin = new.origin } }
  pub origin : IsTriedOrigin contents layers size old.origin new.origin
  pub kept : refusal ≢ Io → new ≡ old
