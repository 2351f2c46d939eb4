-- Why a call of a volume that counts its journal's places is refused: for want of room, and then nothing changed, or as the volume
-- says. This project's own.
use Rattle.std.specs.Prelude.{◌≡◌, ◌⊎◌, true, ℕ, List}
use Rattle.sector.specs.declared.refusal.Refusal.{Refusal}
use Rattle.device.specs.Layers.{Layer}
use Rattle.plain_machine.specs.declared.request.Request.{Request}
use Rattle.whole_commands.specs.Refusals.{IsStarved, is_starved}
use Rattle.snapshot.specs.declared.opening.StoreDev.{StoreDev}
use Rattle.volume.specs.Submitting.{IsRefusedAs}
use Rattle.volume.specs.Taking.{IsNotTaken}
use Rattle.volume.specs.Volumed.{Volumed}

-- a request
abbrev pub IsUnsent : {B : Type 0} → (B → List ℕ) → (B → List Layer) → (B → ℕ) → Request → Refusal → Volumed B → Volumed B → Type 0
IsUnsent contents layers size request refusal old new = IsStarved refusal old new ⊎ IsRefusedAs contents layers size request refusal old new

-- an attach of a store over an origin, which gives the store back
abbrev pub IsUnattached : {B : Type 0} → (B → List ℕ) → (B → ℕ) → StoreDev B → ℕ → B → Volumed B → (Refusal × StoreDev B) → Type 0
IsUnattached contents size store chunk origin old e =
    ((is_starved e.0 ≡ true) × (e.1 ≡ store)) ⊎ IsNotTaken store.stale chunk (size origin) (size store.device) (contents store.device) old e.0
