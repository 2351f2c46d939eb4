-- A write of a bare volume's origin whose bytes are lent.
use Rattle.std.proofs.Common.{◌≡◌, inl, inr, ℕ, ◌≤◌, ◌∙◌, List, Option, None, Some, ap, arith, length, refl, sym, true}
use Rattle.sector.specs.declared.range.Range.{Range}
use Rattle.sector.specs.declared.refusal.Refusal.{Refusal}
use Rattle.plain_machine.specs.declared.request.Dev.TheVariants.{Origin}
use Rattle.plain_machine.specs.declared.request.Op.TheVariants.{Write}
use Rattle.device.specs.Layers.{Layer}
use Rattle.in_flight.specs.declared.flights.Kind.TheVariants.{OriginWrite, SnapWrite}
use Rattle.whole_commands.specs.Refusals.{is_starved}
use Rattle.merge.specs.Merging.{Merging}
use Rattle.volume.specs.Lent.{is_bare, origin_write}
use Rattle.volume.specs.Submitting.{submit_refusal}
use Rattle.volume.specs.Volumed.{Volumed}
use Rattle.volume.proofs.Bare.{bare}
use Rattle.counted_volume.specs.Declined.{IsUnsent}
use Rattle.volume_commands.specs.Kept.{KeepsDevices}
use Rattle.volume_commands.specs.Rested.{rested_of}
use Rattle.volume.specs.Asking.{merging_number}
use Rattle.volume_commands.specs.Serving.{CanServe}
use Rattle.volume_commands.proofs.Limits.{later_none}

module _ {B : Type 0} (v : Volumed B) (is : is_bare v ≡ true) where
  never : (m : Option (Merging B)) → m ≡ None → (number : ℕ) → merging_number m ≡ Some number → ⊥
  never m alone number e = (let other : None ≡ Some number = sym (ap merging_number alone) ∙ e in cc)

  -- such a write is accepted
  pub lent_taken : (size : B → ℕ) (range : Range) (bytes : List ℕ) → CanServe size Origin (Write bytes) range v → submit_refusal size (origin_write range bytes) v ≡ None
  lent_taken size range bytes can =
      let few : length v.snaps ≤ 8 = (let none : length v.snaps ≡ 0 = ap length (bare v is).none in omega (arith, none)) in
      later_none size (origin_write range bytes) v can (λ number e. absurd (never v.merge (bare v is).alone number e)) (bare v is).quiet few

-- so one that is refused is so for want of room
pub lent_starved : {B : Type 0} (contents : B → List ℕ) (layers : B → List Layer) (size : B → ℕ) (old new : Volumed B) → is_bare old ≡ true → (range : Range) (bytes : List ℕ) (refusal : Refusal) → CanServe size Origin (Write bytes) range old
    → IsUnsent contents layers size (origin_write range bytes) refusal old new → is_starved refusal ≡ true
lent_starved contents layers size old new is range bytes refusal can (inl starved) = starved.0
lent_starved contents layers size old new is range bytes refusal can (inr (inl first)) = absurd (let none : None ≡ Some refusal = sym (lent_taken old is size range bytes can) ∙ first.0 in cc)
lent_starved contents layers size old new is range bytes refusal can (inr (inr (inl memory))) = ap is_starved memory.1
lent_starved contents layers size old new is range bytes refusal can (inr (inr (inr (inl full)))) = absurd (let other : OriginWrite ≡ SnapWrite full.2.0 = full.2.1 in cc)
lent_starved contents layers size old new is range bytes refusal can (inr (inr (inr (inr full)))) = absurd (let other : OriginWrite ≡ SnapWrite full.2.0 = full.2.1 in cc)

-- and all is as it was
pub same_devices : {B : Type 0} (layers : B → List Layer) (size : B → ℕ) (old new : Volumed B) → new ≡ old → KeepsDevices layers size (rested_of old) (rested_of new)
same_devices layers size old new same = rw same (record { numbers = refl; chunks = refl; sizes = refl; loud = refl; attached = refl; merging = refl })
