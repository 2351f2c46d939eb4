-- A request that can be served is refused for its snapshot's sake, or for want of room.
use Rattle.std.proofs.Common.{◌≡◌, ◌≢◌, inl, inr, ℕ, ◌≤◌, true, List, length, Option, Some, None, refl, sym, ◌∙◌, ap, subst}
use Rattle.std.specs.Prelude.{IfSome}
use Rattle.sector.specs.declared.refusal.Refusal.{Refusal}
use Rattle.sector.specs.declared.refusal.Refusal.TheVariants.{Invalid, Overflow}
use Rattle.whole_commands.specs.Refusals.{is_starved}
use Rattle.whole_commands.proofs.Starved.{memory_starved}
use Rattle.device.specs.Layers.{Layer}
use Rattle.plain_machine.specs.declared.request.Request.{Request}
use Rattle.volume.specs.Volumed.{Volumed}
use Rattle.volume.specs.Leaving.{is_quiet_of}
use Rattle.snapshot_list.specs.Finding.{place_of_snap}
use Rattle.volume.specs.Asking.{merging_number}
use Rattle.volume.specs.Submitting.{SameButRoom}
use Rattle.counted_volume.specs.Declined.{IsUnsent}
use Rattle.volume_commands.specs.Serving.{CanServe}
use Rattle.volume_commands.proofs.Limits.{only_its_snap}

same_room : {B : Type 0} (v : Volumed B) → SameButRoom v v
same_room v = record { roomed = refl; becomes = refl }

-- what a look at the snapshot that is being merged says
pub apart_by : {B : Type 0} (v : Volumed B) (seen : Option ℕ) → seen ≡ merging_number v.merge → IfSome seen (λ number. place_of_snap number v.snaps ≡ None) → (number : ℕ) → merging_number v.merge ≡ Some number → place_of_snap number v.snaps ≡ None
apart_by v None is apart number e = absurd (let none : None ≡ Some number = is ∙ e in cc)
apart_by v (Some n) is apart number e = (let some : Some n ≡ Some number = is ∙ e in let same : n ≡ number = cc in ap (λ k. place_of_snap k v.snaps) (sym same) ∙ apart)

module _ {B : Type 0} (contents : B → List ℕ) (layers : B → List Layer) (size : B → ℕ) (request : Request) (refusal : Refusal) (old new : Volumed B) (refused : IsUnsent contents layers size request refusal old new) where
  -- refused for another reason than its snapshot: there is no room
  pub starved_only : CanServe size request.dev request.op request.range old → ((number : ℕ) → merging_number old.merge ≡ Some number → place_of_snap number old.snaps ≡ None) → is_quiet_of old ≡ true → length old.snaps ≤ 8 → refusal ≢ Invalid → refusal ≢ Overflow → (is_starved refusal ≡ true) × SameButRoom old new
  starved_only can apart quiet few alive free = elim refused [
    | inl starved ↦ (starved.0, subst (SameButRoom old) (sym starved.1) (same_room old))
    | inr plain ↦ elim plain [
      | inl first ↦ absurd (elim (only_its_snap size request old can apart quiet few refusal first.0) [ inl lost ↦ alive lost | inr shut ↦ free shut ])
      | inr later ↦ elim later [
        | inl lacks ↦ (memory_starved refusal lacks.1, lacks.2)
        | inr full ↦ absurd (elim full [ inl lost ↦ alive lost.1 | inr shut ↦ free shut.1 ])
      ]
    ]
  ]
