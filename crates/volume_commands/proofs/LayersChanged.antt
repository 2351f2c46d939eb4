-- What the time and a message leave of a volume by commands, by what they do to the volume of events.
use Rattle.std.proofs.Common.{◌≡◌, ℕ, false, List, Some, None, refl, ◌∙◌, ap}
use Rattle.std.specs.Prelude.{Err, IfErr, Ok, Result}
use Rattle.sector.specs.declared.refusal.Refusal.{Refusal}
use Rattle.device.specs.Layers.{Layer}
use Rattle.layers.specs.Ticks.{layers_ticked}
use Rattle.layers.specs.declared.message.Answer.{Answer}
use Rattle.layers.specs.declared.message.Message.{Message}
use Rattle.plain_machine.specs.declared.request.Dev.{Dev}
use Rattle.plain_machine.specs.declared.request.Dev.TheVariants.{Origin, Snap as ToSnap}
use Rattle.event_machine.specs.Held.{Moving}
use Rattle.event_machine.specs.MergeRest.{merge_in}
use Rattle.merge.specs.Merging.{Merging}
use Rattle.snapshot_list.specs.Finding.{place_of_snap}
use Rattle.volume.specs.DoesMessage.{DoesMessage}
use Rattle.volume.specs.DoesTick.{DoesTick}
use Rattle.volume.specs.Layering.{Measures}
use Rattle.volume.specs.Submitting.{is_merging}
use Rattle.volume.specs.Telling.{layers_told}
use Rattle.volume.specs.Volumed.{Volumed}
use Rattle.volume.proofs.Relayered.{IsVolumeAlike, ticked_alike}
use Rattle.volume.proofs.Told.{told_alike, untold_alike}
use Rattle.volume_commands.specs.ChangesLayers.{ChangesLayers}
use Rattle.volume_commands.specs.Flying.{flying_of, without_devices}
use Rattle.volume_commands.specs.Rested.{Rested, merged_of, rested_of}
use Rattle.volume_commands.specs.Telling.{IsMergingUntold}
use Rattle.volume_commands.proofs.Alike.{alike_kept, alike_requests, alike_settles, quiet_alike}
use Rattle.volume_commands.proofs.Begun.{other_keeps}
use Rattle.volume_commands.proofs.Flying.{dev_stays, moving_stays}
use Rattle.volume_commands.proofs.Seen.{devices_none, merged_still}
use Rattle.volume_commands.proofs.Tells.{merging_untold}

module _ {B : Type 0} (holds : B → ℕ → List ℕ → Type 0) (m : Measures B) (layers : B → List Layer) where
  changed_by : (v w : Volumed B) → IsVolumeAlike m.contents layers m.size v w → flying_of m.contents layers w ≡ flying_of m.contents layers v → ChangesLayers m.contents layers m.size (rested_of v) (rested_of w)
  changed_by v w alike flying = record {
    settled = alike_settles m.contents layers m.size v w alike;
    kept = alike_kept m.contents layers m.size v w alike;
    requests = alike_requests m.contents layers m.size v w alike;
    quiet = quiet_alike m.contents layers m.size v w alike;
    flying = flying;
  }

  pub tick_changes : (seconds : ℕ) (v w : Volumed B) → DoesTick holds m layers seconds v w → ChangesLayers m.contents layers m.size (rested_of v) (rested_of w)
  tick_changes seconds v w does = changed_by v w (ticked_alike m layers seconds v w does.ticked) (moving_stays (layers_ticked seconds) _ _ (does.moving None))

  pub message_changes : (dev : Dev) (depth : ℕ) (message : Message) (result : Result Answer Refusal) (v w : Volumed B) → DoesMessage holds m layers dev depth message result v w → ChangesLayers m.contents layers m.size (rested_of v) (rested_of w)
  message_changes dev depth message (Ok answer) v w does = changed_by v w (told_alike m layers dev depth message v w answer does.ok) (dev_stays dev (layers_told depth message) _ _ (does.moving None))
  message_changes dev depth message (Err refusal) v w does = changed_by v w (untold_alike m layers dev depth message v w refusal does.err) (ap without_devices (does.still None))

  -- the merge keeps its store, where the origin is told
  pub origin_keeps : (depth : ℕ) (message : Message) (result : Result Answer Refusal) (v w : Volumed B) → DoesMessage holds m layers Origin depth message result v w → (merged_of m.contents layers (rested_of w)).merge ≡ (merged_of m.contents layers (rested_of v)).merge
  origin_keeps depth message (Ok answer) v w does = ap (λ (x : Moving). merge_in x.merge) (does.moving None)
  origin_keeps depth message (Err refusal) v w does = ap (λ (x : Moving). merge_in x.merge) (does.still None)

  -- or another snapshot
  pub other_stays : (number depth : ℕ) (message : Message) (result : Result Answer Refusal) (v w : Volumed B) → is_merging number v.merge ≡ false → DoesMessage holds m layers (ToSnap number) depth message result v w
      → (merged_of m.contents layers (rested_of w)).merge ≡ (merged_of m.contents layers (rested_of v)).merge
  other_stays number depth message (Ok answer) v w other does =
      ap (λ (x : Moving). merge_in x.merge) (does.moving None) ∙ ap merge_in (other_keeps m.contents layers number (layers_told depth message) v.merge other)
  other_stays number depth message (Err refusal) v w other does = ap (λ (x : Moving). merge_in x.merge) (does.still None)

  -- the merging store is not told, and why
  pub merging_untold_as : (number depth : ℕ) (message : Message) (result : Result Answer Refusal) (v w : Volumed B) → place_of_snap number v.snaps ≡ None → (g : Merging B) × (v.merge ≡ Some g) × (g.number ≡ number) → DoesMessage holds m layers (ToSnap number) depth message result v w
      → IfErr result (λ refusal. IsMergingUntold layers depth message refusal (rested_of v) × (merged_of m.contents layers (rested_of w) ≡ merged_of m.contents layers (rested_of v)))
  merging_untold_as number depth message (Ok answer) v w apart one does = tt
  merging_untold_as number depth message (Err refusal) v w apart one does = (
    merging_untold m layers depth message v w number apart one.0 one.1 one.2 refusal does.err,
    merged_still m.contents layers v w (does.still None),
  )

-- nothing changed
pub unchanged : {B : Type 0} (contents : B → List ℕ) (layers : B → List Layer) (size : B → ℕ) (v : Rested B) → ChangesLayers contents layers size v v
unchanged contents layers size v = record { settled = λ settled. settled; kept = devices_none size layers v; requests = refl; quiet = refl; flying = refl }
