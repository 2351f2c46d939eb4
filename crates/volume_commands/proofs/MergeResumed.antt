-- A merge that failed goes on.
use Rattle.std.proofs.Common.{◌≡◌, ℕ, false, List, ◌∷◌, length, map, Option, Some, None, refl, sym, ◌∙◌, ap}
use Rattle.std.specs.Prelude.{◌==◌, ◌&&◌, not}
use Rattle.std.specs.List.{list_all}
use Rattle.device.specs.Layers.{Layer}
use Rattle.whole_commands.specs.Merges.{resumed as resumed_in_big_steps, resumed_by}
use Rattle.event_machine.specs.Held.{MergeHeld, Moving, with_merge}
use Rattle.event_machine.specs.Merging.{resumed as resumed_in_events}
use Rattle.event_machine.specs.MergeRest.{merge_in, merged_of as merged_in_events}
use Rattle.event_machine.specs.Requests.{volume_of}
use Rattle.event_machine.specs.Stepping.{for_some}
use Rattle.snapshot.specs.Kept.{Kept}
use Rattle.snapshot_list.specs.Numbers.{number_of_snap}
use Rattle.volume.specs.Volumed.{Volumed, is_loud_in_all}
use Rattle.volume.specs.Moved.{moving_of}
use Rattle.volume.specs.Beginning.{IsResumed}
use Rattle.volume.specs.Causes.{counts_of, counts_with}
use Rattle.volume.specs.Leaving.{has_group_in, is_done_of, is_quiet_of}
use Rattle.volume.specs.Stepping.{merged_of as merging_of}
use Rattle.volume_commands.specs.Rested.{merged_of, rested_of}
use Rattle.volume_commands.specs.Flying.{flying_of, without_devices, without_merging_store}
use Rattle.volume_commands.specs.Kept.{KeepsDevices}
use Rattle.volume_commands.proofs.Seen.{merged_same, devices_kept}

goes_on : (v : Moving) (o : Option MergeHeld) → v.merge ≡ o → merged_in_events (for_some o (λ m. with_merge (record m { merge = record m.merge { failed = false } }) v) v) ≡ resumed_by (merge_in o) (volume_of v)
goes_on v None alone = ap (λ o. record { volume = volume_of v; merge = merge_in o }) alone
goes_on v (Some m) begun = refl

flies_on : (v : Moving) (o : Option MergeHeld)
    → for_some (without_merging_store o) (λ m. with_merge (record m { merge = record m.merge { failed = false } }) (without_devices v)) (without_devices v) ≡ without_devices (for_some o (λ m. with_merge (record m { merge = record m.merge { failed = false } }) v) v)
flies_on v None = refl
flies_on v (Some m) = refl

module _ {B : Type 0} (contents : B → List ℕ) (layers : B → List Layer) (old new : Volumed B) (exact : resumed_in_events (moving_of contents layers None old) ≡ moving_of contents layers None new) where
  pub resumed_merged : resumed_in_big_steps (merged_of contents layers (rested_of old)) ≡ merged_of contents layers (rested_of new)
  resumed_merged =
      let v : Moving = moving_of contents layers None old in
      ap resumed_in_big_steps (merged_same contents layers None old) ∙ sym (goes_on v v.merge refl) ∙ ap merged_in_events exact ∙ sym (merged_same contents layers None new)

  -- what is in flight
  pub resumed_flying : resumed_in_events (flying_of contents layers old) ≡ flying_of contents layers new
  resumed_flying = (let v : Moving = moving_of contents layers None old in flies_on v v.merge ∙ ap without_devices exact)

module _ {B : Type 0} (layers : B → List Layer) (size : B → ℕ) (old new : Volumed B) (out : IsResumed old new) where
  pub resumed_quiet : is_quiet_of new ≡ is_quiet_of old
  resumed_quiet = ap (λ (v : Volumed B). is_quiet_of v) out.becomes ∙ ap (λ o. (length old.flights == 0) && (not (has_group_in o) && list_all is_done_of old.snaps)) (sym out.was)

  pub resumed_kept : is_loud_in_all layers new ≡ is_loud_in_all layers old → KeepsDevices layers size (rested_of old) (rested_of new)
  resumed_kept loud = devices_kept size layers old new (record {
    attached = ap (λ (v : Volumed B). v.attached) out.becomes;
    numbers = ap (λ (v : Volumed B). map number_of_snap v.snaps) out.becomes;
    chunks = ap (λ (v : Volumed B). map (λ (s : Kept B). s.state.chunk) v.snaps) out.becomes;
    merged = ap (λ (v : Volumed B). merging_of v.merge) out.becomes ∙ ap merging_of (sym out.was);
    sizes = ap (λ (v : Volumed B). counts_of size v) out.becomes ∙ ap (λ o. counts_with size o (size old.origin ∷ map (λ (s : Kept B). size s.device) old.snaps)) (sym out.was);
  }) loud

  pub resumed_requests : new.requests ≡ old.requests
  resumed_requests = ap (λ (v : Volumed B). v.requests) out.becomes
