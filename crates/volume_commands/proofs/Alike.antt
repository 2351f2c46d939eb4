-- A volume whose devices' layers may have become others, and that drops writes as before: nothing that is in memory changed.
use Rattle.std.proofs.Common.{◌≡◌, ℕ, Bool, List, [], ◌∷◌, length, get_or, map, Option, Some, None, refl, sym, ◌∙◌, ap}
use Rattle.std.specs.Prelude.{◌==◌, ◌&&◌, not}
use Rattle.std.specs.List.{list_all}
use Rattle.device.specs.Layers.{Layer, is_loud}
use Rattle.whole_commands.specs.Snaps.{Snap}
use Rattle.whole_commands.specs.Merges.{Merge, Merged}
use Rattle.event_machine.specs.Held.{SnapHeld, MergeHeld, Moving}
use Rattle.event_machine.specs.MergeRest.{merge_in, merged_of as merged_in_events}
use Rattle.whole_commands.specs.Moments.{relayered, store_relayered}
use Rattle.whole_commands.specs.MergedMoments.{merged_relayered, store_relayered as merging_store_relayered}
use Rattle.snapshot.specs.Kept.{Kept}
use Rattle.volume.specs.Volumed.{Volumed, is_loud_in_all, is_loud_with}
use Rattle.volume.specs.Moved.{moving_of}
use Rattle.snapshot_list.specs.Numbers.{number_of_snap}
use Rattle.merge.specs.Due.{has_group_of}
use Rattle.merge.specs.Merging.{Merging}
use Rattle.volume.specs.Leaving.{has_group_in, is_done_of, is_quiet_of}
use Rattle.volume.specs.Stepping.{KeepsAll}
use Rattle.volume.specs.Layering.{held_relayered, merging_relayered, moving_relayered}
use Rattle.volume.proofs.Relayered.{IsMergeAlike, IsSnapAlike, IsVolumeAlike, map_at, merge_loud_alike, merge_sized_alike, merged_alike}
use Rattle.volume_commands.specs.Rested.{rested_of, merged_of, IsSettled}
use Rattle.volume_commands.specs.Kept.{KeepsDevices}
use Rattle.volume_commands.proofs.Seen.{merged_same, devices_kept}
use Rattle.volume.specs.Causes.{counts_with}

list_all_map : {X Y : Type 0} (f : X → Y) (p : Y → Bool) (xs ys : List X) → map f xs ≡ map f ys → list_all (λ x. p (f x)) xs ≡ list_all (λ x. p (f x)) ys
list_all_map f p [] [] e = refl
list_all_map f p [] (y ∷ ys) e = absurd (cc)
list_all_map f p (x ∷ xs) [] e = absurd (cc)
list_all_map f p (x ∷ xs) (y ∷ ys) e =
    let head : f x ≡ f y = cc in
    let tail : map f xs ≡ map f ys = cc in
    ap (λ z. p z && list_all (λ x. p (f x)) xs) head ∙ ap (λ b. p (f y) && b) (list_all_map f p xs ys tail)

module _ {B : Type 0} (contents : B → List ℕ) (layers : B → List Layer) (size : B → ℕ) where
  group_alike : (x y : Option (Merging B)) → IsMergeAlike contents layers size x y → has_group_in y ≡ has_group_in x
  group_alike None None h = refl
  group_alike None (Some y) h = absurd h
  group_alike (Some x) None h = absurd h
  group_alike (Some x) (Some y) h = ap (λ (z : Merging B). has_group_of z.group) h.1

  module _ (v w : Volumed B) (h : IsVolumeAlike contents layers size v w) where
    kept_map : {X : Type 0} (f : Kept B → X) → ((s t : Kept B) → IsSnapAlike contents layers size s t → f t ≡ f s) → map f w.snaps ≡ map f v.snaps
    kept_map f same = map_at f f v.snaps w.snaps h.count (λ k d lt. same (get_or v.snaps k d) (get_or w.snaps k d) (h.snaps k d lt))

    loud_alike : is_loud_in_all layers w ≡ is_loud_in_all layers v
    loud_alike =
        merge_loud_alike contents layers size (is_loud (layers w.origin) && list_all (λ (s : Kept B). is_loud (layers s.device)) w.snaps) v.merge w.merge h.merge
        ∙ ap (λ b. is_loud_with layers v.merge (b && list_all (λ (s : Kept B). is_loud (layers s.device)) w.snaps)) h.origin.loud
        ∙ ap (λ b. is_loud_with layers v.merge (is_loud (layers v.origin) && b)) (list_all_map (λ (s : Kept B). is_loud (layers s.device)) (λ b. b) w.snaps v.snaps (kept_map (λ (s : Kept B). is_loud (layers s.device)) (λ s t k. k.store.loud)))

    keeps_alike : KeepsAll size v w
    keeps_alike = record {
      attached = ap (λ (x : Volumed B). x.attached) h.becomes;
      numbers = kept_map number_of_snap (λ s t k. ap number_of_snap k.same);
      chunks = kept_map (λ (s : Kept B). s.state.chunk) (λ s t k. ap (λ (x : Kept B). x.state.chunk) k.same);
      merged = merged_alike contents layers size v.merge w.merge h.merge;
      sizes = merge_sized_alike contents layers size (size w.origin ∷ map (λ (s : Kept B). size s.device) w.snaps) v.merge w.merge h.merge
          ∙ ap (λ n. counts_with size v.merge (n ∷ map (λ (s : Kept B). size s.device) w.snaps)) h.origin.sectors ∙ ap (λ ns. counts_with size v.merge (size v.origin ∷ ns)) (kept_map (λ (s : Kept B). size s.device) (λ s t k. k.store.sectors));
    }

    pub alike_kept : KeepsDevices layers size (rested_of v) (rested_of w)
    alike_kept = devices_kept size layers v w keeps_alike loud_alike

    pub quiet_alike : is_quiet_of w ≡ is_quiet_of v
    quiet_alike =
        ap (λ (fs : List _). (length fs == 0) && (not (has_group_in w.merge) && list_all is_done_of w.snaps)) (ap (λ (x : Volumed B). x.flights) h.becomes)
        ∙ ap (λ b. (length v.flights == 0) && (not b && list_all is_done_of w.snaps)) (group_alike v.merge w.merge h.merge)
        ∙ ap (λ b. (length v.flights == 0) && (not (has_group_in v.merge) && b)) (list_all_map is_done_of (λ b. b) w.snaps v.snaps (kept_map is_done_of (λ s t k. ap is_done_of k.same)))

    pub alike_settles : IsSettled layers (rested_of v) → IsSettled layers (rested_of w)
    alike_settles settled = record { loud = alike_kept.loud ∙ settled.loud; quiet = quiet_alike ∙ settled.quiet }

    pub alike_requests : w.requests ≡ v.requests
    alike_requests = ap (λ (x : Volumed B). x.requests) h.becomes

  snaps_relayered : (f : List Layer → List Layer) (hs : List SnapHeld) → map (λ (h : SnapHeld). h.snap) (map (held_relayered f) hs) ≡ map (store_relayered f) (map (λ (h : SnapHeld). h.snap) hs)
  snaps_relayered f [] = refl
  snaps_relayered f (h ∷ hs) = ap (λ (ss : List Snap). store_relayered f h.snap ∷ ss) (snaps_relayered f hs)

  merge_relayered : (f : List Layer → List Layer) (g : Option MergeHeld) → merge_in (merging_relayered f g) ≡ merging_store_relayered f (merge_in g)
  merge_relayered f None = refl
  merge_relayered f (Some g) = refl

  -- all layers became others
  pub all_moved : (f : List Layer → List Layer) (v w : Volumed B) → moving_of contents layers None w ≡ moving_relayered f (moving_of contents layers None v)
      → merged_of contents layers (rested_of w) ≡ merged_relayered f (merged_of contents layers (rested_of v))
  all_moved f v w e =
      let m : Moving = moving_of contents layers None v in
      let mk : List Snap → Option Merge → Merged = λ ss g. record { volume = record { origin = relayered f m.origin; snaps = ss }; merge = g } in
      merged_same contents layers None w ∙ ap merged_in_events e
      ∙ ap (λ ss. mk ss (merge_in (merging_relayered f m.merge))) (snaps_relayered f m.snaps)
      ∙ ap (mk (map (store_relayered f) (map (λ (h : SnapHeld). h.snap) m.snaps))) (merge_relayered f m.merge)
      ∙ ap (merged_relayered f) (sym (merged_same contents layers None v))
