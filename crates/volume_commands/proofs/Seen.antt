-- What callers see of a volume of events, and what its parts say of that.
use Rattle.std.proofs.Common.{◌≡◌, ℕ, Bool, true, false, List, [], ◌∷◌, length, map, Option, Some, None, refl, ap, ◌∙◌, sym, get_or}
use Rattle.std.specs.Prelude.{◌==◌, ◌&&◌, min}
use Rattle.std.specs.List.{list_all, list_any}
use Rattle.std.proofs.lemmas.List.{length-map}
use Rattle.device.specs.Layers.{Layer, is_loud}
use Rattle.plain_machine.specs.declared.request.Dev.{Dev}
use Rattle.plain_machine.specs.declared.request.Dev.TheVariants.{Origin, Snap as ToSnap}
use Rattle.plain_machine.specs.declared.request.Reply.{Reply}
use Rattle.whole_commands.specs.Snaps.{Snap, Volume}
use Rattle.event_machine.specs.Held.{SnapHeld}
use Rattle.event_machine.specs.MergeRest.{merge_in, merged_of as merged_in_events}
use Rattle.event_machine.specs.Requests.{volume_of}
use Rattle.whole_commands.specs.Merges.{Merged}
use Rattle.snapshot.specs.Kept.{Kept}
use Rattle.merge.specs.Merging.{Merging}
use Rattle.volume.specs.Asking.{merging_number}
use Rattle.volume.specs.Volumed.{Volumed, is_loud_in_all, piece_of, piece_with, is_loud_with}
use Rattle.volume.specs.Moved.{device_of, held_of, moving_of}
use Rattle.snapshot_list.specs.Numbers.{number_of_snap}
use Rattle.volume.specs.Causes.{counts_of, counts_with}
use Rattle.snapshot_list.specs.Finding.{place_of_snap}
use Rattle.snapshot_list.proofs.Finds.{any_of, position_none, position_any}
use Rattle.volume.proofs.Relayered.{map_twice}
use Rattle.volume_commands.specs.Rested.{Attached, Rested, attached_of, rested_of, snap_of, settled_of, merged_of as merged_at, is_loud_in, has_number, has_dev, numbers_of, chunks_of, sizes_of}
use Rattle.volume_commands.specs.Kept.{KeepsDevices}
use Rattle.volume.specs.Stepping.{KeepsAll, merged_of}
use Rattle.volume.proofs.Counting.{head_counted}

all_of : {X Y : Type 0} (test : Y → Bool) (f : X → Y) (xs : List X) → list_all test (map f xs) ≡ list_all (λ x. test (f x)) xs
all_of test f [] = refl
all_of test f (x ∷ xs) = ap (λ b. test (f x) && b) (all_of test f xs)

module _ {B : Type 0} (contents : B → List ℕ) (layers : B → List Layer) where
  snaps_same : (xs : List (Kept B)) → map (snap_of contents layers) (map attached_of xs) ≡ map (λ (h : SnapHeld). h.snap) (map (held_of contents layers) xs)
  snaps_same [] = refl
  snaps_same (x ∷ xs) = ap (λ (ys : List Snap). (held_of contents layers x).snap ∷ ys) (snaps_same xs)

  -- the settled machine's volume is that of the event machine's
  pub settled_same : (replied : Option Reply) (v : Volumed B) → settled_of contents layers (rested_of v) ≡ volume_of (moving_of contents layers replied v)
  settled_same replied v = ap (λ (ss : List Snap). let w : Volume = record { origin = device_of contents layers v.origin; snaps = ss } in w) (snaps_same v.snaps)

  -- with its merge
  pub merged_same : (replied : Option Reply) (v : Volumed B) → merged_at contents layers (rested_of v) ≡ merged_in_events (moving_of contents layers replied v)
  merged_same replied v = ap (λ (x : Volume). let w : Merged = record { volume = x; merge = merge_in (moving_of contents layers None v).merge } in w) (settled_same replied v)

  -- nothing of it changed
  pub merged_still : (old new : Volumed B) → moving_of contents layers None new ≡ moving_of contents layers None old → merged_at contents layers (rested_of new) ≡ merged_at contents layers (rested_of old)
  merged_still old new same = merged_same None new ∙ ap merged_in_events same ∙ sym (merged_same None old)

  pub loud_same : (v : Volumed B) → is_loud_in layers (rested_of v) ≡ is_loud_in_all layers v
  loud_same v = ap (λ b. is_loud_with layers v.merge (is_loud (layers v.origin) && b)) (all_of (λ (s : Attached B). is_loud (layers s.store)) attached_of v.snaps)

module _ {B : Type 0} (size : B → ℕ) where
  pub numbers_same : (v : Volumed B) → numbers_of (rested_of v) ≡ map number_of_snap v.snaps
  numbers_same v = map_twice attached_of (λ (s : Attached B). s.number) v.snaps

  chunks_same : (v : Volumed B) → chunks_of (rested_of v) ≡ map (λ (s : Kept B). s.state.chunk) v.snaps
  chunks_same v = map_twice attached_of (λ (s : Attached B). s.chunk) v.snaps

  sizes_same : (v : Volumed B) → sizes_of size (rested_of v) ≡ counts_of size v
  sizes_same v = ap (λ (ns : List ℕ). counts_with size v.merge (size v.origin ∷ ns)) (map_twice attached_of (λ (s : Attached B). size s.store) v.snaps)

  -- the same snapshot is being merged
  pub number_kept : (x y : Option (Merging B)) → merged_of y ≡ merged_of x → merging_number y ≡ merging_number x
  number_kept None None e = refl
  number_kept None (Some y) e = absurd (cc)
  number_kept (Some x) None e = absurd (cc)
  number_kept (Some x) (Some y) e = (let same : (y.number, y.state.chunk) ≡ (x.number, x.state.chunk) = cc in ap (λ (p : ℕ × ℕ). Some p.0) same)

  -- events and requests keep the devices
  pub devices_kept : (layers : B → List Layer) (old new : Volumed B) → KeepsAll size old new → is_loud_in_all layers new ≡ is_loud_in_all layers old → KeepsDevices layers size (rested_of old) (rested_of new)
  devices_kept layers old new h loud = record {
    numbers = numbers_same new ∙ h.numbers ∙ sym (numbers_same old);
    chunks = chunks_same new ∙ h.chunks ∙ sym (chunks_same old);
    sizes = sizes_same new ∙ h.sizes ∙ sym (sizes_same old);
    loud = loud_same (λ b. []) layers new ∙ loud ∙ sym (loud_same (λ b. []) layers old);
    attached = h.attached;
    merging = number_kept old.merge new.merge h.merged;
  }

  pub devices_none : (layers : B → List Layer) (v : Rested B) → KeepsDevices layers size v v
  devices_none layers v = record { numbers = refl; chunks = refl; sizes = refl; loud = refl; attached = refl; merging = refl }

  pub devices_more : (layers : B → List Layer) (u v w : Rested B) → KeepsDevices layers size u v → KeepsDevices layers size v w → KeepsDevices layers size u w
  devices_more layers u v w h k = record { numbers = k.numbers ∙ h.numbers; chunks = k.chunks ∙ h.chunks; sizes = k.sizes ∙ h.sizes; loud = k.loud ∙ h.loud; attached = k.attached ∙ h.attached; merging = k.merging ∙ h.merging }

  -- the origin has the sectors that it had
  pub size_kept : (layers : B → List Layer) (old new : Rested B) → KeepsDevices layers size old new → size new.origin ≡ size old.origin
  size_kept layers old new h =
      sym (head_counted size new.events.merge (size new.origin) (map (λ (s : Attached B). size s.store) new.snaps)) ∙ ap (λ (ns : List ℕ). get_or ns 0 0) h.sizes
      ∙ head_counted size old.events.merge (size old.origin) (map (λ (s : Attached B). size s.store) old.snaps)

  -- pieces, by the sizes of the chunks alone
  least_in : List ℕ → ℕ
  least_in [] = 1024
  least_in (n ∷ ns) = min n (least_in ns)

  piece_by : (xs : List (Kept B)) → piece_of xs ≡ least_in (map (λ (s : Kept B). s.state.chunk) xs)
  unfolding least_in
  piece_by [] = refl
  piece_by (x ∷ xs) = ap (min x.state.chunk) (piece_by xs)

  -- and they are as large
  least_with : ℕ → Option (ℕ × ℕ) → ℕ
  least_with other None = other
  least_with other (Some pair) = min pair.1 other

  piece_seen : (m : Option (Merging B)) (xs : List (Kept B)) → piece_with m xs ≡ least_with (piece_of xs) (merged_of m)
  unfolding least_with
  piece_seen None xs = refl
  piece_seen (Some m) xs = refl

  pub piece_kept : (old new : Volumed B) → KeepsAll size old new → piece_with new.merge new.snaps ≡ piece_with old.merge old.snaps
  piece_kept old new h =
      let others : piece_of new.snaps ≡ piece_of old.snaps = piece_by new.snaps ∙ ap least_in h.chunks ∙ sym (piece_by old.snaps) in
      piece_seen new.merge new.snaps ∙ ap (λ n. least_with n (merged_of new.merge)) others ∙ ap (least_with (piece_of old.snaps)) h.merged ∙ sym (piece_seen old.merge old.snaps)

  pub snap_chunks_kept : (layers : B → List Layer) (old new : Volumed B) → KeepsDevices layers size (rested_of old) (rested_of new) → map (λ (s : Kept B). s.state.chunk) new.snaps ≡ map (λ (s : Kept B). s.state.chunk) old.snaps
  snap_chunks_kept layers old new h = sym (chunks_same new) ∙ h.chunks ∙ chunks_same old

  pub length_kept : (layers : B → List Layer) (old new : Volumed B) → KeepsDevices layers size (rested_of old) (rested_of new) → length new.snaps ≡ length old.snaps
  length_kept layers old new h =
      sym (length-map new.snaps number_of_snap) ∙ ap length (sym (numbers_same new) ∙ h.numbers ∙ numbers_same old) ∙ length-map old.snaps number_of_snap

  any_number : (n : ℕ) (xs : List (Attached B)) → list_any (has_number n) xs ≡ list_any (λ m. m == n) (map (λ (s : Attached B). s.number) xs)
  any_number n xs = sym (any_of (λ m. m == n) (λ (s : Attached B). s.number) xs)

  -- and the same snapshots are there
  pub dev_kept : (layers : B → List Layer) (dev : Dev) (old new : Rested B) → KeepsDevices layers size old new → has_dev dev new ≡ has_dev dev old
  dev_kept layers Origin old new h = refl
  dev_kept layers (ToSnap n) old new h = any_number n new.snaps ∙ ap (list_any (λ m. m == n)) h.numbers ∙ sym (any_number n old.snaps)

-- a snapshot that is found is there
pub dev_found : {B : Type 0} (n k : ℕ) (v : Volumed B) → place_of_snap n v.snaps ≡ Some k → has_dev (ToSnap n) (rested_of v) ≡ true
dev_found n k v e = any_of (has_number n) attached_of v.snaps ∙ position_any (λ s. s.number == n) v.snaps k e

pub dev_missing : {B : Type 0} (n : ℕ) (v : Volumed B) → place_of_snap n v.snaps ≡ None → has_dev (ToSnap n) (rested_of v) ≡ false
dev_missing n v e = any_of (has_number n) attached_of v.snaps ∙ position_none (λ s. s.number == n) v.snaps e
