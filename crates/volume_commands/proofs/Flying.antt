-- What changes layers alone leaves all that is in flight.
use Rattle.std.proofs.Common.{◌≡◌, ℕ, Bool, true, false, List, [], ◌∷◌, map, Option, Some, None, refl, ap, ◌∙◌}
use Rattle.std.specs.Prelude.{◌==◌, if◌then◌else◌}
use Rattle.device.specs.Layers.{Layer}
use Rattle.plain_machine.specs.declared.request.Dev.{Dev}
use Rattle.plain_machine.specs.declared.request.Dev.TheVariants.{Origin, Snap}
use Rattle.event_machine.specs.Held.{SnapHeld, MergeHeld, Moving}
use Rattle.volume.specs.Layering.{held_relayered, merge_relayered, merging_relayered, moving_relayered}
use Rattle.volume.specs.Telling.{dev_relayered, helds_relayered, numbered_relayered}
use Rattle.volume_commands.specs.Flying.{untold, without_store, without_merging_store, without_devices}

all_stay : (f : List Layer → List Layer) (snaps : List SnapHeld) → map without_store (map (held_relayered f) snaps) ≡ map without_store snaps
all_stay f [] = refl
all_stay f (h ∷ snaps) = ap (λ hs. without_store h ∷ hs) (all_stay f snaps)

merge_stays : (f : List Layer → List Layer) (g : Option MergeHeld) → without_merging_store (merging_relayered f g) ≡ without_merging_store g
merge_stays f None = refl
merge_stays f (Some g) = refl

-- what is in flight, with these snapshots and this merge
flying_with : Moving → List SnapHeld → Option MergeHeld → Moving
flying_with v hs g = record v { origin = untold; snaps = hs; merge = g }

-- on all devices
pub moving_stays : (f : List Layer → List Layer) (v w : Moving) → w ≡ moving_relayered f v → without_devices w ≡ without_devices v
unfolding flying_with
moving_stays f v w is =
    ap without_devices is ∙ ap (λ hs. flying_with v hs (without_merging_store (merging_relayered f v.merge))) (all_stay f v.snaps) ∙ ap (flying_with v (map without_store v.snaps)) (merge_stays f v.merge)

either_stays : (b : Bool) (f : List Layer → List Layer) (h : SnapHeld) (snaps after : List SnapHeld) → map without_store after ≡ map without_store snaps → map without_store (if b then held_relayered f h ∷ snaps else h ∷ after) ≡ map without_store (h ∷ snaps)
either_stays true f h snaps after same = refl
either_stays false f h snaps after same = ap (λ hs. without_store h ∷ hs) same

one_stays : (number : ℕ) (f : List Layer → List Layer) (snaps : List SnapHeld) → map without_store (helds_relayered number f snaps) ≡ map without_store snaps
one_stays number f [] = refl
one_stays number f (h ∷ snaps) = either_stays (h.snap.number == number) f h snaps (helds_relayered number f snaps) (one_stays number f snaps)

either_merge : (b : Bool) (f : List Layer → List Layer) (g : MergeHeld) → without_merging_store (if b then Some (merge_relayered f g) else Some g) ≡ without_merging_store (Some g)
either_merge true f g = refl
either_merge false f g = refl

numbered_stays : (number : ℕ) (f : List Layer → List Layer) (g : Option MergeHeld) → without_merging_store (numbered_relayered number f g) ≡ without_merging_store g
numbered_stays number f None = refl
numbered_stays number f (Some g) = either_merge (g.merge.number == number) f g

-- on one
pub dev_stays : (dev : Dev) (f : List Layer → List Layer) (v w : Moving) → w ≡ dev_relayered dev f v → without_devices w ≡ without_devices v
unfolding flying_with
dev_stays Origin f v w is = ap without_devices is
dev_stays (Snap number) f v w is =
    ap without_devices is ∙ ap (λ hs. flying_with v hs (without_merging_store (numbered_relayered number f v.merge))) (one_stays number f v.snaps) ∙ ap (flying_with v (map without_store v.snaps)) (numbered_stays number f v.merge)
