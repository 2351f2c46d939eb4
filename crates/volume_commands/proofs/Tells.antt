-- A device that was told a message has other layers.
use Rattle.std.proofs.Common.{◌≡◌, ◌⊎◌, inl, inr, ℕ, ◌<◌, true, List, length, get_or, set, map, Option, Some, None, refl, sym, ◌∙◌, ap, subst, arith}
use Rattle.std.proofs.lemmas.List.{length-map, map-set, get_or_default}
use Rattle.sector.specs.declared.refusal.Refusal.{Refusal}
use Rattle.sector.specs.declared.refusal.Refusal.TheVariants.{NoMemory}
use Rattle.device.specs.Layers.{Layer}
use Rattle.layers.specs.declared.message.Answer.{Answer}
use Rattle.layers.specs.declared.message.Message.{Message}
use Rattle.layers.specs.Messages.{Told, Answered, Refused, NeedsRoom, answer_of, told}
use Rattle.plain_machine.specs.declared.request.Dev.TheVariants.{Origin, Snap as ToSnap}
use Rattle.whole_commands.specs.Devices.{Device}
use Rattle.whole_commands.specs.Snaps.{Snap, Volume}
use Rattle.event_machine.specs.MergeRest.{merge_in}
use Rattle.event_machine.specs.MergeSeen.{held_in, merge_held_of}
use Rattle.event_machine.specs.Requests.{volume_of}
use Rattle.whole_commands.specs.Merges.{Merge, Merged}
use Rattle.whole_commands.specs.MergedMoments.{store_relayered as merging_store_relayered}
use Rattle.merge.specs.Merging.{Merging, due_of as merging_due}
use Rattle.whole_commands.specs.Moments.{store_relayered}
use Rattle.snapshot.specs.Kept.{Kept}
use Rattle.volume.specs.Volumed.{Volumed}
use Rattle.snapshot_list.specs.Finding.{place_of_snap}
use Rattle.volume.specs.Layering.{Measures}
use Rattle.volume.specs.Moved.{device_of, merge_seen, moving_of}
use Rattle.volume.specs.Telling.{layers_left, layers_told, IsTold, IsNotTold, IsRelayeredAt}
use Rattle.snapshot_list.proofs.Finds.{position_within}
use Rattle.volume.proofs.Told.{merging_told, relayered_there, snap_told, untold_moving}
use Rattle.volume_commands.specs.Rested.{Attached, attached_of, rested_of, snap_of, settled_of, merged_of}
use Rattle.volume_commands.specs.Telling.{place_relayered, IsOriginTold, IsStoreTold, IsTellRefused, IsMergingTold, IsMergingUntold}
use Rattle.volume_commands.proofs.Seen.{settled_same}
use Rattle.volume_commands.proofs.Lends.{seen_at}

answered : (ls : List Layer) (t : Told (List Layer)) (a : Answer) → answer_of t ≡ Some a → t ≡ Answered a (layers_left ls t)
answered ls (Refused r) a e = absurd (cc)
answered ls (Answered b ns) a e = (let same : b ≡ a = cc in ap (λ x. Answered x ns) same)

module _ {B : Type 0} (m : Measures B) (layers : B → List Layer) (depth : ℕ) (message : Message) (v w : Volumed B) where
  -- a device of these bytes and layers
  told_device : (s t : B) → m.contents t ≡ m.contents s → layers t ≡ layers_told depth message (layers s) → device_of m.contents layers t ≡ record { bytes = m.contents s; layers = layers_told depth message (layers s) }
  told_device s t bytes ls =
      ap (λ (b : List ℕ). (let d : Device = record { bytes = b; layers = layers t } in d)) bytes
      ∙ ap (λ (l : List Layer). (let d : Device = record { bytes = m.contents s; layers = l } in d)) ls

  pub origin_told : (a : Answer) → IsTold m layers Origin depth message a v w → IsOriginTold m.contents layers depth message a (rested_of v) (rested_of w)
  origin_told a h = record {
    after = layers_told depth message (layers v.origin);
    told_is = answered (layers v.origin) (told (layers v.origin) depth message) a h.answer_is;
    moved = ap (λ (x : Volumed B). settled_of m.contents layers (rested_of x)) h.device.becomes
        ∙ ap (λ (d : Device). (let x : Volume = record { origin = d; snaps = (settled_of m.contents layers (rested_of v)).snaps } in x)) (told_device v.origin w.origin h.device.device.rest.contents_are h.device.device.layers_are);
  }

  -- nothing changed
  settled_still : moving_of m.contents layers None w ≡ moving_of m.contents layers None v → settled_of m.contents layers (rested_of w) ≡ settled_of m.contents layers (rested_of v)
  settled_still e = settled_same m.contents layers None w ∙ ap volume_of e ∙ sym (settled_same m.contents layers None v)

  pub origin_untold : (r : Refusal) → IsNotTold m layers Origin depth message r v w → IsTellRefused (layers v.origin) depth message r × (settled_of m.contents layers (rested_of w) ≡ settled_of m.contents layers (rested_of v))
  origin_untold r h = (h.why, settled_still (untold_moving m layers Origin depth message v w r h None))

  module _ (n k : ℕ) (found : place_of_snap n v.snaps ≡ Some k) where
    within : k < length v.snaps
    within = position_within _ v.snaps k found

    within_seen : k < length (map attached_of v.snaps)
    within_seen = (let lt = within in let len = length-map v.snaps attached_of in omega (arith, lt, len))

    -- the snapshot at that place
    module _ (s : Kept B) (at : s ≡ get_or v.snaps k s) where
      is : (e : Kept B) → s ≡ get_or v.snaps k e
      is e = at ∙ get_or_default v.snaps k s e within

      seen : (d : Attached B) → get_or (rested_of v).snaps k d ≡ attached_of s
      seen d = seen_at v (rested_of v) refl k s within_seen is d

      why_refused : (r : Refusal) → IsNotTold m layers (ToSnap n) depth message r v w → IsTellRefused (layers s.device) depth message r
      why_refused r h = subst (λ (t : Told (List Layer)). (t ≡ Refused r) ⊎ ((r ≡ NoMemory) × NeedsRoom message t)) (snap_told m.contents layers n k depth message s v at found) h.why

      pub store_untold : (r : Refusal) → IsNotTold m layers (ToSnap n) depth message r v w
          → ((d : Attached B) → IsTellRefused (layers (get_or (rested_of v).snaps k d).store) depth message r) × (settled_of m.contents layers (rested_of w) ≡ settled_of m.contents layers (rested_of v))
      store_untold r h = (
        λ d. subst (λ (x : Attached B). IsTellRefused (layers x.store) depth message r) (sym (seen d)) (why_refused r h),
        settled_still (untold_moving m layers (ToSnap n) depth message v w r h None),
      )

      snaps_moved : (t : Kept B) (f : Snap → Snap) → snap_of m.contents layers (attached_of t) ≡ f (snap_of m.contents layers (attached_of s))
          → map (snap_of m.contents layers) (map attached_of (set v.snaps k t)) ≡ set (map (snap_of m.contents layers) (map attached_of v.snaps)) k (f (snap_of m.contents layers (attached_of s)))
      snaps_moved t f e =
          ap (map (snap_of m.contents layers)) (map-set attached_of v.snaps k t)
          ∙ map-set (snap_of m.contents layers) (map attached_of v.snaps) k (attached_of t)
          ∙ ap (set (map (snap_of m.contents layers) (map attached_of v.snaps)) k) e

    pub store_told : (a : Answer) → IsTold m layers (ToSnap n) depth message a v w → IsStoreTold m.contents layers k depth message a (rested_of v) (rested_of w)
    store_told a h =
        let there = relayered_there m layers (layers_told depth message) n k v w found h.device in
        let s : Kept B = there.snap in
        let two : Some there.place ≡ Some k = sym there.found ∙ found in
        let same : there.place ≡ k = cc in
        let at : s ≡ get_or v.snaps k s = there.is ∙ ap (λ i. get_or v.snaps i s) same in
        let after : List Layer = layers_told depth message (layers s.device) in
        let t : Kept B = record s { device = there.device } in
        let f : Snap → Snap = store_relayered (λ ls. after) in
        let turned : snap_of m.contents layers (attached_of t) ≡ f (snap_of m.contents layers (attached_of s)) =
        ap (λ (d : Device). (let x : Snap = record (snap_of m.contents layers (attached_of s)) { store = d } in x)) (told_device s.device there.device there.relayered_is.rest.contents_are there.relayered_is.layers_are) in
        let told_here : told (layers s.device) depth message ≡ Answered a after =
        answered (layers s.device) (told (layers s.device) depth message) a (ap answer_of (sym (snap_told m.contents layers n k depth message s v at found)) ∙ h.answer_is) in
        let becomes : w ≡ record v { snaps = set v.snaps k t } = there.becomes ∙ ap (λ i. (let x : Volumed B = record v { snaps = set v.snaps i t } in x)) same in
        record {
          after = after;
          told_is = λ d. subst (λ (x : Attached B). told (layers x.store) depth message ≡ Answered a after) (sym (seen s at d)) told_here;
          moved = λ d. ap (λ (x : Volumed B). settled_of m.contents layers (rested_of x)) becomes
              ∙ ap (λ (ss : List Snap). (let x : Volume = record { origin = device_of m.contents layers v.origin; snaps = ss } in x)) (snaps_moved s at t f turned)
              ∙ ap (λ (x : Attached B). place_relayered m.contents layers k x after (settled_of m.contents layers (rested_of v))) (sym (seen s at d));
        }

  -- the merging store
  module _ (n : ℕ) (apart : place_of_snap n v.snaps ≡ None) where
    pub merging_told_as : (a : Answer) → IsTold m layers (ToSnap n) depth message a v w → IsMergingTold m.contents layers depth message a (rested_of v) (rested_of w)
    merging_told_as a h = told_by h.device
      where
        told_by : IsRelayeredAt m layers (ToSnap n) (layers_told depth message) v w → IsMergingTold m.contents layers depth message a (rested_of v) (rested_of w)
        told_by (inl there) = absurd (let two : Some there.place ≡ None = sym there.found ∙ apart in cc)
        told_by (inr there) =
            let g : Merging B = there.merge in
            let after : List Layer = layers_told depth message (layers g.device) in
            let held : Option Merge → Merged = λ o. record { volume = settled_of m.contents layers (rested_of v); merge = o } in
            let mk : Device → Merged = λ d. held (Some (record (merge_held_of (record { due = merging_due m.contents true g; layers = layers g.device; next = g.next })).merge { store = d })) in
            record {
              merge = g;
              after = after;
              begun = there.is;
              told_is = answered (layers g.device) (told (layers g.device) depth message) a (ap answer_of (sym (merging_told m.contents layers n depth message g v apart there.is there.mine)) ∙ h.answer_is);
              moved = ap (λ (x : Volumed B). merged_of m.contents layers (rested_of x)) there.becomes
                  ∙ ap mk (told_device g.device there.device there.relayered_is.rest.contents_are there.relayered_is.layers_are)
                  ∙ ap (λ (o : Option (Merging B)). held (merging_store_relayered (λ ls. after) (merge_in (held_in (merge_seen m.contents layers o))))) (sym there.is);
            }

    pub merging_untold : (g : Merging B) → v.merge ≡ Some g → g.number ≡ n → (r : Refusal) → IsNotTold m layers (ToSnap n) depth message r v w → IsMergingUntold layers depth message r (rested_of v)
    merging_untold g is mine r h = inr (g, is, subst (λ (t : Told (List Layer)). (t ≡ Refused r) ⊎ ((r ≡ NoMemory) × NeedsRoom message t)) (merging_told m.contents layers n depth message g v apart is mine) h.why)
