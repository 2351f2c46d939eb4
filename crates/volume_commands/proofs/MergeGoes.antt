-- A merge that goes on, in words of arrays: nobody sees it.
use Rattle.std.proofs.Common.{◌≡◌, inl, inr, ℕ, List, [], ◌∷◌, map, Option, Some, None, refl, sym, ◌∙◌, ap, subst}
use Rattle.std.proofs.lemmas.Bool.{cases_Bool, cond-false}
use Rattle.device.specs.Layers.{Layer}
use Rattle.whole_commands.specs.Snaps.{Snap, Volume}
use Rattle.whole_commands.specs.Shown.{ShowTheSame}
use Rattle.whole_commands.specs.Merges.{Merge, Merged, Merging, merge_all, merged, merged_by}
use Rattle.whole_commands.specs.MergeShown.{IsMerging, IsUnseen}
use Rattle.whole_command_laws.proofs.MergeEnds.{merge_unseen}
use Rattle.event_machine.specs.Held.{MergeHeld}
use Rattle.event_machine.specs.MergeRest.{in_big_steps, merge_in}
use Rattle.event_machine.specs.MergeSeen.{held_in}
use Rattle.merge.specs.Merging.{Merging as MergingStore}
use Rattle.volume.specs.Asking.{merging_number}
use Rattle.volume.specs.Moved.{merge_seen, moving_of}
use Rattle.volume.specs.Volumed.{Volumed}
use Rattle.volume.proofs.Relayered.{map_twice}
use Rattle.volume_commands.specs.Rested.{Rested, merged_of, numbers_of, rested_of, settled_of, snap_of}
use Rattle.volume_commands.specs.Showing.{arrays_in, entry_of, AreKept, IsGoneOn}
use Rattle.volume_commands.proofs.Overflows.{overflows_of, merge_keeps}
use Rattle.volume_commands.proofs.Parts.{kept_none}
use Rattle.volume_commands.proofs.PlainReads.{IsUnder, under_by}
use Rattle.volume_commands.proofs.Shown.{arrays_with, begun_with, seen}
use Rattle.plain_machine.specs.Plain.{Shown}

-- nothing changed
pub gone_none : (a : Shown) → IsGoneOn a a
gone_none a = record { origin = refl; begun = refl; saved = kept_none a.saved }

abbrev snap_numbers : List Snap → List ℕ
snap_numbers snaps = map (λ s. s.number) snaps

-- snapshots of the same numbers that show the same where they are live
kept_shown : (before after : List ℕ) (ss ts : List Snap) → snap_numbers ts ≡ snap_numbers ss → overflows_of ts ≡ overflows_of ss → ShowTheSame before after ss ts → AreKept (map (entry_of before) ss) (map (entry_of after) ts)
kept_shown before after [] [] numbers full same = tt
kept_shown before after [] (t ∷ ts) numbers full same = absurd same
kept_shown before after (s ∷ ss) [] numbers full same = absurd same
kept_shown before after (s ∷ ss) (t ∷ ts) numbers full same =
    let head : t.number ≡ s.number = cc in
    let tail : snap_numbers ts ≡ snap_numbers ss = cc in
    let fills : t.overflow ≡ s.overflow = cc in
    let rest : overflows_of ts ≡ overflows_of ss = cc in (
      head,
      fills,
      elim (cases_Bool t.live) [ inl live ↦ inl (same.0 live) | inr out ↦ inr (cond-false _ _ _ out) ],
      kept_shown before after ss ts tail rest same.1,
    )

-- the whole merge of the settled machine
gone_by : (sectors : ℕ) (o : Option Merge) (v : Volume) → ((g : Merge) → o ≡ Some g → (let m : Merging = record { volume = v; merge = g } in IsMerging sectors m))
    → snap_numbers (merged_by o v).volume.snaps ≡ snap_numbers v.snaps → begun_with (merged_by o v).merge ≡ begun_with o → (let m : Merged = record { volume = v; merge = o } in IsGoneOn (arrays_with m) (arrays_with (merged_by o v)))
gone_by sectors None v under numbers begun = (let m : Merged = record { volume = v; merge = None } in gone_none (arrays_with m))
gone_by sectors (Some g) v under numbers begun =
    let m : Merging = record { volume = v; merge = g } in
    let unseen : IsUnseen sectors m (merge_all m) = merge_unseen sectors m (under g refl) in
    record { origin = unseen.origin; begun = begun; saved = kept_shown v.origin.bytes (merge_all m).volume.origin.bytes v.snaps (merge_all m).volume.snaps numbers (merge_keeps m) unseen.snaps }

module _ {B : Type 0} (contents : B → List ℕ) (layers : B → List Layer) (size : B → ℕ) (v w : Volumed B)
    (under : (h : MergeHeld) → (moving_of contents layers None v).merge ≡ Some h → IsMerging (size v.origin) (in_big_steps h (moving_of contents layers None v))) where
  abbrev start : Merged
  start = merged_of contents layers (rested_of v)

  numbers_settled : (u : Rested B) → snap_numbers (settled_of contents layers u).snaps ≡ numbers_of u
  numbers_settled u = map_twice (snap_of contents layers) (λ (s : Snap). s.number) u.snaps

  begun_is : (u : Volumed B) → begun_with (merged_of contents layers (rested_of u)).merge ≡ merging_number u.merge
  begun_is u = by u.merge
    where
      by : (o : Option (MergingStore B)) → begun_with (merge_in (held_in (merge_seen contents layers o))) ≡ merging_number o
      by None = refl
      by (Some m) = refl

  -- that of a volume
  pub merged_gone_on : merged start ≡ merged_of contents layers (rested_of w) → numbers_of (rested_of w) ≡ numbers_of (rested_of v) → merging_number w.merge ≡ merging_number v.merge
      → IsGoneOn (arrays_in contents layers (rested_of v)) (arrays_in contents layers (rested_of w))
  merged_gone_on is numbers merging =
      let same : snap_numbers (merged start).volume.snaps ≡ snap_numbers start.volume.snaps =
      ap (λ (m : Merged). snap_numbers m.volume.snaps) is ∙ numbers_settled (rested_of w) ∙ numbers ∙ sym (numbers_settled (rested_of v)) in
      let begun : begun_with (merged start).merge ≡ begun_with start.merge = ap (λ (m : Merged). begun_with m.merge) is ∙ begun_is w ∙ merging ∙ sym (begun_is v) in
      seen contents layers IsGoneOn (rested_of v) (rested_of w)
      (subst (λ (m : Merged). IsGoneOn (arrays_with start) (arrays_with m)) is
      (gone_by (size v.origin) start.merge start.volume (λ g e. (let h : IsUnder contents layers size v under g = under_by contents layers size v under (moving_of contents layers None v).merge refl g e in h.0)) same begun))
