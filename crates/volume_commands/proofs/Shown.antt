-- The arrays of a volume with its merge, by its big steps.
use Rattle.std.proofs.Common.{◌≡◌, ℕ, List, Option, Some, None, refl, sym, subst}
use Rattle.device.specs.Layers.{Layer}
use Rattle.event_machine.specs.MergeRest.{merge_in}
use Rattle.event_machine.specs.MergeSeen.{held_in}
use Rattle.whole_commands.specs.Merges.{Merged, Merge}
use Rattle.whole_commands.specs.MergeShown.{origin_shown}
use Rattle.merge.specs.Merging.{Merging}
use Rattle.volume.specs.Moved.{merge_seen}
use Rattle.volume.specs.Shown.{shown_origin, shown_begun}
use Rattle.volume_commands.specs.Rested.{Rested, merged_of, settled_of}
use Rattle.volume_commands.specs.Showing.{arrays_of, arrays_in}
use Rattle.plain_machine.specs.Plain.{Shown}

abbrev pub begun_with : Option Merge → Option ℕ
begun_with None = None
begun_with (Some g) = Some g.number

abbrev pub arrays_with : Merged → Shown
arrays_with m = record { origin = origin_shown m; begun = begun_with m.merge; saved = (arrays_of m.volume).saved }

module _ {B : Type 0} (contents : B → List ℕ) (layers : B → List Layer) where
  abbrev pub arrays_by : Rested B → Shown
  arrays_by v = arrays_with (merged_of contents layers v)

  -- they are the same
  pub shown_by : (v : Rested B) → arrays_in contents layers v ≡ arrays_by v
  shown_by v = by v.events.merge
    where
      by : (o : Option (Merging B))
          → (let a : Shown = record { origin = shown_origin contents v.origin o; begun = shown_begun o; saved = (arrays_of (settled_of contents layers v)).saved } in a)
          ≡ (let m : Merged = record { volume = settled_of contents layers v; merge = merge_in (held_in (merge_seen contents layers o)) } in arrays_with m)
      by None = refl
      by (Some m) = refl

  pub seen : (P : Shown → Shown → Type 0) (v w : Rested B) → P (arrays_by v) (arrays_by w) → P (arrays_in contents layers v) (arrays_in contents layers w)
  seen P v w p = subst (λ (a : Shown). P a (arrays_in contents layers w)) (sym (shown_by v)) (subst (P (arrays_by v)) (sym (shown_by w)) p)
