-- Where layers alone change, no device may be left with anything but what it might be left with before.
use Rattle.std.proofs.Common.{◌≡◌, inl, inr, ℕ, ◌*◌, ◌<◌, List, Option, None, Some, length, get_or, sym, ◌∙◌, ap, subst}
use Rattle.sector.specs.Bytes.{sector_at}
use Rattle.device.specs.Layers.{Layer}
use Rattle.crash_laws.specs.Firm.{AddsNow}
use Rattle.merge.specs.Merging.{Merging}
use Rattle.volume.specs.Adding.{AddsMerge, LeavesNoMore, MergeLeavesNoMore, OpensNothing}
use Rattle.volume.specs.Volumed.{Volumed}
use Rattle.volume.proofs.Relayered.{IsAlike, IsMergeAlike, IsVolumeAlike}
use Rattle.volume.proofs.LastTime.{AddsAll}

module _ {B : Type 0} (holds : B → ℕ → List ℕ → Type 0) (contents : B → List ℕ) (layers : B → List Layer) (size : B → ℕ) (whole : (d : B) → length (contents d) ≡ 512 * size d) (here : (d : B) (s : ℕ) → s < size d → holds d s (sector_at (contents d) s)) where
  -- of one device: what it adds is there, and was
  alike_less : (d d' : B) → IsAlike contents layers size d d' → AddsNow (holds d) (holds d') (contents d') → LeavesNoMore holds size d d'
  alike_less d d' a adds s x lt h = elim (adds s x h) [
    | inl before ↦ before
    | inr there ↦ subst (holds d s) (sym (there ∙ ap (λ b. sector_at b s) a.bytes)) (here d s lt)
  ]

  merge_less : (m m' : Option (Merging B)) → IsMergeAlike contents layers size m m' → AddsMerge holds contents m m' → MergeLeavesNoMore holds size m m'
  merge_less None after a adds = tt
  merge_less (Some m) None a adds = absurd a
  merge_less (Some m) (Some m') a adds = alike_less m.device m'.device a.0 adds

  pub alike_opens : (v w : Volumed B) → IsVolumeAlike contents layers size v w → AddsAll holds contents layers size whole here v w → OpensNothing holds size v w
  alike_opens v w a adds = record {
    origin = alike_less v.origin w.origin a.origin adds.origin;
    snaps = λ k d lt. alike_less (get_or v.snaps k d).device (get_or w.snaps k d).device (a.snaps k d lt).store (adds.snaps k d lt);
    merge = merge_less v.merge w.merge a.merge adds.merge;
  }
