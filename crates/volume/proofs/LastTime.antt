-- What lasts of a volume while time passes, or a layer is told something: layers alone change.
use Rattle.std.proofs.Common.{◌≡◌, inl, inr, ℕ, ◌+◌, ◌*◌, ◌<◌, true, List, Option, None, Some, length, get_or, set, refl, sym, ◌∙◌, ap, subst, arith}
use Rattle.std.proofs.lemmas.Bool.{cases_eq}
use Rattle.std.proofs.lemmas.List.{get_or_default, get_or-set_same, get_or-set_other}
use Rattle.sector.specs.Bytes.{sector_at}
use Rattle.device.specs.Layers.{Layer}
use Rattle.crash_laws.specs.Firm.{AddsNow}
use Rattle.snapshot.specs.Kept.{Kept}
use Rattle.merge.specs.Lists.{copied_of}
use Rattle.merge.specs.Merging.{Merging, flushed_of}
use Rattle.volume.specs.Adding.{AddsMerge}
use Rattle.volume.specs.Layering.{Measures}
use Rattle.volume.specs.SnapLasting.{IsReady}
use Rattle.volume.specs.MergeLasting.{MergeLasting}
use Rattle.volume.specs.Lasting.{IsLasting}
use Rattle.volume.specs.Volumed.{Volumed}
use Rattle.volume.specs.Whole.{IsWhole}
use Rattle.volume.proofs.Relayered.{IsAlike, IsSnapAlike, IsMergeAlike, IsVolumeAlike, AreLaterBelow}
use Rattle.volume.proofs.LastOne.{IsSameDevice, IsLeft}
use Rattle.volume.proofs.LastAll.{GoesAll, all_left}
use Rattle.volume.proofs.MergeLasts.{kept_merge, still_goes}

-- so far: those before place k
abbrev pub AddsBelow : {B : Type 0} → (B → ℕ → List ℕ → Type 0) → (B → List ℕ) → ℕ → List (Kept B) → List (Kept B) → Type 0
AddsBelow holds contents k olds news = (j : ℕ) (d : Kept _) → j < k → j < length olds → AddsNow (holds (get_or olds j d).device) (holds (get_or news j d).device) (contents (get_or news j d).device)

module _ {B : Type 0} (holds : B → ℕ → List ℕ → Type 0) (contents : B → List ℕ) (layers : B → List Layer) (size : B → ℕ) (whole : (d : B) → length (contents d) ≡ 512 * size d) (here : (d : B) (s : ℕ) → s < size d → holds d s (sector_at (contents d) s)) where
  -- what the devices add to what they may hold
  pub record AddsAll (v w : Volumed B) : Type 0 where
    pub origin : AddsNow (holds v.origin) (holds w.origin) (contents w.origin)
    pub snaps : (k : ℕ) (d : Kept B) → k < length v.snaps → AddsNow (holds (get_or v.snaps k d).device) (holds (get_or w.snaps k d).device) (contents (get_or w.snaps k d).device)
    pub merge : AddsMerge holds contents v.merge w.merge

  alike_device : (d d' : B) → IsAlike contents layers size d d' → AddsNow (holds d) (holds d') (contents d') → IsSameDevice holds contents layers size d d'
  alike_device d d' a adds = record { adds = λ loud. adds; bytes = a.bytes; sectors = a.sectors; loud = a.loud }

  pub no_adds : (d : B) → AddsNow (holds d) (holds d) (contents d)
  no_adds d s x there = inl there

  pub no_adds_merge : (m : Option (Merging B)) → AddsMerge holds contents m m
  no_adds_merge None = tt
  no_adds_merge (Some m) = no_adds m.device

  -- one snapshot's store adds, and no other
  pub one_adds : (snaps : List (Kept B)) (k : ℕ) (s t : Kept B) → k < length snaps → s ≡ get_or snaps k s → AddsNow (holds s.device) (holds t.device) (contents t.device)
      → (j : ℕ) (d : Kept B) → j < length snaps → AddsNow (holds (get_or snaps j d).device) (holds (get_or (set snaps k t) j d).device) (contents (get_or (set snaps k t) j d).device)
  one_adds snaps k s t within is adds j d lt = elim (cases_eq j k) [
    | inl same ↦
        subst (λ (x : Kept B). AddsNow (holds (get_or snaps j d).device) (holds x.device) (contents x.device)) (sym (ap (λ i. get_or (set snaps k t) i d) same ∙ get_or-set_same snaps k t d within))
        (subst (λ (x : Kept B). AddsNow (holds x.device) (holds t.device) (contents t.device)) (is ∙ get_or_default snaps k s d within ∙ ap (λ i. get_or snaps i d) (sym same)) adds)
    | inr other ↦ subst (λ (x : Kept B). AddsNow (holds (get_or snaps j d).device) (holds x.device) (contents x.device)) (sym (get_or-set_other snaps k j t d other)) (no_adds (get_or snaps j d).device)
  ]

  pub adds_none_below : (olds news : List (Kept B)) → AddsBelow holds contents 0 olds news
  adds_none_below olds news = λ j d lt. absurd (omega (arith, lt))

  pub adds_more : (m : Measures B) (seconds k : ℕ) (olds news : List (Kept B)) (s t : Kept B) → AreLaterBelow m layers seconds k olds news → AddsBelow holds contents k olds news → k < length news → AddsNow (holds (get_or news k s).device) (holds t.device) (contents t.device) → AddsBelow holds contents (k + 1) olds (set news k t)
  adds_more m seconds k olds news s t later h within adds = λ j d lt inside. elim (cases_eq j k) [
    | inl same ↦
        subst (λ (x : Kept B). AddsNow (holds (get_or olds j d).device) (holds x.device) (contents x.device)) (sym (ap (λ i. get_or (set news k t) i d) same ∙ get_or-set_same news k t d within))
        (subst (λ (x : Kept B). AddsNow (holds x.device) (holds t.device) (contents t.device)) (get_or_default news k s d within ∙ ap (λ i. get_or news i d) (sym same) ∙ later.rest j d (omega (arith, same))) adds)
    | inr other ↦ subst (λ (x : Kept B). AddsNow (holds (get_or olds j d).device) (holds x.device) (contents x.device)) (sym (get_or-set_other news k j t d other)) (h j d (omega (arith, lt, other)) inside)
  ]

  -- layers alone change
  module _ (v : Volumed B) (h : IsWhole contents layers size v) (l : IsLasting holds contents layers size v) (w : Volumed B) (alike : IsVolumeAlike contents layers size v w) (adds : AddsAll v w) where
    disk : IsSameDevice holds contents layers size v.origin w.origin
    disk = alike_device v.origin w.origin alike.origin adds.origin

    snaps_alike : GoesAll holds contents layers size whole here None v w
    snaps_alike = all_left holds contents layers size whole here v h l.snaps None w alike.count disk (λ k s t within is are.
        (let one : IsSnapAlike contents layers size s t = subst (IsSnapAlike contents layers size s) (sym are) (subst (λ (x : Kept B). IsSnapAlike contents layers size x (get_or w.snaps k t)) (get_or_default v.snaps k t s within ∙ sym is) (alike.snaps k t within)) in
        let more : AddsNow (holds s.device) (holds t.device) (contents t.device) = subst (λ (x : Kept B). AddsNow (holds s.device) (holds x.device) (contents x.device)) (sym are)
        (subst (λ (x : Kept B). AddsNow (holds x.device) (holds (get_or w.snaps k t).device) (contents (get_or w.snaps k t).device)) (get_or_default v.snaps k t s within ∙ sym is) (adds.snaps k t within)) in (
          alike_device s.device t.device one.store more,
          subst (IsLeft s) (sym one.same) (record { chunk = refl; current = refl; zeroed = refl; firm = refl; sure = refl; marked = refl; pairs = refl }),
          inl (ap (λ (x : Kept B). x.live) one.same, ap (λ (x : Kept B). x.untried) one.same, ap (λ (x : Kept B). x.stale) one.same, λ q r. subst (λ cs. IsReady cs q) (ap (λ (x : Kept B). x.copies) one.same) r),
        )))

    merge_alike : (m m' : Option (Merging B)) → v.merge ≡ m → IsMergeAlike contents layers size m m' → AddsMerge holds contents m m' → MergeLasting holds contents layers size w.origin m'
    merge_alike None None e a more = tt
    merge_alike None (Some y) e a more = absurd a
    merge_alike (Some x) None e a more = absurd a
    merge_alike (Some x) (Some y) e a more =
        (still_goes holds contents layers size whole here v.origin v.flights x (kept_merge contents layers size v x h e) (subst (MergeLasting holds contents layers size v.origin) e l.merge) None w.origin y (ap (λ (z : Merging B). z.state.chunk) a.1) disk (alike_device x.device y.device a.0 more)
        (ap (λ (z : Merging B). z.pairs) a.1) (λ f. (subst (λ (z : Merging B). flushed_of z.group ≡ true) a.1 f, ap (λ (z : Merging B). copied_of z.group) a.1))).lasts

    pub alike_lasts : IsLasting holds contents layers size w
    alike_lasts = record { snaps = snaps_alike.lasts; merge = merge_alike v.merge w.merge refl alike.merge adds.merge }
