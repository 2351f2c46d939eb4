-- The laws over the devices of an origin and of a store.
use Rattle.std.proofs.Common.{◌≡◌, ◌⊎◌, inl, inr, ℕ, ◌+◌, ◌*◌, ◌/◌, ◌<◌, Bool, true, false, List, ◌++◌, length, refl, sym, subst}
use Rattle.std.specs.Prelude.{None}
use Rattle.std.proofs.lemmas.Bool.{cases_lt}
use Rattle.sector.specs.Bytes.{sector_at}
use Rattle.sector.specs.declared.pair.Pair.{Pair}
use Rattle.cow_format.specs.Picture.{place_of}
use Rattle.crash_laws.specs.Stop.{MayLeave}
use Rattle.crash_laws.specs.Firm.{AddsNow, IsFirm}
use Rattle.cache_loss_laws.specs.Kept.{Kept, SnapLasts}
use Rattle.cache_loss_laws.specs.Merging.{Merging, MergeLasts}
use Rattle.cache_loss_laws.specs.Lost.{NoneGiven, GivesPlace, IsOneOf, IsOneCall, IsLeftOn, IsSnapOn, SnapLastsOn, IsCalmOn, StopsSnapOn, IsCommit, IsFlush, IsMergeOn, MergeLastsOn, StopsMergeOn, IsClearing, IsPlaceWrite, IsDiskWrite, GivesDisk, ClosesOn, IsFirmOn}
use Rattle.cache_loss_laws.proofs.Kept.{calm_stops, calm_lasts}
use Rattle.cache_loss_laws.proofs.Committed.{commit_stops, commit_lasts, commit_fills}
use Rattle.cache_loss_laws.proofs.Flushed.{flush_lasts}
use Rattle.cache_loss_laws.proofs.MergeKept.{disk_stops, disk_lasts, place_stops, place_lasts, clear_stops, clear_lasts, origin_flush_lasts, store_flush_lasts}
use Rattle.cache_loss_laws.proofs.Closing.{store_closes, origin_closes}

module _ {B : Type 0} (holds : B → ℕ → List ℕ → Type 0) (contents : B → List ℕ) where
  module _ (origin origin' store store' : B) (call : IsOneCall holds contents origin origin' store store') where
    adds_same : contents origin' ≡ contents origin → AddsNow (holds origin) (holds origin') (contents origin)
    adds_same same = subst (AddsNow (holds origin) (holds origin')) same call.origin_adds

    store_adds_same : contents store' ≡ contents store → AddsNow (holds store) (holds store') (contents store)
    store_adds_same same = subst (AddsNow (holds store) (holds store')) same call.store_adds

    pub calm_stops_on : (v : Kept) (copies copies' : List Pair) (zeroed marked : Bool) (given : ℕ → List ℕ → Type 0) → IsSnapOn holds contents copies v origin store → IsCalmOn contents copies copies' zeroed marked given v origin origin' store store' → StopsSnapOn holds marked given v origin origin' store store'
    calm_stops_on v copies copies' zeroed marked given h is =
        calm_stops (holds origin) (holds store) (holds origin') (holds store') (contents origin) (contents origin') (contents store) (contents store') (IsOneOf copies) (IsOneOf copies') zeroed marked given v h.there h.lasts is call.origin_adds call.store_adds

    pub calm_lasts_on : (v : Kept) (copies copies' : List Pair) (zeroed marked : Bool) (given : ℕ → List ℕ → Type 0) → IsSnapOn holds contents copies v origin store → IsCalmOn contents copies copies' zeroed marked given v origin origin' store store' → IsLeftOn holds contents v.sectors v.size origin' store'
        → SnapLastsOn holds contents copies' (record v { zeroed = zeroed; marked = marked }) origin' store'
    calm_lasts_on v copies copies' zeroed marked given h is left =
        calm_lasts (holds origin) (holds store) (holds origin') (holds store') (contents origin) (contents origin') (contents store) (contents store') (IsOneOf copies) (IsOneOf copies') zeroed marked given v h.there h.lasts is call.origin_adds call.store_adds left.origin_left

    module _ (v : Kept) (copies copies' qs : List Pair) (h : IsSnapOn holds contents copies v origin store) (is : IsCommit contents copies copies' v qs origin origin' store store') where
      pub commit_stops_on : StopsSnapOn holds v.marked NoneGiven v origin origin' store store'
      commit_stops_on = commit_stops (holds origin) (holds store) (holds origin') (holds store') (contents origin) (contents store) (contents store') (IsOneOf copies) (IsOneOf copies') v qs h.there h.lasts (adds_same is.same) call.store_adds is.only is.now is.formed is.flushed is.rest is.reach is.fewer

      pub commit_lasts_on : IsLeftOn holds contents v.sectors v.size origin' store' → SnapLastsOn holds contents copies' (record v { pairs = v.pairs ++ qs }) origin' store'
      commit_lasts_on left =
          subst (λ o. SnapLasts (holds origin') (holds store') o (contents store') (IsOneOf copies') (record v { pairs = v.pairs ++ qs })) (sym is.same)
          (commit_lasts (holds origin) (holds store) (holds origin') (holds store') (contents origin) (contents store) (contents store') (IsOneOf copies) (IsOneOf copies') v qs h.there h.lasts (adds_same is.same) call.store_adds is.only is.now is.formed is.flushed is.rest is.reach is.fewer (subst (MayLeave (holds origin') v.sectors) is.same left.origin_left) left.store_left)

      pub commit_fills_on : IsLeftOn holds contents v.sectors v.size origin' store' → v.firm ≡ true → SnapLastsOn holds contents copies' (record v { current = v.current + 1; zeroed = false; firm = false; pairs = v.pairs ++ qs }) origin' store'
      commit_fills_on left firm =
          subst (λ o. SnapLasts (holds origin') (holds store') o (contents store') (IsOneOf copies') (record v { current = v.current + 1; zeroed = false; firm = false; pairs = v.pairs ++ qs })) (sym is.same)
          (commit_fills (holds origin) (holds store) (holds origin') (holds store') (contents origin) (contents store) (contents store') (IsOneOf copies) (IsOneOf copies') v qs h.there h.lasts (adds_same is.same) call.store_adds is.only is.now is.formed is.flushed is.rest is.reach is.fewer (subst (MayLeave (holds origin') v.sectors) is.same left.origin_left) left.store_left firm)

    pub flush_lasts_on : (v : Kept) (copies copies' : List Pair) → IsSnapOn holds contents copies v origin store → IsFlush holds contents copies' v origin origin' store store' → SnapLastsOn holds contents copies' (record v { firm = v.zeroed; sure = length v.pairs }) origin' store'
    flush_lasts_on v copies copies' h is =
        subst (λ o. SnapLasts (holds origin') (holds store') o (contents store') (IsOneOf copies') (record v { firm = v.zeroed; sure = length v.pairs })) (sym is.origin_same)
        (subst (λ c. SnapLasts (holds origin') (holds store') (contents origin) c (IsOneOf copies') (record v { firm = v.zeroed; sure = length v.pairs })) (sym is.store_same)
        (flush_lasts (holds origin) (holds store) (holds origin') (holds store') (contents origin) (contents store) (IsOneOf copies) (IsOneOf copies') v h.there h.lasts (adds_same is.origin_same) (subst (λ c. IsFirm (holds store') c v.size) is.store_same is.firm) is.reach is.written))

    module _ (m : Merging) (h : IsMergeOn holds contents m origin store) where
      pub clear_stops_on : (kept : List Pair) (a : ℕ) → IsClearing contents m kept a origin origin' store store' → StopsMergeOn holds NoneGiven m origin origin' store store'
      clear_stops_on kept a is = clear_stops (holds origin) (holds store) (holds origin') (holds store') (contents origin) (contents store) (contents store') m kept a h.there h.lasts is.parts is.flushed (adds_same is.same) call.store_adds is.only is.now is.zero is.others is.clears is.copied

      pub clear_lasts_on : (kept copied : List Pair) (a : ℕ) → IsClearing contents m kept a origin origin' store store' → IsLeftOn holds contents m.sectors m.size origin' store' → MergeLastsOn holds contents (record m { pairs = kept; copied = copied; flushed = false }) origin' store'
      clear_lasts_on kept copied a is left =
          subst (λ o. MergeLasts (holds origin') (holds store') o (contents store') (record m { pairs = kept; copied = copied; flushed = false })) (sym is.same)
          (clear_lasts (holds origin) (holds store) (holds origin') (holds store') (contents origin) (contents store) (contents store') m kept a h.there h.lasts is.parts is.flushed (adds_same is.same) call.store_adds is.only is.now is.zero is.others is.clears is.copied copied (subst (MayLeave (holds origin') m.sectors) is.same left.origin_left) left.store_left)

      pub place_stops_on : (named n r count : ℕ) (bytes : List ℕ) → IsPlaceWrite contents m named n r count bytes origin origin' store store' → StopsMergeOn holds (GivesPlace m.chunk named r count bytes) m origin origin' store store'
      place_stops_on named n r count bytes is = place_stops (holds origin) (holds store) (holds origin') (holds store') (contents origin) (contents store) bytes m named n r count h.there h.lasts is.at is.within is.long (adds_same is.same) (subst (AddsNow (holds store) (holds store')) is.written call.store_adds)

      pub place_lasts_on : (named n r count : ℕ) (bytes : List ℕ) → IsPlaceWrite contents m named n r count bytes origin origin' store store' → IsLeftOn holds contents m.sectors m.size origin' store' → MergeLastsOn holds contents m origin' store'
      place_lasts_on named n r count bytes is left =
          subst (λ o. MergeLasts (holds origin') (holds store') o (contents store') m) (sym is.same)
          (subst (λ c. MergeLasts (holds origin') (holds store') (contents origin) c m) (sym is.written)
          (place_lasts (holds origin) (holds store) (holds origin') (holds store') (contents origin) (contents store) bytes m named n r count h.there h.lasts is.at is.within is.long (adds_same is.same) (subst (AddsNow (holds store) (holds store')) is.written call.store_adds)
          (subst (MayLeave (holds origin') m.sectors) is.same left.origin_left) (subst (MayLeave (holds store') m.size) is.written left.store_left)))

      pub disk_stops_on : (first count : ℕ) (copied : List Pair) (flushed : Bool) → IsDiskWrite contents m first count copied flushed origin origin' store store' → StopsMergeOn holds (GivesDisk contents first count origin') m origin origin' store store'
      disk_stops_on first count copied flushed is =
          disk_stops (holds origin) (holds store) (holds origin') (holds store') (contents origin) (contents origin') (contents store) m (GivesDisk contents first count origin') h.there h.lasts call.origin_adds (store_adds_same is.store_same) gives
        where
          gives : (s : ℕ) → s < m.sectors → place_of m.pairs (s / m.chunk) ≡ None → (sector_at (contents origin') s ≡ sector_at (contents origin) s) ⊎ GivesDisk contents first count origin' s (sector_at (contents origin') s)
          gives s lt none = elim (cases_lt s first) [
            | inl below ↦ inl (is.beside s lt none (inl below))
            | inr from ↦ elim (cases_lt s (first + count)) [
              | inl within ↦ inr (from, within, refl)
              | inr past ↦ inl (is.beside s lt none (inr past))
            ]
          ]

      pub disk_lasts_on : (first count : ℕ) (copied : List Pair) (flushed : Bool) → IsDiskWrite contents m first count copied flushed origin origin' store store' → MergeLastsOn holds contents (record m { copied = copied; flushed = flushed }) origin' store'
      disk_lasts_on first count copied flushed is =
          subst (λ c. MergeLasts (holds origin') (holds store') (contents origin') c (record m { copied = copied; flushed = flushed })) (sym is.store_same)
          (disk_lasts (holds origin) (holds store) (holds origin') (holds store') (contents origin) (contents origin') (contents store) m NoneGiven h.there h.lasts call.origin_adds (store_adds_same is.store_same) copied flushed is.back)

      pub origin_flush_on : contents origin' ≡ contents origin → contents store' ≡ contents store → IsFirm (holds origin') (contents origin') m.sectors → MergeLastsOn holds contents (record m { flushed = true }) origin' store'
      origin_flush_on same here firm =
          subst (λ o. MergeLasts (holds origin') (holds store') o (contents store') (record m { flushed = true })) (sym same)
          (subst (λ c. MergeLasts (holds origin') (holds store') (contents origin) c (record m { flushed = true })) (sym here)
          (origin_flush_lasts (holds origin) (holds store) (holds origin') (holds store') (contents origin) (contents store) m h.there h.lasts (store_adds_same here) (subst (λ o. IsFirm (holds origin') o m.sectors) same firm)))

      pub store_flush_on : contents origin' ≡ contents origin → contents store' ≡ contents store → IsFirm (holds store') (contents store') m.size → MergeLastsOn holds contents m origin' store'
      store_flush_on same here firm =
          subst (λ o. MergeLasts (holds origin') (holds store') o (contents store') m) (sym same)
          (subst (λ c. MergeLasts (holds origin') (holds store') (contents origin) c m) (sym here)
          (store_flush_lasts (holds origin) (holds store) (holds origin') (holds store') (contents origin) (contents store) m h.there h.lasts (adds_same same) (subst (λ c. IsFirm (holds store') c m.size) here firm)))

  module _ (size : B → ℕ) (whole : (d : B) → length (contents d) ≡ 512 * size d) (here : (d : B) (s : ℕ) → s < size d → holds d s (sector_at (contents d) s)) where
    -- what is there may be left
    leaves : (d : B) → MayLeave (holds d) (size d) (contents d)
    leaves d = record { whole = whole d; each = here d }

    pub store_closes_on : (chunk : ℕ) (origin store : B) → 0 < chunk → IsFirmOn holds contents size store → ClosesOn true holds contents size chunk origin store
    store_closes_on chunk origin store pos firm = store_closes chunk (size origin) (size store) (holds origin) (holds store) (contents origin) (contents store) pos (leaves origin) (leaves store) firm

    pub origin_closes_on : (chunk : ℕ) (origin store : B) → 0 < chunk → IsFirmOn holds contents size origin → ClosesOn false holds contents size chunk origin store
    origin_closes_on chunk origin store pos firm = origin_closes chunk (size origin) (size store) (holds origin) (holds store) (contents origin) (contents store) pos (leaves origin) (leaves store) firm
