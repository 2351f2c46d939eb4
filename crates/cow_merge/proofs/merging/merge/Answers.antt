use Rattle.std.proofs.Common.{◌≡◌, inl, inr, ℕ, ◌+◌, ◌*◌, ◌/◌, ◌<◌, ◌≤◌, List, length, take, arith, refl}
use Rattle.std.proofs.lemmas.Result.{on_ok_weaker}
use Rattle.sector.specs.Bytes.{sector_at}
use Rattle.cow_format.specs.Picture.{place_of}
use Rattle.cow_image.specs.declared.map.CowMap.{CowMap}
use Rattle.cow_image.specs.Maps.{IsMapOf}
use Rattle.cow_merge.specs.Merges.{IsMerging}
use Rattle.cow_merge.specs.Holding.{Begin, IsBegin, Leaves, Settles, Rolls, pairs}
use Rattle.cow_merge.proofs.Steps.{stops_all, stops_stay}
use Rattle.cow_merge.proofs.Merged.{origin_first, rolls_first, ends_at, merged}
use Rattle.cow_merge.proofs.merging.merge.Goals as goal

abbrev begin_of : CowMap → ℕ → List ℕ → List ℕ → Begin
begin_of map origin o s = record { chunk = map.chunk; sectors = origin; size = map.size; origin = o; store = s }

-- the beginning of a merge, where no sync has failed
begins : (map : CowMap) (origin : ℕ) (bytes : ℕ → List ℕ) (may : ℕ → ℕ → List ℕ → Type 0) (lasts : ℕ → ℕ → Type 0) → length (bytes 0) ≡ 512 * origin → IsMapOf origin (bytes 1) map → ((f s : ℕ) → lasts f s) → IsMerging map.chunk origin map.size (map.current + 1) (bytes 0) (bytes 1) bytes may lasts
begins map origin bytes may lasts len is all =
    let at = is.current in
    let begin : IsBegin (begin_of map origin (bytes 0) (bytes 1)) = record { some = map.some; origin = len; store = is.whole; header = is.header; formed = is.formed } in
    record {
      loads = record { header = is.header; formed = is.formed };
      origin_whole = len;
      store_whole = is.whole;
      reach = omega arith;
      origin_long = len;
      store_long = is.whole;
      origin_now = λ s lt. origin_first (begin_of map origin (bytes 0) (bytes 1)) map.current s (place_of (take ((map.current + 1) * (32 * map.chunk)) (pairs (begin_of map origin (bytes 0) (bytes 1)))) (s / map.chunk)) begin at lt refl;
      store_now = λ s lt. inl refl;
      origin_may = λ s v lt h. inl (all 0 s);
      store_may = λ s v lt h. inl (all 1 s);
    }

first : (map : CowMap) (origin from : ℕ) (o s : List ℕ) (known : Type 0) (bytes bytes' : ℕ → List ℕ) (may may' : ℕ → ℕ → List ℕ → Type 0) (lasts : ℕ → ℕ → Type 0) → IsMerging map.chunk origin map.size from o s bytes may lasts → Settles known bytes bytes' may may' lasts → Rolls (begin_of map origin o s) from known bytes' may'
first map origin from o s known bytes bytes' may may' lasts is settles = rolls_first (begin_of map origin o s) from known bytes bytes' may may' lasts map.some is settles

ends_with : (map : CowMap) (origin from : ℕ) (o s : List ℕ) (bytes : ℕ → List ℕ) (may : ℕ → ℕ → List ℕ → Type 0) (lasts : ℕ → ℕ → Type 0) → IsMapOf origin (bytes 1) map → IsMerging map.chunk origin map.size from o s bytes may lasts → (from ≤ map.current + 1) × (map.current ≤ length (pairs (begin_of map origin o s)) / (32 * map.chunk))
ends_with map origin from o s bytes may lasts is merging = ends_at (begin_of map origin o s) from map.current bytes map.some merging.origin_long merging.store_long (record { some = map.some; origin = merging.origin_whole; store = merging.store_whole; header = merging.loads.header; formed = merging.loads.formed }) merging.reach merging.origin_now merging.store_now is.current

pub returns-in_err-settle-clause-stops : goal.returns-in_err-settle-clause-stops
returns-in_err-settle-clause-stops g c = λ known len is all left since.
    inl (stops_stay _ _ _ _ (g.F.FileSet.bytes c.args.files.now) (g.F.FileSet.may_hold c.args.files.now) c.settle.ensures.stays (λ l now. g.met.F.FileSet.only_now c.args.files.now l now) left since)

pub returns-in_err-settle-clause-stops_again : goal.returns-in_err-settle-clause-stops_again
returns-in_err-settle-clause-stops_again g c = λ o s from known is merging left since.
    inl (stops_stay _ _ _ _ (g.F.FileSet.bytes c.args.files.now) (g.F.FileSet.may_hold c.args.files.now) c.settle.ensures.stays (λ l now. g.met.F.FileSet.only_now c.args.files.now l now) left since)

pub returns-clause-stops_again : goal.returns-clause-stops_again
returns-clause-stops_again g c = λ o s from known is merging left since.
    let b = begin_of c.args.map.now c.args.origin o s in
    let (low, high) = ends_with c.args.map.now c.args.origin from o s (g.F.FileSet.bytes c.args.files.now) _ _ is merging in
    let rolls = first c.args.map.now c.args.origin from o s _ (g.F.FileSet.bytes c.args.files.now) _ _ _ _ merging (c.in_ok-settle.ensures.settles known) in
    stops_all b _ _ _ _ _ _ (g.F.FileSet.bytes c.args.files.now) _ (g.F.FileSet.may_hold c.args.files.now) _ _ c.settle.ensures.stays (c.merge_areas.ensures.passes o s from low high rolls) (λ l now. g.met.F.FileSet.only_now c.args.files.now l now) left since

pub returns-clause-stops : goal.returns-clause-stops
returns-clause-stops g c = λ known len is all left since. returns-clause-stops_again g c _ _ _ known is (begins c.args.map.now c.args.origin (g.F.FileSet.bytes c.args.files.now) _ _ len is all) left since

pub returns-clause-done_again : goal.returns-clause-done_again
returns-clause-done_again g c = on_ok_weaker c.merge_areas.result (λ ends o s from known is merging.
    let b = begin_of c.args.map.now c.args.origin o s in
    let (low, high) = ends_with c.args.map.now c.args.origin from o s (g.F.FileSet.bytes c.args.files.now) _ _ is merging in
    let rolls = first c.args.map.now c.args.origin from o s _ (g.F.FileSet.bytes c.args.files.now) _ _ _ _ merging (c.in_ok-settle.ensures.settles known) in
    let ended = ends o s from low high rolls in
    (ended.rolls.is_known, λ left are. merged b c.args.map.now.current _ _ left _ high ended are)) c.merge_areas.ensures.ends

pub returns-clause-done : goal.returns-clause-done
returns-clause-done g c = on_ok_weaker c.merge_areas.result (λ again known len is all.
    again _ _ _ known is (begins c.args.map.now c.args.origin (g.F.FileSet.bytes c.args.files.now) _ _ len is all)) (returns-clause-done_again g c)

pub returns-clause-cause : goal.returns-clause-cause
returns-clause-cause g c = record {
  later = (let x = c.settle.ensures.cause.later in let y = c.merge_areas.ensures.cause.later in omega arith);
  failed = λ e there. (let (o, s, from, known, is, merging, given) = there in
      let (low, high) = ends_with c.args.map.now c.args.origin from o s (g.F.FileSet.bytes c.args.files.now) _ _ is merging in
      let rolls = first c.args.map.now c.args.origin from o s _ (g.F.FileSet.bytes c.args.files.now) _ _ _ _ merging (c.in_ok-settle.ensures.settles known) in
      let x = c.settle.ensures.cause.later in
      let y = c.merge_areas.ensures.cause.failed e (o, s, from, low, high, rolls, given) in
      omega arith);
}

-- what a merge leaves is in the middle of one
goes_on : (map : CowMap) (origin from : ℕ) (o s : List ℕ) (bytes bytes' : ℕ → List ℕ) (may may' : ℕ → ℕ → List ℕ → Type 0) (lasts lasts' : ℕ → ℕ → Type 0) → IsMerging map.chunk origin map.size from o s bytes may lasts → (from' : ℕ) → from' ≤ length (pairs (begin_of map origin o s)) / (32 * map.chunk) + 1 → Leaves (begin_of map origin o s) from' bytes' may' → ((f t : ℕ) → 512 * t < length (bytes' f) → may' f t (sector_at (bytes' f) t)) → IsMerging map.chunk origin map.size from' o s bytes' may' lasts'
goes_on map origin from o s bytes bytes' may may' lasts lasts' merging from' reach leaves holds =
    let lo = leaves.origin in
    let ls = leaves.store in
    record {
      loads = merging.loads;
      origin_whole = merging.origin_whole;
      store_whole = merging.store_whole;
      reach = reach;
      origin_long = lo;
      store_long = ls;
      origin_now = λ t lt. leaves.origin_may t _ lt (holds 0 t (omega arith));
      store_now = λ t lt. leaves.store_may t _ lt (holds 1 t (omega arith));
      origin_may = λ t v lt h. inr (leaves.origin_may t v lt h);
      store_may = λ t v lt h. inr (leaves.store_may t v lt h);
    }

pub returns-in_err-settle-clause-goes_on : goal.returns-in_err-settle-clause-goes_on
returns-in_err-settle-clause-goes_on g c = λ o s from known is merging. inl c.settle.ensures.stop

pub returns-clause-goes_on : goal.returns-clause-goes_on
returns-clause-goes_on g c = λ o s from known is merging.
    let (low, high) = ends_with c.args.map.now c.args.origin from o s (g.F.FileSet.bytes c.args.files.now) _ _ is merging in
    let rolls = first c.args.map.now c.args.origin from o s _ (g.F.FileSet.bytes c.args.files.now) _ _ _ _ merging (c.in_ok-settle.ensures.settles known) in
    let passes = c.merge_areas.ensures.passes o s from low high rolls in
    inr (passes.from, passes.is_known, goes_on c.args.map.now c.args.origin from o s _ (g.F.FileSet.bytes c.merge_areas.new.files) _ _ _ _ merging passes.from passes.reach passes.leaves (g.met.F.FileSet.holds_now c.merge_areas.new.files passes.is_known))
