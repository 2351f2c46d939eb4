-- The beginning and the end of a merge, and of a batch.
use Rattle.std.proofs.Common.{◌≡◌, inl, inr, ℕ, ◌+◌, ◌*◌, ◌/◌, ◌%◌, ◌<◌, ◌≤◌, List, [], length, take, get_or, replicate, arith, refl, ap, ◌∙◌, sym, subst, Some, None}
use Rattle.std.specs.Prelude.{Option}
use Rattle.std.proofs.lemmas.Bool.{cases_lt}
use Rattle.std.proofs.lemmas.Nat.{mod_below, div-add-mod', le-div}
use Rattle.std.proofs.Math.Nat.{div-mul-le_self}
use Rattle.std.proofs.lemmas.List.{take_all, get_or-take, get_or_default, length-take-le}
use Rattle.sector.specs.Bytes.{sector_at}
use Rattle.sector.specs.declared.pair.Pair.{Pair}
use Rattle.cow_format.specs.Slots.{pair_in}
use Rattle.cow_format.specs.Places.{area_place}
use Rattle.cow_format.specs.Pairs.{pairs_of}
use Rattle.cow_format.specs.Picture.{place_of}
use Rattle.cow_format.proofs.Pictures.{place_found, length-picture}
use Rattle.cow_format.proofs.Slots.{pairs-are}
use Rattle.cow_image.proofs.Places.{place_first}
use Rattle.crash_laws.specs.May.{sector_of, number_of}
use Rattle.crash_laws.proofs.May.{slot_there}
use Rattle.crash_laws.proofs.Open.{sector_plain}
use Rattle.image.specs.Stops.{AreLeft}
use Rattle.cow_merge.specs.Merges.{IsMerging, IsMerged}
use Rattle.cow_merge.specs.Holding.{Begin, pairs, array, IsBegin, OriginMay, StoreMay, Rolls, AreBack, Settles, Ends}
use Rattle.cow_merge.proofs.Sectors.{by_sectors, zero_pair}
use Rattle.cow_merge.proofs.Shows.{listed, still_shows}
use Rattle.cow_merge.proofs.Areas.{area_room}

-- a sector that reads give, once the pairs of more areas are back
sector_by : (b : Begin) (from end s : ℕ) (v : List ℕ) (r : Option ℕ) → IsBegin b → from ≤ end → OriginMay b end s v → ((k : ℕ) (d : Pair) → from * (32 * b.chunk) ≤ k → k < end * (32 * b.chunk) → k < length (pairs b) → s / b.chunk ≡ (get_or (pairs b) k d).old → v ≡ sector_at (array b) s) → place_of (take (from * (32 * b.chunk)) (pairs b)) (s / b.chunk) ≡ r → OriginMay b from s v
sector_by b from end s v r is le (inl same) back at = inl same
sector_by b from end s v (Some n) is le (inr (old, named)) back at = inr (old, λ none. (let h : Some n ≡ None = sym at ∙ none in cc))
sector_by b from end s v None is le (inr (old, named)) back at = named_by (place_of (take (end * (32 * b.chunk)) (pairs b)) (s / b.chunk)) refl
  where
    named_by : (x : Option ℕ) → place_of (take (end * (32 * b.chunk)) (pairs b)) (s / b.chunk) ≡ x → OriginMay b from s v
    named_by None e = absurd (named e)
    named_by (Some n) e =
        let (k, lt, found) = place_found (take (end * (32 * b.chunk)) (pairs b)) (s / b.chunk) n e in
        let d : Pair = record { old = 0; new = 0 } in
        let bounds : (k < end * (32 * b.chunk)) × (k < length (pairs b)) = elim (cases_lt (length (pairs b)) (end * (32 * b.chunk))) [
          | inl all ↦ (let h = ap length (take_all (end * (32 * b.chunk)) (pairs b) (omega arith)) in (omega arith, omega arith))
          | inr some ↦ (let h = length-take-le (end * (32 * b.chunk)) (pairs b) some in (omega arith, omega arith))
        ] in
        let old_is : (get_or (pairs b) k d).old ≡ s / b.chunk = sym (ap (λ (p : Pair). p.old) (get_or-take (end * (32 * b.chunk)) (pairs b) k d bounds.0)) ∙ (found d).0 in
        elim (cases_lt k (from * (32 * b.chunk))) [
          | inr past ↦ inl (back k d past bounds.0 bounds.1 (sym old_is))
          | inl below ↦ absurd (
              let len : k < length (take (from * (32 * b.chunk)) (pairs b)) = elim (cases_lt (length (pairs b)) (from * (32 * b.chunk))) [
                | inl all ↦ (let h = ap length (take_all (from * (32 * b.chunk)) (pairs b) (omega arith)) in let g = bounds.1 in omega arith)
                | inr some ↦ (let h = length-take-le (from * (32 * b.chunk)) (pairs b) some in omega arith)
              ] in
              let here : (get_or (take (from * (32 * b.chunk)) (pairs b)) k d).old ≡ s / b.chunk = ap (λ (p : Pair). p.old) (get_or-take (from * (32 * b.chunk)) (pairs b) k d below) ∙ old_is in
              let place = place_first (take (from * (32 * b.chunk)) (pairs b)) k (s / b.chunk) d len (λ j e' less same.
              (is.formed.apart j k e' less bounds.1).old (sym (ap (λ (p : Pair). p.old) (get_or-take (from * (32 * b.chunk)) (pairs b) j e' (omega arith))) ∙ same ∙ sym here
              ∙ ap (λ (p : Pair). p.old) (get_or-take (from * (32 * b.chunk)) (pairs b) k d below ∙ other k d e' bounds.1))) here in
              let h : Some (get_or (take (from * (32 * b.chunk)) (pairs b)) k d).new ≡ None = sym place ∙ at in cc
              )
        ]
      where
        other : (k : ℕ) (d e' : Pair) → k < length (pairs b) → get_or (pairs b) k d ≡ get_or (pairs b) k e'
        other k d e' lt = get_or_default (pairs b) k d e' lt

-- an area from one on is one from an earlier one on
store_less : (b : Begin) (from end s : ℕ) (v : List ℕ) → from ≤ end → StoreMay b end s v → StoreMay b from s v
store_less b from end s v le (inl same) = inl same
store_less b from end s v le (inr (zeros, there)) = inr (zeros, (let low = there.low in record { area = there.area; sector = there.sector; low = omega arith; inside = there.inside; is = there.is }))

-- the copies of a batch are synced
pub rolls_synced : (b : Begin) (from end : ℕ) (known known' : Type 0) (bytes bytes' : ℕ → List ℕ) (may may' : ℕ → ℕ → List ℕ → Type 0) (lasts : ℕ → ℕ → Type 0) → Rolls b end known bytes may → from ≤ end → AreBack b end (bytes 0) lasts (from * (32 * b.chunk)) (end * (32 * b.chunk)) → (known → known') → ((f : ℕ) → bytes' f ≡ bytes f)
    → ((s : ℕ) (v : List ℕ) → 512 * s < length (bytes 0) → lasts 0 s → may' 0 s v → v ≡ sector_at (bytes 0) s) → ((f s : ℕ) (v : List ℕ) → may' f s v → may f s v) → Rolls b from known' bytes' may'
rolls_synced b from end known known' bytes bytes' may may' lasts rolls le back knows same synced stop =
    let begin = rolls.leaves.begin in
    let reach' = rolls.reach in
    let lo = rolls.leaves.origin in
    let now : (s : ℕ) → s < b.sectors → OriginMay b from s (sector_at (bytes 0) s) = λ s lt. sector_by b from end s (sector_at (bytes 0) s) (place_of (take (from * (32 * b.chunk)) (pairs b)) (s / b.chunk)) begin le (rolls.origin_now s lt) (λ k d low high inside at. (back k d low high high inside s lt at).0) refl in
    record {
      is_known = knows rolls.is_known;
      reach = omega arith;
      leaves = record {
        begin = begin;
        origin = ap length (same 0) ∙ rolls.leaves.origin;
        store = ap length (same 1) ∙ rolls.leaves.store;
        origin_may = λ s v lt h. sector_by b from end s v (place_of (take (from * (32 * b.chunk)) (pairs b)) (s / b.chunk)) begin le (rolls.leaves.origin_may s v lt (stop 0 s v h)) (λ k d low high inside at.
            let is = back k d low high high inside s lt at in
            synced s v (omega arith) is.1 h ∙ is.0) refl;
        store_may = λ s v lt h. store_less b from end s v le (rolls.leaves.store_may s v lt (stop 1 s v h));
      };
      origin_now = λ s lt. subst (λ (x : List ℕ). OriginMay b from s (sector_at x s)) (sym (same 0)) (now s lt);
      store_now = λ s lt. subst (λ (x : List ℕ). StoreMay b from s (sector_at x s)) (sym (same 1)) (store_less b from end s (sector_at (bytes 1) s) le (rolls.store_now s lt));
    }

-- a sector of the origin at the beginning
pub origin_first : (b : Begin) (last s : ℕ) (r : Option ℕ) → IsBegin b → last ≡ length (pairs b) / (32 * b.chunk) → s < b.sectors → place_of (take ((last + 1) * (32 * b.chunk)) (pairs b)) (s / b.chunk) ≡ r → OriginMay b (last + 1) s (sector_at b.origin s)
origin_first b last s (Some n) is at lt e = inr (refl, λ none. (let h : Some n ≡ None = sym e ∙ none in cc))
origin_first b last s None is at lt e =
    let some = is.some in
    let d = div-add-mod' (length (pairs b)) (32 * b.chunk) in
    let r = mod_below (length (pairs b)) (32 * b.chunk) (omega arith) in
    let up : (last + 1) * (32 * b.chunk) ≡ length (pairs b) / (32 * b.chunk) * (32 * b.chunk) + 32 * b.chunk = ap (λ x. (x + 1) * (32 * b.chunk)) at ∙ grind arith in
    let all : take ((last + 1) * (32 * b.chunk)) (pairs b) ≡ pairs b = take_all ((last + 1) * (32 * b.chunk)) (pairs b) (omega arith) in
    inl (sym (sector_plain b.chunk b.sectors s b.origin b.store (pairs b) is.some is.origin lt refl (sym (ap (λ z. place_of z (s / b.chunk)) all) ∙ e)))

-- a merge begins, or goes on: all is synced
pub rolls_first : (b : Begin) (from : ℕ) (known : Type 0) (bytes bytes' : ℕ → List ℕ) (may may' : ℕ → ℕ → List ℕ → Type 0) (lasts : ℕ → ℕ → Type 0) → 0 < b.chunk → IsMerging b.chunk b.sectors b.size from b.origin b.store bytes may lasts → Settles known bytes bytes' may may' lasts → Rolls b from known bytes' may'
rolls_first b from known bytes bytes' may may' lasts some is settles =
    let lo = is.origin_long in
    let ls = is.store_long in
    record {
      is_known = settles.is_known;
      reach = is.reach;
      leaves = record {
        begin = record { some = some; origin = is.origin_whole; store = is.store_whole; header = is.loads.header; formed = is.loads.formed };
        origin = ap length settles.origin ∙ lo;
        store = ap length settles.store ∙ ls;
        origin_may = λ s v lt h. elim (is.origin_may s v lt (settles.stop 0 s v h)) [
          | inl lasting ↦ subst (OriginMay b from s) (sym (settles.origin_synced s v (omega arith) lasting h)) (is.origin_now s lt)
          | inr found ↦ found
        ];
        store_may = λ s v lt h. elim (is.store_may s v lt (settles.stop 1 s v h)) [
          | inl lasting ↦ subst (StoreMay b from s) (sym (settles.store_synced s v (omega arith) lasting h)) (is.store_now s lt)
          | inr found ↦ found
        ];
      };
      origin_now = λ s lt. subst (λ (x : List ℕ). OriginMay b from s (sector_at x s)) (sym settles.origin) (is.origin_now s lt);
      store_now = λ s lt. subst (λ (x : List ℕ). StoreMay b from s (sector_at x s)) (sym settles.store) (is.store_now s lt);
    }

-- where the list that reads give ends, from the first of the areas on that may be zeroed
pub ends_at : (b : Begin) (from current : ℕ) (bytes : ℕ → List ℕ) → 0 < b.chunk → length (bytes 0) ≡ 512 * b.sectors → length (bytes 1) ≡ 512 * b.size → IsBegin b → from ≤ length (pairs b) / (32 * b.chunk) + 1
    → ((s : ℕ) → s < b.sectors → OriginMay b from s (sector_at (bytes 0) s)) → ((s : ℕ) → s < b.size → StoreMay b from s (sector_at (bytes 1) s)) → current ≡ length (pairs_of b.chunk (bytes 1)) / (32 * b.chunk) → (from ≤ current + 1) × (current ≤ length (pairs b) / (32 * b.chunk))
ends_at b from current bytes some lo ls is reach os ss at =
    let (m, low, high, list) = listed b from bytes is lo ls os ss in
    let count : length (pairs_of b.chunk (bytes 1)) ≡ m = ap length list ∙ length-take-le m (pairs b) high in
    let at' : current ≡ m / (32 * b.chunk) = at ∙ ap (λ x. x / (32 * b.chunk)) count in
    let below = div-mul-le_self m (32 * b.chunk) in
    let up : m / (32 * b.chunk) ≤ length (pairs b) / (32 * b.chunk) = le-div (m / (32 * b.chunk)) (length (pairs b)) (32 * b.chunk) (omega arith) (omega arith) in (
      elim (cases_lt (length (pairs b)) (from * (32 * b.chunk))) [
        | inl all ↦ (let same : m ≡ length (pairs b) = omega arith in
            let same' = ap (λ x. x / (32 * b.chunk)) same in omega arith)
        | inr some' ↦ (let h : from ≤ m / (32 * b.chunk) = le-div from m (32 * b.chunk) (omega arith) (omega arith) in omega arith)
      ],
      omega arith,
    )

-- no pair is named among none
none_named : (b : Begin) (c : ℕ) → place_of (take (0 * (32 * b.chunk)) (pairs b)) c ≡ None
none_named b c = let e : 0 * (32 * b.chunk) ≡ 0 = omega arith in ap (λ k. place_of (take k (pairs b)) c) e

-- a store whose first area is zeros has no pairs
no_pairs : (chunk : ℕ) (store : List ℕ) → 0 < chunk → sector_at store (chunk * area_place chunk 0 + 0) ≡ replicate 512 0 → pairs_of chunk store ≡ []
no_pairs chunk store pos zeros =
    let q : 0 / (32 * chunk) ≡ 0 = omega arith in
    let r : 0 % (32 * chunk) ≡ 0 = omega arith in
    let at : sector_of chunk 0 ≡ chunk * area_place chunk 0 + 0 = ap (λ x. chunk * area_place chunk x + 0 % (32 * chunk) / 32) q ∙ ap (λ x. chunk * area_place chunk 0 + x / 32) r in
    pairs-are chunk store [] pos (record {
      each = λ k d lt. absurd (omega arith);
      valid = λ k lt. absurd (omega arith);
      ends = ap (λ (p : Pair). p.new) (sym (slot_there chunk store 0 pos) ∙ ap (λ x. pair_in (sector_at store x) (number_of chunk 0)) at ∙ ap (λ v. pair_in v (number_of chunk 0)) zeros) ∙ zero_pair 512 (number_of chunk 0);
    })

-- the end
pub merged : (b : Begin) (last : ℕ) (known : Type 0) (bytes left : ℕ → List ℕ) (may : ℕ → ℕ → List ℕ → Type 0) → last ≤ length (pairs b) / (32 * b.chunk) → Ends b last known bytes may → AreLeft bytes may left → IsMerged b.chunk b.size last b.origin b.store left
merged b last known bytes left may at ends are =
    let leaves = ends.rolls.leaves in
    let begin = leaves.begin in
    let lo = leaves.origin in
    let ls = leaves.store in
    let shows = still_shows b 0 bytes left may leaves are in
    let zeros : (area s : ℕ) → area ≤ last → s < b.chunk → sector_at (left 1) (b.chunk * area_place b.chunk area + s) ≡ replicate 512 0 = λ area s le lt.
    let fits = area_room b area begin (omega arith) in
    let up : b.chunk * (area_place b.chunk area + 1) ≡ b.chunk * area_place b.chunk area + b.chunk = grind arith in
    ends.gone area le s (sector_at (left 1) (b.chunk * area_place b.chunk area + s)) lt (are.each 1 (b.chunk * area_place b.chunk area + s) (omega arith)) in
    record {
      array = by_sectors b.sectors (left 0) (array b) (are.whole 0 ∙ lo) (length-picture b.chunk b.origin b.store ∙ begin.origin) (λ s lt. elim (leaves.origin_may s (sector_at (left 0) s) lt (are.each 0 s (omega arith))) [
        | inl same ↦ same
        | inr (old, named) ↦ absurd (named (none_named b (s / b.chunk)))
      ]);
      none = no_pairs b.chunk (left 1) begin.some (zeros 0 0 (omega arith) begin.some);
      zeros = zeros;
      rest = shows.store_only;
    }
