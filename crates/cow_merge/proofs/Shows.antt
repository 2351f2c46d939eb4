-- What may be left at each moment of a merge still shows the snapshot.
use Rattle.std.proofs.Common.{◌≡◌, ◌≢◌, ◌⊎◌, inl, inr, ℕ, ◌+◌, ◌*◌, ◌/◌, ◌%◌, ◌<◌, ◌≤◌, List, length, take, replicate, arith, refl, ap, ◌∙◌, sym, min, Ok, None, Some}
use Rattle.std.specs.Prelude.{Option}
use Rattle.std.proofs.lemmas.Bool.{cases_lt}
use Rattle.std.proofs.lemmas.Nat.{mod_below}
use Rattle.std.proofs.Math.Nat.{mul-le-mul_right, div-mul-le_self}
use Rattle.std.proofs.lemmas.List.{take_all}
use Rattle.sector.specs.Bytes.{sector_at}
use Rattle.sector.specs.declared.pair.Pair.{Pair}
use Rattle.cow_format.specs.Slots.{pair_in}
use Rattle.cow_format.specs.Places.{area_place, slot}
use Rattle.cow_format.specs.Pairs.{pairs_of}
use Rattle.cow_format.specs.Picture.{place_of, picture}
use Rattle.cow_format.proofs.Slots.{IsListed-of}
use Rattle.cow_format.proofs.Pictures.{length-picture}
use Rattle.cow_header.specs.HeaderText.{found_in}
use Rattle.cow_header.specs.declared.found.Found.TheVariants.{Header}
use Rattle.crash_laws.specs.May.{sector_of, number_of}
use Rattle.crash_laws.proofs.Between.{IsBetween, pairs_between}
use Rattle.crash_laws.proofs.Loads.{formed_first}
use Rattle.crash_laws.proofs.May.{slot_there}
use Rattle.crash_laws.proofs.Open.{sector_plain, sector_copied}
use Rattle.image.specs.Stops.{AreLeft}
use Rattle.cow_merge.specs.Merges.{IsInArea, StillShows}
use Rattle.cow_merge.specs.Holding.{Begin, pairs, array, IsBegin, OriginMay, StoreMay, Leaves}
use Rattle.cow_merge.proofs.Sectors.{by_sectors, zero_pair, place_first, place_none_less, place_inside, area_from, not_in_area, head_not_in_area, slot_inside}

module _ (b : Begin) (from : ℕ) (left : ℕ → List ℕ) (is : IsBegin b) (lo : length (left 0) ≡ 512 * b.sectors) (ls : length (left 1) ≡ 512 * b.size)
    (os : (s : ℕ) → s < b.sectors → OriginMay b from s (sector_at (left 0) s)) (ss : (s : ℕ) → s < b.size → StoreMay b from s (sector_at (left 1) s)) where
  -- a slot is as it was, or empty
  pub slot_cases : (i : ℕ) → i ≤ length (pairs b) → (slot b.chunk (left 1) i ≡ slot b.chunk b.store i) ⊎ (((slot b.chunk (left 1) i).new ≡ 0) × (from * (32 * b.chunk) ≤ i))
  slot_cases i le =
      let some = is.some in
      elim (ss (sector_of b.chunk i) (slot_inside b.chunk b.size (length (pairs b)) i is.some le is.formed.room)) [
        | inl same ↦ inl (sym (slot_there b.chunk (left 1) i is.some) ∙ ap (λ v. pair_in v (number_of b.chunk i)) same ∙ slot_there b.chunk b.store i is.some)
        | inr (zeros, there) ↦ inr (
          ap (λ (p : Pair). p.new) (sym (slot_there b.chunk (left 1) i is.some) ∙ ap (λ v. pair_in v (number_of b.chunk i)) zeros) ∙ zero_pair 512 (number_of b.chunk i),
          (let low : i % (32 * b.chunk) < 32 * b.chunk = mod_below i (32 * b.chunk) (omega arith) in
              let a : from ≤ i / (32 * b.chunk) = area_from b.chunk from (i / (32 * b.chunk)) (i % (32 * b.chunk) / 32) (omega arith) there in
              let up : from * (32 * b.chunk) ≤ i / (32 * b.chunk) * (32 * b.chunk) = mul-le-mul_right (32 * b.chunk) a in
              let h = div-mul-le_self i (32 * b.chunk) in omega arith),
        )
      ]

  certain : ℕ
  certain = min (from * (32 * b.chunk)) (length (pairs b))

  between : IsBetween (slot b.chunk (left 1)) (min (from * (32 * b.chunk)) (length (pairs b))) (pairs b)
  between =
      let l = IsListed-of b.chunk b.store (pairs b) is.some refl in
      record {
        low = omega arith;
        sure = λ k d lt. elim (slot_cases k (omega arith)) [
          | inl same ↦ same ∙ l.each k d (omega arith)
          | inr (none, low) ↦ absurd (omega arith)
        ];
        maybe = λ k d lo hi. elim (slot_cases k (omega arith)) [
          | inl same ↦ inl (same ∙ l.each k d hi)
          | inr (none, low) ↦ inr none
        ];
        ends = elim (slot_cases (length (pairs b)) (omega arith)) [
          | inl same ↦ ap (λ (p : Pair). p.new) same ∙ l.ends
          | inr (none, low) ↦ none
        ];
        valid = λ k d lt e. l.valid k lt (ap (λ (p : Pair). p.new) (l.each k d lt) ∙ e);
      }

  -- the list is a front of the first one
  pub listed : (m : ℕ) × (min (from * (32 * b.chunk)) (length (pairs b)) ≤ m) × (m ≤ length (pairs b)) × (pairs_of b.chunk (left 1) ≡ take m (pairs b))
  listed = pairs_between b.chunk (left 1) _ (pairs b) is.some between

  -- a sector of the array, by the place of its chunk's copy
  shown_at : (m s : ℕ) (r : Option ℕ) → min (from * (32 * b.chunk)) (length (pairs b)) ≤ m → m ≤ length (pairs b) → pairs_of b.chunk (left 1) ≡ take m (pairs b) → s < b.sectors → place_of (take m (pairs b)) (s / b.chunk) ≡ r → sector_at (picture b.chunk (left 0) (left 1)) s ≡ sector_at (array b) s
  shown_at m s (Some n) low high list lt at =
      let whole = place_first m (pairs b) (s / b.chunk) n at in
      let (fits, free) = place_inside b.chunk b.sectors b.size (s / b.chunk) n (pairs b) is.formed.inside whole in
      let off : s % b.chunk < b.chunk = mod_below s b.chunk is.some in
      let up : b.chunk * (n + 1) ≡ b.chunk * n + b.chunk = grind arith in
      let inside : b.chunk * n + s % b.chunk < b.size = omega arith in
      elim (ss (b.chunk * n + s % b.chunk) inside) [
        | inr (zeros, there) ↦ absurd (not_in_area b.chunk from n (s % b.chunk) is.some off free there)
        | inl same ↦ sector_copied b.chunk b.sectors b.size s n (left 0) (left 1) (take m (pairs b)) is.some lo ls lt inside list at ∙ same
            ∙ sym (sector_copied b.chunk b.sectors b.size s n b.origin b.store (pairs b) is.some is.origin is.store lt inside refl whole)
      ]
  shown_at m s None low high list lt at =
      sector_plain b.chunk b.sectors s (left 0) (left 1) (take m (pairs b)) is.some lo lt list at ∙ elim (os s lt) [
        | inl same ↦ same
        | inr (old, named) ↦ absurd (named (elim (cases_lt m (from * (32 * b.chunk))) [
          | inr ge ↦ place_none_less (from * (32 * b.chunk)) m (pairs b) (s / b.chunk) ge at
          | inl less ↦ (let all : m ≡ length (pairs b) = omega arith in
              ap (λ z. place_of z (s / b.chunk)) (take_all (from * (32 * b.chunk)) (pairs b) (omega arith) ∙ sym (take_all m (pairs b) (omega arith))) ∙ at)
        ]))
      ]

  -- it has no copy, or what is there is the array's
  origin_by : (s : ℕ) (r : Option ℕ) → s < b.sectors → place_of (pairs b) (s / b.chunk) ≡ r → (sector_at (left 0) s ≡ sector_at b.origin s) ⊎ ((place_of (pairs b) (s / b.chunk) ≢ None) × (sector_at (left 0) s ≡ sector_at (array b) s))
  origin_by s None lt at = elim (os s lt) [
    | inl same ↦ inl (same ∙ sector_plain b.chunk b.sectors s b.origin b.store (pairs b) is.some is.origin lt refl at)
    | inr (old, named) ↦ inl old
  ]
  origin_by s (Some n) lt at = elim (os s lt) [
    | inl same ↦ inr ((λ none. (let h : Some n ≡ None = sym at ∙ none in cc)), same)
    | inr (old, named) ↦ inl old
  ]

  store_by : (s : ℕ) → s < b.size → (sector_at (left 1) s ≡ sector_at b.store s) ⊎ (IsInArea b.chunk 0 s × (sector_at (left 1) s ≡ replicate 512 0))
  store_by s lt = elim (ss s lt) [
    | inl same ↦ inl same
    | inr (zeros, there) ↦ inr (record { area = there.area; sector = there.sector; low = omega arith; inside = there.inside; is = there.is }, zeros)
  ]

  first : 0 < b.size
  first = let r = is.formed.room in let p = is.some in
      let one : b.chunk * (area_place b.chunk (length (pairs b) / (32 * b.chunk)) + 1) ≡ b.chunk * area_place b.chunk (length (pairs b) / (32 * b.chunk)) + b.chunk = grind arith in
      omega arith

  header : found_in (sector_at (left 1) 0) ≡ Ok (Header b.chunk)
  header = elim (ss 0 first) [
    | inl same ↦ ap found_in same ∙ is.header
    | inr (zeros, there) ↦ absurd (head_not_in_area b.chunk from is.some there)
  ]

  pub shows_by : StillShows b.chunk b.sectors b.size b.origin b.store left
  shows_by =
      let (m, low, high, list) = listed in
      record {
        loads = record { header = header; formed = rw list (formed_first b.chunk b.sectors b.size m (pairs b) is.some is.formed high) };
        pairs = (m, high, list);
        shows = by_sectors b.sectors _ _ (length-picture b.chunk (left 0) (left 1) ∙ lo) (length-picture b.chunk b.origin b.store ∙ is.origin) (λ s lt. shown_at m s (place_of (take m (pairs b)) (s / b.chunk)) low high list lt refl);
        origin_only = λ s lt. origin_by s (place_of (pairs b) (s / b.chunk)) lt refl;
        store_only = store_by;
      }

-- what may be left at a moment of the merge
pub still_shows : (b : Begin) (from : ℕ) (bytes left : ℕ → List ℕ) (may_hold : ℕ → ℕ → List ℕ → Type 0) → Leaves b from bytes may_hold → AreLeft bytes may_hold left → StillShows b.chunk b.sectors b.size b.origin b.store left
still_shows b from bytes left may_hold leaves are =
    let lo = leaves.origin in
    let ls = leaves.store in
    shows_by b from left leaves.begin (are.whole 0 ∙ lo) (are.whole 1 ∙ ls)
    (λ s lt. leaves.origin_may s (sector_at (left 0) s) lt (are.each 0 s (omega arith)))
    (λ s lt. leaves.store_may s (sector_at (left 1) s) lt (are.each 1 s (omega arith)))
