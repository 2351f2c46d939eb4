-- Areas are read, copied back, and zeroed.
use Rattle.std.proofs.Common.{◌≡◌, ◌≢◌, ◌⊎◌, inl, inr, ℕ, ◌+◌, ◌*◌, ◌-◌, ◌/◌, ◌<◌, ◌≤◌, List, length, get_or, replicate, arith, refl, ap, ◌∙◌, sym, subst, length-take, length-drop}
use Rattle.std.proofs.lemmas.Bool.{cases_lt}
use Rattle.std.proofs.Math.Nat.{mul-le-mul_left, mul-le-mul_right, div-mul-le_self}
use Rattle.std.proofs.lemmas.List.{ext_get_or, length-replicate}
use Rattle.sector.specs.Bytes.{sector_at, with_sectors}
use Rattle.sector.specs.declared.pair.Pair.{Pair}
use Rattle.sector.proofs.Sectors.{byte_read, sector_after_write, sectors_at-with_inside}
use Rattle.cow_format.specs.Slots.{pair_in}
use Rattle.cow_format.specs.Places.{area_place, chunk_at, slot}
use Rattle.cow_format.proofs.Slots.{slot-at, IsListed-of}
use Rattle.cow_merge.specs.Merges.{IsInArea}
use Rattle.cow_merge.specs.Holding.{Begin, pairs, IsBegin, OriginMay, StoreMay, Leaves, Rolls, Copies, IsZero, IsGone, Clears}
use Rattle.cow_merge.proofs.Sectors.{by_sectors, zero_byte, area_from}
use Rattle.cow_merge.proofs.Copies.{sector_of_part}
use Rattle.cow_merge.proofs.Shows.{slot_cases}
use Rattle.cow_merge.proofs.Steps.{rolls_kept}

-- an area up to that of the first empty slot lies inside the store
pub area_room : (b : Begin) (index : ℕ) → IsBegin b → index ≤ length (pairs b) / (32 * b.chunk) → b.chunk * (area_place b.chunk index + 1) ≤ b.size
area_room b index is le =
    let up : index * (32 * b.chunk + 1) ≤ length (pairs b) / (32 * b.chunk) * (32 * b.chunk + 1) = mul-le-mul_right (32 * b.chunk + 1) le in
    let h : b.chunk * (area_place b.chunk index + 1) ≤ b.chunk * (area_place b.chunk (length (pairs b) / (32 * b.chunk)) + 1) = mul-le-mul_left b.chunk (omega arith) in
    let r = is.formed.room in omega arith

-- an area that is not merged yet is as it was
pub area_same : (b : Begin) (from index : ℕ) (known : Type 0) (bytes : ℕ → List ℕ) (may : ℕ → ℕ → List ℕ → Type 0) → Rolls b from known bytes may → index < from → chunk_at b.chunk (bytes 1) (area_place b.chunk index) ≡ chunk_at b.chunk b.store (area_place b.chunk index)
area_same b from index known bytes may rolls lt =
    let begin = rolls.leaves.begin in
    let reach = rolls.reach in
    let fits = area_room b index begin (omega arith) in
    let up : b.chunk * (area_place b.chunk index + 1) ≡ b.chunk * area_place b.chunk index + b.chunk = grind arith in
    let ls = rolls.leaves.store in
    let lb = begin.store in
    let len : (x : List ℕ) → length x ≡ 512 * b.size → length (chunk_at b.chunk x (area_place b.chunk index)) ≡ 512 * b.chunk = λ x lx. simp (length-take, length-drop) (omega arith) in
    by_sectors b.chunk _ _ (len (bytes 1) ls) (len b.store lb) (λ t less.
    sector_of_part (bytes 1) (b.chunk * area_place b.chunk index) b.chunk t less ∙ elim (rolls.store_now (b.chunk * area_place b.chunk index + t) (omega arith)) [
      | inl same ↦ same
      | inr (zeros, there) ↦ absurd (let h = area_from b.chunk from index t less there in omega arith)
    ] ∙ sym (sector_of_part b.store (b.chunk * area_place b.chunk index) b.chunk t less))

-- a slot of it is the list's
pub area_slot : (b : Begin) (from index j : ℕ) (known : Type 0) (bytes : ℕ → List ℕ) (may : ℕ → ℕ → List ℕ → Type 0) (area : List ℕ) → Rolls b from known bytes may → index < from → area ≡ chunk_at b.chunk (bytes 1) (area_place b.chunk index) → j < 32 * b.chunk → pair_in area j ≡ slot b.chunk b.store (index * (32 * b.chunk) + j)
area_slot b from index j known bytes may area rolls lt is less =
    ap (λ x. pair_in x j) (is ∙ area_same b from index known bytes may rolls lt) ∙ sym (slot-at b.chunk b.store index j less)

-- the slots in use, of an area up to that of the first empty slot, are pairs of the list
pub slot_pair : (b : Begin) (from index count j : ℕ) (known : Type 0) (bytes : ℕ → List ℕ) (may : ℕ → ℕ → List ℕ → Type 0) (area : List ℕ) → Rolls b from known bytes may → index ≤ length (pairs b) / (32 * b.chunk) → area ≡ chunk_at b.chunk (bytes 1) (area_place b.chunk index) → count ≤ 32 * b.chunk → ((k : ℕ) → k < count → (pair_in area k).new ≢ 0) → j < count
    → (index * (32 * b.chunk) + j < length (pairs b)) × ((d : Pair) → get_or (pairs b) (index * (32 * b.chunk) + j) d ≡ pair_in area j)
slot_pair b from index count j known bytes may area rolls le is few used less =
    let some = rolls.leaves.begin.some in
    let l = IsListed-of b.chunk b.store (pairs b) some refl in
    let low : index * (32 * b.chunk) ≤ length (pairs b) / (32 * b.chunk) * (32 * b.chunk) = mul-le-mul_right (32 * b.chunk) le in
    let low' = div-mul-le_self (length (pairs b)) (32 * b.chunk) in
    let slot_is : (k : ℕ) → k < 32 * b.chunk → pair_in area k ≡ slot b.chunk (bytes 1) (index * (32 * b.chunk) + k) = λ k lt. ap (λ x. pair_in x k) is ∙ sym (slot-at b.chunk (bytes 1) index k lt) in
    let inside : index * (32 * b.chunk) + j < length (pairs b) = elim (cases_lt (index * (32 * b.chunk) + j) (length (pairs b))) [
      | inl under ↦ under
      | inr past ↦ absurd (used (length (pairs b) - index * (32 * b.chunk)) (omega arith)
          (ap (λ (p : Pair). p.new) (slot_is (length (pairs b) - index * (32 * b.chunk)) (omega arith))
          ∙ ap (λ k. (slot b.chunk (bytes 1) k).new) (omega arith)
          ∙ elim (slot_cases b from bytes rolls.leaves.begin rolls.leaves.origin rolls.leaves.store rolls.origin_now rolls.store_now (length (pairs b)) (omega arith)) [
            | inl same ↦ ap (λ (p : Pair). p.new) same ∙ l.ends
            | inr (none, high) ↦ none
          ]))
    ] in (
      inside,
      λ d. elim (slot_cases b from bytes rolls.leaves.begin rolls.leaves.origin rolls.leaves.store rolls.origin_now rolls.store_now (index * (32 * b.chunk) + j) (omega arith)) [
        | inl same ↦ sym (slot_is j (omega arith) ∙ same ∙ l.each (index * (32 * b.chunk) + j) d inside)
        | inr (none, high) ↦ absurd (used j less (ap (λ (p : Pair). p.new) (slot_is j (omega arith)) ∙ none))
      ],
    )

-- no pair of the list is behind them in the area
pub slot_last : (b : Begin) (from index count k : ℕ) (known : Type 0) (bytes : ℕ → List ℕ) (may : ℕ → ℕ → List ℕ → Type 0) (area : List ℕ) → Rolls b from known bytes may → index < from → area ≡ chunk_at b.chunk (bytes 1) (area_place b.chunk index) → count ≤ 32 * b.chunk → (count < 32 * b.chunk → (pair_in area count).new ≡ 0) → k < length (pairs b) → k < (index + 1) * (32 * b.chunk) → k < index * (32 * b.chunk) + count
slot_last b from index count k known bytes may area rolls lt is few empty inside below = elim (cases_lt k (index * (32 * b.chunk) + count)) [
  | inl under ↦ under
  | inr past ↦ absurd (
      let some = rolls.leaves.begin.some in
      let l = IsListed-of b.chunk b.store (pairs b) some refl in
      let step : (index + 1) * (32 * b.chunk) ≡ index * (32 * b.chunk) + 32 * b.chunk = grind arith in
      l.valid (index * (32 * b.chunk) + count) (omega arith)
      (sym (ap (λ (p : Pair). p.new) (area_slot b from index count known bytes may area rolls lt is (omega arith))) ∙ empty (omega arith))
      )
]

-- one run of copies after the other
pub copies_both : (b : Begin) (from : ℕ) (known known' : Type 0) (bytes bytes1 bytes2 : ℕ → List ℕ) (may may1 may2 : ℕ → ℕ → List ℕ → Type 0) (lasts lasts1 lasts2 : ℕ → ℕ → Type 0) → Copies b from known bytes bytes1 may may1 lasts lasts1 → Copies b from known' bytes1 bytes2 may1 may2 lasts1 lasts2 → Copies b from known' bytes bytes2 may may2 lasts lasts2
copies_both b from known known' bytes bytes1 bytes2 may may1 may2 lasts lasts1 lasts2 x y = record {
  rolls = y.rolls;
  store = λ s v h. x.store s v (y.store s v h);
  keeps = λ s lt was. y.keeps s lt (x.keeps s lt was);
}

pub copies_none : (b : Begin) (from : ℕ) (known : Type 0) (bytes : ℕ → List ℕ) (may : ℕ → ℕ → List ℕ → Type 0) (lasts : ℕ → ℕ → Type 0) → Rolls b from known bytes may → Copies b from known bytes bytes may may lasts lasts
copies_none b from known bytes may lasts rolls = record { rolls = rolls; store = λ s v h. h; keeps = λ s lt was. was }

-- a call that leaves the bytes, and what lasts
pub copies_same : (b : Begin) (from : ℕ) (known known' : Type 0) (bytes bytes' : ℕ → List ℕ) (may may' : ℕ → ℕ → List ℕ → Type 0) (lasts lasts' : ℕ → ℕ → Type 0) → Rolls b from known bytes may → (known → known') → ((f : ℕ) → bytes' f ≡ bytes f) → ((f s : ℕ) (v : List ℕ) → may' f s v → may f s v) → ((f s : ℕ) → lasts f s → lasts' f s) → Copies b from known' bytes bytes' may may' lasts lasts'
copies_same b from known known' bytes bytes' may may' lasts lasts' rolls knows same stop still = record {
  rolls = rolls_kept b from known known' bytes bytes' may may' rolls knows same stop;
  store = stop 1;
  keeps = λ s lt was. (ap (λ x. sector_at x s) (same 0) ∙ was.0, still 0 s was.1);
}

-- a sector of zeros
pub zero_sector : (n t : ℕ) → t < n → sector_at (replicate (512 * n) 0) t ≡ replicate 512 0
zero_sector n t lt =
    let len : length (sector_at (replicate (512 * n) 0) t) ≡ 512 = simp (length-take, length-drop, length-replicate) (omega arith) in
    ext_get_or 0 _ _ (len ∙ sym (length-replicate {A = ℕ} 512 0)) (λ i h. byte_read (replicate (512 * n) 0) t 1 i (omega arith) ∙ zero_byte (512 * n) (512 * t + i) ∙ sym (zero_byte 512 i))

-- an area is zeroed
pub leaves_cleared : (b : Begin) (from index : ℕ) (bytes bytes' : ℕ → List ℕ) (may may' : ℕ → ℕ → List ℕ → Type 0) (zeros : List ℕ) → Leaves b from bytes may → from ≤ index → zeros ≡ replicate (512 * b.chunk) 0 → ((f : ℕ) → length (bytes' f) ≡ length (bytes f))
    → ((f s : ℕ) (v : List ℕ) → may' f s v → may f s v ⊎ ((f ≡ 1) × (b.chunk * area_place b.chunk index ≤ s) × (512 * (s - b.chunk * area_place b.chunk index) < length zeros) × (v ≡ sector_at zeros (s - b.chunk * area_place b.chunk index)))) → Leaves b from bytes' may'
leaves_cleared b from index bytes bytes' may may' zeros leaves le are same stop = record {
  begin = leaves.begin;
  origin = same 0 ∙ leaves.origin;
  store = same 1 ∙ leaves.store;
  origin_may = λ s v lt h. elim (stop 0 s v h) [
    | inl was ↦ leaves.origin_may s v lt was
    | inr (zero, low, high, is) ↦ absurd (omega arith)
  ];
  store_may = λ s v lt h. elim (stop 1 s v h) [
    | inl was ↦ leaves.store_may s v lt was
    | inr (one, low, high, is) ↦ (let len : length zeros ≡ 512 * b.chunk = ap length are ∙ length-replicate (512 * b.chunk) 0 in
        let inside : s - b.chunk * area_place b.chunk index < b.chunk = omega arith in
        inr (is ∙ ap (λ x. sector_at x (s - b.chunk * area_place b.chunk index)) are ∙ zero_sector b.chunk (s - b.chunk * area_place b.chunk index) inside, record { area = index; sector = s - b.chunk * area_place b.chunk index; low = le; inside = inside; is = omega arith }))
  ];
}

-- each sector of the store is as it was, or zeros in that area
after_clear : (b : Begin) (from index : ℕ) (bytes bytes' zeros : List ℕ) (s : ℕ) → from ≤ index → zeros ≡ replicate (512 * b.chunk) 0 → length bytes ≡ 512 * b.size → b.chunk * (area_place b.chunk index + 1) ≤ b.size → bytes' ≡ with_sectors bytes (b.chunk * area_place b.chunk index) zeros → (sector_at bytes' s ≡ sector_at bytes s) ⊎ ((sector_at bytes' s ≡ replicate 512 0) × IsInArea b.chunk from s)
after_clear b from index bytes bytes' zeros s le are len fits wrote =
    let n : length zeros ≡ 512 * b.chunk = ap length are ∙ length-replicate (512 * b.chunk) 0 in
    let up : b.chunk * (area_place b.chunk index + 1) ≡ b.chunk * area_place b.chunk index + b.chunk = grind arith in
    elim (sector_after_write bytes (b.chunk * area_place b.chunk index) b.chunk zeros s (omega arith) n) [
      | inl same ↦ inl (ap (λ x. sector_at x s) wrote ∙ same)
      | inr (low, high, is) ↦ (let inside : s - b.chunk * area_place b.chunk index < b.chunk = omega arith in
          inr (ap (λ x. sector_at x s) wrote ∙ is ∙ ap (λ x. sector_at x (s - b.chunk * area_place b.chunk index)) are ∙ zero_sector b.chunk (s - b.chunk * area_place b.chunk index) inside, record { area = index; sector = s - b.chunk * area_place b.chunk index; low = le; inside = inside; is = omega arith }))
    ]

pub clears_written : (b : Begin) (from index : ℕ) (known known' : Type 0) (bytes bytes' : ℕ → List ℕ) (may may' : ℕ → ℕ → List ℕ → Type 0) (lasts lasts' : ℕ → ℕ → Type 0) (zeros : List ℕ) → Rolls b from known bytes may → (known → known') → from ≤ index → zeros ≡ replicate (512 * b.chunk) 0 → b.chunk * (area_place b.chunk index + 1) ≤ b.size → bytes' 1 ≡ with_sectors (bytes 1) (b.chunk * area_place b.chunk index) zeros → bytes' 0 ≡ bytes 0
    → Leaves b from bytes' may' → ((f s : ℕ) (v : List ℕ) → may' f s v → may f s v ⊎ ((f ≡ 1) × (b.chunk * area_place b.chunk index ≤ s) × (512 * (s - b.chunk * area_place b.chunk index) < length zeros) × (v ≡ sector_at zeros (s - b.chunk * area_place b.chunk index)))) → ((f s : ℕ) → lasts f s → lasts' f s)
    → ((s : ℕ) → b.chunk * area_place b.chunk index ≤ s → 512 * (s - b.chunk * area_place b.chunk index) < length zeros → lasts' 1 s) → Clears b from known' bytes bytes' may may' lasts lasts'
clears_written b from index known known' bytes bytes' may may' lasts lasts' zeros rolls knows le are fits wrote beside leaves stop still fresh =
    let ls = rolls.leaves.store in
    record {
      rolls = record {
        is_known = knows rolls.is_known;
        reach = rolls.reach;
        leaves = leaves;
        origin_now = λ s lt. subst (λ (x : List ℕ). OriginMay b from s (sector_at x s)) (sym beside) (rolls.origin_now s lt);
        store_now = λ s lt. elim (after_clear b from index (bytes 1) (bytes' 1) zeros s le are ls fits wrote) [
          | inl same ↦ subst (StoreMay b from s) (sym same) (rolls.store_now s lt)
          | inr is ↦ inr is
        ];
      };
      stop = λ s v h. elim (stop 1 s v h) [
        | inl was ↦ inl was
        | inr (one, low, high, is) ↦ (let len : length zeros ≡ 512 * b.chunk = ap length are ∙ length-replicate (512 * b.chunk) 0 in
            inr (is ∙ ap (λ x. sector_at x (s - b.chunk * area_place b.chunk index)) are ∙ zero_sector b.chunk (s - b.chunk * area_place b.chunk index) (omega arith)))
      ];
      keeps = λ area was t lt. elim (after_clear b from index (bytes 1) (bytes' 1) zeros (b.chunk * area_place b.chunk area + t) le are ls fits wrote) [
        | inl same ↦ (same ∙ (was t lt).0, still 1 (b.chunk * area_place b.chunk area + t) (was t lt).1)
        | inr (is, there) ↦ (is, still 1 (b.chunk * area_place b.chunk area + t) (was t lt).1)
      ];
    }

-- its sectors are zeros
pub zero_written : (b : Begin) (index : ℕ) (bytes bytes' zeros : List ℕ) (lasts : ℕ → ℕ → Type 0) → zeros ≡ replicate (512 * b.chunk) 0 → length bytes ≡ 512 * b.size → b.chunk * (area_place b.chunk index + 1) ≤ b.size → bytes' ≡ with_sectors bytes (b.chunk * area_place b.chunk index) zeros → ((s : ℕ) → b.chunk * area_place b.chunk index ≤ s → 512 * (s - b.chunk * area_place b.chunk index) < length zeros → lasts 1 s) → IsZero b.chunk bytes' lasts index
zero_written b index bytes bytes' zeros lasts are len fits wrote fresh t lt =
    let n : length zeros ≡ 512 * b.chunk = ap length are ∙ length-replicate (512 * b.chunk) 0 in
    let up : b.chunk * (area_place b.chunk index + 1) ≡ b.chunk * area_place b.chunk index + b.chunk = grind arith in (
      ap (λ x. sector_at x (b.chunk * area_place b.chunk index + t)) wrote
          ∙ sectors_at-with_inside bytes (b.chunk * area_place b.chunk index) b.chunk zeros (b.chunk * area_place b.chunk index + t) 1 (omega arith) n (omega arith) (omega arith)
          ∙ ap (sector_at zeros) (omega arith) ∙ ap (λ x. sector_at x t) are ∙ zero_sector b.chunk t lt,
      fresh (b.chunk * area_place b.chunk index + t) (omega arith) (omega arith),
    )

-- a file that is synced leaves the zeros that are there
pub zero_gone : (b : Begin) (index : ℕ) (bytes : ℕ → List ℕ) (may : ℕ → ℕ → List ℕ → Type 0) (lasts : ℕ → ℕ → Type 0) → IsZero b.chunk (bytes 1) lasts index → length (bytes 1) ≡ 512 * b.size → b.chunk * (area_place b.chunk index + 1) ≤ b.size → ((s : ℕ) (v : List ℕ) → 512 * s < length (bytes 1) → lasts 1 s → may 1 s v → v ≡ sector_at (bytes 1) s) → IsGone b.chunk may index
zero_gone b index bytes may lasts zero len fits synced t v lt h =
    let up : b.chunk * (area_place b.chunk index + 1) ≡ b.chunk * area_place b.chunk index + b.chunk = grind arith in
    synced (b.chunk * area_place b.chunk index + t) v (omega arith) (zero t lt).1 h ∙ (zero t lt).0

-- one clearing after the other
pub clears_both : (b : Begin) (from : ℕ) (known known' : Type 0) (bytes bytes1 bytes2 : ℕ → List ℕ) (may may1 may2 : ℕ → ℕ → List ℕ → Type 0) (lasts lasts1 lasts2 : ℕ → ℕ → Type 0) → Clears b from known bytes bytes1 may may1 lasts lasts1 → Clears b from known' bytes1 bytes2 may1 may2 lasts1 lasts2 → Clears b from known' bytes bytes2 may may2 lasts lasts2
clears_both b from known known' bytes bytes1 bytes2 may may1 may2 lasts lasts1 lasts2 x y = record {
  rolls = y.rolls;
  stop = λ s v h. elim (y.stop s v h) [
    | inl was ↦ x.stop s v was
    | inr zeros ↦ inr zeros
  ];
  keeps = λ area was. y.keeps area (x.keeps area was);
}

pub clears_none : (b : Begin) (from : ℕ) (known : Type 0) (bytes : ℕ → List ℕ) (may : ℕ → ℕ → List ℕ → Type 0) (lasts : ℕ → ℕ → Type 0) → Rolls b from known bytes may → Clears b from known bytes bytes may may lasts lasts
clears_none b from known bytes may lasts rolls = record { rolls = rolls; stop = λ s v h. inl h; keeps = λ area was. was }
