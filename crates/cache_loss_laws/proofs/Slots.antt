-- What areas say of their slots: the premises of the laws, of what a store says of its bytes.
use Rattle.std.proofs.Common.{◌≡◌, ◌⊎◌, inl, inr, ℕ, zero, suc, ◌+◌, ◌*◌, ◌-◌, ◌/◌, ◌%◌, ◌<◌, ◌≤◌, List, ◌++◌, length, get_or, replicate, arith, rules, refl, ap, ◌∙◌, sym, subst, length-append}
use Rattle.std.proofs.lemmas.Bool.{cases_lt, cases_eq}
use Rattle.std.proofs.lemmas.List.{places, length-replicate}
use Rattle.std.proofs.lemmas.Nat.{mod_below, div-add-mod'}
use Rattle.std.proofs.Math.Nat.{mul-le-mul_left, mul-le-mul_right}
use Rattle.sector.specs.Bytes.{with_part}
use Rattle.sector.specs.Number.{number_at}
use Rattle.sector.proofs.Numbers.{same_number}
use Rattle.sector.proofs.Sectors.{byte_read}
use Rattle.sector.specs.declared.pair.Pair.{Pair}
use Rattle.cow_format.specs.Slots.{pair_in}
use Rattle.cow_format.specs.Places.{area_place, chunk_at, slot, ChangesOnly}
use Rattle.cow_format.proofs.AreaPlaces.{area_of, number_in}
use Rattle.cow_format.proofs.Slots.{slot-at, slot-other, changes_only}
use Rattle.crash_laws.specs.May.{sector_of}
use Rattle.cache_loss_laws.specs.Lasting.{ClearsSlots}
use Rattle.cache_loss_laws.proofs.Parts.{from_bytes}

-- a number of zeros
zero_number : (b : List ℕ) (at n : ℕ) → ((i : ℕ) → at ≤ i → i < at + n → get_or b i 0 ≡ 0) → number_at b at n ≡ 0
zero_number b at zero none = refl
zero_number b at (suc n) none =
    let rest : number_at b (at + 1) n ≡ 0 = zero_number b (at + 1) n (λ i lo hi. none i (omega arith) (omega arith)) in
    let first : get_or b at 0 ≡ 0 = none at (omega arith) (omega arith) in
    ap (λ x. x + 256 * number_at b (at + 1) n) first ∙ ap (λ x. 0 + 256 * x) rest

zero_at : (n i : ℕ) → get_or (replicate n zero) i zero ≡ zero
zero_at zero i = refl
zero_at (suc n) zero = refl
zero_at (suc n) (suc i) = zero_at n i

-- the slots of an area after those in use
pub rest_of : (chunk a filled n : ℕ) (c area : List ℕ) → 0 < chunk → chunk_at chunk c (area_place chunk a) ≡ area → ((i : ℕ) → filled ≤ i → i < 32 * chunk → (pair_in area i).new ≡ 0) → n ≡ a * (32 * chunk) + filled → (k : ℕ) → n ≤ k → k < (a + 1) * (32 * chunk) → (slot chunk c k).new ≡ 0
rest_of chunk a filled n c area pos here empty count k lo hi =
    let one : (a + 1) * (32 * chunk) ≡ a * (32 * chunk) + 32 * chunk = grind arith in
    let j : ℕ = k - a * (32 * chunk) in
    let e : k ≡ a * (32 * chunk) + (k - a * (32 * chunk)) = omega arith in
    let lt : k - a * (32 * chunk) < 32 * chunk = omega (arith, one) in
    ap (λ x. (slot chunk c x).new) e ∙ ap (λ p. p.new) (slot-at chunk c a (k - a * (32 * chunk)) lt) ∙ ap (λ x. (pair_in x (k - a * (32 * chunk))).new) here ∙ empty (k - a * (32 * chunk)) (omega arith) lt

-- the sectors of an area's slots, and of those before it
pub inside_of : (chunk size current : ℕ) → 0 < chunk → chunk * (area_place chunk current + 1) ≤ size → (k : ℕ) → k < (current + 1) * (32 * chunk) → sector_of chunk k < size
inside_of chunk size current pos fits k lt =
    let w : ℕ = 32 * chunk in
    let small : k % (32 * chunk) < 32 * chunk = mod_below k (32 * chunk) (omega arith) in
    let its : k / (32 * chunk) ≤ current = below in
    let rows : k / (32 * chunk) * (32 * chunk + 1) ≤ current * (32 * chunk + 1) = mul-le-mul_right (32 * chunk + 1) below in
    let up : chunk * (area_place chunk (k / (32 * chunk)) + 1) ≤ chunk * (area_place chunk current + 1) = mul-le-mul_left chunk (omega arith) in
    let more : chunk * (area_place chunk (k / (32 * chunk)) + 1) ≡ chunk * area_place chunk (k / (32 * chunk)) + chunk = grind arith in
    omega (arith, small, up, more, fits)
  where
    below : k / (32 * chunk) ≤ current
    below = elim (cases_lt current (k / (32 * chunk))) [
      | inl above ↦ absurd (let parts : k / (32 * chunk) * (32 * chunk) + k % (32 * chunk) ≡ k = div-add-mod' k (32 * chunk) in
          let rows : (current + 1) * (32 * chunk) ≤ k / (32 * chunk) * (32 * chunk) = mul-le-mul_right (32 * chunk) (omega (arith, above)) in
          omega (arith, parts, rows, lt))
      | inr le ↦ le
    ]

-- the zeroed area
pub ahead_of : (chunk size current : ℕ) (c : List ℕ) → 0 < chunk → chunk_at chunk c (area_place chunk (current + 1)) ≡ replicate (512 * chunk) zero → chunk * (area_place chunk (current + 1) + 1) ≤ size → (k : ℕ) → (current + 1) * (32 * chunk) ≤ k → k < (current + 2) * (32 * chunk) → ((slot chunk c k).new ≡ 0) × (sector_of chunk k < size)
ahead_of chunk size current c pos here fits k lo hi =
    let again : current + 1 + 1 ≡ current + 2 = omega arith in
    let hi' : k < (current + 1 + 1) * (32 * chunk) = subst (λ (x : ℕ). k < x * (32 * chunk)) (sym again) hi in (
      rest_of chunk (current + 1) 0 ((current + 1) * (32 * chunk)) c (replicate (512 * chunk) zero) pos here (λ i low lt. zero_number (replicate (512 * chunk) zero) (16 * i + 8) 8 (λ b x y. zero_at (512 * chunk) b)) (omega arith) k lo hi',
      inside_of chunk size (current + 1) pos fits k hi',
    )

-- A sector beside a row of slots of 16 bytes, from a sector's beginning on, or one that has some slot of it.
sector_hits : (base from count x : ℕ) → 0 < count → (512 * x + 512 ≤ 512 * base + 16 * from) ⊎ ((512 * base + 16 * from + 16 * count ≤ 512 * x) ⊎ ((j : ℕ) × (from ≤ j) × (j < from + count) × (base + j / 32 ≡ x)))
sector_hits base from count x some = elim (cases_lt (512 * x + 511) (512 * base + 16 * from)) [
  | inl below ↦ inl (omega arith)
  | inr over ↦ elim (cases_lt (512 * x) (512 * base + 16 * from + 16 * count)) [
    | inr above ↦ inr (inl above)
    | inl under ↦ elim (cases_lt (32 * (x - base)) from) [
      | inl first ↦ inr (inr (from, omega arith, omega arith, omega arith))
      | inr later ↦ inr (inr (32 * (x - base), later, omega arith, omega arith))
    ]
  ]
]

-- A merge's commit writes zeros over the slots of its group, so many from the area's slot `from` on.
module _ (chunk size a from count : ℕ) (c c' : List ℕ) (kept group : List Pair) (pos : 0 < chunk) (some : 0 < count) (fits : from + count ≤ 32 * chunk) (whole : length c ≡ 512 * size) (room : chunk * (area_place chunk a + 1) ≤ size)
    (at : length kept ≡ a * (32 * chunk) + from) (many : length group ≡ count) (written : c' ≡ with_part c (512 * (chunk * area_place chunk a) + 16 * from) (replicate (16 * count) zero)) where
  up : chunk * (area_place chunk a + 1) ≡ chunk * area_place chunk a + chunk
  up = grind arith

  all : length (kept ++ group) ≡ a * (32 * chunk) + from + count
  all = omega (arith, length-append kept group)

  long : length (replicate (16 * count) zero) ≡ 16 * count
  long = length-replicate (16 * count) zero

  in_store : 512 * (chunk * area_place chunk a) + 16 * from + length (replicate (16 * count) zero) ≤ length c
  in_store = omega (arith, long, up)

  length_part : (b part : List ℕ) (first : ℕ) → first + length part ≤ length b → length (with_part b first part) ≡ length b
  length_part b part first fits = search (rules, places)

  part_inside : (b part : List ℕ) (first i : ℕ) → first + length part ≤ length b → i < length part → get_or (with_part b first part) (first + i) 0 ≡ get_or part i 0
  part_inside b part first i fits lt = grind (arith, places)

  part_outside : (b part : List ℕ) (first i : ℕ) → first + length part ≤ length b → (i < first) ⊎ (first + length part ≤ i) → get_or (with_part b first part) i 0 ≡ get_or b i 0
  part_outside b part first i fits (inl lo) = grind (arith, places)
  part_outside b part first i fits (inr hi) = grind (arith, places)

  len : length c' ≡ length c
  len = ap length written ∙ length_part c (replicate (16 * count) zero) (512 * (chunk * area_place chunk a) + 16 * from) in_store

  outside : (i : ℕ) → (i < 512 * (chunk * area_place chunk a) + 16 * from) ⊎ (512 * (chunk * area_place chunk a) + 16 * from + 16 * count ≤ i) → get_or c' i 0 ≡ get_or c i 0
  outside i side = ap (λ x. get_or x i 0) written ∙ part_outside c (replicate (16 * count) zero) (512 * (chunk * area_place chunk a) + 16 * from) i in_store (elim side [ inl lo ↦ inl lo | inr hi ↦ inr (omega (arith, long, hi)) ])

  within : (i : ℕ) → 512 * (chunk * area_place chunk a) + 16 * from ≤ i → i < 512 * (chunk * area_place chunk a) + 16 * from + 16 * count → get_or c' i 0 ≡ 0
  within i lo hi =
      let k : ℕ = i - (512 * (chunk * area_place chunk a) + 16 * from) in
      let e : i ≡ 512 * (chunk * area_place chunk a) + 16 * from + (i - (512 * (chunk * area_place chunk a) + 16 * from)) = omega arith in
      ap (λ x. get_or c' x 0) e ∙ ap (λ x. get_or x (512 * (chunk * area_place chunk a) + 16 * from + (i - (512 * (chunk * area_place chunk a) + 16 * from))) 0) written
      ∙ part_inside c (replicate (16 * count) zero) (512 * (chunk * area_place chunk a) + 16 * from) (i - (512 * (chunk * area_place chunk a) + 16 * from)) in_store (omega (arith, long, lo, hi)) ∙ zero_at (16 * count) (i - (512 * (chunk * area_place chunk a) + 16 * from))

  -- no other chunk changes
  pub cleared_only : ChangesOnly chunk (area_place chunk a) c c'
  cleared_only = changes_only chunk (area_place chunk a) (chunk * area_place chunk a) chunk c c' len (omega arith) (omega arith)
      (λ i side. outside i (elim side [ inl lo ↦ inl (omega arith) | inr hi ↦ inr (omega (arith, hi, fits)) ]))

  -- a sector of the store is as it was, or has a slot of the group
  pub cleared_sectors : ClearsSlots chunk size (length kept) (length (kept ++ group)) c c'
  cleared_sectors x lt = elim (sector_hits (chunk * area_place chunk a) from count x some) [
    | inl below ↦ inl (from_bytes c' c x x size size (len ∙ whole) whole lt lt (λ r small. outside (512 * x + r) (inl (omega (arith, below, small)))))
    | inr rest ↦ elim rest [
      | inl above ↦ inl (from_bytes c' c x x size size (len ∙ whole) whole lt lt (λ r small. outside (512 * x + r) (inr (omega (arith, above)))))
      | inr (j, lo, hi, is) ↦ (let small : j < 32 * chunk = omega (arith, hi, fits) in
          inr (
            a * (32 * chunk) + j,
            omega (arith, at, lo),
            omega (arith, all, hi),
            ap (λ y. chunk * area_place chunk y + (a * (32 * chunk) + j) % (32 * chunk) / 32) (area_of chunk a j small) ∙ ap (λ y. chunk * area_place chunk a + y / 32) (number_in chunk a j small) ∙ is,
          ))
    ]
  ]

  -- the group's slots are empty
  pub cleared_zero : (k : ℕ) → length kept ≤ k → k < length (kept ++ group) → (slot chunk c' k).new ≡ 0
  cleared_zero k lo hi =
      let e : k ≡ a * (32 * chunk) + (k - a * (32 * chunk)) = omega (arith, at, lo) in
      let low : from ≤ k - a * (32 * chunk) = omega (arith, at, lo) in
      let high : k - a * (32 * chunk) < from + count = omega (arith, all, at, lo, hi) in
      let lt : k - a * (32 * chunk) < 32 * chunk = omega (arith, high, fits) in
      ap (λ x. (slot chunk c' x).new) e ∙ ap (λ p. p.new) (slot-at chunk c' a (k - a * (32 * chunk)) lt)
      ∙ zero_number (chunk_at chunk c' (area_place chunk a)) (16 * (k - a * (32 * chunk)) + 8) 8
      (λ i x y. byte_read c' (chunk * area_place chunk a) chunk i (omega (arith, y, lt)) ∙ within (512 * (chunk * area_place chunk a) + i) (omega (arith, x, low)) (omega (arith, y, high)))

  -- and all slots behind them are as they were
  pub cleared_others : (k : ℕ) → length (kept ++ group) ≤ k → slot chunk c' k ≡ slot chunk c k
  cleared_others k past = elim (cases_eq (k / (32 * chunk)) a) [
    | inr ne ↦ slot-other chunk a c c' cleared_only k ne
    | inl same ↦ (let parts : k / (32 * chunk) * (32 * chunk) + k % (32 * chunk) ≡ k = div-add-mod' k (32 * chunk) in
        let its : k / (32 * chunk) * (32 * chunk) ≡ a * (32 * chunk) = ap (λ q. q * (32 * chunk)) same in
        let low : from + count ≤ k % (32 * chunk) = omega (arith, parts, its, all, past) in
        let small : k % (32 * chunk) < 32 * chunk = mod_below k (32 * chunk) (omega arith) in
        let e : k ≡ a * (32 * chunk) + k % (32 * chunk) = omega (arith, parts, its) in
        ap (slot chunk c') e ∙ slot-at chunk c' a (k % (32 * chunk)) small ∙ same_pair (k % (32 * chunk)) low small ∙ sym (slot-at chunk c a (k % (32 * chunk)) small) ∙ sym (ap (slot chunk c) e))
  ] where
    same_byte : (j i : ℕ) → from + count ≤ j → j < 32 * chunk → 16 * j ≤ i → i < 16 * j + 16 → get_or (chunk_at chunk c' (area_place chunk a)) i 0 ≡ get_or (chunk_at chunk c (area_place chunk a)) i 0
    same_byte j i low small x y =
        let short : i < 512 * chunk = omega (arith, y, small) in
        byte_read c' (chunk * area_place chunk a) chunk i short ∙ outside (512 * (chunk * area_place chunk a) + i) (inr (omega (arith, x, low))) ∙ sym (byte_read c (chunk * area_place chunk a) chunk i short)

    same_pair : (j : ℕ) → from + count ≤ j → j < 32 * chunk → pair_in (chunk_at chunk c' (area_place chunk a)) j ≡ pair_in (chunk_at chunk c (area_place chunk a)) j
    same_pair j low small =
        let x : number_at (chunk_at chunk c' (area_place chunk a)) (16 * j) 8 ≡ number_at (chunk_at chunk c (area_place chunk a)) (16 * j) 8 = same_number _ _ (16 * j) 8 (λ i lo hi. same_byte j i low small lo (omega (arith, hi))) in
        let y : number_at (chunk_at chunk c' (area_place chunk a)) (16 * j + 8) 8 ≡ number_at (chunk_at chunk c (area_place chunk a)) (16 * j + 8) 8 = same_number _ _ (16 * j + 8) 8 (λ i lo hi. same_byte j i low small (omega (arith, lo)) (omega (arith, hi))) in
        cc
