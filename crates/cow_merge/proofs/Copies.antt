-- A copy is taken back.
use Rattle.std.proofs.Common.{◌≡◌, ◌⊎◌, inl, inr, false, ℕ, ◌+◌, ◌*◌, ◌-◌, ◌/◌, ◌%◌, ◌<◌, ◌≤◌, List, length, take, drop, get_or, arith, refl, ap, ◌∙◌, sym, subst, min, length-take, length-drop, Some}
use Rattle.std.proofs.lemmas.Bool.{cases_lt}
use Rattle.std.proofs.Math.Nat.{mul-le-mul_left, mul-le-mul_right}
use Rattle.std.proofs.lemmas.Nat.{mod_below, div-mul-add, mod-mul-add, div-add-mod'}
use Rattle.std.proofs.lemmas.List.{ext_get_or, length-take-le}
use Rattle.sector.specs.Bytes.{sector_at, sectors_at, with_sectors}
use Rattle.sector.specs.declared.pair.Pair.{Pair}
use Rattle.sector.proofs.Sectors.{byte_read, sector_after_write, sectors_at-with_inside}
use Rattle.cow_format.specs.Picture.{place_of}
use Rattle.cow_format.specs.Places.{is_area_place}
use Rattle.cow_image.proofs.Places.{place_first}
use Rattle.crash_laws.proofs.Open.{sector_copied}
use Rattle.cow_merge.specs.Holding.{Begin, pairs, array, IsBegin, OriginMay, StoreMay, Leaves, Rolls, IsPairOf, AreInRow, IsBack, Copies}
use Rattle.cow_merge.proofs.Sectors.{not_in_area}

-- a sector of a run of sectors
pub sector_of_part : (b : List ℕ) (first count t : ℕ) → t < count → sector_at (sectors_at b first count) t ≡ sector_at b (first + t)
sector_of_part b first count t lt =
    ext_get_or 0 _ _ (len ∙ omega arith ∙ sym len') (λ i h. let short : i < 512 = omega (arith, len) in
    byte_read (sectors_at b first count) t 1 i (omega arith) ∙ byte_read b first count (512 * t + i) (omega arith) ∙ ap (λ x. get_or b x 0) (omega arith) ∙ sym (byte_read b (first + t) 1 i (omega arith)))
  where
    len : length (sector_at (sectors_at b first count) t) ≡ min 512 (min (512 * count) (length b - 512 * first) - 512 * t)
    len = simp (length-take, length-drop)

    len' : length (sector_at b (first + t)) ≡ min 512 (length b - 512 * (first + t))
    len' = simp (length-take, length-drop)

-- a pair of the store's list is where its old chunk's copy is
pub pair_place : (b : Begin) (pair : Pair) → IsBegin b → IsPairOf b pair → (place_of (pairs b) pair.old ≡ Some pair.new) × (b.chunk * pair.old < b.sectors) × (b.chunk * (pair.new + 1) ≤ b.size) × (is_area_place b.chunk pair.new ≡ false)
pair_place b pair is (k, lt, at) =
    let f = is.formed in
    let e = at pair in
    let inside = f.inside k pair lt in
    let here = place_first (pairs b) k pair.old pair lt (λ j d below same. (f.apart j k d below lt).old (same ∙ sym (ap (λ (p : Pair). p.old) (at d)))) (ap (λ (p : Pair). p.old) e) in
    (here ∙ ap (λ (p : Pair). Some p.new) e, subst (λ (p : Pair). b.chunk * p.old < b.sectors) e inside.old, subst (λ (p : Pair). b.chunk * (p.new + 1) ≤ b.size) e inside.new, subst (λ (p : Pair). is_area_place b.chunk p.new ≡ false) e inside.free)

-- a sector of its old chunk, and of its new one
pub sector_in : (chunk n t : ℕ) → 0 < chunk → t < chunk → ((chunk * n + t) / chunk ≡ n) × ((chunk * n + t) % chunk ≡ t)
sector_in chunk n t pos lt =
    let e : chunk * n + t ≡ n * chunk + t = grind arith in
    (ap (λ x. x / chunk) e ∙ div-mul-add n chunk t lt, ap (λ x. x % chunk) e ∙ mod-mul-add n chunk t lt)

-- a sector of a pair's copy is the array's
pub copied_at : (b : Begin) (from : ℕ) (known : Type 0) (bytes : ℕ → List ℕ) (may : ℕ → ℕ → List ℕ → Type 0) (pair : Pair) (t : ℕ) → Rolls b from known bytes may → IsPairOf b pair → t < b.chunk → b.chunk * pair.old + t < b.sectors → sector_at (bytes 1) (b.chunk * pair.new + t) ≡ sector_at (array b) (b.chunk * pair.old + t)
copied_at b from known bytes may pair t rolls of short there =
    let begin = rolls.leaves.begin in
    let some = begin.some in
    let (place, first, fits, free) = pair_place b pair begin of in
    let up : b.chunk * (pair.new + 1) ≡ b.chunk * pair.new + b.chunk = grind arith in
    let (q, r) = sector_in b.chunk pair.old t some short in
    elim (rolls.store_now (b.chunk * pair.new + t) (omega arith)) [
      | inr (zeros, in_area) ↦ absurd (not_in_area b.chunk from pair.new t some short free in_area)
      | inl same ↦ same ∙ ap (λ x. sector_at b.store (b.chunk * pair.new + x)) (sym r)
          ∙ sym (sector_copied b.chunk b.sectors b.size (b.chunk * pair.old + t) pair.new b.origin b.store (pairs b) some begin.origin begin.store there (omega arith) refl (ap (place_of (pairs b)) q ∙ place))
    ]

-- copies in a row begin inside the origin, and end inside the store
pub row_fits : (b : Begin) (pair : Pair) (count : ℕ) → IsBegin b → 0 < count → AreInRow b pair count → (b.chunk * pair.old < b.sectors) × (b.chunk * (pair.new + count) ≤ b.size)
row_fits b pair count begin some row =
    let (p, of, old, new) = row 0 some in
    let (place, first, fits, free) = pair_place b p begin of in
    let (p', of', old', new') = row (count - 1) (omega arith) in
    let (place', first', fits', free') = pair_place b p' begin of' in
    let at : p.old ≡ pair.old = omega arith in
    let end : p'.new + 1 ≡ pair.new + count = omega arith in
    (subst (λ (n : ℕ). b.chunk * n < b.sectors) at first, subst (λ (n : ℕ). b.chunk * n ≤ b.size) end fits')

-- so many chunks lie inside where their sectors do
pub chunks_inside : (c s n : ℕ) → 0 < c → c * n ≤ s → n ≤ s / c
chunks_inside c s n some fits = elim (cases_lt (s / c) n) [
  | inr ge ↦ ge
  | inl less ↦ absurd (
      let whole : s ≡ s / c * c + s % c = sym (div-add-mod' s c) in
      let short : s % c < c = mod_below s c some in
      let next : s / c + 1 ≤ n = omega arith in
      let up : (s / c + 1) * c ≤ n * c = mul-le-mul_right c next in
      let one : (s / c + 1) * c ≡ s / c * c + c = one_more (s / c) c in
      let turned : c * n ≡ n * c = turn c n in
      omega arith
      )
]
  where
    one_more : (q d : ℕ) → (q + 1) * d ≡ q * d + d
    one_more q d = grind arith

    turn : (d m : ℕ) → d * m ≡ m * d
    turn d m = grind arith

-- a sector of them lies in one of them
row_split : (c n q r : ℕ) → c * n + (q * c + r) ≡ c * (n + q) + r
row_split c n q r = grind arith

-- what is read of them is the array's
pub row_array : (b : Begin) (from : ℕ) (known : Type 0) (bytes : ℕ → List ℕ) (may : ℕ → ℕ → List ℕ → Type 0) (pair : Pair) (count sectors t : ℕ) (part : List ℕ) → Rolls b from known bytes may → AreInRow b pair count → sectors ≡ min (b.chunk * count) (b.sectors - b.chunk * pair.old) → part ≡ sectors_at (bytes 1) (b.chunk * pair.new) sectors → t < sectors → sector_at part t ≡ sector_at (array b) (b.chunk * pair.old + t)
row_array b from known bytes may pair count sectors t part rolls row size is lt =
    let some = rolls.leaves.begin.some in
    let whole : t ≡ t / b.chunk * b.chunk + t % b.chunk = sym (div-add-mod' t b.chunk) in
    let short : t % b.chunk < b.chunk = mod_below t b.chunk some in
    let inside : t / b.chunk < count = elim (cases_lt (t / b.chunk) count) [
      | inl less ↦ less
      | inr past ↦ absurd (let up : count * b.chunk ≤ t / b.chunk * b.chunk = mul-le-mul_right b.chunk past in let turned : b.chunk * count ≡ count * b.chunk = grind arith in omega arith)
    ] in
    let (p, of, old, new) = row (t / b.chunk) inside in
    let from_store : b.chunk * pair.new + t ≡ b.chunk * p.new + t % b.chunk = ap (λ x. b.chunk * pair.new + x) whole ∙ row_split b.chunk pair.new (t / b.chunk) (t % b.chunk) ∙ ap (λ x. b.chunk * x + t % b.chunk) (sym new) in
    let to_origin : b.chunk * pair.old + t ≡ b.chunk * p.old + t % b.chunk = ap (λ x. b.chunk * pair.old + x) whole ∙ row_split b.chunk pair.old (t / b.chunk) (t % b.chunk) ∙ ap (λ x. b.chunk * x + t % b.chunk) (sym old) in
    ap (λ x. sector_at x t) is ∙ sector_of_part (bytes 1) (b.chunk * pair.new) sectors t lt ∙ ap (sector_at (bytes 1)) from_store
    ∙ copied_at b from known bytes may p (t % b.chunk) rolls of short (omega arith) ∙ ap (sector_at (array b)) (sym to_origin)

pub length_row : (b : Begin) (from : ℕ) (known : Type 0) (bytes : ℕ → List ℕ) (may : ℕ → ℕ → List ℕ → Type 0) (pair : Pair) (count sectors : ℕ) (part : List ℕ) → Rolls b from known bytes may → 0 < count → AreInRow b pair count → sectors ≡ min (b.chunk * count) (b.sectors - b.chunk * pair.old) → part ≡ sectors_at (bytes 1) (b.chunk * pair.new) sectors → length part ≡ 512 * sectors
length_row b from known bytes may pair count sectors part rolls some row size is =
    let (first, fits) = row_fits b pair count rolls.leaves.begin some row in
    let up : b.chunk * (pair.new + count) ≡ b.chunk * pair.new + b.chunk * count = grind arith in
    let len = rolls.leaves.store in
    ap length is ∙ simp (length-take, length-drop) (omega arith)

-- its sectors of the origin are written
pub leaves_written : (b : Begin) (from first count : ℕ) (bytes bytes' : ℕ → List ℕ) (may may' : ℕ → ℕ → List ℕ → Type 0) (part : List ℕ) → Leaves b from bytes may → ((t : ℕ) → t < count → sector_at part t ≡ sector_at (array b) (first + t)) → length part ≡ 512 * count → ((f : ℕ) → length (bytes' f) ≡ length (bytes f))
    → ((f s : ℕ) (v : List ℕ) → may' f s v → may f s v ⊎ ((f ≡ 0) × (first ≤ s) × (512 * (s - first) < length part) × (v ≡ sector_at part (s - first)))) → Leaves b from bytes' may'
leaves_written b from first count bytes bytes' may may' part leaves arrays len same stop = record {
  begin = leaves.begin;
  origin = same 0 ∙ leaves.origin;
  store = same 1 ∙ leaves.store;
  origin_may = λ s v lt h. elim (stop 0 s v h) [
    | inl was ↦ leaves.origin_may s v lt was
    | inr (zero, low, high, is) ↦ inl (is ∙ arrays (s - first) (omega arith) ∙ ap (sector_at (array b)) (omega arith))
  ];
  store_may = λ s v lt h. elim (stop 1 s v h) [
    | inl was ↦ leaves.store_may s v lt was
    | inr (one, low, high, is) ↦ absurd (omega arith)
  ];
}

pub copies_written : (b : Begin) (from first count : ℕ) (known known' : Type 0) (bytes bytes' : ℕ → List ℕ) (may may' : ℕ → ℕ → List ℕ → Type 0) (lasts lasts' : ℕ → ℕ → Type 0) (part : List ℕ) → Rolls b from known bytes may → (known → known') → ((t : ℕ) → t < count → sector_at part t ≡ sector_at (array b) (first + t)) → length part ≡ 512 * count → first + count ≤ b.sectors → bytes' 0 ≡ with_sectors (bytes 0) first part → bytes' 1 ≡ bytes 1
    → Leaves b from bytes' may' → ((f s : ℕ) (v : List ℕ) → may' f s v → may f s v ⊎ ((f ≡ 0) × (first ≤ s) × (512 * (s - first) < length part) × (v ≡ sector_at part (s - first)))) → ((f s : ℕ) → lasts f s → lasts' f s) → Copies b from known' bytes bytes' may may' lasts lasts'
copies_written b from first count known known' bytes bytes' may may' lasts lasts' part rolls knows arrays len fits wrote beside leaves stop still =
    let lo = rolls.leaves.origin in
    let after : (s : ℕ) → (sector_at (bytes' 0) s ≡ sector_at (bytes 0) s) ⊎ (sector_at (bytes' 0) s ≡ sector_at (array b) s) = λ s. elim (sector_after_write (bytes 0) first count part s (omega arith) len) [
      | inl same ↦ inl (ap (λ x. sector_at x s) wrote ∙ same)
      | inr (low, high, is) ↦ inr (ap (λ x. sector_at x s) wrote ∙ is ∙ arrays (s - first) (omega arith) ∙ ap (sector_at (array b)) (omega arith))
    ] in
    record {
      rolls = record {
        is_known = knows rolls.is_known;
        reach = rolls.reach;
        leaves = leaves;
        origin_now = λ s lt. elim (after s) [
          | inl same ↦ subst (OriginMay b from s) (sym same) (rolls.origin_now s lt)
          | inr is ↦ inl is
        ];
        store_now = λ s lt. subst (λ (x : List ℕ). StoreMay b from s (sector_at x s)) (sym beside) (rolls.store_now s lt);
      };
      store = λ s v h. elim (stop 1 s v h) [
        | inl was ↦ was
        | inr (one, low, high, is) ↦ absurd (omega arith)
      ];
      keeps = λ s lt was. (
        elim (after s) [
          | inl same ↦ same ∙ was.0
          | inr is ↦ is
        ],
        still 0 s was.1,
      );
    }

-- the chunks of copies in a row are the array's
pub back_row : (b : Begin) (first count sectors : ℕ) (bytes bytes' part : List ℕ) (lasts : ℕ → ℕ → Type 0) (old : ℕ) → 0 < b.chunk → ((t : ℕ) → t < sectors → sector_at part t ≡ sector_at (array b) (first + t)) → length part ≡ 512 * sectors → first ≡ b.chunk * old → sectors ≡ min (b.chunk * count) (b.sectors - b.chunk * old) → length bytes ≡ 512 * b.sectors → first + sectors ≤ b.sectors → bytes' ≡ with_sectors bytes first part → ((s : ℕ) → first ≤ s → 512 * (s - first) < length part → lasts 0 s) → (q : ℕ) → q < count → IsBack b bytes' lasts (old + q)
back_row b first count sectors bytes bytes' part lasts old some arrays len at size lo fits wrote fresh q less s lt here =
    let e : s ≡ s / b.chunk * b.chunk + s % b.chunk = sym (div-add-mod' s b.chunk) in
    let below : s % b.chunk < b.chunk = mod_below s b.chunk some in
    let e' : s / b.chunk * b.chunk ≡ b.chunk * old + b.chunk * q = ap (λ x. x * b.chunk) here ∙ grind arith in
    let next : q + 1 ≤ count = omega arith in
    let end : b.chunk * (q + 1) ≤ b.chunk * count = mul-le-mul_left b.chunk next in
    let end' : b.chunk * (q + 1) ≡ b.chunk * q + b.chunk = grind arith in
    let is : s ≡ first + (s - first) = omega arith in (
      ap (λ x. sector_at x s) wrote ∙ ap (sector_at (with_sectors bytes first part)) is
          ∙ sectors_at-with_inside bytes first sectors part (first + (s - first)) 1 (omega arith) len (omega arith) (omega arith)
          ∙ ap (sector_at part) (omega arith) ∙ arrays (s - first) (omega arith) ∙ ap (sector_at (array b)) (sym is),
      fresh s (omega arith) (omega arith),
    )

-- what was read
pub read_row : (bytes out room : List ℕ) (chunk new sectors from : ℕ) → from ≡ 512 * (chunk * new) → 512 * sectors ≤ length room → out ≡ take (length (take (512 * sectors) room)) (drop from bytes) → out ≡ sectors_at bytes (chunk * new) sectors
read_row bytes out room chunk new sectors from at len is =
    let n : length (take (512 * sectors) room) ≡ 512 * sectors = length-take-le (512 * sectors) room len in
    is ∙ ap (λ x. take x (drop from bytes)) n ∙ ap (λ x. take (512 * sectors) (drop x bytes)) at

-- and goes to the array's place
pub arrays_at : (b : Begin) (from : ℕ) (known : Type 0) (bytes : ℕ → List ℕ) (may : ℕ → ℕ → List ℕ → Type 0) (pair : Pair) (count sectors first : ℕ) (part : List ℕ) → Rolls b from known bytes may → AreInRow b pair count → sectors ≡ min (b.chunk * count) (b.sectors - b.chunk * pair.old) → first ≡ b.chunk * pair.old → part ≡ sectors_at (bytes 1) (b.chunk * pair.new) sectors → (t : ℕ) → t < sectors → sector_at part t ≡ sector_at (array b) (first + t)
arrays_at b from known bytes may pair count sectors first part rolls row size at is t lt = row_array b from known bytes may pair count sectors t part rolls row size is lt ∙ ap (λ x. sector_at (array b) (x + t)) (sym at)
