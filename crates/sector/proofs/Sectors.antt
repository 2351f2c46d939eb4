-- Sectors of bytes after a write of sectors.
use Rattle.std.proofs.Common.{◌≡◌, ◌⊎◌, inl, inr, ℕ, ◌+◌, ◌*◌, ◌-◌, ◌<◌, ◌≤◌, List, ◌++◌, length, take, drop, get_or, arith, rules, ap, ◌∙◌, sym, min, length-take, length-drop}
use Rattle.std.proofs.lemmas.List.{places, same_lists, take_at, ext_get_or}
use Rattle.sector.specs.Bytes.{sectors_at, with_sectors, sector_at}
use Rattle.std.proofs.lemmas.Bool.{cases_lt}

-- a write keeps the length
pub length-with_sectors : (b : List ℕ) (first : ℕ) (new : List ℕ) → 512 * first + length new ≤ length b → length (with_sectors b first new) ≡ length b
length-with_sectors b first new fits = search (rules, places)

-- what was written is read
pub sectors_at-with_same : (b : List ℕ) (first count : ℕ) (new : List ℕ) → 512 * first + length new ≤ length b → length new ≡ 512 * count → sectors_at (with_sectors b first new) first count ≡ new
sectors_at-with_same b first count new fits whole = same_lists _ _ (search (rules, places)) (λ k d h. grind (arith, places))

-- a range below
pub sectors_at-with_below : (b : List ℕ) (first : ℕ) (new : List ℕ) (f c : ℕ) → 512 * first + length new ≤ length b → f + c ≤ first → sectors_at (with_sectors b first new) f c ≡ sectors_at b f c
sectors_at-with_below b first new f c fits apart = same_lists _ _ (search (rules, places)) (λ k d h. grind (arith, places))

-- a range above
pub sectors_at-with_above : (b : List ℕ) (first count : ℕ) (new : List ℕ) (f c : ℕ) → 512 * first + length new ≤ length b → length new ≡ 512 * count → first + count ≤ f → sectors_at (with_sectors b first new) f c ≡ sectors_at b f c
sectors_at-with_above b first count new f c fits whole apart = same_lists _ _ (search (rules, places)) (λ k d h. grind (arith, places))

-- a range inside
pub sectors_at-with_inside : (b : List ℕ) (first count : ℕ) (new : List ℕ) (f c : ℕ) → 512 * first + length new ≤ length b → length new ≡ 512 * count → first ≤ f → f + c ≤ first + count → sectors_at (with_sectors b first new) f c ≡ sectors_at new (f - first) c
sectors_at-with_inside b first count new f c fits whole lo hi = same_lists _ _ (search (rules, places)) (λ k d h. grind (arith, places))

-- a sector after a write is one from before, or was written
pub sector_after_write : (b : List ℕ) (first count : ℕ) (new : List ℕ) (s : ℕ) → 512 * first + length new ≤ length b → length new ≡ 512 * count → (sector_at (with_sectors b first new) s ≡ sector_at b s) ⊎ ((first ≤ s) × (s < first + count) × (sector_at (with_sectors b first new) s ≡ sector_at new (s - first)))
sector_after_write b first count new s fits whole =
    elim (cases_lt s first) [
      | inl below ↦ inl (sectors_at-with_below b first new s 1 fits (omega arith))
      | inr from ↦ elim (cases_lt s (first + count)) [
        | inl inside ↦ inr (from, inside, sectors_at-with_inside b first count new s 1 fits whole from (omega arith))
        | inr past ↦ inl (sectors_at-with_above b first count new s 1 fits whole past)
      ]
    ]

-- what a stop may leave in a sector after a write
pub kept_or_written : (a b : List ℕ) (first count : ℕ) (new : List ℕ) (s : ℕ) (v : List ℕ) → a ≡ with_sectors b first new → 512 * first + length new ≤ length b → length new ≡ 512 * count → v ≡ sector_at a s → (v ≡ sector_at b s) ⊎ ((first ≤ s) × (s < first + count) × (v ≡ sector_at new (s - first)))
kept_or_written a b first count new s v is fits whole h =
    elim (sector_after_write b first count new s fits whole) [
      | inl same ↦ inl (h ∙ ap (λ x. sector_at x s) is ∙ same)
      | inr w ↦ inr (w.0, w.1, h ∙ ap (λ x. sector_at x s) is ∙ w.2)
    ]

-- a vector after a write through its slice
pub written_back : (n : ℕ) (x y : List ℕ) → length x ≡ n → take n (x ++ drop (length x) y) ≡ x
written_back n x y len = take_at x _ n len

-- a range apart from the one that is written
pub sectors_at_apart : (b : List ℕ) (first count : ℕ) (new : List ℕ) (f c : ℕ) → 512 * first + length new ≤ length b → length new ≡ 512 * count → (f + c ≤ first) ⊎ (first + count ≤ f) → sectors_at (with_sectors b first new) f c ≡ sectors_at b f c
sectors_at_apart b first count new f c fits whole (inl below) = sectors_at-with_below b first new f c fits below
sectors_at_apart b first count new f c fits whole (inr above) = sectors_at-with_above b first count new f c fits whole above

-- the laws of a write, for a caller's search
pub ruleset sectors = (length-with_sectors, sectors_at-with_same, sectors_at-with_below, sectors_at-with_above, sectors_at-with_inside)

-- a byte that was written
pub byte_inside : (b : List ℕ) (first : ℕ) (new : List ℕ) (i : ℕ) → 512 * first + length new ≤ length b → i < length new → get_or (with_sectors b first new) (512 * first + i) 0 ≡ get_or new i 0
byte_inside b first new i fits lt = grind (arith, places)

-- a byte that was not
pub byte_outside : (b : List ℕ) (first : ℕ) (new : List ℕ) (i : ℕ) → 512 * first + length new ≤ length b → (i < 512 * first) ⊎ (512 * first + length new ≤ i) → get_or (with_sectors b first new) i 0 ≡ get_or b i 0
byte_outside b first new i fits (inl lo) = grind (arith, places)
byte_outside b first new i fits (inr hi) = grind (arith, places)

-- a byte that was read
pub byte_read : (b : List ℕ) (first count i : ℕ) → i < 512 * count → get_or (sectors_at b first count) i 0 ≡ get_or b (512 * first + i) 0
byte_read b first count i lt = grind (arith, places)

pub ruleset bytes_after = (byte_inside, byte_outside, byte_read)

same_part : (a b : List ℕ) (f c k : ℕ) → k < 512 * c → get_or a (512 * f + k) 0 ≡ get_or b (512 * f + k) 0 → get_or (sectors_at a f c) k 0 ≡ get_or (sectors_at b f c) k 0
same_part a b f c k lt same = byte_read a f c k lt ∙ same ∙ sym (byte_read b f c k lt)

length-sectors_at : (b : List ℕ) (f c : ℕ) → length (sectors_at b f c) ≡ min (512 * c) (length b - 512 * f)
length-sectors_at b f c = simp (length-take, length-drop)

-- bytes that are the same outside a range are the same in a range apart from it
pub sectors_apart : (a b : List ℕ) (first count f c : ℕ) → length a ≡ length b → ((i : ℕ) → (i < 512 * first) ⊎ (512 * (first + count) ≤ i) → get_or a i 0 ≡ get_or b i 0) → (f + c ≤ first) ⊎ (first + count ≤ f) → sectors_at a f c ≡ sectors_at b f c
sectors_apart a b first count f c len rest apart =
    ext_get_or 0 _ _ (length-sectors_at a f c ∙ ap (λ n. min (512 * c) (n - 512 * f)) len ∙ sym (length-sectors_at b f c))
    (λ k lt. let short : k < 512 * c = omega (arith, length-sectors_at a f c) in same_part a b f c k short (rest (512 * f + k) (elim apart [ inl below ↦ inl (omega arith) | inr above ↦ inr (omega arith) ])))
