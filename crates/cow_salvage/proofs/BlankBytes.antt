-- Bytes that are blanked, one by one.
use Rattle.std.proofs.Common.{◌≡◌, ℕ, ◌+◌, ◌-◌, ◌*◌, ◌/◌, ◌%◌, ◌<◌, ◌≤◌, List, [], ◌∷◌, length, length-drop, zero-add, get_or, take, drop, map, true, false, arith, ap, ◌∙◌, sym, refl, Some, None, Option, IfSome, inl, inr}
use Rattle.std.specs.List.{range_with_len}
use borrow.Rule.Slice.PartMut.{put_mid}
use Rattle.std.proofs.lemmas.Bool.{cond-true, cond-false, cases_lt}
use Rattle.std.proofs.lemmas.Nat.{div-mul-add}
use Rattle.std.proofs.lemmas.List.{places, ext_get_or, get_or-take, get_or-drop, length-take-le}
use Rattle.std.proofs.lemmas.List.FromFn.{length-map-range_with_len, get_or-map-range_with_len}
use Rattle.cow_salvage.specs.declared.span.Span.{Span}
use Rattle.cow_salvage.specs.Spans.{is_in}
use Rattle.cow_salvage.specs.Blanks.{byte_or_blank, blanked, known_blanked}

-- the sector of a byte
sector_of : (sector i : ℕ) → i < 512 → (512 * sector + i) / 512 ≡ sector
sector_of sector i lt = omega arith

-- a byte of a sector that is blank
pub blank_here : (spans : List Span) (b : List ℕ) (sector i : ℕ) → i < 512 → is_in spans sector ≡ true → byte_or_blank spans b (512 * sector + i) ≡ 0
blank_here spans b sector i lt is = cond-true _ _ _ (ap (is_in spans) (sector_of sector i lt) ∙ is)

-- a byte of one that is not
pub byte_here : (spans : List Span) (b : List ℕ) (sector i : ℕ) → i < 512 → is_in spans sector ≡ false → byte_or_blank spans b (512 * sector + i) ≡ get_or b (512 * sector + i) 0
byte_here spans b sector i lt is = cond-false _ _ _ (ap (is_in spans) (sector_of sector i lt) ∙ is)

-- a byte of what was read
pub byte_got : (b out : List ℕ) (at n i : ℕ) → out ≡ take n (drop at b) → i < n → get_or out i 0 ≡ get_or b (at + i) 0
byte_got b out at n i is lt = ap (λ xs. get_or xs i 0) is ∙ get_or-take n (drop at b) i 0 lt ∙ get_or-drop at b i 0

-- bytes that are those of a blanked list one by one
pub blanked_read : (spans : List Span) (b out : List ℕ) (at n : ℕ) → length out ≡ n → at + n ≤ length b → ((i : ℕ) → i < n → get_or out i 0 ≡ byte_or_blank spans b (at + i)) → out ≡ take n (drop at (blanked spans b))
unfolding blanked
blanked_read spans b out at n len inside each =
    let whole : List ℕ = map (byte_or_blank spans b) (range_with_len 0 (length b)) in
    let all : length whole ≡ length b = length-map-range_with_len (byte_or_blank spans b) 0 (length b) in
    let rest : length (drop at whole) ≡ length b - at = length-drop at whole ∙ ap (λ m. m - at) all in
    ext_get_or 0 out (take n (drop at whole)) (len ∙ sym (length-take-le n (drop at whole) (omega arith)))
    (λ i lt. let h : i < n = omega arith in
    each i h
    ∙ sym (get_or-map-range_with_len (byte_or_blank spans b) 0 (length b) (at + i) (at + i) 0 (omega arith) (zero-add (at + i)))
    ∙ sym (get_or-drop at whole i 0) ∙ sym (get_or-take n (drop at whole) i 0 h))

pub length_blanked : (spans : List Span) (b : List ℕ) → length (blanked spans b) ≡ length b
unfolding blanked
length_blanked spans b = length-map-range_with_len (byte_or_blank spans b) 0 (length b)

-- how long a blanked image is
pub blank_len : (below : Option (List ℕ)) (spans : List Span) (n : ℕ) → IfSome below (λ b. n ≡ length b) → IfSome (known_blanked spans below) (λ b. n ≡ length b)
blank_len None spans n is = tt
blank_len (Some b) spans n is = is ∙ sym (length_blanked spans b)

-- a read inside it
pub blank_inside : (below : Option (List ℕ)) (spans : List Span) (at n len : ℕ) → IfSome below (λ b. len ≡ length b) → at + n ≤ len → IfSome (known_blanked spans below) (λ b. at + n ≤ length b)
blank_inside None spans at n len is inside = tt
blank_inside (Some b) spans at n len is inside = let same = length_blanked spans b in omega arith

-- without spans it is the image below
blank_none : (spans : List Span) (b : List ℕ) → length spans ≡ 0 → blanked spans b ≡ b
unfolding blanked
blank_none [] b none = ext_get_or 0 (map (byte_or_blank [] b) (range_with_len 0 (length b))) b (length-map-range_with_len (byte_or_blank [] b) 0 (length b))
    (λ i lt. let all : length (map (byte_or_blank [] b) (range_with_len 0 (length b))) ≡ length b = length-map-range_with_len (byte_or_blank [] b) 0 (length b) in
    get_or-map-range_with_len (byte_or_blank [] b) 0 (length b) i i 0 (omega arith) (zero-add i))
blank_none (span ∷ spans) b none = absurd (omega arith)

pub none_inside : (below : Option (List ℕ)) (spans : List Span) (at n : ℕ) → length spans ≡ 0 → IfSome below (λ b. at + n ≤ length b) → IfSome (known_blanked spans below) (λ b. at + n ≤ length b)
none_inside None spans at n none is = tt
none_inside (Some b) spans at n none is = let same = length_blanked spans b in omega arith

pub none_read : (below : Option (List ℕ)) (spans : List Span) (at n : ℕ) (out : List ℕ) → length spans ≡ 0 → IfSome below (λ b. out ≡ take n (drop at b)) → IfSome (known_blanked spans below) (λ b. out ≡ take n (drop at b))
none_read None spans at n out none is = tt
none_read (Some b) spans at n out none is = is ∙ ap (λ x. take n (drop at x)) (sym (blank_none spans b none))

-- what was read of it sector by sector
pub blank_read : (below : Option (List ℕ)) (spans : List Span) (at n len : ℕ) (out : List ℕ) → IfSome below (λ b. len ≡ length b) → at + n ≤ len → length out ≡ n → at % 512 ≡ 0 → n % 512 ≡ 0 → ((b : List ℕ) → below ≡ Some b → (i : ℕ) → i < 512 * (n / 512) → get_or out i 0 ≡ byte_or_blank spans b (512 * (at / 512) + i)) → IfSome (known_blanked spans below) (λ b. out ≡ take n (drop at b))
blank_read None spans at n len out is inside whole first sectors each = tt
blank_read (Some b) spans at n len out is inside whole first sectors each =
    let start : 512 * (at / 512) ≡ at = omega arith in
    blanked_read spans b out at n whole (omega arith) (λ i lt. let low : i < 512 * (n / 512) = omega arith in each b refl i low ∙ ap (λ a. byte_or_blank spans b (a + i)) start)

-- a sector that was read into its place
pub sector_more : (index first : ℕ) (out part : List ℕ) (byte : ℕ → ℕ) → 512 * index + 512 ≤ length out → length part ≡ 512 → ((k : ℕ) → k < 512 * index → get_or out k 0 ≡ byte (512 * first + k)) → ((k : ℕ) → k < 512 → get_or part k 0 ≡ byte (512 * (first + index) + k)) → (k : ℕ) → k < 512 * (index + 1) → get_or (put_mid (512 * index) (512 * index + 512 - 512 * index) out part) k 0 ≡ byte (512 * first + k)
sector_more index first out part byte fits len done more k lt = elim (cases_lt k (512 * index)) [
  | inl below ↦ kept (512 * index) (512 * index + 512 - 512 * index) out part k (omega arith) (omega arith) below ∙ done k below
  | inr above ↦ (let at : k ≡ 512 * index + (k - 512 * index) = omega arith in
      ap (λ n. get_or (put_mid (512 * index) (512 * index + 512 - 512 * index) out part) n 0) at
      ∙ put (512 * index) (512 * index + 512 - 512 * index) out part (k - 512 * index) (omega arith) (omega arith) (omega arith)
      ∙ more (k - 512 * index) (omega arith) ∙ ap byte (omega arith))
]
  where
    kept : (a n : ℕ) (xs ys : List ℕ) (i : ℕ) → a + n ≤ length xs → length ys ≡ n → i < a → get_or (put_mid a n xs ys) i 0 ≡ get_or xs i 0
    kept a n xs ys i fits len lt = grind (arith, places)

    put : (a n : ℕ) (xs ys : List ℕ) (i : ℕ) → a + n ≤ length xs → length ys ≡ n → i < n → get_or (put_mid a n xs ys) (a + i) 0 ≡ get_or ys i 0
    put a n xs ys i fits len lt = grind (arith, places)
