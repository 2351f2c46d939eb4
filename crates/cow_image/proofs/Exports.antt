-- What is written of a picture, piece after piece.
use Rattle.std.proofs.Common.{◌≡◌, ℕ, zero, suc, ◌+◌, ◌-◌, ◌*◌, ◌/◌, ◌<◌, ◌≤◌, List, [], ◌∷◌, ◌++◌, length, map, get_or, arith, refl, ap, ◌∙◌, sym, append_assoc, append-nil, add-zero, zero-add, add_assoc}
use Rattle.std.specs.List.{range_with_len}
use Rattle.std.proofs.lemmas.List.{ext_get_or}
use Rattle.std.proofs.lemmas.List.FromFn.{map-range_with_len_more, length-map-range_with_len, get_or-map-range_with_len}
use Rattle.sector.specs.declared.pair.Pair.{Pair}
use Rattle.cow_format.specs.Pairs.{pairs_of}
use Rattle.cow_format.specs.Picture.{byte_of, picture_at, picture}
use Rattle.cow_image.specs.declared.map.CowMap.{CowMap}
use Rattle.cow_image.specs.Maps.{IsMapOf}
use Rattle.cow_image.proofs.Sorts.{old_differ}
use Rattle.cow_image.proofs.Places.{place_moved}
use Rattle.cow_image.specs.Shown.{shown, IsFrontOf}

-- numbers of a function, in two parts
map_parts : (f : ℕ → ℕ) (a m n : ℕ) → map f (range_with_len a (m + n)) ≡ map f (range_with_len a m) ++ map f (range_with_len (a + m) n)
map_parts f a m zero = ap (λ k. map f (range_with_len a k)) (add-zero m) ∙ sym (append-nil (map f (range_with_len a m)))
map_parts f a m (suc n) =
    let e : m + suc n ≡ (m + n) + 1 = omega arith in
    let e' : n + 1 ≡ suc n = omega arith in
    ap (λ k. map f (range_with_len a k)) e
    ∙ map-range_with_len_more f a (m + n) (a + (m + n)) refl
    ∙ ap (λ xs. xs ++ f (a + (m + n)) ∷ []) (map_parts f a m n)
    ∙ append_assoc (map f (range_with_len a m)) (map f (range_with_len (a + m) n)) (f (a + (m + n)) ∷ [])
    ∙ ap (λ xs. map f (range_with_len a m) ++ xs) (sym (map-range_with_len_more f (a + m) n (a + (m + n)) (add_assoc a m n)) ∙ ap (λ k. map f (range_with_len (a + m) k)) e')

pub shown_parts : (chunk : ℕ) (o b : List ℕ) (ps : List Pair) (a m n : ℕ) → shown chunk o b ps a (m + n) ≡ shown chunk o b ps a m ++ shown chunk o b ps (a + m) n
shown_parts chunk o b ps a m n = map_parts (picture_at chunk o b ps) a m n

-- a piece more
pub shown_more : (chunk : ℕ) (o b : List ℕ) (ps : List Pair) (done at len done' : ℕ) → at ≡ done → done' ≡ done + len → shown chunk o b ps 0 done ++ shown chunk o b ps at len ≡ shown chunk o b ps 0 done'
shown_more chunk o b ps done at len done' same is =
    ap (λ n. shown chunk o b ps 0 done ++ shown chunk o b ps n len) same ∙ ap (λ n. shown chunk o b ps 0 done ++ shown chunk o b ps n len) (sym (zero-add done)) ∙ sym (shown_parts chunk o b ps 0 done len) ∙ ap (λ n. shown chunk o b ps 0 n) (sym is)

-- a front of a piece, after what was written before it
pub front_more : (chunk : ℕ) (o b : List ℕ) (ps : List Pair) (done at len end : ℕ) (front : List ℕ) → at ≡ done → done + len ≤ end → IsFrontOf front (shown chunk o b ps at len) → IsFrontOf (shown chunk o b ps 0 done ++ front) (shown chunk o b ps 0 end)
front_more chunk o b ps done at len end front same le (rest, is) =
    let left = end - (done + len) in
    let last = shown chunk o b ps (done + len) left in
    let all : done + len + left ≡ end = omega arith in (
      rest ++ last,
      append_assoc (shown chunk o b ps 0 done) front (rest ++ last)
          ∙ ap (λ xs. shown chunk o b ps 0 done ++ xs) (sym (append_assoc front rest last) ∙ ap (λ xs. xs ++ last) is)
          ∙ sym (append_assoc (shown chunk o b ps 0 done) (shown chunk o b ps at len) last)
          ∙ ap (λ xs. xs ++ last) (shown_more chunk o b ps done at len (done + len) same refl)
          ∙ ap (λ n. shown chunk o b ps 0 (done + len) ++ shown chunk o b ps n left) (sym (zero-add (done + len)))
          ∙ sym (shown_parts chunk o b ps 0 (done + len) left)
          ∙ ap (λ n. shown chunk o b ps 0 n) all,
    )

map_same : (f g : ℕ → ℕ) → ((x : ℕ) → f x ≡ g x) → (xs : List ℕ) → map f xs ≡ map g xs
map_same f g same [] = refl
map_same f g same (x ∷ xs) = ap (λ y. y ∷ map f xs) (same x) ∙ ap (λ ys. g x ∷ ys) (map_same f g same xs)

-- the picture by a store's map is the picture of its bytes
pub picture_is : (origin end : ℕ) (o b : List ℕ) (m : CowMap) → length o ≡ end → IsMapOf origin b m → shown m.chunk o b m.pairs.items 0 end ≡ picture m.chunk o b
unfolding picture
picture_is origin end o b m whole is =
    ap (λ n. shown m.chunk o b m.pairs.items 0 n) (sym whole)
    ∙ map_same _ _ (λ i. ap (byte_of m.chunk o b i) (sym (place_moved (pairs_of m.chunk b) m.pairs.items (i / (512 * m.chunk)) is.pairs (old_differ (pairs_of m.chunk b) is.formed.apart)))) (range_with_len 0 (length o))

-- bytes that are those of the picture one by one
pub bytes_shown : (chunk : ℕ) (o b : List ℕ) (ps : List Pair) (at n : ℕ) (out : List ℕ) → length out ≡ n → ((i : ℕ) → i < n → get_or out i 0 ≡ picture_at chunk o b ps (at + i)) → out ≡ shown chunk o b ps at n
bytes_shown chunk o b ps at n out len each = ext_get_or 0 out (shown chunk o b ps at n) (len ∙ sym (length-map-range_with_len (picture_at chunk o b ps) at n))
    (λ i lt. let h : i < n = omega arith in each i h ∙ sym (get_or-map-range_with_len (picture_at chunk o b ps) at n i (at + i) 0 h refl))

-- without pairs the picture is the origin
pub fresh_is : (chunk end : ℕ) (o b : List ℕ) → length o ≡ end → shown chunk o b [] 0 end ≡ o
fresh_is chunk end o b whole = sym (bytes_shown chunk o b [] 0 end o whole (λ i lt. ap (λ n. get_or o n 0) (sym (zero-add i))))
