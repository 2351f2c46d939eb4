-- A new store is one that a load accepts, and shows what its pairs show over the image.
use Rattle.std.proofs.Common.{◌≡◌, inl, inr, ℕ, suc, ◌+◌, ◌*◌, ◌/◌, ◌%◌, ◌<◌, ◌≤◌, List, [], ◌∷◌, length, map, get_or, arith, refl, ap, ◌∙◌, sym, subst, true, false}
use Rattle.std.specs.Prelude.{◌==◌, Ok}
use Rattle.std.specs.List.{range_with_len}
use Rattle.std.proofs.lemmas.Bool.{cases_lt, cases_Bool, cond-true, cond-false, ne_eqb}
use Rattle.std.proofs.lemmas.Nat.{mod-mul-add, mod_below, le-div}
use Rattle.std.proofs.Math.Nat.{mul-le-mul_left}
use Rattle.sector.specs.Bytes.{sector_at}
use Rattle.sector.specs.Number.{number_at}
use Rattle.sector.specs.declared.pair.Pair.{Pair}
use Rattle.sector.proofs.Numbers.{same_number}
use Rattle.sector.proofs.Sectors.{byte_read}
use Rattle.chunk.specs.Sizes.{is_chunk}
use Rattle.chunk.proofs.Limits.{is_chunk-some}
use Rattle.cow_format.specs.Places.{chunk_at, area_place, is_area_place}
use Rattle.cow_format.specs.Pairs.{IsInside, AreWellFormed}
use Rattle.cow_format.specs.Picture.{place_of, byte_of, picture_at, picture}
use Rattle.cow_header.specs.HeaderText.{found_in, header_bytes}
use Rattle.cow_header.specs.declared.found.Found.TheVariants.{Header}
use Rattle.cow_header.proofs.Source.{found-header_bytes}
use Rattle.cow_image.specs.Shown.{shown}
use Rattle.new_store_files.specs.Written.{place_at, placed_from, IsStoreOf, IsGoodStore}
use Rattle.new_store_files.proofs.Stores.{place_in, slot_split, length-placed, placed-at}

-- the first sector of a header's chunk says what the header does
found_same : (a b : List ℕ) → ((i : ℕ) → i < 16 → get_or a i 0 ≡ get_or b i 0) → found_in a ≡ found_in b
found_same a b same =
    let magic : number_at a 0 4 ≡ number_at b 0 4 = same_number a b 0 4 (λ i lo hi. same i (omega arith)) in
    let mark : number_at a 4 4 ≡ number_at b 4 4 = same_number a b 4 4 (λ i lo hi. same i (omega arith)) in
    let version : number_at a 8 4 ≡ number_at b 8 4 = same_number a b 8 4 (λ i lo hi. same i (omega arith)) in
    let size : number_at a 12 4 ≡ number_at b 12 4 = same_number a b 12 4 (λ i lo hi. same i (omega arith)) in
    rw (magic, mark, version, size) refl

header_found : (chunk : ℕ) (s : List ℕ) → is_chunk chunk ≡ true → chunk_at chunk s 0 ≡ header_bytes (512 * chunk) true chunk → found_in (sector_at s 0) ≡ Ok (Header chunk)
header_found chunk s allowed is =
    let some = is_chunk-some chunk allowed in
    let zero_is : chunk * 0 ≡ 0 = omega arith in
    found_same (sector_at s 0) (chunk_at chunk s 0) (λ i lt.
    byte_read s 0 1 i (omega arith) ∙ sym (byte_read s (chunk * 0) chunk i (omega arith) ∙ ap (λ n. get_or s n 0) (omega arith)))
    ∙ ap found_in is ∙ found-header_bytes (512 * chunk) chunk true allowed

-- places rise
pub place_rises : (chunk j k : ℕ) → 0 < chunk → j < k → place_at chunk j < place_at chunk k
place_rises chunk j k pos lt =
    let split = slot_split chunk j in
    let q : j / (32 * chunk) ≤ k / (32 * chunk) = le-div (j / (32 * chunk)) k (32 * chunk) (omega arith) (omega arith) in
    omega arith

-- and are no area's
pub place_free : (chunk k : ℕ) → 0 < chunk → is_area_place chunk (place_at chunk k) ≡ false
place_free chunk k pos =
    let q = k / (32 * chunk) in
    let r = k % (32 * chunk) in
    let low : k % (32 * chunk) < 32 * chunk = mod_below k (32 * chunk) (omega arith) in
    let is : place_at chunk k ≡ area_place chunk (k / (32 * chunk)) + 1 + k % (32 * chunk) = ap (place_at chunk) (sym (slot_split chunk k)) ∙ place_in chunk (k / (32 * chunk)) (k % (32 * chunk)) low in
    elim (cases_lt (k % (32 * chunk) + 2) (32 * chunk + 1)) [
      | inl lt ↦ (
          let e : place_at chunk k ≡ k / (32 * chunk) * (32 * chunk + 1) + (k % (32 * chunk) + 2) = omega arith in
          let m : place_at chunk k % (32 * chunk + 1) ≡ k % (32 * chunk) + 2 = ap (λ n. n % (32 * chunk + 1)) e ∙ mod-mul-add (k / (32 * chunk)) (32 * chunk + 1) (k % (32 * chunk) + 2) lt in
          ne_eqb _ _ (omega arith))
      | inr ge ↦ (
          let next : (k / (32 * chunk) + 1) * (32 * chunk + 1) ≡ k / (32 * chunk) * (32 * chunk + 1) + (32 * chunk + 1) = grind arith in
          let e : place_at chunk k ≡ (k / (32 * chunk) + 1) * (32 * chunk + 1) + 0 = omega arith in
          let m : place_at chunk k % (32 * chunk + 1) ≡ 0 = ap (λ n. n % (32 * chunk + 1)) e ∙ mod-mul-add (k / (32 * chunk) + 1) (32 * chunk + 1) 0 (omega arith) in
          ne_eqb _ _ (omega arith))
    ]

-- the last area lies before the next place
room_for : (chunk n : ℕ) → area_place chunk (n / (32 * chunk)) + 1 ≤ place_at chunk n
room_for chunk n =
    let split = slot_split chunk n in
    let e : n / (32 * chunk) * (32 * chunk + 1) ≡ n / (32 * chunk) * (32 * chunk) + n / (32 * chunk) = grind arith in
    omega arith

map_same : (f g : ℕ → ℕ) → ((x : ℕ) → f x ≡ g x) → (xs : List ℕ) → map f xs ≡ map g xs
map_same f g same [] = refl
map_same f g same (x ∷ xs) = ap (λ y. y ∷ map f xs) (same x) ∙ ap (λ ys. g x ∷ ys) (map_same f g same xs)

-- a byte of a chunk, by the pairs that were copied
byte_copied : (chunk i c m : ℕ) (o s b : List ℕ) (ps : List Pair) → 0 < chunk → ((k : ℕ) (d : Pair) → k < length ps → chunk_at chunk s (place_at chunk (m + k)) ≡ chunk_at chunk b (get_or ps k d).new) → byte_of chunk o s i (place_of (placed_from chunk m ps) c) ≡ byte_of chunk o b i (place_of ps c)
byte_copied chunk i c m o s b [] pos copied = refl
byte_copied chunk i c m o s b (p ∷ ps) pos copied =
    let lt : i % (512 * chunk) < 512 * chunk = mod_below i (512 * chunk) (omega arith) in
    elim (cases_Bool (p.old == c)) [
      | inl t ↦
          ap (byte_of chunk o s i) (cond-true _ _ _ t)
          ∙ sym (byte_read s (chunk * place_at chunk m) chunk (i % (512 * chunk)) lt)
          ∙ ap (λ y. get_or y (i % (512 * chunk)) 0) (ap (λ n. chunk_at chunk s (place_at chunk n)) (omega arith) ∙ copied 0 p (omega arith))
          ∙ byte_read b (chunk * p.new) chunk (i % (512 * chunk)) lt
          ∙ sym (ap (byte_of chunk o b i) (cond-true _ _ _ t))
      | inr f ↦
          ap (byte_of chunk o s i) (cond-false _ _ _ f)
          ∙ byte_copied chunk i c (m + 1) o s b ps pos (λ k d h. ap (λ n. chunk_at chunk s (place_at chunk n)) (omega arith) ∙ copied (suc k) d (omega arith))
          ∙ sym (ap (byte_of chunk o b i) (cond-false _ _ _ f))
    ]

pub picture_copied : (chunk : ℕ) (o s b : List ℕ) (ps : List Pair) → 0 < chunk → IsStoreOf chunk b ps s → picture chunk o s ≡ shown chunk o b ps 0 (length o)
unfolding picture
picture_copied chunk o s b ps pos store =
    ap (λ (qs : List Pair). map (picture_at chunk o s qs) (range_with_len 0 (length o))) store.listed
    ∙ map_same _ _ (λ i. byte_copied chunk i (i / (512 * chunk)) 0 o s b ps pos (λ k d lt. ap (λ n. chunk_at chunk s (place_at chunk n)) (omega arith) ∙ store.copied k d lt)) (range_with_len 0 (length o))

pub good_store : (chunk : ℕ) (b s : List ℕ) (ps : List Pair) → is_chunk chunk ≡ true → IsStoreOf chunk b ps s → IsGoodStore chunk b ps s
good_store chunk b s ps allowed store =
    let pos = is_chunk-some chunk allowed in
    let len = length-placed chunk 0 ps in
    record {
      sound = record {
        whole = store.whole;
        header = header_found chunk s allowed store.header;
        large = (let h : chunk * 2 ≤ chunk * place_at chunk (length ps) = mul-le-mul_left chunk (omega arith) in omega arith);
      };
      formed = λ origin begin once. subst (λ (qs : List Pair). AreWellFormed chunk origin (chunk * place_at chunk (length ps)) qs) (sym store.listed) (record {
        inside = λ k d lt. let lt' : k < length ps = omega arith in
            subst (IsInside chunk origin (chunk * place_at chunk (length ps))) (sym (placed-at chunk k ps d lt')) (record {
              old = begin k d lt';
              new = (let up = place_rises chunk k (length ps) pos lt' in mul-le-mul_left chunk (omega arith));
              low = omega arith;
              free = place_free chunk k pos;
            });
        apart = λ j k d lt lt2. let lt' : k < length ps = omega arith in
            let one = placed-at chunk j ps d (omega arith) in
            let two = placed-at chunk k ps d lt' in
            record {
              old = λ same. once j k d lt lt' (ap (λ (p : Pair). p.old) (sym one) ∙ same ∙ ap (λ (p : Pair). p.old) two);
              new = λ same. let up = place_rises chunk j k pos lt in
                  let e : place_at chunk j ≡ place_at chunk k = ap (λ (p : Pair). p.new) (sym one) ∙ same ∙ ap (λ (p : Pair). p.new) two in omega arith;
            };
        room = (let h : chunk * (area_place chunk (length ps / (32 * chunk)) + 1) ≤ chunk * place_at chunk (length ps) = mul-le-mul_left chunk (room_for chunk (length ps)) in
            subst (λ (n : ℕ). chunk * (area_place chunk (n / (32 * chunk)) + 1) ≤ chunk * place_at chunk (length ps)) (sym len) h);
      });
      shows = λ origin. picture_copied chunk origin s b ps pos store;
    }
