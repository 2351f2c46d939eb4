-- A part of a chunk that is written with its chunk.
use Rattle.std.proofs.Common.{◌≡◌, ◌≢◌, inl, inr, ℕ, ◌+◌, ◌*◌, ◌-◌, ◌<◌, ◌≤◌, List, [], ◌∷◌, ◌++◌, length, take, drop, arith, rules, refl, ap, ◌∙◌, sym, append_assoc, append-nil, length-append, replicate}
use Rattle.std.proofs.lemmas.List.{places, same_lists, length_push, get_or_push, get_or_append_left}
use Rattle.std.proofs.lemmas.Bool.{cases_eq}
use Rattle.sector.specs.Bytes.{sectors_at, with_part, with_sectors}
use Rattle.sector.specs.Number.{number_bytes}
use Rattle.sector.specs.declared.pair.Pair.{Pair}
use Rattle.sector.proofs.Numbers.{length-number_bytes}
use Rattle.cow_format.specs.Slots.{pair_bytes, pair_in, with_pair}
use Rattle.cow_format.specs.Places.{chunk_at}
use Rattle.metadata_area.specs.Cleared.{zero_from}
use Rattle.store.specs.Slots.{pairs_bytes, IsPut}

-- writing a chunk with a part changed writes that part
pub part-through : (b : List ℕ) (first count at : ℕ) (part : List ℕ) → 512 * (first + count) ≤ length b → at + length part ≤ 512 * count → with_sectors b first (with_part (sectors_at b first count) at part) ≡ with_part b (512 * first + at) part
part-through b first count at part fits inside = same_lists _ _ (search (rules, places)) (λ k d h. grind (arith, places))

-- a part after a part
pub part-more : (a : List ℕ) (at : ℕ) (xs ys : List ℕ) → at + length xs + length ys ≤ length a → with_part (with_part a at xs) (at + length xs) ys ≡ with_part a at (xs ++ ys)
part-more a at xs ys fits = same_lists _ _ (search (rules, places)) (λ k d h. grind (arith, places))

-- a part that was kept in another list and written over is put back
pub part-back : (a b part : List ℕ) (at count : ℕ) → length part ≡ count → at + count ≤ length a → length b ≡ length a → with_part (with_part a at part) at (take count (drop at (with_part b at (take count (drop at a))))) ≡ a
part-back a b part at count len fits same = same_lists _ _ (search (rules, places)) (λ k d h. grind (arith, places))

-- a pair has 16 bytes
pub length-pair_bytes : (p : Pair) → length (pair_bytes p) ≡ 16
length-pair_bytes p = length-append (number_bytes 8 p.old) (number_bytes 8 p.new) ∙ (let x = length-number_bytes 8 p.old in let y = length-number_bytes 8 p.new in omega arith)

pub length-pairs_bytes : (ps : List Pair) → length (pairs_bytes ps) ≡ 16 * length ps
length-pairs_bytes [] = refl
length-pairs_bytes (p ∷ ps) = let n = length-pairs_bytes ps in let m = length-pair_bytes p in omega (arith, length-append (pair_bytes p) (pairs_bytes ps))

pub pairs_bytes-push : (ps : List Pair) (p : Pair) → pairs_bytes (ps ++ p ∷ []) ≡ pairs_bytes ps ++ pair_bytes p
pairs_bytes-push [] p = append-nil (pair_bytes p)
pairs_bytes-push (q ∷ ps) p = ap (λ x. pair_bytes q ++ x) (pairs_bytes-push ps p) ∙ sym (append_assoc (pair_bytes q) (pairs_bytes ps) (pair_bytes p))

-- writing a chunk with a zeroed tail zeroes that tail
pub tail-through : (b : List ℕ) (first count slot : ℕ) → 512 * (first + count) ≤ length b → 16 * slot ≤ 512 * count → with_sectors b first (zero_from (sectors_at b first count) slot) ≡ with_part b (512 * first + 16 * slot) (replicate (512 * count - 16 * slot) 0)
tail-through b first count slot fits inside = same_lists _ _ (search (rules, places)) (λ k d h. grind (arith, places))

-- one pair more is put
pub put_more : (area : List ℕ) (slot i : ℕ) (qs : List Pair) (q : Pair) (x y : List ℕ) → IsPut area slot qs x → i ≡ length qs → y ≡ with_pair x (slot + i) q → length y ≡ length x → pair_in y (slot + i) ≡ q → ((k : ℕ) → k ≢ slot + i → pair_in y k ≡ pair_in x k) → 16 * (slot + i + 1) ≤ length area → IsPut area slot (qs ++ q ∷ []) y
put_more area slot i qs q x y put at is len here others fits =
    let n = length-pairs_bytes qs in
    let m = length-pair_bytes q in
    let e : 16 * (slot + i) ≡ 16 * slot + length (pairs_bytes qs) = omega arith in
    let more = length_push qs q in
    record {
      all = is ∙ ap (λ b. with_part b (16 * (slot + i)) (pair_bytes q)) put.all ∙ ap (λ o. with_part (with_part area (16 * slot) (pairs_bytes qs)) o (pair_bytes q)) e ∙ part-more area (16 * slot) (pairs_bytes qs) (pair_bytes q) (omega arith) ∙ ap (with_part area (16 * slot)) (sym (pairs_bytes-push qs q));
      len = len ∙ put.len;
      here = λ k d lt. elim (cases_eq k i) [
        | inl e ↦ ap (λ j. pair_in y (slot + j)) e ∙ here ∙ sym (get_or_push qs q d k (sym (e ∙ at)))
        | inr ne ↦ (let below : k < length qs = omega arith in
            others (slot + k) (omega arith) ∙ put.here k d below ∙ sym (get_or_append_left qs (q ∷ []) d k below))
      ];
      others = λ k out. others k (elim out [ inl lo ↦ omega arith | inr hi ↦ omega arith ]) ∙ put.others k (elim out [ inl lo ↦ inl lo | inr hi ↦ inr (omega arith) ]);
    }

-- no pairs are put
pub put_none : (area : List ℕ) (slot : ℕ) → 16 * slot ≤ length area → IsPut area slot [] area
put_none area slot fits = record {
  all = same_lists _ _ (search (rules, places)) (λ k d h. grind (arith, places));
  len = refl;
  here = λ i d lt. absurd (omega arith);
  others = λ k out. refl;
}

-- slots of an area that were kept in another before pairs were put there are put back
pub slots-back : (count slot : ℕ) (qs : List Pair) (area x spare kept back : List ℕ) → IsPut area slot qs x → length qs ≡ count → 16 * (slot + count) ≤ length area → length spare ≡ length area → kept ≡ with_part spare (16 * slot) (take (16 * count) (drop (16 * slot) area)) → back ≡ with_part x (16 * slot) (take (16 * count) (drop (16 * slot) kept)) → back ≡ area
slots-back count slot qs area x spare kept back put n fits same keeps backs =
    backs
    ∙ ap (λ y. with_part y (16 * slot) (take (16 * count) (drop (16 * slot) kept))) put.all
    ∙ ap (λ y. with_part (with_part area (16 * slot) (pairs_bytes qs)) (16 * slot) (take (16 * count) (drop (16 * slot) y))) keeps
    ∙ part-back area spare (pairs_bytes qs) (16 * slot) (16 * count) (length-pairs_bytes qs ∙ ap (λ k. 16 * k) n) (omega arith) same

-- the store's bytes after an area was written into which pairs were put
pub put-written : (size chunk n slot : ℕ) (qs : List Pair) (area x old : List ℕ) → IsPut area slot qs x → chunk_at chunk old n ≡ area → length old ≡ 512 * size → chunk * (n + 1) ≤ size → slot + length qs ≤ 32 * chunk → with_sectors old (chunk * n) x ≡ with_part old (512 * (chunk * n) + 16 * slot) (pairs_bytes qs)
put-written size chunk n slot qs area x old put here whole inside fits =
    let e : chunk * (n + 1) ≡ chunk * n + chunk = grind arith in
    let len = length-pairs_bytes qs in
    ap (with_sectors old (chunk * n)) (put.all ∙ ap (λ a. with_part a (16 * slot) (pairs_bytes qs)) (sym here))
    ∙ part-through old (chunk * n) chunk (16 * slot) (pairs_bytes qs) (omega arith) (omega arith)
