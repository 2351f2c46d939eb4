-- Chunks in which two arrays differ, and the store that has their copies.
use Rattle.std.proofs.Common.{◌≡◌, ◌≢◌, inl, inr, ℕ, ◌+◌, ◌-◌, ◌*◌, ◌/◌, ◌%◌, ◌<◌, ◌≤◌, List, [], ◌∷◌, ◌++◌, length, take, drop, get_or, arith, rules, refl, ap, ◌∙◌, sym, subst, Option, Some, None, min, length-take, length-drop, Bool, true, false}
use Rattle.std.specs.Prelude.{◌==◌, not, nat_eq}
use Rattle.std.specs.Bool.{Decides}
use Rattle.std.specs.Cmp.{unsigned_Decides}
use Rattle.std.proofs.lemmas.Slice.Eq.{slice_eq-Decides}
use lib.Pointwise.{pointwise}
use Rattle.std.specs.List.{All}
use Rattle.std.proofs.lemmas.Bool.{cases_lt, cases_Bool, cond-true, cond-false, eq-eqb}
use Rattle.std.proofs.lemmas.List.{places, same_lists, ext_get_or, get_or_append_left, get_or_push, length_push}
use Rattle.std.proofs.lemmas.Nat.{div_below, mod_below}
use Rattle.sector.specs.declared.pair.Pair.{Pair}
use Rattle.sector.proofs.Sectors.{byte_read}
use Rattle.cow_format.specs.Places.{chunk_at}
use Rattle.cow_format.specs.Picture.{place_of, byte_of}
use Rattle.cow_format.proofs.Pictures.{place_found}
use Rattle.cow_image.specs.Sorted.{old_of}
use Rattle.cow_image.proofs.Sorts.{rising_differ}
use Rattle.cow_image.proofs.Exports.{bytes_shown}
use Rattle.cow_image.proofs.Ranges.{chunk_and}
use Rattle.cow_image.proofs.Lists.{no_chunks}
use Rattle.new_store_files.specs.Changed.{IsKept, IsChanged, IsOwnPair, AreChanged, IsStoreBetween}
use Rattle.new_store_files.specs.Padding.{padded}
use Rattle.new_store_files.specs.Written.{place_at, placed_from, IsStoreOf, IsGoodStore}
use Rattle.new_store_files.proofs.Stores.{length-placed, placed-at}
use Rattle.new_store_files.proofs.Padded.{length-padded, padded_at, padded_past}

-- no pairs
pub none_changed : (chunk : ℕ) (o a : List ℕ) → AreChanged chunk o a 0 []
none_changed chunk o a = record {
  rising = λ k d lt. absurd (omega arith);
  each = λ k d lt. absurd (omega arith);
  others = λ c lt none. absurd (omega arith);
}

-- a chunk that has no place by more pairs has none by the first of them
none_first : (ps qs : List Pair) (c : ℕ) → place_of (ps ++ qs) c ≡ None → place_of ps c ≡ None
none_first [] qs c none = refl
none_first (p ∷ ps) qs c none = elim (cases_Bool (p.old == c)) [
  | inl t ↦ absurd (let h : Some p.new ≡ None = sym (cond-true _ _ _ t) ∙ none in cc)
  | inr f ↦ cond-false _ _ _ f ∙ none_first ps qs c (sym (cond-false _ _ _ f) ∙ none)
]

none_last : (ps : List Pair) (p : Pair) (c : ℕ) → place_of (ps ++ p ∷ []) c ≡ None → p.old ≢ c
none_last [] p c none same = let h : Some p.new ≡ None = sym (cond-true _ _ _ (eq-eqb _ _ same)) ∙ none in absurd (cc)
none_last (q ∷ ps) p c none same = elim (cases_Bool (q.old == c)) [
  | inl t ↦ absurd (let h : Some q.new ≡ None = sym (cond-true _ _ _ t) ∙ none in cc)
  | inr f ↦ none_last ps p c (sym (cond-false _ _ _ f) ∙ none) same
]

-- a chunk more that is the same
pub kept_more : (chunk n : ℕ) (o a : List ℕ) (ps : List Pair) → AreChanged chunk o a n ps → IsKept chunk o a n → AreChanged chunk o a (n + 1) ps
kept_more chunk n o a ps are kept = record {
  rising = are.rising;
  each = λ k d lt. let own = are.each k d lt in record { same = own.same; inside = (let h = own.inside in omega arith); changed = own.changed };
  others = λ c lt none. elim (cases_lt c n) [
    | inl lo ↦ are.others c lo none
    | inr hi ↦ (let e : n ≡ c = omega arith in subst (IsKept chunk o a) e kept)
  ];
}

-- and one that is another
pub changed_more : (chunk n : ℕ) (o a : List ℕ) (ps : List Pair) → AreChanged chunk o a n ps → IsChanged chunk o a n → AreChanged chunk o a (n + 1) (ps ++ record { old = n; new = n } ∷ [])
changed_more chunk n o a ps are changed =
    let last : Pair = record { old = n; new = n } in
    let len = length_push ps last in
    record {
      rising = λ k d lt. elim (cases_lt (k + 1) (length ps)) [
        | inl lo ↦ (let up = are.rising k d lo in
            let one = ap (λ (p : Pair). p.old) (get_or_append_left ps (last ∷ []) d k (omega arith)) in
            let two = ap (λ (p : Pair). p.old) (get_or_append_left ps (last ∷ []) d (k + 1) lo) in omega arith)
        | inr hi ↦ (let own = (are.each k d (omega arith)).inside in
            let one = ap (λ (p : Pair). p.old) (get_or_append_left ps (last ∷ []) d k (omega arith)) in
            let two = ap (λ (p : Pair). p.old) (get_or_push ps last d (k + 1) (omega arith)) in omega arith)
      ];
      each = λ k d lt. elim (cases_lt k (length ps)) [
        | inl lo ↦ (let own = are.each k d lo in
            subst (IsOwnPair chunk o a (n + 1)) (sym (get_or_append_left ps (last ∷ []) d k lo)) (record { same = own.same; inside = (let h = own.inside in omega arith); changed = own.changed }))
        | inr hi ↦ subst (IsOwnPair chunk o a (n + 1)) (sym (get_or_push ps last d k (omega arith))) (record { same = refl; inside = omega arith; changed = changed })
      ];
      others = λ c lt none. elim (cases_lt c n) [
        | inl lo ↦ are.others c lo (none_first ps (last ∷ []) c none)
        | inr hi ↦ absurd (none_last ps last c none (omega arith))
      ];
    }

-- a chunk of what was read of an array
part_in : (n at from len at' : ℕ) (b : List ℕ) → at + n ≤ len → at' ≡ from + at → take n (drop at (take len (drop from b))) ≡ take n (drop at' b)
part_in n at from len at' b lo is = same_lists _ _ (search (rules, places)) (λ k d h. grind (arith, places))

pub chunk_read : (chunk first count index from room : ℕ) (b part : List ℕ) → part ≡ take (512 * (chunk * count)) (drop (512 * (chunk * first)) b) → index < count → from ≡ 512 * (chunk * index) → room ≡ 512 * chunk → take room (drop from part) ≡ chunk_at chunk b (first + index)
chunk_read chunk first count index from room b part is lt at whole =
    let fits : chunk * index + chunk ≤ chunk * count = grind arith in
    let e : chunk * (first + index) ≡ chunk * first + chunk * index = grind arith in
    ap (λ y. take room (drop from y)) is
    ∙ part_in room from (512 * (chunk * first)) (512 * (chunk * count)) (512 * (chunk * (first + index))) b (omega arith) (omega arith)
    ∙ ap (λ n. take n (drop (512 * (chunk * (first + index))) b)) whole

told_true : (b : Bool) → not b ≡ false → b ≡ true
told_true true is = refl
told_true false is = cc

-- what `!=` says of a chunk that was read of two arrays
module _ (chunk first count index from room : ℕ) (a o ours theirs : List ℕ) (r : Bool) (ours_is : ours ≡ take (512 * (chunk * count)) (drop (512 * (chunk * first)) a)) (theirs_is : theirs ≡ take (512 * (chunk * count)) (drop (512 * (chunk * first)) o)) (lt : index < count) (at : from ≡ 512 * (chunk * index)) (whole : room ≡ 512 * chunk) (is : r ≡ not (pointwise nat_eq (take room (drop from ours)) (take room (drop from theirs)))) where
  ours_at : take room (drop from ours) ≡ chunk_at chunk a (first + index)
  ours_at = chunk_read chunk first count index from room a ours ours_is lt at whole

  theirs_at : take room (drop from theirs) ≡ chunk_at chunk o (first + index)
  theirs_at = chunk_read chunk first count index from room o theirs theirs_is lt at whole

  decided : Decides (pointwise nat_eq (take room (drop from ours)) (take room (drop from theirs))) (take room (drop from ours) ≡ take room (drop from theirs))
  decided = slice_eq-Decides unsigned_Decides (take room (drop from ours)) (take room (drop from theirs)) _ refl

  pub is_changed : r ≡ true → IsChanged chunk o a (first + index)
  is_changed other same =
      let equal : pointwise nat_eq (take room (drop from ours)) (take room (drop from theirs)) ≡ true = decided.1 (ours_at ∙ same ∙ sym theirs_at) in
      let none : true ≡ false = sym other ∙ is ∙ ap not equal in cc

  pub is_kept : r ≡ false → IsKept chunk o a (first + index)
  is_kept none = sym ours_at ∙ decided.0 (told_true _ (sym is ∙ none)) ∙ theirs_at

-- a byte of a chunk
byte_in : (chunk i : ℕ) (b : List ℕ) → 0 < chunk → get_or (chunk_at chunk b (i / (512 * chunk))) (i % (512 * chunk)) 0 ≡ get_or b i 0
byte_in chunk i b pos =
    let lt : i % (512 * chunk) < 512 * chunk = mod_below i (512 * chunk) (omega arith) in
    byte_read b (chunk * (i / (512 * chunk))) chunk (i % (512 * chunk)) lt ∙ ap (λ n. get_or b n 0) (chunk_and chunk i)

-- the length of a chunk
length-part : (n at : ℕ) (b : List ℕ) → length (take n (drop at b)) ≡ min n (length b - at)
length-part n at b = simp (length-take, length-drop)

chunk_length : (chunk c : ℕ) (a b : List ℕ) → length a ≡ length b → length (chunk_at chunk a c) ≡ length (chunk_at chunk b c)
chunk_length chunk c a b len = length-part (512 * chunk) (512 * (chunk * c)) a ∙ ap (λ n. min (512 * chunk) (n - 512 * (chunk * c))) len ∙ sym (length-part (512 * chunk) (512 * (chunk * c)) b)

chunk_short : (chunk c j : ℕ) (b : List ℕ) → j < length (chunk_at chunk b c) → j < 512 * chunk
chunk_short chunk c j b lt = let h = length-part (512 * chunk) (512 * (chunk * c)) b in omega arith

-- arrays of one length with the same chunk have it also before zeros
pub kept_padded : (chunk c : ℕ) (o a : List ℕ) → length a ≡ length o → chunk_at chunk a c ≡ chunk_at chunk o c → chunk_at chunk (padded a) c ≡ chunk_at chunk (padded o) c
kept_padded chunk c o a len same = ext_get_or 0 _ _ (chunk_length chunk c (padded a) (padded o) (length-padded a ∙ ap (λ n. n + 524_288) len ∙ sym (length-padded o))) (λ j lt.
    let short : j < 512 * chunk = chunk_short chunk c j (padded a) lt in
    byte_read (padded a) (chunk * c) chunk j short
    ∙ elim (cases_lt (512 * (chunk * c) + j) (length a)) [
      | inl lo ↦
          padded_at a (512 * (chunk * c) + j) lo ∙ sym (byte_read a (chunk * c) chunk j short) ∙ ap (λ y. get_or y j 0) same ∙ byte_read o (chunk * c) chunk j short
          ∙ sym (padded_at o (512 * (chunk * c) + j) (omega arith))
      | inr hi ↦ padded_past a (512 * (chunk * c) + j) hi ∙ sym (padded_past o (512 * (chunk * c) + j) (omega arith))
    ]
    ∙ sym (byte_read (padded o) (chunk * c) chunk j short))

-- what a snapshot shows by the pairs of the chunks that differ
shown_at : (chunk i total : ℕ) (o a : List ℕ) (ps : List Pair) (place : Option ℕ) → 0 < chunk → length a ≡ length o → i < length a → i / (512 * chunk) < total → AreChanged chunk (padded o) (padded a) total ps → place_of ps (i / (512 * chunk)) ≡ place → get_or a i 0 ≡ byte_of chunk o (padded a) i place
shown_at chunk i total o a ps None pos len lt inside are none =
    sym (padded_at a i lt) ∙ sym (byte_in chunk i (padded a) pos)
    ∙ ap (λ y. get_or y (i % (512 * chunk)) 0) (are.others (i / (512 * chunk)) inside none)
    ∙ byte_in chunk i (padded o) pos ∙ padded_at o i (omega arith)
shown_at chunk i total o a ps (Some n) pos len lt inside are is =
    let (k, below, at) = place_found ps (i / (512 * chunk)) n is in
    let own = (are.each k no_chunks below).same in
    let here : n ≡ i / (512 * chunk) = sym (at no_chunks).1 ∙ own ∙ (at no_chunks).0 in
    sym (padded_at a i lt) ∙ ap (λ m. get_or (padded a) m 0) (sym (chunk_and chunk i) ∙ ap (λ m. 512 * (chunk * m) + i % (512 * chunk)) (sym here))

-- the store of the chunks that differ
pub store_between : (chunk size total : ℕ) (o a s : List ℕ) (ps : List Pair) → 0 < chunk → length o ≡ 512 * size → length a ≡ 512 * size → size ≤ chunk * total → ((c : ℕ) → c < total → chunk * c < size) → AreChanged chunk (padded o) (padded a) total ps → IsStoreOf chunk (padded a) ps s → IsGoodStore chunk (padded a) ps s → IsStoreBetween chunk size o a s
store_between chunk size total o a s ps pos lo la all each are store good = record {
  shows = good.shows o ∙ sym (bytes_shown chunk o (padded a) ps 0 (length o) a (la ∙ sym lo) (λ i lt.
      let inside : i / (512 * chunk) < total = div_below i (512 * chunk) total (omega arith) (let e : total * (512 * chunk) ≡ 512 * (chunk * total) = grind arith in omega arith) in
      shown_at chunk i total o a ps (place_of ps (i / (512 * chunk))) pos (la ∙ sym lo) (omega arith) inside are refl
      ∙ ap (λ n. byte_of chunk o (padded a) n (place_of ps (n / (512 * chunk)))) (omega arith)));
  only = subst (All (λ (pair : Pair). IsChanged chunk o a pair.old)) (sym store.listed) (λ k d lt same.
      let lt' : k < length ps = (let h = length-placed chunk 0 ps in omega arith) in
      let old : (get_or (placed_from chunk 0 ps) k d).old ≡ (get_or ps k d).old = ap (λ (p : Pair). p.old) (placed-at chunk k ps d lt') in
      (are.each k d lt').changed (kept_padded chunk (get_or ps k d).old o a (la ∙ sym lo) (subst (IsKept chunk o a) old same)));
  loads = (chunk * place_at chunk (length ps), good.sound, good.formed size (λ k d lt. each (get_or ps k d).old (are.each k d lt).inside) (rising_differ old_of ps are.rising));
}
