-- Pairs of areas are gathered in a list.
use Rattle.std.proofs.Common.{◌≡◌, ◌≢◌, inl, inr, ℕ, ◌+◌, ◌*◌, ◌-◌, ◌/◌, ◌<◌, ◌≤◌, List, ◌++◌, length, take, get_or, arith, refl, ap, ◌∙◌, sym, subst, length-take}
use Rattle.std.specs.List.{All}
use Rattle.std.specs.List.Sorted.{IsPermutation}
use Rattle.std.proofs.lemmas.Bool.{cases_lt}
use Rattle.std.proofs.lemmas.List.{get_or-take, get_or_default, length-take-le, take-take}
use Rattle.std.proofs.lemmas.Slice.{take-put_mid}
use borrow.Rule.Slice.PartMut.{put_mid}
use Rattle.std.proofs.lemmas.List.Elements.{All-append, Contains-append_left, Contains-append_right}
use Rattle.std.proofs.lemmas.List.Sorted.{Contains-permutation}
use Rattle.std.proofs.Math.Nat.{mul-le-mul_right}
use Rattle.std.proofs.Math.Seq.{take-append-add}
use Rattle.sector.specs.declared.pair.Pair.{Pair}
use Rattle.cow_format.specs.Slots.{pair_in}
use Rattle.cow_format.specs.Places.{area_place, chunk_at}
use Rattle.cow_image.specs.Runs.{IsRow}
use Rattle.cow_merge.specs.Holding.{Begin, pairs, Rolls, IsPairOf, AreInRow, AreGathered, IsSafe, IsBack, AreBack}
use Rattle.cow_merge.proofs.Areas.{slot_pair, slot_last}

-- room for an area less
pub room_less : (i e w : ℕ) → i < e → (e - i) * w ≡ (e - (i + 1)) * w + w
room_less i e w lt =
    let one : e - i ≡ e - (i + 1) + 1 = omega arith in
    ap (λ x. x * w) one ∙ more (e - (i + 1)) w
  where
    more : (n w : ℕ) → (n + 1) * w ≡ n * w + w
    more n w = grind arith

-- what is put into a part of a list stands behind the elements before the part
pub taken_put : (slots part : List Pair) (count room n : ℕ) → count ≤ length slots → n ≤ length part → take (count + n) (put_mid count room slots part) ≡ take count slots ++ take n part
taken_put slots part count room n inside long =
    sym (take-take (count + n) (count + length part) (put_mid count room slots part) (omega arith))
    ∙ ap (take (count + n)) (take-put_mid count room slots part (count + length part) refl inside)
    ∙ ap (λ x. take (x + n) (take count slots ++ part)) (sym (length-take-le count slots inside))
    ∙ take-append-add (take count slots) part n

-- the slots in use of one area more
pub pairs_more : (b : Begin) (from index n : ℕ) (known : Type 0) (bytes : ℕ → List ℕ) (may : ℕ → ℕ → List ℕ → Type 0) (area : List ℕ) (list more : List Pair) → Rolls b from known bytes may → index ≤ length (pairs b) / (32 * b.chunk) → area ≡ chunk_at b.chunk (bytes 1) (area_place b.chunk index) → n ≤ 32 * b.chunk → ((k : ℕ) → k < n → (pair_in area k).new ≢ 0) → ((k : ℕ) (d : Pair) → k < n → get_or more k d ≡ pair_in area k)
    → All (IsPairOf b) list → All (IsPairOf b) (list ++ take n more)
pairs_more b from index n known bytes may area list more rolls le is few used put all =
    All-append (IsPairOf b) list (take n more) all (λ j d lt.
    let short : length (take n more) ≤ n = (let e = length-take n more in omega arith) in
    let pair = slot_pair b from index n j known bytes may area rolls le is few used (omega arith) in
    (index * (32 * b.chunk) + j, pair.0, λ d'. pair.1 d' ∙ sym (get_or-take n more j d (omega arith) ∙ put j d (omega arith))))

pub gathered_more : (b : Begin) (from index n low : ℕ) (known : Type 0) (bytes : ℕ → List ℕ) (may : ℕ → ℕ → List ℕ → Type 0) (area : List ℕ) (list more : List Pair) → Rolls b from known bytes may → index ≤ length (pairs b) / (32 * b.chunk) → area ≡ chunk_at b.chunk (bytes 1) (area_place b.chunk index) → n ≤ 32 * b.chunk → n ≤ length more → ((k : ℕ) → k < n → (pair_in area k).new ≢ 0) → (n < 32 * b.chunk → (pair_in area n).new ≡ 0)
    → ((k : ℕ) (d : Pair) → k < n → get_or more k d ≡ pair_in area k) → AreGathered b from list low (index * (32 * b.chunk)) → AreGathered b from (list ++ take n more) low ((index + 1) * (32 * b.chunk))
gathered_more b from index n low known bytes may area list more rolls le is few long used empty put are k d lo hi under inside = elim (cases_lt k (index * (32 * b.chunk))) [
  | inl before ↦ Contains-append_left list (take n more) _ (are k d lo before under inside)
  | inr past ↦ (
      let below : index < from = elim (cases_lt index from) [
        | inl less ↦ less
        | inr ge ↦ (let up : from * (32 * b.chunk) ≤ index * (32 * b.chunk) = mul-le-mul_right (32 * b.chunk) ge in absurd (omega arith))
      ] in
      let last = slot_last b from index n k known bytes may area rolls below is few empty inside hi in
      let less : k - index * (32 * b.chunk) < n = omega arith in
      let pair = slot_pair b from index n (k - index * (32 * b.chunk)) known bytes may area rolls le is few used less in
      let at : index * (32 * b.chunk) + (k - index * (32 * b.chunk)) ≡ k = omega arith in
      let len = length-take-le n more long in
      Contains-append_right list (take n more) _ (
        k - index * (32 * b.chunk),
        omega arith,
        get_or-take n more (k - index * (32 * b.chunk)) _ less ∙ put (k - index * (32 * b.chunk)) _ less ∙ sym (pair.1 d) ∙ ap (λ i. get_or (pairs b) i d) at,
      )
      )
]

-- where the chunks of all in a list are back, whatever their order, so are those of the areas
pub back_gathered : (b : Begin) (from : ℕ) (origin : List ℕ) (lasts : ℕ → ℕ → Type 0) (low high : ℕ) (list sorted : List Pair) → AreGathered b from list low high → IsPermutation list sorted → All (λ pair. IsBack b origin lasts pair.old) sorted → AreBack b from origin lasts low high
back_gathered b from origin lasts low high list sorted are moved back k d lo hi under inside =
    let (i, lt, is) = Contains-permutation list sorted (get_or (pairs b) k d) moved (are k d lo hi under inside) in
    subst (λ (p : Pair). IsBack b origin lasts p.old) is (back i (get_or (pairs b) k d) lt)

-- the chunks of one row more
pub back_on : (b : Begin) (origin origin' : List ℕ) (lasts lasts' : ℕ → ℕ → Type 0) (slots : List Pair) (at count : ℕ) (e : Pair) → ((k : ℕ) (d : Pair) → k < at → IsBack b origin lasts (get_or slots k d).old) → ((s : ℕ) → s < b.sectors → IsSafe b origin lasts s → IsSafe b origin' lasts' s) → IsRow slots at count → ((q : ℕ) → q < count → IsBack b origin' lasts' ((get_or slots at e).old + q))
    → (k : ℕ) (d : Pair) → k < at + count → IsBack b origin' lasts' (get_or slots k d).old
back_on b origin origin' lasts lasts' slots at count e before keeps row back k d less = elim (cases_lt k at) [
  | inl lt ↦ λ s inside there. keeps s inside (before k d lt s inside there)
  | inr ge ↦ (
      let whole : at + (k - at) ≡ k = omega arith in
      let inside = row.inside in
      let old : (get_or slots k d).old ≡ (get_or slots at e).old + (k - at) =
      ap (λ i. (get_or slots i d).old) (sym whole) ∙ ap (λ (p : Pair). p.old) (get_or_default slots (at + (k - at)) d e (omega arith)) ∙ row.old (k - at) e (omega arith) in
      subst (IsBack b origin' lasts') (sym old) (back (k - at) (omega arith))
      )
]

-- pairs in a row of a list of the store's pairs
pub row_of : (b : Begin) (slots : List Pair) (at count : ℕ) (e : Pair) → All (IsPairOf b) slots → IsRow slots at count → AreInRow b (get_or slots at e) count
row_of b slots at count e all row q less =
    let inside = row.inside in (
      get_or slots (at + q) e,
      all (at + q) e (omega arith),
      row.old q e less,
      row.new q e less,
    )
