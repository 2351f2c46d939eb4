-- Chunks of bytes that are read and written part after part.
use Rattle.std.proofs.Common.{◌≡◌, inl, inr, ℕ, ◌+◌, ◌-◌, ◌*◌, ◌<◌, ◌≤◌, List, ◌++◌, length, take, drop, get_or, arith, rules, ap, ◌∙◌, sym}
use Rattle.std.proofs.lemmas.Bool.{cases_lt}
use Rattle.std.proofs.lemmas.List.{places, same_lists, get_or-take, get_or-drop, length-take-le, length-drop}
use Rattle.sector.specs.declared.pair.Pair.{Pair}
use Rattle.cow_format.specs.Places.{chunk_at}
use Rattle.cow_format.proofs.AreaPlaces.{chunk_below}
use Rattle.new_store_files.specs.Parts.{AreCopies}
use borrow.Rule.Slice.PartMut.{put_mid}

-- a part of the front, and one of what follows it
part_front : (n at : ℕ) (s x : List ℕ) → at + n ≤ length s → take n (drop at (s ++ x)) ≡ take n (drop at s)
part_front n at s x fits = same_lists _ _ (search (rules, places)) (λ k d h. grind (arith, places))

part_back : (n at from : ℕ) (s x : List ℕ) → from ≡ length s + at → take n (drop from (s ++ x)) ≡ take n (drop at x)
part_back n at from s x is = same_lists _ _ (search (rules, places)) (λ k d h. grind (arith, places))

pub chunk_front : (chunk m p : ℕ) (s x : List ℕ) → length s ≡ 512 * (chunk * p) → m < p → chunk_at chunk (s ++ x) m ≡ chunk_at chunk s m
chunk_front chunk m p s x len lt = part_front (512 * chunk) (512 * (chunk * m)) s x (let h = chunk_below chunk m p lt in omega arith)

pub chunk_back : (chunk m p n : ℕ) (s x : List ℕ) → length s ≡ 512 * (chunk * p) → n ≡ p + m → chunk_at chunk (s ++ x) n ≡ chunk_at chunk x m
chunk_back chunk m p n s x len is =
    let e : chunk * (p + m) ≡ chunk * p + chunk * m = grind arith in
    let e' : chunk * n ≡ chunk * (p + m) = ap (λ y. chunk * y) is in
    part_back (512 * chunk) (512 * (chunk * m)) (512 * (chunk * n)) s x (omega arith)

-- a part before one that is put into bytes, and one inside it
put_before : (n at from room : ℕ) (out part : List ℕ) → at + n ≤ from → room ≡ length part → from + room ≤ length out → take n (drop at (put_mid from room out part)) ≡ take n (drop at out)
put_before n at from room out part lo same fits = same_lists _ _ (search (rules, places)) (λ k d h. grind (arith, places))

put_inside : (n at at' from room : ℕ) (out part : List ℕ) → at + n ≤ length part → at' ≡ from + at → room ≡ length part → from + room ≤ length out → take n (drop at' (put_mid from room out part)) ≡ take n (drop at part)
put_inside n at at' from room out part lo is same fits = same_lists _ _ (search (rules, places)) (λ k d h. grind (arith, places))

-- a part of a part
part_in : (n at from len at' : ℕ) (b : List ℕ) → at + n ≤ len → at' ≡ from + at → take n (drop at (take len (drop from b))) ≡ take n (drop at' b)
part_in n at from len at' b lo is = same_lists _ _ (search (rules, places)) (λ k d h. grind (arith, places))

pub length-put : (from room : ℕ) (out part : List ℕ) → room ≡ length part → from + room ≤ length out → length (put_mid from room out part) ≡ length out
length-put from room out part same fits = search (rules, places)

-- how long a slice is
pub length-slice : {A : Type 0} (from n : ℕ) (xs : List A) → from + n ≤ length xs → length (take n (drop from xs)) ≡ n
length-slice from n xs fits = let h = length-drop from xs in length-take-le n (drop from xs) (omega arith)

-- a pair of some in a row
pub pair_among : (pairs : List Pair) (done count k : ℕ) (d : Pair) → k < count → get_or (take count (drop done pairs)) k d ≡ get_or pairs (done + k) d
pair_among pairs done count k d lt = get_or-take count (drop done pairs) k d lt ∙ get_or-drop done pairs k d

-- chunks in a row more that were read
pub copies_read : (chunk done count first from room m : ℕ) (b out part : List ℕ) (pairs : List Pair) → from ≡ 512 * (chunk * done) → room ≡ length part → length part ≡ 512 * (chunk * count) → m ≡ 512 * (chunk * count) → from + room ≤ length out → part ≡ take m (drop (512 * (chunk * first)) b) → ((q : ℕ) (d : Pair) → q < count → (get_or pairs (done + q) d).new ≡ first + q) → AreCopies chunk b pairs done out → AreCopies chunk b pairs (done + count) (put_mid from room out part)
copies_read chunk done count first from room m b out part pairs at same long m_is fits got row before k d lt = elim (cases_lt k done) [
  | inl lo ↦ (let h = chunk_below chunk k done lo in put_before (512 * chunk) (512 * (chunk * k)) from room out part (omega arith) same fits ∙ before k d lo)
  | inr hi ↦ (
      let q = k - done in
      let h = chunk_below chunk (k - done) count (omega arith) in
      let k_is : k ≡ done + (k - done) = omega arith in
      let e : chunk * (done + (k - done)) ≡ chunk * done + chunk * (k - done) = grind arith in
      let e' : chunk * k ≡ chunk * (done + (k - done)) = ap (λ y. chunk * y) k_is in
      let f : chunk * (first + (k - done)) ≡ chunk * first + chunk * (k - done) = grind arith in
      put_inside (512 * chunk) (512 * (chunk * (k - done))) (512 * (chunk * k)) from room out part (omega arith) (omega arith) same fits
      ∙ ap (λ y. take (512 * chunk) (drop (512 * (chunk * (k - done))) y)) (got ∙ ap (λ n. take n (drop (512 * (chunk * first)) b)) m_is)
      ∙ part_in (512 * chunk) (512 * (chunk * (k - done))) (512 * (chunk * first)) (512 * (chunk * count)) (512 * (chunk * (first + (k - done)))) b (omega arith) (omega arith)
      ∙ ap (chunk_at chunk b) (sym (row (k - done) d (omega arith)) ∙ ap (λ y. (get_or pairs y d).new) (sym k_is)))
]

-- chunks more that were written
pub copies_written : (chunk done count m : ℕ) (b x part : List ℕ) (pairs : List Pair) → m ≡ count → done + count ≤ length pairs → length x ≡ 512 * (chunk * done) → AreCopies chunk b pairs done x → AreCopies chunk b (take m (drop done pairs)) (length (take m (drop done pairs))) part → AreCopies chunk b pairs (done + count) (x ++ part)
copies_written chunk done count m b x part pairs m_is fits len before more k d lt = elim (cases_lt k done) [
  | inl lo ↦ chunk_front chunk k done x part len lo ∙ before k d lo
  | inr hi ↦ (
      let k_is : k ≡ done + (k - done) = omega arith in
      let long : length (take m (drop done pairs)) ≡ m = length-slice done m pairs (omega arith) in
      chunk_back chunk (k - done) done k x part len k_is ∙ more (k - done) d (omega arith)
      ∙ ap (λ (p : Pair). chunk_at chunk b p.new) (pair_among pairs done m (k - done) d (omega arith) ∙ ap (λ y. get_or pairs y d) (sym k_is)))
]

-- so many bytes more
pub length-more : (chunk done count : ℕ) (x part : List ℕ) → length x ≡ 512 * (chunk * done) → length part ≡ 512 * (chunk * count) → length (x ++ part) ≡ 512 * (chunk * (done + count))
length-more chunk done count x part len more = let e : chunk * (done + count) ≡ chunk * done + chunk * count = grind arith in let h : length (x ++ part) ≡ length x + length part = search (rules, places) in omega arith
