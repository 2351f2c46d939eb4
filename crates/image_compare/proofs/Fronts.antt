-- Two fronts, sector by sector.
use Rattle.std.proofs.Common.{◌≡◌, ◌≢◌, inl, inr, ℕ, ◌+◌, ◌*◌, ◌<◌, ◌≤◌, Bool, true, List, ◌++◌, length, take, drop, refl, sym, ◌∙◌, ap, subst, arith, zero-add, add-zero}
use Rattle.std.specs.Prelude.{◌==◌, Option, Some, None, min, if◌then◌else◌}
use Rattle.std.proofs.lemmas.Bool.{cases_Bool, cases_eq, cond-true, cond-false, eq-eqb, ne_eqb}
use Rattle.std.proofs.lemmas.Slice.Eq.{bytes_eq-Decides}
use Rattle.std.proofs.lemmas.List.{drop-take, take-take, take_all, length-take}
use Rattle.std.proofs.lemmas.List.FromFn.{sum_by-map-range_with_len_more}
use Rattle.std.proofs.Math.Seq.{take-add}
use Rattle.sector.specs.Bytes.{sector_at}
use Rattle.image_compare.specs.declared.piece.Front.{Front}
use Rattle.image_compare.specs.Comparisons.{AreAlike, IsFirstDifference, is_same, differing, IsFirstIn, IsFront, IsComparison}

-- more bytes that are alike
alike_more : (a b : List ℕ) (n m : ℕ) → AreAlike a b n → take m (drop n a) ≡ take m (drop n b) → AreAlike a b (n + m)
alike_more a b n m before more =
    take-add n m a ∙ ap (λ xs. xs ++ take m (drop n a)) before ∙ ap (λ xs. take n b ++ xs) more ∙ sym (take-add n m b)

-- and the other way round
alike_behind : (a b : List ℕ) (n m : ℕ) → AreAlike a b (n + m) → take m (drop n a) ≡ take m (drop n b)
alike_behind a b n m all = sym (drop-take n m a) ∙ ap (drop n) all ∙ drop-take n m b

next_sector : (n : ℕ) → 512 * n + 512 ≡ 512 * (n + 1)
next_sector n = omega arith

-- what a sector's front is in the list
front_at : (xs : List ℕ) (n k : ℕ) → k ≤ 512 → take k (sector_at xs n) ≡ take k (drop (512 * n) xs)
front_at xs n k few = take-take k 512 (drop (512 * n) xs) few

-- a sector more that is the same in both
pub first_on : (a b : List ℕ) (n : ℕ) (first : Option ℕ) → sector_at a n ≡ sector_at b n → IsFirstIn a b (512 * n) first → IsFirstIn a b (512 * (n + 1)) first
first_on a b n None same is = subst (AreAlike a b) (next_sector n) (alike_more a b (512 * n) 512 is same)
first_on a b n (Some i) same (lt, is) = (omega arith, is)

-- a sector more that is not, where one before it was not
pub first_kept : (a b : List ℕ) (n i : ℕ) → IsFirstIn a b (512 * n) (Some i) → IsFirstIn a b (512 * (n + 1)) (Some i)
first_kept a b n i (lt, is) = (omega arith, is)

-- and where it is the first
pub first_here : (a b : List ℕ) (n i : ℕ) → i < 512 → AreAlike a b (512 * n) → take i (sector_at a n) ≡ take i (sector_at b n) → (take (i + 1) (sector_at a n) ≡ take (i + 1) (sector_at b n) → ⊥) → IsFirstIn a b (512 * (n + 1)) (Some (512 * n + i))
first_here a b n i lt before alike other = (
  omega arith,
  (
    alike_more a b (512 * n) i before (sym (front_at a n i (omega arith)) ∙ alike ∙ front_at b n i (omega arith)),
    λ all.
        let whole : 512 * n + i + 1 ≡ 512 * n + (i + 1) = omega arith in
        other (front_at a n (i + 1) (omega arith) ∙ alike_behind a b (512 * n) (i + 1) (subst (AreAlike a b) whole all) ∙ sym (front_at b n (i + 1) (omega arith))),
  ),
)

one_more : (a b : List ℕ) (n : ℕ) → differing a b (n + 1) ≡ differing a b n + (if is_same a b n then 0 else 1)
one_more a b n = sum_by-map-range_with_len_more (λ (same : Bool). if same then 0 else 1) (is_same a b) 0 n n (zero-add n)

pub same_counted : (a b : List ℕ) (n : ℕ) → sector_at a n ≡ sector_at b n → differing a b (n + 1) ≡ differing a b n
same_counted a b n same =
    let told : is_same a b n ≡ true = (bytes_eq-Decides (sector_at a n) (sector_at b n)).1 same in
    one_more a b n ∙ ap (λ k. differing a b n + k) (cond-true _ _ _ told) ∙ add-zero (differing a b n)

pub other_counted : (a b : List ℕ) (n : ℕ) → (sector_at a n ≡ sector_at b n → ⊥) → differing a b (n + 1) ≡ differing a b n + 1
other_counted a b n other = elim (cases_Bool (is_same a b n)) [
  | inl told ↦ absurd (other ((bytes_eq-Decides (sector_at a n) (sector_at b n)).0 told))
  | inr told ↦ one_more a b n ∙ ap (λ k. differing a b n + k) (cond-false _ _ _ told)
]

-- nothing is known yet
pub none_yet : (a b : List ℕ) → IsFront a b 0 (record { first = None; differing = 0 })
none_yet a b = record { first = refl; sectors = refl }

-- two lists whose lengths are another
shorter_ends : (a b : List ℕ) (m n : ℕ) → m ≢ n → length a ≡ 512 * m → length b ≡ 512 * n → AreAlike a b (512 * min m n + 1) → ⊥
shorter_ends a b m n other along blong alike =
    let same : length (take (512 * min m n + 1) a) ≡ length (take (512 * min m n + 1) b) = ap length alike in
    let left : length (take (512 * min m n + 1) a) ≡ min (512 * min m n + 1) (length a) = length-take (512 * min m n + 1) a in
    let right : length (take (512 * min m n + 1) b) ≡ min (512 * min m n + 1) (length b) = length-take (512 * min m n + 1) b in
    omega arith

pub first_of_whole : (a b : List ℕ) (m n : ℕ) → length a ≡ 512 * m → length b ≡ 512 * n → AreAlike a b (512 * min m n) → IsFirstDifference a b (if m == n then None else Some (512 * min m n))
first_of_whole a b m n along blong alike = elim (cases_eq m n) [
  | inl same ↦
      subst (IsFirstDifference a b) (sym (cond-true _ _ _ (eq-eqb m n same)))
      (sym (take_all (512 * min m n) a (omega arith)) ∙ alike ∙ take_all (512 * min m n) b (omega arith))
  | inr other ↦
      subst (IsFirstDifference a b) (sym (cond-false _ _ _ (ne_eqb m n other)))
      (alike, shorter_ends a b m n other along blong)
]

pub whole_some : (a b : List ℕ) (m n i : ℕ) (front : Front) → front.first ≡ Some i → IsFront a b (min m n) front → IsComparison a b (min m n) (record { first = Some i; differing = front.differing })
whole_some a b m n i front here is = record {
  first = (subst (IsFirstIn a b (512 * min m n)) here is.first).1;
  sectors = is.sectors;
}

pub whole_none : (a b : List ℕ) (m n : ℕ) (front : Front) (end : Option ℕ) → length a ≡ 512 * m → length b ≡ 512 * n → front.first ≡ None → end ≡ (if m == n then None else Some (512 * min m n)) → IsFront a b (min m n) front → IsComparison a b (min m n) (record { first = end; differing = front.differing })
whole_none a b m n front end along blong here ends is = record {
  first = subst (IsFirstDifference a b) (sym ends) (first_of_whole a b m n along blong (subst (IsFirstIn a b (512 * min m n)) here is.first));
  sectors = is.sectors;
}

-- a sector more
pub front_same : (a b : List ℕ) (n : ℕ) (front : Front) → sector_at a n ≡ sector_at b n → IsFront a b n front → IsFront a b (n + 1) front
front_same a b n front same is = record {
  first = first_on a b n front.first same is.first;
  sectors = is.sectors ∙ sym (same_counted a b n same);
}

pub front_first : (a b : List ℕ) (n i count : ℕ) → i < 512 → take i (sector_at a n) ≡ take i (sector_at b n) → (take (i + 1) (sector_at a n) ≡ take (i + 1) (sector_at b n) → ⊥) → IsFront a b n (record { first = None; differing = count }) → IsFront a b (n + 1) (record { first = Some (512 * n + i); differing = count + 1 })
front_first a b n i count lt alike other is = record {
  first = first_here a b n i lt is.first alike other;
  sectors = ap (λ k. k + 1) is.sectors ∙ sym (other_counted a b n (λ same. other (ap (take (i + 1)) same)));
}

pub front_kept : (a b : List ℕ) (n count : ℕ) (first : Option ℕ) → (first ≡ None → ⊥) → (sector_at a n ≡ sector_at b n → ⊥) → IsFront a b n (record { first = first; differing = count }) → IsFront a b (n + 1) (record { first = first; differing = count + 1 })
front_kept a b n count None some other is = absurd (some refl)
front_kept a b n count (Some i) some other is = record {
  first = first_kept a b n i is.first;
  sectors = ap (λ k. k + 1) is.sectors ∙ sym (other_counted a b n other);
}
