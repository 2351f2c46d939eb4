-- A range more.
use Rattle.std.proofs.Common.{◌≡◌, inl, inr, ℕ, ◌+◌, ◌<◌, true, List, [], ◌∷◌, ◌++◌, take, drop, refl, sym, ◌∙◌, ap, subst, arith}
use Rattle.std.specs.Prelude.{Option, Some, None}
use Rattle.std.specs.List.{All}
use Rattle.std.proofs.lemmas.Bool.{cases_Bool, cond-true, cond-false, eqb-true}
use Rattle.std.proofs.lemmas.List.{drop-drop}
use Rattle.std.proofs.lemmas.List.Elements.{All-nil, All-cons, All-head, All-tail}
use Rattle.std.proofs.Math.Seq.{take-add}
use Rattle.sector.specs.declared.pair.Pair.{Pair}
use Rattle.cow_image.specs.Shown.{shown}
use Rattle.cow_image.proofs.Exports.{shown_parts}
use Rattle.snapshot_extents.specs.declared.range.Range.{Range}
use Rattle.snapshot_extents.specs.Ranges.{bytes_from, Has, IsShown, Cover, goes_on_from, goes_on, AreCut, AreRanges, joined, with_range}

-- the last range ends where the others do
pub cover_last : (ranges : List Range) (last : Range) (from end : ℕ) → Cover from end (ranges ++ last ∷ []) → last.start + last.count ≡ end
cover_last [] last from end (starts, some, ends) = omega arith
cover_last (range ∷ ranges) last from end (starts, some, rest) = cover_last ranges last (from + range.count) end rest

-- a range behind a list with a last one
pub with_last : (ranges : List Range) (last range : Range) → with_range (ranges ++ last ∷ []) range ≡ ranges ++ joined last range
with_last [] last range = refl
with_last (first ∷ []) last range = refl
with_last (first ∷ next ∷ ranges) last range = ap (λ rs. first ∷ rs) (with_last (next ∷ ranges) last range)

cover_joined : (last range : Range) (from mid : ℕ) → Cover from mid (last ∷ []) → range.start ≡ mid → 0 < range.count → Cover from (mid + range.count) (joined last range)
cover_joined last range from mid (starts, some, ends) here more = elim (cases_Bool (goes_on last range)) [
  | inl on ↦ subst (Cover from (mid + range.count)) (sym (cond-true _ _ _ on)) (starts, omega arith, omega arith)
  | inr off ↦ subst (Cover from (mid + range.count)) (sym (cond-false _ _ _ off)) (starts, some, (omega arith, more, omega arith))
]

pub cover_more : (ranges : List Range) (range : Range) (from mid : ℕ) → Cover from mid ranges → range.start ≡ mid → 0 < range.count → Cover from (mid + range.count) (with_range ranges range)
cover_more [] range from mid is here more = (omega arith, more, omega arith)
cover_more (last ∷ []) range from mid is here more = cover_joined last range from mid is here more
cover_more (first ∷ next ∷ ranges) range from mid (starts, some, rest) here more = (starts, some, cover_more (next ∷ ranges) range (from + first.count) mid rest here more)

pub cut_more : (ranges : List Range) (range : Range) → AreCut ranges → AreCut (with_range ranges range)
cut_more [] range cut = tt
cut_more (last ∷ []) range cut = elim (cases_Bool (goes_on last range)) [
  | inl on ↦ subst AreCut (sym (cond-true _ _ _ on)) tt
  | inr off ↦ subst AreCut (sym (cond-false _ _ _ off)) (off, tt)
]
cut_more (first ∷ last ∷ []) range (apart, cut) = elim (cases_Bool (goes_on last range)) [
  | inl on ↦ subst (λ rs. AreCut (first ∷ rs)) (sym (cond-true _ _ _ on)) (apart, tt)
  | inr off ↦ subst (λ rs. AreCut (first ∷ rs)) (sym (cond-false _ _ _ off)) (apart, (off, tt))
]
cut_more (first ∷ next ∷ third ∷ ranges) range (apart, cut) = (apart, cut_more (next ∷ third ∷ ranges) range cut)

-- the bytes of a range that goes on in another
bytes_joined : (start n m : ℕ) (o b : List ℕ) (copy next : Option ℕ) → goes_on_from copy n next ≡ true → bytes_from start (n + m) o b copy ≡ bytes_from start n o b copy ++ bytes_from (start + n) m o b next
bytes_joined start n m o b None None on = take-add n m (drop start o) ∙ ap (λ xs. take n (drop start o) ++ take m xs) (drop-drop n start o)
bytes_joined start n m o b None (Some next) on = cc
bytes_joined start n m o b (Some copy) None on = cc
bytes_joined start n m o b (Some copy) (Some next) on =
    take-add n m (drop copy b)
    ∙ ap (λ xs. take n (drop copy b) ++ take m xs) (drop-drop n copy b ∙ ap (λ k. drop k b) (sym (eqb-true next (copy + n) on)))

has_first : (start n m : ℕ) (o b : List ℕ) (copy : Option ℕ) → Has start (n + m) o b copy → Has start n o b copy
has_first start n m o b None has = omega arith
has_first start n m o b (Some copy) has = omega arith

has_second : (start n m : ℕ) (o b : List ℕ) (copy next : Option ℕ) → goes_on_from copy n next ≡ true → Has start (n + m) o b copy → Has (start + n) m o b next
has_second start n m o b None None on has = omega arith
has_second start n m o b None (Some next) on has = cc
has_second start n m o b (Some copy) None on has = cc
has_second start n m o b (Some copy) (Some next) on has = let same = eqb-true next (copy + n) on in omega arith

shown_joined : (chunk : ℕ) (pairs : List Pair) (last range : Range) → IsShown chunk pairs last → IsShown chunk pairs range → range.start ≡ last.start + last.count → goes_on last range ≡ true → IsShown chunk pairs (record { start = last.start; count = last.count + range.count; copy = last.copy })
shown_joined chunk pairs last range one other here on = λ o b has.
    let first = one o b (has_first last.start last.count range.count o b last.copy has) in
    let second = subst (λ n. Has n range.count o b range.copy → bytes_from n range.count o b range.copy ≡ shown chunk o b pairs n range.count) here (other o b) (has_second last.start last.count range.count o b last.copy range.copy on has) in
    bytes_joined last.start last.count range.count o b last.copy range.copy on
    ∙ ap (λ xs. xs ++ bytes_from (last.start + last.count) range.count o b range.copy) first
    ∙ ap (λ xs. shown chunk o b pairs last.start last.count ++ xs) second
    ∙ sym (shown_parts chunk o b pairs last.start last.count range.count)

pub shown_more : (chunk : ℕ) (pairs : List Pair) (ranges : List Range) (range : Range) (from mid : ℕ) → Cover from mid ranges → range.start ≡ mid → All (IsShown chunk pairs) ranges → IsShown chunk pairs range → All (IsShown chunk pairs) (with_range ranges range)
shown_more chunk pairs [] range from mid cover here shown one = All-cons (IsShown chunk pairs) range [] one shown
shown_more chunk pairs (last ∷ []) range from mid (starts, some, ends) here shown one =
    let before = All-head (IsShown chunk pairs) last [] shown in
    elim (cases_Bool (goes_on last range)) [
      | inl on ↦ subst (All (IsShown chunk pairs)) (sym (cond-true _ _ _ on)) (All-cons (IsShown chunk pairs) _ [] (shown_joined chunk pairs last range before one (omega arith) on) (All-nil (IsShown chunk pairs)))
      | inr off ↦ subst (All (IsShown chunk pairs)) (sym (cond-false _ _ _ off)) (All-cons (IsShown chunk pairs) last (range ∷ []) before (All-cons (IsShown chunk pairs) range [] one (All-nil (IsShown chunk pairs))))
    ]
shown_more chunk pairs (first ∷ next ∷ ranges) range from mid (starts, some, rest) here shown one =
    All-cons (IsShown chunk pairs) first (with_range (next ∷ ranges) range) (All-head (IsShown chunk pairs) first (next ∷ ranges) shown)
    (shown_more chunk pairs (next ∷ ranges) range (from + first.count) mid rest here (All-tail (IsShown chunk pairs) first (next ∷ ranges) shown) one)

-- a range more of what a snapshot shows
pub ranges_more : (chunk : ℕ) (pairs : List Pair) (ranges : List Range) (range : Range) (mid end : ℕ) → AreRanges chunk pairs mid ranges → range.start ≡ mid → 0 < range.count → mid + range.count ≡ end → IsShown chunk pairs range → AreRanges chunk pairs end (with_range ranges range)
ranges_more chunk pairs ranges range mid end are here some ends one = record {
  cover = subst (λ n. Cover 0 n (with_range ranges range)) ends (cover_more ranges range 0 mid are.cover here some);
  cut = cut_more ranges range are.cut;
  shown = shown_more chunk pairs ranges range 0 mid are.cover here are.shown one;
}
