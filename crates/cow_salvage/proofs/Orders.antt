-- Pairs that are kept are apart, and show the same in any order.
use Rattle.std.proofs.Common.{◌≡◌, ◌≢◌, ◌==◌, ℕ, zero, suc, ◌+◌, ◌*◌, ◌/◌, ◌<◌, ◌≤◌, ◌||◌, Bool, true, false, cond, List, [], ◌∷◌, ◌++◌, length, get_or, drop, map, inl, inr, arith, refl, ap, ◌∙◌, sym, subst, Option, Some, None}
use Rattle.std.specs.Prelude.{fold, nat_le, nat_lt}
use Rattle.std.specs.List.{range_with_len}
use Rattle.std.specs.List.Sorted.{IsPermutation}
use Rattle.std.proofs.lemmas.Bool.{cases_lt, cases_eq, eq-eqb, ne_eqb, true≢false}
use Rattle.std.proofs.lemmas.List.{get_or_append_left, get_or_push, length_push, get_or-drop, length-drop}
use Rattle.sector.specs.declared.pair.Pair.{Pair}
use Rattle.cow_format.specs.Picture.{byte_of, picture_at}
use Rattle.cow_image.specs.declared.fault.Fault.{Fault}
use Rattle.cow_image.specs.declared.fault.Fault.TheVariants.{PastOrigin, OutsideStore, AtArea, OldTwice, NewTwice}
use Rattle.cow_format.specs.Places.{is_area_place}
use Rattle.cow_image.specs.Judged.{stands_in}
use Rattle.cow_image.specs.Sorted.{old_of, new_of}
use Rattle.cow_image.proofs.Sorts.{Differ}
use Rattle.cow_image.proofs.Places.{place_moved}
use Rattle.cow_image.specs.Shown.{shown}
use Rattle.cow_salvage.specs.declared.using.Slot.{Slot}
use Rattle.cow_salvage.specs.Kept.{Sifted, why_skipped, sifted_as, sifted_by, sifted_more, sifted}

-- no pair has a number that stands in none
stands_none : (kept : List Pair) (q : ℕ) → stands_in old_of kept q ≡ false → (j : ℕ) (d : Pair) → j < length kept → (get_or kept j d).old ≢ q
stands_none [] q none j d lt = absurd (omega arith)
stands_none (p ∷ ps) q none zero d lt = λ same. true≢false (sym (ap (λ b. b || stands_in old_of ps q) (eq-eqb _ _ same)) ∙ none)
stands_none (p ∷ ps) q none (suc j) d lt = elim (cases_eq p.old q) [
  | inl e ↦ absurd (true≢false (sym (ap (λ b. b || stands_in old_of ps q) (eq-eqb _ _ e)) ∙ none))
  | inr ne ↦ stands_none ps q (sym (ap (λ b. b || stands_in old_of ps q) (ne_eqb _ _ ne)) ∙ none) j d (omega arith)
]

-- a pair more whose old chunk stands in none
differ_push : (kept : List Pair) (pair : Pair) → Differ old_of kept → stands_in old_of kept pair.old ≡ false → Differ old_of (kept ++ pair ∷ [])
differ_push kept pair differ none j k d lt lt' =
    let len = length_push kept pair in
    elim (cases_lt k (length kept)) [
      | inl lo ↦ (λ same. differ j k d lt lo (ap (λ p. p.old) (sym (get_or_append_left kept (pair ∷ []) d j (omega arith))) ∙ same ∙ ap (λ p. p.old) (get_or_append_left kept (pair ∷ []) d k lo)))
      | inr hi ↦ (let last : length kept ≡ k = omega arith in
          λ same. stands_none kept pair.old none j d (omega arith) (ap (λ p. p.old) (sym (get_or_append_left kept (pair ∷ []) d j (omega arith))) ∙ same ∙ ap (λ p. p.old) (get_or_push kept pair d k last)))
    ]

-- a pair that is kept has an old chunk that stands in none
old_free : (past outside area old new : Bool) (f g h i j : Fault) → cond past (Some f) (cond outside (Some g) (cond area (Some h) (cond old (Some i) (cond new (Some j) None)))) ≡ None → old ≡ false
old_free true outside area old new f g h i j e = let no : Some f ≡ None = e in absurd (cc)
old_free false true area old new f g h i j e = let no : Some g ≡ None = e in absurd (cc)
old_free false false true old new f g h i j e = let no : Some h ≡ None = e in absurd (cc)
old_free false false false true new f g h i j e = let no : Some i ≡ None = e in absurd (cc)
old_free false false false false new f g h i j e = refl

why_none : (chunk origin size : ℕ) (kept : List Pair) (next : Slot) → why_skipped chunk origin size kept next ≡ None → stands_in old_of kept next.pair.old ≡ false
why_none chunk origin size kept next is =
    old_free (nat_le origin (chunk * next.pair.old)) (next.pair.new == 0 || nat_lt size (chunk * (next.pair.new + 1))) (is_area_place chunk next.pair.new) (stands_in old_of kept next.pair.old) (stands_in new_of kept next.pair.new)
    (PastOrigin next.number next.pair) (OutsideStore next.number next.pair) (AtArea next.number next.pair) (OldTwice next.number next.pair) (NewTwice next.number next.pair) is

more_differ : (chunk origin size : ℕ) (s : Sifted) (next : Slot) → Differ old_of s.kept → Differ old_of (sifted_more chunk origin size s next).kept
more_differ chunk origin size s next differ = by_why (why_skipped chunk origin size s.kept next) refl
  where
    by_why : (why : Option Fault) → why_skipped chunk origin size s.kept next ≡ why → Differ old_of (sifted_by why s next.pair).kept
    by_why (Some fault) is = differ
    by_why None is = differ_push s.kept next.pair differ (why_none chunk origin size s.kept next is)

all_differ : (chunk origin size : ℕ) (slots : List Slot) (s : Sifted) → Differ old_of s.kept → Differ old_of (fold (sifted_more chunk origin size) s slots).kept
all_differ chunk origin size [] s differ = differ
all_differ chunk origin size (next ∷ slots) s differ = all_differ chunk origin size slots (sifted_more chunk origin size s next) (more_differ chunk origin size s next differ)

-- no chunk of the origin stands in two pairs that are kept
pub kept_differ : (chunk origin size : ℕ) (slots : List Slot) → Differ old_of (sifted chunk origin size slots).kept
kept_differ chunk origin size slots = all_differ chunk origin size slots (sifted_as [] []) (λ j k d lt lt'. absurd (omega arith))

pub differ_if : (pairs : List Pair) (chunk origin size : ℕ) (slots : List Slot) → pairs ≡ (sifted chunk origin size slots).kept → Differ old_of pairs
differ_if pairs chunk origin size slots is = subst (λ (ks : List Pair). Differ old_of ks) (sym is) (kept_differ chunk origin size slots)

-- nor in some of them from one on
pub differ_drop : (pairs : List Pair) (n : ℕ) → Differ old_of pairs → Differ old_of (drop n pairs)
differ_drop pairs n differ j k d lt lt' same =
    let len = length-drop n pairs in
    differ (n + j) (n + k) d (omega arith) (omega (arith, len)) (ap (λ p. p.old) (sym (get_or-drop n pairs j d)) ∙ same ∙ ap (λ p. p.old) (get_or-drop n pairs k d))

map_same : (f g : ℕ → ℕ) → ((x : ℕ) → f x ≡ g x) → (xs : List ℕ) → map f xs ≡ map g xs
map_same f g same [] = refl
map_same f g same (x ∷ xs) = ap (λ y. y ∷ map f xs) (same x) ∙ ap (λ ys. g x ∷ ys) (map_same f g same xs)

-- pairs show the same in another order
pub shown_moved : (chunk : ℕ) (o b : List ℕ) (xs ys : List Pair) (from n : ℕ) → IsPermutation xs ys → Differ old_of xs → shown chunk o b ys from n ≡ shown chunk o b xs from n
shown_moved chunk o b xs ys from n moved differ = map_same (picture_at chunk o b ys) (picture_at chunk o b xs) (λ i. ap (byte_of chunk o b i) (sym (place_moved xs ys (i / (512 * chunk)) moved differ))) (range_with_len from n)
