-- A torn write of an area: a commit of several pairs, or a merge's commit.
use Rattle.std.proofs.Common.{◌≡◌, ◌≢◌, ◌⊎◌, inl, inr, ℕ, ◌+◌, ◌*◌, ◌-◌, ◌<◌, ◌≤◌, List, [], ◌++◌, length, take, drop, get_or, arith, refl, ap, ◌∙◌, sym, length-append, append_assoc, append-nil}
use Rattle.std.proofs.Math.Seq.{take-append-add, take-add}
use Rattle.std.proofs.lemmas.List.{get_or_append_left, get_or-take, length-take-le, take-take, take-append-drop, get_or-drop, length-drop, take_all}
use Rattle.std.specs.Prelude.{Some, None}
use Rattle.sector.specs.declared.pair.Pair.{Pair}
use Rattle.cow_format.specs.Places.{slot, ChangesOnly}
use Rattle.cow_format.specs.Pairs.{pairs_of}
use Rattle.cow_format.specs.Picture.{place_of, picture, IsCopied}
use Rattle.cow_format.proofs.Slots.{IsListed-of}
use Rattle.cow_format.proofs.Views.{picture-commit, picture-merged}
use Rattle.cow_header.specs.HeaderText.{found_in}
use Rattle.crash_laws.specs.Stop.{IsTorn}
use Rattle.crash_laws.specs.Again.{LoadsAgain, IsRefusedAgain}
use Rattle.crash_laws.proofs.Torn.{torn_only}
use Rattle.crash_laws.proofs.Between.{IsBetween, torn_slot, pairs_between}

-- all pairs of the list
pub between_all : (chunk : ℕ) (b : List ℕ) (ps qs : List Pair) → 0 < chunk → pairs_of chunk b ≡ ps ++ qs → IsBetween (slot chunk b) (length ps) (ps ++ qs)
between_all chunk b ps qs pos is = let l = IsListed-of chunk b (ps ++ qs) pos is in record {
  low = omega (arith, length-append ps qs);
  sure = λ k d lt. l.each k d (omega (arith, length-append ps qs));
  maybe = λ k d lo hi. inl (l.each k d hi);
  ends = l.ends;
  valid = λ k d lt e. l.valid k lt (ap (λ p. p.new) (l.each k d lt) ∙ e);
}

-- the first of them, and then empty slots
pub between_first : (chunk : ℕ) (b : List ℕ) (ps qs : List Pair) → 0 < chunk → pairs_of chunk b ≡ ps → ((k : ℕ) → length ps ≤ k → k ≤ length ps + length qs → (slot chunk b k).new ≡ 0) → ((k : ℕ) (d : Pair) → k < length (ps ++ qs) → (get_or (ps ++ qs) k d).new ≢ 0) → IsBetween (slot chunk b) (length ps) (ps ++ qs)
between_first chunk b ps qs pos is empty valid = let l = IsListed-of chunk b ps pos is in record {
  low = omega (arith, length-append ps qs);
  sure = λ k d lt. l.each k d lt ∙ sym (get_or_append_left ps qs d k lt);
  maybe = λ k d lo hi. inr (empty k lo (omega (arith, length-append ps qs)));
  ends = empty (length (ps ++ qs)) (omega (arith, length-append ps qs)) (omega (arith, length-append ps qs));
  valid = valid;
}

-- torn, the slots are between too
pub torn_between : (size chunk n : ℕ) (old new torn : List ℕ) (pairs : List Pair) → 0 < chunk → IsTorn size old new torn → length old ≡ 512 * size → length new ≡ 512 * size → IsBetween (slot chunk old) n pairs → IsBetween (slot chunk new) n pairs → IsBetween (slot chunk torn) n pairs
torn_between size chunk n old new torn pairs pos is lo ln x y = let cases = torn_slot size chunk old new torn pos is lo ln in record {
  low = x.low;
  sure = λ k d lt. elim (cases k) [ inl e ↦ e ∙ x.sure k d lt | inr e ↦ e ∙ y.sure k d lt ];
  maybe = λ k d low high. elim (cases k) [
    | inl e ↦ elim (x.maybe k d low high) [ inl h ↦ inl (e ∙ h) | inr h ↦ inr (ap (λ p. p.new) e ∙ h) ]
    | inr e ↦ elim (y.maybe k d low high) [ inl h ↦ inl (e ∙ h) | inr h ↦ inr (ap (λ p. p.new) e ∙ h) ]
  ];
  ends = elim (cases (length pairs)) [ inl e ↦ ap (λ p. p.new) e ∙ x.ends | inr e ↦ ap (λ p. p.new) e ∙ y.ends ];
  valid = x.valid;
}

-- The list of a torn area: the certain pairs, and the first of the others, so many of them.
pub torn_pairs : (size chunk : ℕ) (old new torn : List ℕ) (ps qs : List Pair) → 0 < chunk → IsTorn size old new torn → length old ≡ 512 * size → length new ≡ 512 * size → IsBetween (slot chunk old) (length ps) (ps ++ qs) → IsBetween (slot chunk new) (length ps) (ps ++ qs) → (m : ℕ) × (m ≤ length qs) × (pairs_of chunk torn ≡ ps ++ take m qs)
torn_pairs size chunk old new torn ps qs pos is lo ln x y =
    let (n, low, high, listed) = pairs_between chunk torn (length ps) (ps ++ qs) pos (torn_between size chunk (length ps) old new torn (ps ++ qs) pos is lo ln x y) in
    let m : ℕ = n - length ps in
    let e : n ≡ length ps + m = omega arith in
    (m, omega (arith, length-append ps qs), listed ∙ ap (λ k. take k (ps ++ qs)) e ∙ take-append-add ps qs m)

-- Bytes that are loaded with a few pairs more show the same array: each of these has its copy, with the origin's bytes.
pub shown_more : (size chunk n m : ℕ) (origin old new torn : List ℕ) (ps qs : List Pair) → 0 < chunk → IsTorn size old new torn → length old ≡ 512 * size → ChangesOnly chunk n old new → m ≤ length qs → pairs_of chunk old ≡ ps → pairs_of chunk torn ≡ ps ++ take m qs →
    ((c : ℕ) → place_of (ps ++ take m qs) c ≢ Some n) → ((k : ℕ) (d : Pair) → k < length qs → place_of (ps ++ take k qs) (get_or qs k d).old ≡ None) → ((k : ℕ) (d : Pair) → k < length qs → IsCopied chunk origin old (get_or qs k d)) →
    picture chunk origin torn ≡ picture chunk origin old
shown_more size chunk n m origin old new torn ps qs pos is lo only le was more unnamed none same =
    let len : length (take m qs) ≡ m = length-take-le m qs le in
    picture-commit chunk n origin old torn ps (take m qs) pos (torn_only size chunk n old new torn is lo only) was more unnamed
    (λ k d lt. let h : k < length qs = omega arith in
    ap (λ z. place_of (ps ++ z) (get_or (take m qs) k d).old) (take-take k m qs (omega arith)) ∙ ap (λ (p : Pair). place_of (ps ++ take k qs) p.old) (get_or-take m qs k d (omega arith)) ∙ none k d h)
    (λ k d lt. rw (get_or-take m qs k d (omega arith)) (same k d (omega arith)))

-- With a few pairs fewer they do so too: each of those that are gone was copied back.
pub shown_less : (size chunk n m : ℕ) (origin old new torn : List ℕ) (ps qs : List Pair) → 0 < chunk → IsTorn size old new torn → length old ≡ 512 * size → ChangesOnly chunk n old new → m ≤ length qs → pairs_of chunk old ≡ ps ++ qs → pairs_of chunk torn ≡ ps ++ take m qs →
    ((c : ℕ) → place_of (ps ++ take m qs) c ≢ Some n) → ((k : ℕ) (d : Pair) → k < length qs → place_of (ps ++ take k qs) (get_or qs k d).old ≡ None) → ((k : ℕ) (d : Pair) → k < length qs → IsCopied chunk origin old (get_or qs k d)) →
    picture chunk origin torn ≡ picture chunk origin old
shown_less size chunk n m origin old new torn ps qs pos is lo only le was less unnamed none same =
    let len : length (drop m qs) + m ≡ length qs = omega (arith, length-drop m qs) in
    picture-merged chunk n origin old torn (ps ++ take m qs) (drop m qs) pos (torn_only size chunk n old new torn is lo only)
    (was ∙ ap (λ z. ps ++ z) (sym (take-append-drop m qs)) ∙ sym (append_assoc ps (take m qs) (drop m qs))) less unnamed
    (λ k d lt. let h : m + k < length qs = omega arith in
    ap (λ z. place_of z (get_or (drop m qs) k d).old) (append_assoc ps (take m qs) (take k (drop m qs)) ∙ ap (λ z. ps ++ z) (sym (take-add m k qs)))
    ∙ ap (λ (p : Pair). place_of (ps ++ take (m + k) qs) p.old) (get_or-drop m qs k d) ∙ none (m + k) d h)
    (λ k d lt. rw (get_or-drop m qs k d) (same (m + k) d (omega arith)))

-- A torn commit leaves the array: each pair that may be there has its copy, with the origin's bytes.
pub torn_commit : (size chunk n : ℕ) (origin old new torn : List ℕ) (ps qs : List Pair) → 0 < chunk → IsTorn size old new torn → length old ≡ 512 * size → length new ≡ 512 * size → ChangesOnly chunk n old new → IsBetween (slot chunk old) (length ps) (ps ++ qs) → IsBetween (slot chunk new) (length ps) (ps ++ qs) → pairs_of chunk old ≡ ps →
    ((m : ℕ) (c : ℕ) → place_of (ps ++ take m qs) c ≢ Some n) → ((k : ℕ) (d : Pair) → k < length qs → place_of (ps ++ take k qs) (get_or qs k d).old ≡ None) → ((k : ℕ) (d : Pair) → k < length qs → IsCopied chunk origin old (get_or qs k d)) →
    picture chunk origin torn ≡ picture chunk origin old
torn_commit size chunk n origin old new torn ps qs pos is lo ln only x y was unnamed none same =
    let (m, le, more) = torn_pairs size chunk old new torn ps qs pos is lo ln x y in
    shown_more size chunk n m origin old new torn ps qs pos is lo only le was more (unnamed m) none same

-- A merge's commit, torn, leaves the array: each pair that may be gone was copied back.
pub torn_cleared : (size chunk n : ℕ) (origin old new torn : List ℕ) (ps qs : List Pair) → 0 < chunk → IsTorn size old new torn → length old ≡ 512 * size → length new ≡ 512 * size → ChangesOnly chunk n old new → IsBetween (slot chunk old) (length ps) (ps ++ qs) → IsBetween (slot chunk new) (length ps) (ps ++ qs) → pairs_of chunk old ≡ ps ++ qs →
    ((m : ℕ) (c : ℕ) → place_of (ps ++ take m qs) c ≢ Some n) → ((k : ℕ) (d : Pair) → k < length qs → place_of (ps ++ take k qs) (get_or qs k d).old ≡ None) → ((k : ℕ) (d : Pair) → k < length qs → IsCopied chunk origin old (get_or qs k d)) →
    picture chunk origin torn ≡ picture chunk origin old
torn_cleared size chunk n origin old new torn ps qs pos is lo ln only x y was unnamed none same =
    let (m, le, less) = torn_pairs size chunk old new torn ps qs pos is lo ln x y in
    shown_less size chunk n m origin old new torn ps qs pos is lo only le was less (unnamed m) none same

-- Where the list is the same before and after, it is so within.
pub torn_same : (size chunk : ℕ) (old new torn : List ℕ) (ps : List Pair) → 0 < chunk → IsTorn size old new torn → length old ≡ 512 * size → length new ≡ 512 * size → pairs_of chunk old ≡ ps → pairs_of chunk new ≡ ps → pairs_of chunk torn ≡ ps
torn_same size chunk old new torn ps pos is lo ln x y =
    let whole : ps ≡ ps ++ [] = sym (append-nil ps) in
    let (m, le, listed) = torn_pairs size chunk old new torn ps [] pos is lo ln (between_all chunk old ps [] pos (x ∙ whole)) (between_all chunk new ps [] pos (y ∙ whole)) in
    listed ∙ ap (λ z. ps ++ z) (take_all m [] (omega arith)) ∙ append-nil ps

-- So is the header, where it is good before, and good or marked invalid after.
pub torn_header : (size sectors chunk : ℕ) (old new torn : List ℕ) → 0 < chunk → 0 < size → IsTorn size old new torn → length old ≡ 512 * size → length new ≡ 512 * size → pairs_of chunk new ≡ pairs_of chunk old → LoadsAgain chunk sectors size old → (LoadsAgain chunk sectors size new ⊎ IsRefusedAgain new) → (LoadsAgain chunk sectors size torn × (pairs_of chunk torn ≡ pairs_of chunk old)) ⊎ IsRefusedAgain torn
torn_header size sectors chunk old new torn pos some is lo ln pairs before after =
    let same : pairs_of chunk torn ≡ pairs_of chunk old = torn_same size chunk old new torn (pairs_of chunk old) pos is lo ln refl pairs in
    elim (is.each 0 some) [
      | inl e ↦ inl (record { header = ap found_in e ∙ before.header; formed = rw same before.formed }, same)
      | inr e ↦ elim after [
        | inl good ↦ inl (record { header = ap found_in e ∙ good.header; formed = rw same before.formed }, same)
        | inr bad ↦ inr (ap found_in e ∙ bad)
      ]
    ]
