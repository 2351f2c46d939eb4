-- The buffer for the copies that a merge starts, where the copies change.
use Rattle.std.proofs.Common.{◌≡◌, ℕ, suc, zero, ◌+◌, ◌-◌, ◌*◌, ◌<◌, ◌≤◌, Bool, true, false, List, [], ◌∷◌, ◌++◌, length, get_or, set, take, drop, map, Option, Some, None, inl, inr, arith, refl, ap, ◌∙◌, sym, subst}
use Rattle.std.specs.Prelude.{◌==◌, ◌||◌, MatchBool, vec_capacity}
use Rattle.std.specs.List.{All, list_any}
use Rattle.std.specs.Global.{Vec}
use Rattle.std.proofs.Math.Seq.{take-add}
use Rattle.std.proofs.lemmas.Bool.{cases_Bool, eq-eqb, true≢false, MatchBool-at_false}
use Rattle.std.proofs.lemmas.List.Folds.{list_any-append}
use Rattle.std.proofs.lemmas.List.{append_assoc, map-append}
use Rattle.std.specs.Option.{is_some}
use Rattle.in_flight.specs.Flushed.{flushed_copy}
use Rattle.in_flight.specs.declared.copies.ChunkCopy.{ChunkCopy}
use Rattle.in_flight.specs.declared.copies.Mark.{Mark}
use Rattle.snapshot.specs.Held.{HasRoom, IsLent, IsSpared, copies_kept, marks_kept}
use Rattle.volume_laws.specs.Steps.{mark_of}
use Rattle.snapshot.specs.Kept.{is_among}

match_more : (b : Bool) (P Q R : Type 0) → (Q → R) → MatchBool b P Q → MatchBool b P R
match_more true P Q R f h = h
match_more false P Q R f h = f h

-- copy k goes on, in its buffer
lent_set : (room n : ℕ) (copies : List ChunkCopy) (k : ℕ) (p q : ChunkCopy) → p ≡ get_or copies k p → q.number ≡ p.number → vec_capacity q.buffer ≡ vec_capacity p.buffer → IsLent room n copies → IsLent room n (set copies k q)
lent_set room n [] k p q is number cap h = absurd h
lent_set room n (c ∷ cs) zero p q is number cap h =
    let same : q.number ≡ c.number = number ∙ ap (λ (x : ChunkCopy). x.number) is in
    let sized : vec_capacity q.buffer ≡ vec_capacity c.buffer = cap ∙ ap (λ (x : ChunkCopy). vec_capacity x.buffer) is in
    subst (λ (i : ℕ). MatchBool (i == n) (room ≤ vec_capacity q.buffer) (IsLent room n cs)) (sym same)
    (subst (λ (i : ℕ). MatchBool (c.number == n) (room ≤ i) (IsLent room n cs)) (sym sized) h)
lent_set room n (c ∷ cs) (suc k) p q is number cap h =
    match_more (c.number == n) (room ≤ vec_capacity c.buffer) (IsLent room n cs) (IsLent room n (set cs k q)) (lent_set room n cs k p q is number cap) h

-- one more copy is the last
lent_push : (room n : ℕ) (copies : List ChunkCopy) (q : ChunkCopy) → IsLent room n copies → IsLent room n (copies ++ q ∷ [])
lent_push room n [] q h = absurd h
lent_push room n (c ∷ cs) q h = match_more (c.number == n) (room ≤ vec_capacity c.buffer) (IsLent room n cs) (IsLent room n (cs ++ q ∷ [])) (lent_push room n cs q) h

-- and has the buffer
lent_new : (room n : ℕ) (copies : List ChunkCopy) (q : ChunkCopy) → All (λ p. (p.number == n) ≡ false) copies → q.number ≡ n → room ≤ vec_capacity q.buffer → IsLent room n (copies ++ q ∷ [])
lent_new room n [] q own same fits = subst (λ (b : Bool). MatchBool b (room ≤ vec_capacity q.buffer) ⊥) (sym (eq-eqb q.number n same)) fits
lent_new room n (c ∷ cs) q own same fits =
    subst (λ (b : Bool). MatchBool b (room ≤ vec_capacity c.buffer) (IsLent room n (cs ++ q ∷ []))) (sym (own 0 c (omega arith)))
    (lent_new room n cs q (λ k d lt. own (suc k) d (omega (arith, lt))) same fits)

-- the copy is one of these
lent_in : (room n : ℕ) (copies : List ChunkCopy) → IsLent room n copies → list_any (λ p. p.number == n) copies ≡ true
lent_in room n [] h = absurd h
lent_in room n (c ∷ cs) h = elim (cases_Bool (c.number == n)) [
  | inl hit ↦ ap (λ b. b || list_any (λ (p : ChunkCopy). p.number == n) cs) hit
  | inr miss ↦ ap (λ b. b || list_any (λ (p : ChunkCopy). p.number == n) cs) miss ∙ lent_in room n cs (MatchBool-at_false _ _ miss h)
]

absent : (spare : Option (Vec ℕ)) → is_some spare ≡ false → spare ≡ None
absent None e = refl
absent (Some v) e = absurd (true≢false e)

pub spared_in : (chunk n : ℕ) (spare : Option (Vec ℕ)) (m : Option ℕ) (copies : List ChunkCopy) → IsSpared chunk spare m copies → m ≡ Some n → is_some spare ≡ false → is_among m copies ≡ true
spared_in chunk n spare m copies h is gone = ap (λ (x : Option ℕ). is_among x copies) is ∙ lent_in (512 * chunk) n copies (h.lent n (absent spare gone) is)

pub spared_set : (chunk : ℕ) (spare : Option (Vec ℕ)) (m : Option ℕ) (copies : List ChunkCopy) (k : ℕ) (p q : ChunkCopy) → p ≡ get_or copies k p → q.number ≡ p.number → vec_capacity q.buffer ≡ vec_capacity p.buffer → IsSpared chunk spare m copies → IsSpared chunk spare m (set copies k q)
spared_set chunk spare m copies k p q is number cap h = record { here = h.here; lent = λ n none some. lent_set (512 * chunk) n copies k p q is number cap (h.lent n none some) }

pub spared_push : (chunk : ℕ) (spare : Option (Vec ℕ)) (m : Option ℕ) (copies : List ChunkCopy) (q : ChunkCopy) → IsSpared chunk spare m copies → IsSpared chunk spare m (copies ++ q ∷ [])
spared_push chunk spare m copies q h = record { here = h.here; lent = λ n none some. lent_push (512 * chunk) n copies q (h.lent n none some) }

is_number : (k n : ℕ) → ◌≡◌ {A = Option ℕ} (Some k) (Some n) → k ≡ n
is_number k n e = ap (λ (x : Option ℕ). number_or x) e
  where
    number_or : Option ℕ → ℕ
    number_or None = 0
    number_or (Some i) = i

-- a merge starts a copy, which has the buffer
pub spared_new : (chunk k : ℕ) (copies : List ChunkCopy) (q : ChunkCopy) → All (λ p. (p.number == k) ≡ false) copies → q.number ≡ k → 512 * chunk ≤ vec_capacity q.buffer → IsSpared chunk None (Some k) (copies ++ q ∷ [])
spared_new chunk k copies q own same fits = record {
  here = λ buffer is. absurd (true≢false (ap is_none is));
  lent = λ n none some. subst (λ (i : ℕ). IsLent (512 * chunk) i (copies ++ q ∷ [])) (is_number k n some) (lent_new (512 * chunk) k copies q own same fits);
}
  where
    is_none : Option (Vec ℕ) → Bool
    is_none None = true
    is_none (Some v) = false

-- a store whose chunks are as long
pub spared_like : (chunk chunk' : ℕ) (spare : Option (Vec ℕ)) (m : Option ℕ) (copies : List ChunkCopy) → chunk' ≡ chunk → IsSpared chunk spare m copies → IsSpared chunk' spare m copies
spared_like chunk chunk' spare m copies is h = subst (λ (n : ℕ). IsSpared n spare m copies) (sym is) h

or_assoc : (a b c : Bool) → ((a || b) || c) ≡ (a || (b || c))
or_assoc true b c = refl
or_assoc false b c = refl

among_append : (m : Option ℕ) (ps qs : List ChunkCopy) → is_among m (ps ++ qs) ≡ (is_among m ps || is_among m qs)
among_append None ps qs = refl
among_append (Some n) ps qs = list_any-append (λ (p : ChunkCopy). p.number == n) ps qs

-- one more of the first copies is committed
pub spare_more : (a b c : Bool) (m : Option ℕ) (copies : List ChunkCopy) (i : ℕ) → b ≡ (a || is_among m (take i copies)) → c ≡ (b || is_among m (take 1 (drop i copies))) → c ≡ (a || is_among m (take (i + 1) copies))
spare_more a b c m copies i one two =
    let split : is_among m (take (i + 1) copies) ≡ (is_among m (take i copies) || is_among m (take 1 (drop i copies))) =
    ap (is_among m) (take-add i 1 copies) ∙ among_append m (take i copies) (take 1 (drop i copies)) in
    two ∙ ap (λ x. x || is_among m (take 1 (drop i copies))) one ∙ or_assoc a (is_among m (take i copies)) (is_among m (take 1 (drop i copies))) ∙ ap (λ x. a || x) (sym split)

-- the marks of one more
pub marks_more : (ms : List Mark) (copies : List ChunkCopy) (i : ℕ) → (ms ++ map mark_of (take i copies)) ++ map mark_of (take 1 (drop i copies)) ≡ ms ++ map mark_of (take (i + 1) copies)
marks_more ms copies i =
    append_assoc ms (map mark_of (take i copies)) (map mark_of (take 1 (drop i copies)))
    ∙ ap (λ xs. ms ++ xs) (sym (ap (map mark_of) (take-add i 1 copies) ∙ map-append mark_of (take i copies) (take 1 (drop i copies))))

-- a commit that gives the buffer back takes a copy away
pub copies_slots : (a b : Bool) (m : Option ℕ) (copies : List ChunkCopy) (count : ℕ) → count ≤ length copies → b ≡ (a || is_among m (take count copies)) → (length copies - count) + copies_kept b ≤ length copies + copies_kept a
copies_slots true true m copies count few is = omega (arith, few)
copies_slots true false m copies count few is = absurd (true≢false (sym is))
copies_slots false false m copies count few is = omega (arith, few)
copies_slots false true m copies zero few is = absurd (true≢false (is ∙ none_among m))
  where
    none_among : (m : Option ℕ) → is_among m [] ≡ false
    none_among None = refl
    none_among (Some n) = refl
copies_slots false true m copies (suc count) few is = omega (arith, few)

-- and a merge that has a copy to be published makes no other mark
pub marks_slots : (a b : Bool) (m : Option ℕ) (copies : List ChunkCopy) (count : ℕ) → b ≡ (a || is_among m (take count copies)) → marks_kept b m ≤ marks_kept a m
marks_slots true true m copies count is = omega arith
marks_slots true false m copies count is = absurd (true≢false (sym is))
marks_slots false false m copies count is = omega arith
marks_slots false true None copies count is = absurd (true≢false is)
marks_slots false true (Some n) copies count is = omega arith

-- a merge's copy takes what is kept for it
pub room_merging : (room kept left reserved reserved' copies copies' marks room_copies room_copies' room_marks n : ℕ) (a b : Bool) (m : Option ℕ) → HasRoom room kept left reserved copies marks room_copies room_marks a m → a ≡ true → m ≡ None → b ≡ false → 0 < kept
    → reserved' + 1 ≡ reserved → copies' ≡ copies + 1 → room_copies' ≡ room_copies → HasRoom room (kept - 1) left reserved' copies' marks room_copies' room_marks b (Some n)
room_merging room kept left reserved reserved' copies copies' marks room_copies room_copies' room_marks n a b m h there alone gone some used len cap =
    let slot : copies_kept a ≡ 1 = ap copies_kept there in
    let slot' : copies_kept b ≡ 0 = ap copies_kept gone in
    let mark : marks_kept a m ≡ 1 = ap (λ x. marks_kept x m) there ∙ ap (marks_kept true) alone in
    let mark' : marks_kept b (Some n) ≡ 0 = ap (λ x. marks_kept x (Some n)) gone in
    record {
      for_pairs = omega (arith, h.for_pairs, some, used);
      counted = omega (arith, h.counted, some);
      for_copies = omega (arith, h.for_copies, slot, slot', len, cap);
      for_marks = omega (arith, h.for_marks, mark, mark', len);
    }

-- the store is flushed: a copy keeps its number and its buffer
lent_flushed : (room n : ℕ) (copies : List ChunkCopy) → IsLent room n copies → IsLent room n (map flushed_copy copies)
lent_flushed room n [] h = absurd h
lent_flushed room n (c ∷ cs) h = match_more (c.number == n) (room ≤ vec_capacity c.buffer) (IsLent room n cs) (IsLent room n (map flushed_copy cs)) (lent_flushed room n cs) h

pub spared_flushed : (chunk : ℕ) (spare : Option (Vec ℕ)) (m : Option ℕ) (copies : List ChunkCopy) → IsSpared chunk spare m copies → IsSpared chunk spare m (map flushed_copy copies)
spared_flushed chunk spare m copies h = record { here = h.here; lent = λ n none some. lent_flushed (512 * chunk) n copies (h.lent n none some) }
