-- Spans, and the sectors that they list.
use Rattle.std.proofs.Common.{◌≡◌, ◌⊎◌, inl, inr, ℕ, suc, ◌+◌, ◌-◌, ◌<◌, ◌≤◌, List, [], ◌∷◌, ◌++◌, length, get_or, set, take, drop, refl, ap, ◌∙◌, sym, arith, length-append}
use Rattle.std.specs.List.{range_with_len}
use Rattle.std.proofs.Math.Seq.{take-suc, take-suc-set}
use Rattle.std.proofs.lemmas.Bool.{cases_lt}
use Rattle.std.proofs.lemmas.List.{get_or_append_left, get_or-append-add, take-append-drop, append_assoc, append-nil, take_all, length-set}
use Rattle.std.proofs.lemmas.List.FromFn.{length-range_with_len, get_or-range_with_len}
use Rattle.device.specs.Listed.{listed, place_in}
use Rattle.device.specs.declared.span.Span.{Span}
use Rattle.device.proofs.Listed.{place_right, place_out_range, place_at, range_more, Once}

pub listed_append : (a b : List Span) → listed (a ++ b) ≡ listed a ++ listed b
listed_append [] b = refl
listed_append (x ∷ a) b = ap (λ l. range_with_len x.first x.count ++ l) (listed_append a b) ∙ sym (append_assoc (range_with_len x.first x.count) (listed a) (listed b))

pub listed_push : (a : List Span) (x : Span) → listed (a ++ x ∷ []) ≡ listed a ++ range_with_len x.first x.count
listed_push a x = listed_append a (x ∷ []) ∙ ap (λ l. listed a ++ l) (append-nil (range_with_len x.first x.count))

-- no more spans than sectors
pub spans_few : (spans : List Span) → length spans ≤ length (listed spans)
spans_few [] = omega arith
spans_few (x ∷ spans) = let some = x.some in omega (arith, spans_few spans, length-append (range_with_len x.first x.count) (listed spans), length-range_with_len x.first x.count)

-- one more of the spans
pub one_more : (spans : List Span) (i : ℕ) (x : Span) → i < length spans → get_or spans i x ≡ x → listed (take (i + 1) spans) ≡ listed (take i spans) ++ range_with_len x.first x.count
one_more spans i x lt is =
    let on : i + 1 ≡ suc i = omega arith in
    ap (λ k. listed (take k spans)) on ∙ ap listed (take-suc spans i x lt) ∙ ap (λ y. listed (take i spans ++ y ∷ [])) is ∙ listed_push (take i spans) x

-- all of them are the front and what comes after it
pub front_of : (spans : List Span) (i : ℕ) → listed spans ≡ listed (take i spans) ++ listed (drop i spans)
front_of spans i = ap listed (sym (take-append-drop i spans)) ∙ listed_append (take i spans) (drop i spans)

-- where the sectors of one span stand
pub span_at : (spans : List Span) (i : ℕ) (x : Span) (k : ℕ) → i < length spans → get_or spans i x ≡ x → k < x.count → get_or (listed spans) (length (listed (take i spans)) + k) 0 ≡ x.first + k
span_at spans i x k lt is in_span =
    let front = listed (take i spans) in
    let range = range_with_len x.first x.count in
    let long : length (listed (take (i + 1) spans)) ≡ length front + x.count = omega (arith, ap length (one_more spans i x lt is), length-append front range, length-range_with_len x.first x.count) in
    ap (λ l. get_or l (length front + k) 0) (front_of spans (i + 1))
    ∙ get_or_append_left (listed (take (i + 1) spans)) (listed (drop (i + 1) spans)) 0 (length front + k) (omega arith)
    ∙ ap (λ l. get_or l (length front + k) 0) (one_more spans i x lt is)
    ∙ get_or-append-add front range k 0
    ∙ get_or-range_with_len x.first x.count k 0 in_span

-- and that they do
pub span_there : (spans : List Span) (i : ℕ) (x : Span) → i < length spans → get_or spans i x ≡ x → length (listed (take i spans)) + x.count ≤ length (listed spans)
span_there spans i x lt is =
    omega (arith, ap length (one_more spans i x lt is), length-append (listed (take i spans)) (range_with_len x.first x.count), length-range_with_len x.first x.count, ap length (front_of spans (i + 1)), length-append (listed (take (i + 1) spans)) (listed (drop (i + 1) spans)))

pub span_long : (spans : List Span) (i : ℕ) (x : Span) → i < length spans → get_or spans i x ≡ x → length (listed (take (i + 1) spans)) ≡ length (listed (take i spans)) + x.count
span_long spans i x lt is = omega (arith, ap length (one_more spans i x lt is), length-append (listed (take i spans)) (range_with_len x.first x.count), length-range_with_len x.first x.count)

-- all of them
pub whole_of : (spans : List Span) (i : ℕ) → i ≡ length spans → listed (take i spans) ≡ listed spans
whole_of spans i is = ap (λ k. listed (take k spans)) is ∙ ap listed (take_all (length spans) spans (omega arith))

-- a sector of one more span, or of those before it
pub more_of : (spans : List Span) (i : ℕ) (x : Span) (t : ℕ) → i < length spans → get_or spans i x ≡ x → place_in (listed (take (i + 1) spans)) t < length (listed (take (i + 1) spans)) → (place_in (listed (take i spans)) t < length (listed (take i spans))) ⊎ ((x.first ≤ t) × (t < x.first + x.count))
more_of spans i x t lt is at = elim (cases_lt (place_in (listed (take i spans)) t) (length (listed (take i spans)))) [
  | inl before ↦ inl before
  | inr past ↦ (
      let right = place_right (listed (take i spans)) (range_with_len x.first x.count) t past in
      let near : place_in (range_with_len x.first x.count) t < x.count = omega (arith, ap (λ l. place_in l t) (one_more spans i x lt is), span_long spans i x lt is) in
      inr (elim (cases_lt t x.first) [
        | inl low ↦ absurd (omega (arith, place_out_range x.first x.count t (inl low)))
        | inr from ↦ elim (cases_lt t (x.first + x.count)) [
          | inl below ↦ (from, below)
          | inr high ↦ absurd (omega (arith, place_out_range x.first x.count t (inr high)))
        ]
      ])
      )
]

-- the last span gets longer
pub longer : (spans : List Span) (n : ℕ) (x y : Span) (count : ℕ) → length spans ≡ n + 1 → get_or spans n x ≡ x → y.first ≡ x.first → y.count ≡ x.count + count → listed (set spans n y) ≡ listed spans ++ range_with_len (x.first + x.count) count
longer spans n x y count long is first more =
    let front = listed (take n spans) in
    let on : n + 1 ≡ suc n = omega arith in
    let all : spans ≡ take n spans ++ x ∷ [] = sym (take_all (length spans) spans (omega arith)) ∙ ap (λ k. take k spans) (long ∙ on) ∙ take-suc spans n x (omega arith) ∙ ap (λ z. take n spans ++ z ∷ []) is in
    let new : set spans n y ≡ take n spans ++ y ∷ [] = sym (take_all (length (set spans n y)) (set spans n y) (omega arith)) ∙ ap (λ k. take k (set spans n y)) (length-set spans n y ∙ long ∙ on) ∙ take-suc-set spans n y (omega arith) in
    let range : range_with_len y.first y.count ≡ range_with_len x.first x.count ++ range_with_len (x.first + x.count) count = ap (λ k. range_with_len k y.count) first ∙ ap (range_with_len x.first) more ∙ range_more x.first x.count count in
    ap listed new ∙ listed_push (take n spans) y ∙ ap (λ l. front ++ l) range ∙ sym (append_assoc front (range_with_len x.first x.count) (range_with_len (x.first + x.count) count))
    ∙ ap (λ l. l ++ range_with_len (x.first + x.count) count) (sym (ap listed all ∙ listed_push (take n spans) x))

-- a span lies where its sectors do
pub span_inside : (spans : List Span) (i : ℕ) (x : Span) (n : ℕ) → i < length spans → get_or spans i x ≡ x → ((j : ℕ) → j < length (listed spans) → get_or (listed spans) j 0 < n) → x.first + x.count ≤ n
span_inside spans i x n lt is inside =
    let some = x.some in
    let k : ℕ = x.count - 1 in
    let place : ℕ = length (listed (take i spans)) + k in
    let there = span_there spans i x lt is in
    omega (arith, span_at spans i x k lt is (omega arith), inside place (omega arith))

-- a sector of a span stands at its place
pub own_place : (spans : List Span) (i : ℕ) (x : Span) (k : ℕ) → i < length spans → get_or spans i x ≡ x → Once (listed spans) → k < x.count → place_in (listed spans) (x.first + k) ≡ length (listed (take i spans)) + k
own_place spans i x k lt is once near =
    let there = span_there spans i x lt is in
    ap (place_in (listed spans)) (sym (span_at spans i x k lt is near)) ∙ once (length (listed (take i spans)) + k) (omega arith)

-- what stands at such a place is a sector of the span
pub place_own : (spans : List Span) (i : ℕ) (x : Span) (t : ℕ) → i < length spans → get_or spans i x ≡ x → length (listed (take i spans)) ≤ place_in (listed spans) t → place_in (listed spans) t < length (listed (take i spans)) + x.count → (x.first ≤ t) × (t < x.first + x.count)
place_own spans i x t lt is lo hi =
    let there = span_there spans i x lt is in
    let k : ℕ = place_in (listed spans) t - length (listed (take i spans)) in
    let at : length (listed (take i spans)) + k ≡ place_in (listed spans) t = omega arith in
    let is' : x.first + k ≡ t = sym (span_at spans i x k lt is (omega arith)) ∙ ap (λ j. get_or (listed spans) j 0) at ∙ place_at (listed spans) t (omega arith) in
    (omega arith, omega arith)

-- of one span alone
pub only_span : (spans : List Span) (x : Span) (t : ℕ) → length spans ≡ 1 → get_or spans 0 x ≡ x → place_in (listed spans) t < length (listed spans) → (x.first ≤ t) × (t < x.first + x.count)
only_span spans x t one is there =
    let all = ap length (whole_of spans 1 (sym one)) in
    place_own spans 0 x t (omega arith) is (omega arith) (omega (arith, all, span_long spans 0 x (omega arith) is))

-- what stands before its end, and is none of it, stands before it
pub place_before : (spans : List Span) (i : ℕ) (x : Span) (t : ℕ) → i < length spans → get_or spans i x ≡ x → (t < x.first) ⊎ (x.first + x.count ≤ t) → place_in (listed spans) t < length (listed (take i spans)) + x.count → place_in (listed spans) t < length (listed (take i spans))
place_before spans i x t lt is out hi = elim (cases_lt (place_in (listed spans) t) (length (listed (take i spans)))) [
  | inl below ↦ below
  | inr from ↦ absurd (let own = place_own spans i x t lt is from hi in elim out [ inl low ↦ omega (arith, own.0) | inr high ↦ omega (arith, own.1) ])
]
