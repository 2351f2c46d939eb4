-- One sector more is told, or none.
use Rattle.std.proofs.Common.{◌≡◌, ◌≢◌, ◌⊎◌, inl, inr, ℕ, ◌+◌, ◌*◌, ◌<◌, ◌≤◌, Bool, true, false, List, [], ◌∷◌, ◌++◌, Some, refl, sym, ◌∙◌, ap, subst, arith, take, drop, length}
use Rattle.std.specs.Prelude.{◌||◌, ◌&&◌, ◌==◌, nat_lt, nat_le}
use Rattle.std.specs.List.{All}
use Rattle.std.proofs.lemmas.Bool.{cases_Bool, cases_lt, cases_eq, ne_eqb, eq-eqb, and_parts, leb-true, ltb-true}
use Rattle.std.proofs.lemmas.List.Elements.{All-nil, All-cons, All-head, All-tail, All-push, All-pop, All-weaker}
use Rattle.std.proofs.lemmas.List.Folds.{list_any-append}
use Rattle.cow_salvage.specs.declared.span.Span.{Span}
use Rattle.cow_salvage.specs.Spans.{is_in, AreApart, AreJust, AreMarked}

-- whether a sector is in a span
abbrev within : Span → ℕ → Bool
within span s = nat_le span.first s && nat_lt s (span.first + span.count)

within_true : (span : Span) (s : ℕ) → within span s ≡ true → (span.first ≤ s) × (s < span.first + span.count)
within_true span s is = let (low, high) = and_parts (nat_le span.first s) (nat_lt s (span.first + span.count)) is in (leb-true _ _ low, ltb-true _ _ high)

within_is : (span : Span) (s : ℕ) → span.first ≤ s → s < span.first + span.count → within span s ≡ true
within_is span s low high = grind arith

within_false : (span : Span) (s : ℕ) → within span s ≡ false → (s < span.first) ⊎ (span.first + span.count ≤ s)
within_false span s not = elim (cases_lt s span.first) [
  | inl below ↦ inl below
  | inr low ↦ elim (cases_lt s (span.first + span.count)) [
    | inl high ↦ (let no : true ≡ false = sym (within_is span s low high) ∙ not in cc)
    | inr above ↦ inr above
  ]
]

-- a span more, behind all others
in_push : (spans : List Span) (span : Span) (s : ℕ) → is_in (spans ++ span ∷ []) s ≡ (is_in spans s || (within span s || false))
in_push spans span s = list_any-append (λ (x : Span). within x s) spans (span ∷ [])

in_parts : (spans : List Span) (span : Span) (s : ℕ) → is_in (spans ++ span ∷ []) s ≡ true → (is_in spans s ≡ true) ⊎ (within span s ≡ true)
in_parts spans span s is = elim (cases_Bool (is_in spans s)) [
  | inl one ↦ inl one
  | inr none ↦ elim (cases_Bool (within span s)) [
    | inl last ↦ inr last
    | inr not ↦ (let no : true ≡ false = sym is ∙ in_push spans span s ∙ rw none (rw not refl) in cc)
  ]
]

out_parts : (spans : List Span) (span : Span) (s : ℕ) → is_in (spans ++ span ∷ []) s ≡ false → (is_in spans s ≡ false) × (within span s ≡ false)
out_parts spans span s not = elim (cases_Bool (is_in spans s)) [
  | inl one ↦ (let no : true ≡ false = sym (in_push spans span s ∙ rw one refl) ∙ not in cc)
  | inr none ↦ elim (cases_Bool (within span s)) [
    | inl last ↦ (let no : true ≡ false = sym (in_push spans span s ∙ rw none (rw last refl)) ∙ not in cc)
    | inr beside ↦ (none, beside)
  ]
]

in_front : (spans : List Span) (span : Span) (s : ℕ) → is_in spans s ≡ true → is_in (spans ++ span ∷ []) s ≡ true
in_front spans span s is = in_push spans span s ∙ rw is refl

in_last : (spans : List Span) (span : Span) (s : ℕ) → within span s ≡ true → is_in (spans ++ span ∷ []) s ≡ true
in_last spans span s is = elim (cases_Bool (is_in spans s)) [
  | inl one ↦ in_front spans span s one
  | inr none ↦ in_push spans span s ∙ rw none (rw is refl)
]

out_all : (spans : List Span) (span : Span) (s : ℕ) → is_in spans s ≡ false → within span s ≡ false → is_in (spans ++ span ∷ []) s ≡ false
out_all spans span s none not = in_push spans span s ∙ rw none (rw not refl)

apart_push : (spans : List Span) (span : Span) → AreApart spans → All (λ (x : Span). x.first + x.count < span.first) spans → 0 < span.count → AreApart (spans ++ span ∷ [])
apart_push [] span apart below some = (some, All-nil _, apart)
apart_push (x ∷ xs) span (pos, rest, apart) below some = (
  pos,
  All-push (λ (next : Span). x.first + x.count < next.first) xs span rest (All-head (λ (y : Span). y.first + y.count < span.first) x xs below),
  apart_push xs span apart (All-tail (λ (y : Span). y.first + y.count < span.first) x xs below) some,
)

apart_front : (spans : List Span) (span : Span) → AreApart (spans ++ span ∷ []) → AreApart spans × All (λ (x : Span). x.first + x.count < span.first) spans × (0 < span.count)
apart_front [] span (pos, rest, apart) = (apart, All-nil _, pos)
apart_front (x ∷ xs) span (pos, rest, apart) =
    let (front, below, some) = apart_front xs span apart in
    let (here, last) = All-pop (λ (next : Span). x.first + x.count < next.first) (xs ++ span ∷ []) xs (Some span) refl rest in
    ((pos, here, front), All-cons (λ (y : Span). y.first + y.count < span.first) x xs last below, some)

-- all of these end at a sector at the last
abbrev Ends : ℕ → List Span → Type 0
Ends n spans = All (λ (x : Span). x.first + x.count ≤ n) spans

ends_later : (n m : ℕ) (spans : List Span) → n ≤ m → Ends n spans → Ends m spans
ends_later n m spans le ends = All-weaker (λ (x : Span). x.first + x.count ≤ n) (λ (x : Span). x.first + x.count ≤ m) (λ x fits. omega arith) spans ends

before_at : (span : Span) (n : ℕ) (spans : List Span) → n ≡ span.first → All (λ (x : Span). x.first + x.count < n) spans → All (λ (x : Span). x.first + x.count < span.first) spans
before_at span n spans is below = All-weaker (λ (x : Span). x.first + x.count < n) (λ (x : Span). x.first + x.count < span.first) (λ x lt. omega arith) spans below

-- a sector of a span of one, and one below the next that is not in it
one_at : (span : Span) (n s : ℕ) → span.first ≡ n → span.count ≡ 1 → (span.first ≤ s) × (s < span.first + span.count) → s ≡ n
one_at span n s first count (low, high) = omega arith

not_one : (span : Span) (n s : ℕ) → span.first ≡ n → span.count ≡ 1 → s < n + 1 → (s < span.first) ⊎ (span.first + span.count ≤ s) → s < n
not_one span n s first count lt (inl low) = omega arith
not_one span n s first count lt (inr high) = omega arith

-- a sector of the last span with one more
joined_at : (last span : Span) (n s : ℕ) → last.first + last.count ≡ n → span.first ≡ last.first → span.count ≡ last.count + 1 → (span.first ≤ s) × (s < span.first + span.count) → ((last.first ≤ s) × (s < last.first + last.count)) ⊎ (s ≡ n)
joined_at last span n s ends first count (low, high) = elim (cases_lt s (last.first + last.count)) [ inl below ↦ inl (omega arith, below) | inr above ↦ inr (omega arith) ]

not_joined : (last span : Span) (n s : ℕ) → last.first + last.count ≡ n → span.first ≡ last.first → span.count ≡ last.count + 1 → s < n + 1 → (s < span.first) ⊎ (span.first + span.count ≤ s) → (s < last.first) × (s < n)
not_joined last span n s ends first count lt (inl low) = (omega arith, omega arith)
not_joined last span n s ends first count lt (inr high) = (let no : ⊥ = omega arith in absurd no)

below_out : (span : Span) (s : ℕ) → s < span.first → within span s ≡ false
below_out span s lt = grind arith

-- a mark of these spans' sectors and of one more
marked_here : (old : Bool) (n : ℕ) → (old || (n == n)) ≡ true
marked_here true n = refl
marked_here false n = eq-eqb n n refl

marked_parts : (old : Bool) (s n : ℕ) → (old || (s == n)) ≡ true → (old ≡ true) ⊎ (s ≡ n)
marked_parts true s n is = inl refl
marked_parts false s n is = elim (cases_eq s n) [ inl e ↦ inr e | inr ne ↦ (let no : true ≡ false = sym is ∙ ne_eqb s n ne in cc) ]

unmarked_parts : (old : Bool) (s n : ℕ) → (old || (s == n)) ≡ false → (old ≡ false) × (s ≢ n)
unmarked_parts true s n is = (let no : true ≡ false = is in cc)
unmarked_parts false s n is = (refl, λ e. let no : true ≡ false = sym (eq-eqb s n e) ∙ is in cc)

module _ (Is Not : ℕ → Type 0) where
  -- sectors that are not told
  pub more_others : (n m : ℕ) (spans : List Span) → n ≤ m → AreJust Is Not n spans → ((s : ℕ) → n ≤ s → s < m → Not s) → AreJust Is Not m spans
  more_others n m spans le h each = record {
    apart = h.apart;
    inside = ends_later n m spans le h.inside;
    told = h.told;
    others = λ s lt none. elim (cases_lt s n) [ inl below ↦ h.others s below none | inr above ↦ each s above lt ];
  }

  -- a sector that is told, behind all spans and a sector more
  pub more_apart : (n : ℕ) (spans : List Span) (span : Span) → AreJust Is Not n spans → All (λ (x : Span). x.first + x.count < n) spans → Is n → span.first ≡ n → span.count ≡ 1 → AreJust Is Not (n + 1) (spans ++ span ∷ [])
  more_apart n spans span h below here' first count = record {
    apart = apart_push spans span h.apart (before_at span n spans (sym first) below) (omega arith);
    inside = All-push (λ (x : Span). x.first + x.count ≤ n + 1) spans span (ends_later n (n + 1) spans (omega arith) h.inside) (omega arith);
    told = λ s is. elim (in_parts spans span s is) [
      | inl front ↦ h.told s front
      | inr here ↦ subst Is (sym (one_at span n s first count (within_true span s here))) here'
    ];
    others = λ s lt none. let (front, out) = out_parts spans span s none in h.others s (not_one span n s first count lt (within_false span s out)) front;
  }

  -- a sector that is told, behind the last span
  pub more_joined : (n : ℕ) (spans : List Span) (last span : Span) → AreJust Is Not n (spans ++ last ∷ []) → last.first + last.count ≡ n → Is n → span.first ≡ last.first → span.count ≡ last.count + 1 → AreJust Is Not (n + 1) (spans ++ span ∷ [])
  more_joined n spans last span h ends here' first count =
      let (front, below, some) = apart_front spans last h.apart in
      let (inside, _) = All-pop (λ (x : Span). x.first + x.count ≤ n) (spans ++ last ∷ []) spans (Some last) refl h.inside in
      record {
        apart = apart_push spans span front (before_at span last.first spans (sym first) below) (omega arith);
        inside = All-push (λ (x : Span). x.first + x.count ≤ n + 1) spans span (ends_later n (n + 1) spans (omega arith) inside) (omega arith);
        told = λ s is. elim (in_parts spans span s is) [
          | inl one ↦ h.told s (in_front spans last s one)
          | inr here ↦ elim (joined_at last span n s ends first count (within_true span s here)) [
            | inl (low, high) ↦ h.told s (in_last spans last s (within_is last s low high))
            | inr now ↦ subst Is (sym now) here'
          ]
        ];
        others = λ s lt none.
            let (out, beside) = out_parts spans span s none in
            let (low, lt') = not_joined last span n s ends first count lt (within_false span s beside) in
            h.others s lt' (out_all spans last s out (below_out last s low));
      }

  -- all spans end before a sector, where the last does not end just there
  pub all_before : (n : ℕ) (spans : List Span) (last : Span) → AreJust Is Not n (spans ++ last ∷ []) → (last.first + last.count ≡ n → ⊥) → All (λ (x : Span). x.first + x.count < n) (spans ++ last ∷ [])
  all_before n spans last h not =
      let (front, below, some) = apart_front spans last h.apart in
      let (inside, fits) = All-pop (λ (x : Span). x.first + x.count ≤ n) (spans ++ last ∷ []) spans (Some last) refl h.inside in
      All-push (λ (x : Span). x.first + x.count < n) spans last (All-weaker (λ (x : Span). x.first + x.count < last.first) (λ (x : Span). x.first + x.count < n) (λ x lt. omega arith) spans below) (omega arith)

  -- before the first sector
  pub none_yet : AreJust Is Not 0 []
  none_yet = record { apart = tt; inside = All-nil _; told = λ s is. cc; others = λ s lt. (let never : ⊥ = omega arith in absurd never) }

  -- a sector more, by what is said of all marks
  pub more_by : (n : ℕ) (spans more : List Span) → AreJust Is Not n spans → ((mark : ℕ → Bool) → AreMarked mark n spans → mark n ≡ true → AreMarked mark (n + 1) more) → Is n → AreJust Is Not (n + 1) more
  more_by n spans more h adds here' =
      let mark : ℕ → Bool = λ s. is_in spans s || (s == n) in
      let before : AreMarked mark n spans = record { apart = h.apart; inside = h.inside; told = λ s is. rw is refl; others = λ s lt none. rw none (ne_eqb s n (λ e. let no : ⊥ = omega arith in no)) } in
      let now : AreMarked mark (n + 1) more = adds mark before (marked_here (is_in spans n) n) in
      record {
        apart = now.apart;
        inside = now.inside;
        told = λ s is. elim (marked_parts (is_in spans s) s n (now.told s is)) [ inl old ↦ h.told s old | inr e ↦ subst Is (sym e) here' ];
        others = λ s lt none. let (out, other) = unmarked_parts (is_in spans s) s n (now.others s lt none) in h.others s (omega arith) out;
      }
