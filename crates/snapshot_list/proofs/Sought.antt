-- From where on the first chunk that is not published may be sought: what stands before that is published.
use Rattle.std.proofs.Common.{◌≡◌, inl, inr, ℕ, zero, suc, ◌+◌, ◌-◌, ◌/◌, ◌<◌, ◌≤◌, Bool, true, false, List, [], ◌∷◌, ◌++◌, length, get_or, map, take, refl, sym, ◌∙◌, ap, subst, arith, nat_eq}
use Rattle.std.specs.Prelude.{◌||◌, not, Any, Option, Some, None}
use Rattle.std.specs.List.{All, list_any, range_with_len}
use Rattle.std.specs.Option.{is_some, unwrap_or}
use Rattle.std.proofs.lemmas.Bool.{cases_Bool, cases_eq, cases_lt, cond-true, cond-false, eqb-true, false≢true}
use Rattle.std.proofs.lemmas.List.{map-append}
use Rattle.std.proofs.lemmas.List.Elements.{All-nil, All-append}
use Rattle.std.proofs.lemmas.List.FromFn.{length-range_with_len, get_or-range_with_len}
use Rattle.std.proofs.Math.Seq.{take-suc}
use Rattle.cow_format.specs.Picture.{place_of}
use Rattle.chunk.specs.Pieces.{touched, chunks_over}
use Rattle.in_flight.specs.Due.{first_by}
use Rattle.in_flight.specs.declared.copies.ChunkCopy.{ChunkCopy}
use Rattle.in_flight.specs.declared.copies.Mark.{Mark}
use Rattle.volume_laws.specs.Published.{is_published}
use Rattle.volume_laws.proofs.Due.{first_none}
use Rattle.volume_laws.proofs.Keeping.{any_after, any_more}
use Rattle.volume_laws.proofs.Nexts.{span, touched_all}
use Rattle.snapshot.specs.Kept.{Kept}
use Rattle.snapshot_list.specs.Starting.{lacks_chunk}
use Rattle.snapshot_list.specs.MergeStarting.{IsLeastFrom, LacksBehind, pending_of}

-- of no chunks, of one more, and of those of two lists
pub least_none : (low most : ℕ) → low ≤ most → IsLeastFrom low most [] most
least_none low most le = record { from = le; to = omega arith; all = All-nil (λ c. low ≤ c → most ≤ c); one = inl refl }

pub least_then : (low most : ℕ) (cs ds : List ℕ) (l k : ℕ) → IsLeastFrom low most cs l → IsLeastFrom low l ds k → IsLeastFrom low most (cs ++ ds) k
least_then low most cs ds l k a b = record {
  from = b.from;
  to = omega (arith, b.to, a.to);
  all = All-append (λ c. low ≤ c → k ≤ c) cs ds (λ i d lt le. (let at = a.all i d lt le in omega (arith, at, b.to))) b.all;
  one = elim b.one [
    | inl same ↦ elim a.one [
      | inl most_is ↦ inl (same ∙ most_is)
      | inr some ↦ inr (any_more (λ c. c ≡ k) cs ds (subst (λ (n : ℕ). Any (λ c. c ≡ n) cs) (sym same) some))
    ]
    | inr some ↦ inr (any_after (λ c. c ≡ k) cs ds some)
  ];
}

module _ {X : Type 0} (f : X → ℕ) (xs : List X) (i low most l k : ℕ) where
  pub least_one_more : (x : X) → i < length xs → x ≡ get_or xs i x → IsLeastFrom low most (map f (take i xs)) l → IsLeastFrom low l (f x ∷ []) k → IsLeastFrom low most (map f (take (i + 1) xs)) k
  least_one_more x lt is a b =
      let up : suc i ≡ i + 1 = omega arith in
      let e : map f (take (i + 1) xs) ≡ map f (take i xs) ++ f x ∷ [] =
      ap (λ j. map f (take j xs)) (sym up) ∙ ap (map f) (take-suc xs i x lt) ∙ map-append f (take i xs) (get_or xs i x ∷ []) ∙ ap (λ y. map f (take i xs) ++ f y ∷ []) (sym is) in
      subst (λ ns. IsLeastFrom low most ns k) (sym e) (least_then low most (map f (take i xs)) (f x ∷ []) l k a b)

-- the first number of a run that passes is one of them, and none before it passes
pub record IsFirstOf (test : ℕ → Bool) (a n c : ℕ) : Type 0 where
  pub from : a ≤ c
  pub to : c < a + n
  pub passes : test c ≡ true
  pub fails : (x : ℕ) → a ≤ x → x < c → test x ≡ false

pub first_of_run : (test : ℕ → Bool) (a n c : ℕ) → first_by test (λ x. x) (range_with_len a n) ≡ Some c → IsFirstOf test a n c
first_of_run test a zero c e = (let none : None ≡ Some c = e in absurd (cc))
first_of_run test a (suc n) c e = elim (cases_Bool (test a)) [
  | inl here ↦
      (let at : Some a ≡ Some c = sym (cond-true _ _ _ here) ∙ e in
      let same : a ≡ c = cc in
      record { from = omega (arith, same); to = omega (arith, same); passes = ap test (sym same) ∙ here; fails = λ x le lt. absurd (omega (arith, le, lt, same)) })
  | inr other ↦
      (let rest = first_of_run test (a + 1) n c (sym (cond-false _ _ _ other) ∙ e) in
      record {
        from = omega (arith, rest.from);
        to = omega (arith, rest.to);
        passes = rest.passes;
        fails = λ x le lt. elim (cases_eq a x) [ inl same ↦ ap test (sym same) ∙ other | inr later ↦ rest.fails x (omega (arith, le, later)) lt ];
      })
]

-- Where the first that passes is lacking only from `published` on, and each that passes and is not lacking is pending, none passes
-- before the least of these.
module _ (test lacks : ℕ → Bool) (pending : List ℕ) (a n published from : ℕ) (waits : (x : ℕ) → test x ≡ true → lacks x ≡ false → Any (λ y. y ≡ x) pending) (least : IsLeastFrom a published pending from) where
  abbrev first : Option ℕ
  first = first_by test (λ x. x) (range_with_len a n)

  none_before : (o : Option ℕ) → first_by test (λ x. x) (range_with_len a n) ≡ o → (lacks (unwrap_or o a) ≡ true → (a ≤ published) × (published ≤ unwrap_or o a)) → (x : ℕ) → a ≤ x → x < a + n → x < from → test x ≡ false
  none_before None e behind x le to lt =
      let within : x - a < n = omega (arith, le, to) in
      let at : get_or (range_with_len a n) (x - a) 0 ≡ x = get_or-range_with_len a n (x - a) 0 within ∙ omega (arith, le) in
      ap test (sym at) ∙ first_none test (λ y. y) (range_with_len a n) e (x - a) 0 (omega (arith, within, length-range_with_len a n))
  none_before (Some c) e behind x le to lt =
      let one = first_of_run test a n c e in
      elim (cases_lt x c) [
        | inl before ↦ one.fails x le before
        | inr not_before ↦ elim (cases_Bool (lacks c)) [
          | inl lacking ↦ absurd (omega (arith, (behind lacking).1, not_before, lt, least.to))
          | inr has ↦ (let (k, y, within, is, same) = waits c one.passes has in
              let low : from ≤ get_or pending k y = least.all k y within (omega (arith, one.from, is, same)) in
              absurd (omega (arith, low, is, same, not_before, lt)))
        ]
      ]

-- a chunk of a live snapshot that is neither published nor lacking is pending
any_mapped : {X : Type 0} (f : X → ℕ) (c : ℕ) (xs : List X) → list_any (λ x. nat_eq (f x) c) xs ≡ true → Any (λ y. y ≡ c) (map f xs)
any_mapped f c [] e = absurd (false≢true e)
any_mapped f c (x ∷ xs) e = elim (cases_Bool (nat_eq (f x) c)) [
  | inl here ↦ any_more (λ y. y ≡ c) (f x ∷ []) (map f xs) (0, f x, omega arith, refl, eqb-true (f x) c here)
  | inr other ↦ any_after (λ y. y ≡ c) (f x ∷ []) (map f xs) (any_mapped f c xs (sym (ap (λ b. b || list_any (λ y. nat_eq (f y) c) xs) other) ∙ e))
]

pub unpublished_pending : {B : Type 0} (s : Kept B) (c : ℕ) → s.live ≡ true → is_published s.pairs s.marks c ≡ false → lacks_chunk c s ≡ false → Any (λ y. y ≡ c) (pending_of s)
unpublished_pending s c live unpublished has = elim (cases_Bool (list_any (λ p. nat_eq p.pair.old c) s.copies)) [
  | inl copied ↦ any_more (λ y. y ≡ c) (map (λ p. p.pair.old) s.copies) (map (λ m. m.chunk) s.marks) (any_mapped (λ (p : ChunkCopy). p.pair.old) c s.copies copied)
  | inr none ↦ elim (cases_Bool (list_any (λ m. nat_eq m.chunk c) s.marks)) [
    | inl marked ↦ any_after (λ y. y ≡ c) (map (λ p. p.pair.old) s.copies) (map (λ m. m.chunk) s.marks) (any_mapped (λ (m : Mark). m.chunk) c s.marks marked)
    | inr unmarked ↦ elim (cases_Bool (is_some (place_of s.pairs c))) [
      | inl placed ↦ (let yes : is_published s.pairs s.marks c ≡ true = rw (placed, unmarked) refl in absurd (false≢true (sym unpublished ∙ yes)))
      | inr missing ↦ (let yes : lacks_chunk c s ≡ true = rw (live, missing, none) refl in absurd (false≢true (sym has ∙ yes)))
    ]
  ]
]

-- so before where it is sought, all are published
pub before_published : {B : Type 0} (s : Kept B) (first count published from : ℕ) → s.live ≡ true → LacksBehind published first count s → IsLeastFrom (first / s.state.chunk) published (pending_of s) from
    → All (λ c. c < from → is_published s.pairs s.marks c ≡ true) (chunks_over s.state.chunk first count)
before_published s first count published from live behind least =
    touched_all (λ c. c < from → is_published s.pairs s.marks c ≡ true) s.state.chunk first count (λ c le to lt. not_false (is_published s.pairs s.marks c)
    (none_before (λ x. not (is_published s.pairs s.marks x)) (λ x. lacks_chunk x s) (pending_of s) (first / s.state.chunk) (touched s.state.chunk (span first count)) published from
    (λ x fails has. unpublished_pending s x live (not_true (is_published s.pairs s.marks x) fails) has) least
    (first_by (λ x. not (is_published s.pairs s.marks x)) (λ x. x) (chunks_over s.state.chunk first count)) refl behind c le to lt))
  where
    not_false : (b : Bool) → not b ≡ false → b ≡ true
    not_false true e = refl
    not_false false e = absurd (false≢true (sym e))

    not_true : (b : Bool) → not b ≡ true → b ≡ false
    not_true true e = absurd (false≢true e)
    not_true false e = refl

-- before the first that is touched there is none
pub none_earlier : (P : ℕ → Type 0) (chunk first count : ℕ) → All (λ c. c < first / chunk → P c) (chunks_over chunk first count)
none_earlier P chunk first count = touched_all (λ c. c < first / chunk → P c) chunk first count (λ c le to lt. absurd (omega (arith, le, lt)))
