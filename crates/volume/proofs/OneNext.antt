-- A merge starts the copies that it waits for, where one snapshot alone may lack its own: one copy is started at most, and no
-- other snapshot is spoiled.
use Rattle.std.proofs.Common.{◌≡◌, ◌≢◌, ◌⊎◌, inl, inr, ℕ, zero, suc, ◌+◌, ◌<◌, ◌≤◌, Bool, true, false, List, [], ◌∷◌, length, get_or, set, map, refl, sym, ◌∙◌, ap, arith, nat_eq, if◌then◌else◌}
use Rattle.std.specs.Prelude.{◌&&◌, not, Any, Option, Some, None}
use Rattle.std.specs.List.{All, list_any}
use Rattle.std.specs.Option.{is_some}
use Rattle.std.proofs.lemmas.Bool.{cases_Bool, eq-eqb, false≢true, MatchBool-at_true, MatchBool-at_false}
use Rattle.std.proofs.lemmas.List.Folds.{list_any-from_Any}
use Rattle.device.specs.Layers.{Layer}
use Rattle.cow_format.specs.Picture.{place_of}
use Rattle.in_flight.specs.declared.copies.ChunkCopy.{ChunkCopy}
use Rattle.in_flight.specs.declared.flights.Flight.{Flight}
use Rattle.snapshot.specs.Kept.{Kept}
use Rattle.snapshot_list.specs.Starting.{lacks_chunk, is_full_of, starts_chunk, overflows_chunk}
use Rattle.snapshot_list.specs.MergeStarting.{IsNextSavedIn, AreNextSavedIn, LacksAtMost}

-- no snapshot lacks its own
abbrev pub LackNone : {B : Type 0} → (Kept B → ℕ) → List (Kept B) → Type 0
LackNone at ss = All (λ s. lacks_chunk (at s) s ≡ false) ss

neither : (a b : Bool) → a ≡ false → (a && b) ≡ false
neither true b e = absurd (false≢true (sym e))
neither false b e = refl

-- what a snapshot has, or copies, it does not lack
pub has_not : {B : Type 0} (c : ℕ) (s : Kept B) → (s.live ≡ true → (place_of s.pairs c ≢ None) ⊎ Any (λ p. p.pair.old ≡ c) s.copies) → lacks_chunk c s ≡ false
has_not c s saving = by s.live saving
  where
    placed : (o : Option ℕ) → o ≢ None → not (is_some o) ≡ false
    placed None some = absurd (some refl)
    placed (Some n) some = refl

    both : (a b : Bool) → (a ≡ false) ⊎ (b ≡ false) → (a && b) ≡ false
    both true b (inl e) = absurd (false≢true (sym e))
    both true b (inr e) = e
    both false b e = refl

    by : (live : Bool) → (live ≡ true → (place_of s.pairs c ≢ None) ⊎ Any (λ p. p.pair.old ≡ c) s.copies) → ((live && not (is_some (place_of s.pairs c))) && not (list_any (λ p. nat_eq p.pair.old c) s.copies)) ≡ false
    by false has = refl
    by true has = elim (has refl) [
      | inl here ↦ both (not (is_some (place_of s.pairs c))) (not (list_any (λ p. nat_eq p.pair.old c) s.copies)) (inl (placed (place_of s.pairs c) here))
      | inr copied ↦ both (not (is_some (place_of s.pairs c))) (not (list_any (λ p. nat_eq p.pair.old c) s.copies)) (inr (ap not (any_copied s.copies copied)))
    ]
      where
        any_copied : (ps : List ChunkCopy) → Any (λ p. p.pair.old ≡ c) ps → list_any (λ p. nat_eq p.pair.old c) ps ≡ true
        any_copied ps (k, p, lt, is, e) = list_any-from_Any (λ (q : ChunkCopy). nat_eq q.pair.old c) ps (k, p, lt, is, eq-eqb p.pair.old c e)

module _ {B : Type 0} (contents : B → List ℕ) (layers : B → List Layer) (at : Kept B → ℕ) where
  -- one that lacks nothing gives no number
  none_here : (s t : Kept B) (n m : ℕ) (fs gs : List Flight) → lacks_chunk (at s) s ≡ false → IsNextSavedIn contents layers (at s) s t n m fs gs → m ≡ n
  none_here s t n m fs gs has e = (MatchBool-at_false _ _ (neither (lacks_chunk (at s) s) (is_full_of s) has) (MatchBool-at_false _ _ (neither (lacks_chunk (at s) s) (not (is_full_of s)) has) e)).1

  -- any gives one at most
  one_here : (s t : Kept B) (n m : ℕ) (fs gs : List Flight) → IsNextSavedIn contents layers (at s) s t n m fs gs → m ≤ n + 1
  one_here s t n m fs gs e = elim (cases_Bool (starts_chunk (at s) s)) [
    | inl begins ↦ (let (buffer, begun, m_is, g) = MatchBool-at_true _ _ begins e in omega (arith, m_is))
    | inr unsaid ↦ elim (cases_Bool (overflows_chunk (at s) s)) [
      | inl over ↦ (let (same, m_is, g) = MatchBool-at_true _ _ over (MatchBool-at_false _ _ unsaid e) in omega (arith, m_is))
      | inr fine ↦ (let (same, m_is, g) = MatchBool-at_false _ _ fine (MatchBool-at_false _ _ unsaid e) in omega (arith, m_is))
    ]
  ]

  pub none_given : (ss ts : List (Kept B)) (n m : ℕ) (fs gs : List Flight) → LackNone at ss → AreNextSavedIn contents layers at ss ts n m fs gs → m ≡ n
  none_given [] [] n m fs gs has e = e.0
  none_given [] (t ∷ ts) n m fs gs has e = absurd e
  none_given (s ∷ ss) [] n m fs gs has e = absurd e
  none_given (s ∷ ss) (t ∷ ts) n m fs gs has (k, hs, one, rest) =
      none_given ss ts k m hs gs (λ j d lt. has (suc j) d (omega (arith, lt))) rest ∙ none_here s t n k fs hs (has 0 s (omega arith)) one

  -- one copy is started at most
  pub one_given : (place : ℕ) (ss ts : List (Kept B)) (n m : ℕ) (fs gs : List Flight) → LacksAtMost at place ss → AreNextSavedIn contents layers at ss ts n m fs gs → m ≤ n + 1
  one_given place [] [] n m fs gs has e = omega (arith, e.0)
  one_given place [] (t ∷ ts) n m fs gs has e = absurd e
  one_given place (s ∷ ss) [] n m fs gs has e = absurd e
  one_given zero (s ∷ ss) (t ∷ ts) n m fs gs has (k, hs, one, rest) =
      let others = none_given ss ts k m hs gs (λ j d lt. has (suc j) d (omega (arith, lt)) (omega arith)) rest in
      let here = one_here s t n k fs hs one in
      omega (arith, others, here)
  one_given (suc place) (s ∷ ss) (t ∷ ts) n m fs gs has (k, hs, one, rest) =
      let here = none_here s t n k fs hs (has 0 s (omega arith) (omega arith)) one in
      let others = one_given place ss ts k m hs gs (λ j d lt ne. has (suc j) d (omega (arith, lt)) (omega (arith, ne))) rest in
      omega (arith, here, others)

-- which are live afterwards
module _ {B : Type 0} (lost : Kept B → Bool) where
  abbrev pub left_live : List (Kept B) → List Bool
  left_live ss = map (λ s. if lost s then false else s.live) ss

  none_lost : (ss : List (Kept B)) → All (λ s. lost s ≡ false) ss → left_live ss ≡ map (λ s. s.live) ss
  none_lost [] fine = refl
  none_lost (s ∷ ss) fine =
      let here : (if lost s then false else s.live) ≡ s.live = ap (λ b. if b then false else s.live) (fine 0 s (omega arith)) in
      ap (λ b. b ∷ left_live ss) here ∙ ap (λ bs. s.live ∷ bs) (none_lost ss (λ j d lt. fine (suc j) d (omega (arith, lt))))

  -- where none but the one at a place may be lost: that one is, or none
  pub one_lost : (place : ℕ) (s : Kept B) (ss : List (Kept B)) → place < length ss → s ≡ get_or ss place s → ((j : ℕ) (d : Kept B) → j < length ss → j ≢ place → lost (get_or ss j d) ≡ false)
      → ((lost s ≡ true) × (left_live ss ≡ set (map (λ s. s.live) ss) place false)) ⊎ ((lost s ≡ false) × (left_live ss ≡ map (λ s. s.live) ss))
  one_lost place s [] within is others = absurd (omega (arith, within))
  one_lost zero s (x ∷ ss) within is others =
      let rest = none_lost ss (λ j d lt. others (suc j) d (omega (arith, lt)) (omega arith)) in
      elim (cases_Bool (lost s)) [
        | inl gone ↦ inl (gone, (let here : (if lost x then false else x.live) ≡ false = ap (λ (y : Kept B). if lost y then false else y.live) (sym is) ∙ ap (λ b. if b then false else s.live) gone in ap (λ b. b ∷ left_live ss) here ∙ ap (λ bs. false ∷ bs) rest))
        | inr fine ↦ inr (fine, (let here : (if lost x then false else x.live) ≡ x.live = ap (λ (y : Kept B). if lost y then false else y.live) (sym is) ∙ ap (λ b. if b then false else s.live) fine ∙ ap (λ (y : Kept B). y.live) is in ap (λ b. b ∷ left_live ss) here ∙ ap (λ bs. x.live ∷ bs) rest))
      ]
  one_lost (suc place) s (x ∷ ss) within is others =
      let here : (if lost x then false else x.live) ≡ x.live = ap (λ b. if b then false else x.live) (others 0 x (omega arith) (omega arith)) in
      elim (one_lost place s ss (omega (arith, within)) is (λ j d lt ne. others (suc j) d (omega (arith, lt)) (omega (arith, ne)))) [
        | inl gone ↦ inl (gone.0, ap (λ b. b ∷ left_live ss) here ∙ ap (λ bs. x.live ∷ bs) gone.1)
        | inr fine ↦ inr (fine.0, ap (λ b. b ∷ left_live ss) here ∙ ap (λ bs. x.live ∷ bs) fine.1)
      ]
