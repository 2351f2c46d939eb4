-- Which snapshots of a list are found full, by its parts.
use Rattle.std.proofs.Common.{◌≡◌, inl, inr, ℕ, Bool, true, false, List, [], ◌∷◌, map, refl, sym, ◌∙◌, ap, if◌then◌else◌}
use Rattle.std.specs.Prelude.{◌&&◌, not}
use Rattle.std.proofs.lemmas.Bool.{cases_Bool, MatchBool-at_true, MatchBool-at_false}
use Rattle.device.specs.Layers.{Layer}
use Rattle.in_flight.specs.declared.flights.Flight.{Flight}
use Rattle.snapshot.specs.Kept.{Kept}
use Rattle.snapshot_list.specs.Starting.{lacks_chunk, is_full_of, starts_chunk, overflows_chunk, overflowing, unroomed, IsSavedIn, AreSavedIn}

pub overflowing_full : {B : Type 0} (at : Kept B → ℕ) (s : Kept B) (ss : List (Kept B)) → overflows_chunk (at s) s ≡ true → overflowing at (s ∷ ss) ≡ s.number ∷ overflowing at ss
overflowing_full at s ss full = rw full refl

pub overflowing_fine : {B : Type 0} (at : Kept B → ℕ) (s : Kept B) (ss : List (Kept B)) → overflows_chunk (at s) s ≡ false → overflowing at (s ∷ ss) ≡ overflowing at ss
overflowing_fine at s ss fine = rw fine refl

-- one snapshot starts a copy or is found full, and not both
pub starts_fine : {B : Type 0} (c : ℕ) (s : Kept B) → starts_chunk c s ≡ true → overflows_chunk c s ≡ false
starts_fine c s begins = apart (lacks_chunk c s) (is_full_of s) begins
  where
    apart : (a b : Bool) → (a && not b) ≡ true → (a && b) ≡ false
    apart true true e = sym e
    apart true false e = refl
    apart false b e = refl

-- whatever room there is, where the chunks are chosen without a look at it
pub overflowing_roomed : {B : Type 0} (at : Kept B → ℕ) (xs ys : List (Kept B)) → ((s : Kept B) → at (unroomed s) ≡ at s) → map unroomed xs ≡ map unroomed ys → overflowing at xs ≡ overflowing at ys
overflowing_roomed {B = B} at xs ys same e = sym (unseen xs) ∙ ap (overflowing at) e ∙ unseen ys
  where
    unseen : (zs : List (Kept B)) → overflowing at (map unroomed zs) ≡ overflowing at zs
    unseen [] = refl
    unseen (z ∷ zs) = elim (cases_Bool (overflows_chunk (at z) z)) [
      | inl full ↦ overflowing_full at (unroomed z) (map unroomed zs) (ap (λ c. overflows_chunk c z) (same z) ∙ full) ∙ ap (λ ns. z.number ∷ ns) (unseen zs) ∙ sym (overflowing_full at z zs full)
      | inr fine ↦ overflowing_fine at (unroomed z) (map unroomed zs) (ap (λ c. overflows_chunk c z) (same z) ∙ fine) ∙ unseen zs ∙ sym (overflowing_fine at z zs fine)
    ]

module _ {B : Type 0} (contents : B → List ℕ) (layers : B → List Layer) where
  one_lives : (c : ℕ) (s t : Kept B) (n m : ℕ) (fs gs : List Flight) → IsSavedIn contents layers c s t n m fs gs → t.live ≡ (if overflows_chunk c s then false else s.live)
  one_lives c s t n m fs gs e = elim (cases_Bool (starts_chunk c s)) [
    | inl begins ↦ (let (buffer, at, m_is, g) = MatchBool-at_true _ _ begins e in rw (starts_fine c s begins) (ap (λ (x : Kept B). x.live) at.fields))
    | inr unsaid ↦ elim (cases_Bool (overflows_chunk c s)) [
      | inl over ↦ (let (same, m_is, g) = MatchBool-at_true _ _ over (MatchBool-at_false _ _ unsaid e) in rw over (ap (λ (x : Kept B). x.live) same))
      | inr fine ↦ (let (same, m_is, g) = MatchBool-at_false _ _ fine (MatchBool-at_false _ _ unsaid e) in rw fine (ap (λ (x : Kept B). x.live) same))
    ]
  ]

  -- a snapshot is live afterwards where it was and is not found full
  pub saved_lives : (at : Kept B → ℕ) (ss ts : List (Kept B)) (n m : ℕ) (fs gs : List Flight) → AreSavedIn contents layers at ss ts n m fs gs → map (λ s. s.live) ts ≡ map (λ s. if overflows_chunk (at s) s then false else s.live) ss
  saved_lives at [] [] n m fs gs e = refl
  saved_lives at [] (t ∷ ts) n m fs gs e = absurd e
  saved_lives at (s ∷ ss) [] n m fs gs e = absurd e
  saved_lives at (s ∷ ss) (t ∷ ts) n m fs gs (k, hs, one, rest) = ap (λ b. b ∷ map (λ (x : Kept B). x.live) ts) (one_lives (at s) s t n k fs hs one)
      ∙ ap (λ bs. (if overflows_chunk (at s) s then false else s.live) ∷ bs) (saved_lives at ss ts k m hs gs rest)
