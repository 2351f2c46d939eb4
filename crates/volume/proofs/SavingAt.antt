-- Which of the first snapshots of a volume have their chunk of a sector, or a copy of it under way.
use Rattle.std.proofs.Common.{◌≡◌, inl, inr, ℕ, ◌+◌, ◌/◌, ◌<◌, true, List, length, get_or, set, sym, ◌∙◌, ap, subst, arith}
use Rattle.std.specs.Prelude.{slice_index_or}
use Rattle.std.specs.List.{All}
use Rattle.std.proofs.lemmas.Bool.{cases_eq}
use Rattle.std.proofs.lemmas.List.{get_or-set_same, get_or-set_other, get_or_default}
use Rattle.in_flight.specs.declared.flights.Flight.{Flight}
use Rattle.volume_laws.specs.Books.{SnapBooks}
use Rattle.volume_laws.specs.Published.{chunk_of}
use Rattle.volume_laws.specs.Waits.{IsSaving}

-- each of the first snapshots that is live has its chunk of the origin's sector `first`, or a copy of it is under way
pub record AreSavingAt (first i : ℕ) (snaps : List SnapBooks) : Type 0 where
  pub each : (j : ℕ) (d : SnapBooks) → j < i → (slice_index_or snaps j d).live ≡ true → IsSaving (first / (slice_index_or snaps j d).chunk) (slice_index_or snaps j d)

-- the same, of each snapshot's own chunk at a sector
pub saving_none_at : (first : ℕ) (snaps : List SnapBooks) → AreSavingAt first 0 snaps
saving_none_at first snaps = record { each = λ j d lt. absurd (omega (arith, lt)) }

pub saving_here_at : (first k : ℕ) (s : SnapBooks) (snaps : List SnapBooks) → AreSavingAt first k snaps → k < length snaps → s ≡ get_or snaps k s → (s.live ≡ true → IsSaving (first / s.chunk) s) → AreSavingAt first (k + 1) snaps
saving_here_at first k s snaps h within is here = record {
  each = λ j d lt live. elim (cases_eq j k) [
    | inl same ↦ (let at : s ≡ get_or snaps j d = is ∙ ap (λ i. get_or snaps i s) (sym same) ∙ get_or_default snaps j s d (omega (arith, within, same)) in
        subst (λ (x : SnapBooks). x.live ≡ true → IsSaving (first / x.chunk) x) at here live)
    | inr other ↦ h.each j d (omega (arith, lt, other)) live
  ];
}

pub saving_set_at : (first k : ℕ) (s' : SnapBooks) (snaps : List SnapBooks) → AreSavingAt first k snaps → k < length snaps → (s'.live ≡ true → IsSaving (first / s'.chunk) s') → AreSavingAt first (k + 1) (set snaps k s')
saving_set_at first k s' snaps h within here = record {
  each = λ j d lt. elim (cases_eq j k) [
    | inl same ↦ subst (λ (x : SnapBooks). x.live ≡ true → IsSaving (first / x.chunk) x) (sym (ap (λ i. get_or (set snaps k s') i d) same ∙ get_or-set_same snaps k s' d within)) here
    | inr other ↦ subst (λ (x : SnapBooks). x.live ≡ true → IsSaving (first / x.chunk) x) (sym (get_or-set_other snaps k j s' d other)) (h.each j d (omega (arith, lt, other)))
  ];
}

-- of all snapshots: they are saving the chunk of a request, or of a pair
pub saving_asked : (f : Flight) (snaps : List SnapBooks) → AreSavingAt f.request.range.first (length snaps) snaps → All (λ s. s.live ≡ true → IsSaving (chunk_of s.chunk f) s) snaps
saving_asked f snaps h k d lt = h.each k d lt
