-- Copies are started for a request, and snapshots whose stores are full are spoiled, one after the other.
use Rattle.std.proofs.Common.{◌*◌, ◌≡◌, inl, inr, ℕ, ◌+◌, ◌<◌, true, List, [], ◌∷◌, ◌++◌, length, get_or, set, map, refl, sym, ◌∙◌, ap, subst, arith, length-append}
use Rattle.std.specs.Prelude.{Any}
use Rattle.std.proofs.lemmas.Bool.{cases_eq}
use Rattle.std.proofs.lemmas.List.{get_or-set_same, get_or-set_other, get_or_default, get_or-append-add, append-nil}
use Rattle.plain_machine.specs.Legal.{Spoils}
use Rattle.in_flight.specs.Copies.{count_of}
use Rattle.in_flight.specs.Kinds.{in_flight}
use Rattle.in_flight.specs.declared.copies.ChunkCopy.{ChunkCopy}
use Rattle.volume_laws.specs.Books.{SnapBooks, Books}
use Rattle.volume_laws.specs.Whole.{Holds, plain_of}
use Rattle.volume_laws.specs.Waits.{Waits, IsSaving}
use Rattle.volume_laws.specs.Steps.{ChangesSnap, StartsCopy, SpoilsOne}
use Rattle.volume_laws.specs.Outcomes.{IsSilent, IsSpoil}
use Rattle.volume_laws.proofs.WholeOne.{start_event, silent_step}
use Rattle.volume_laws.proofs.Spoiling.{spoil_event}
use Rattle.volume_laws.proofs.Refusing.{refused_in_flight}
use Rattle.volume_laws.proofs.Composing.{Spoils_then, loud_one, loud_spoiled}
use Rattle.volume_laws.proofs.Waiting.{waits_changed}
use Rattle.volume_laws.proofs.WaitingAgain.{waits_spoiled}
use Rattle.volume_laws.proofs.Keeping.{start_keeps}
use Rattle.volume_laws.specs.Accepting.{IsPrepared, AreSaving, AreSavingAt}
use Rattle.volume_laws.specs.Published.{chunk_of, next_over}
use Rattle.volume_laws.specs.MergeWaits.{IsSavedSoon}
use Rattle.in_flight.specs.declared.flights.Flight.{Flight}
use Rattle.sector.specs.declared.pair.Pair.{Pair}
use Rattle.std.specs.List.{All}

-- nothing yet
pub prepared_none : (v : Books) → Holds v → Waits v → IsPrepared [] v v
prepared_none v h w = record {
  holds = h;
  waits = w;
  step = λ _. silent_step (plain_of v) (plain_of v) refl;
  loud = λ l. l;
  origin = refl;
  sectors = refl;
  merge = refl;
  requests = refl;
}

-- one copy more
pub prepared_start : (which : List ℕ) (k : ℕ) (p : ChunkCopy) (s s' : SnapBooks) (v u w : Books) → IsPrepared which v u → ChangesSnap k s s' u w → StartsCopy p s s' → s.live ≡ true → IsPrepared which v w
prepared_start which k p s s' v u w h e r live =
    let one : IsSilent u w = start_event k s s' u w h.holds e p live r in
    record {
      holds = one.holds;
      waits = waits_changed k s s' u w h.waits e (start_keeps p s s' r);
      step = λ l. subst (λ (x : List ℕ). Spoils x (plain_of v) (plain_of w)) (append-nil which) (Spoils_then which [] (plain_of v) (plain_of u) (plain_of w) (h.step l) (one.step (h.loud l)));
      loud = λ l. loud_one k s s' u w e r.same.loud (h.loud l);
      origin = e.origin ∙ h.origin;
      sectors = e.sectors ∙ h.sectors;
      merge = e.merge ∙ h.merge;
      requests = ap (map in_flight) e.requests ∙ h.requests;
    }

-- one snapshot is spoiled
pub prepared_spoil : (which : List ℕ) (k : ℕ) (s s' : SnapBooks) (v u w : Books) → IsPrepared which v u → SpoilsOne k s s' u w → s'.untried ≡ true → s'.loud ≡ s.loud → IsPrepared (which ++ s.number ∷ []) v w
prepared_spoil which k s s' v u w h e untried same =
    let one : IsSpoil (s.number ∷ []) u w = spoil_event k s s' u w h.holds e in
    record {
      holds = one.holds;
      waits = waits_spoiled k s s' u w h.waits e untried;
      step = λ l. Spoils_then which (s.number ∷ []) (plain_of v) (plain_of u) (plain_of w) (h.step l) (one.step (h.loud l));
      loud = λ l. loud_spoiled k s s' u w e same (h.loud l);
      origin = e.origin ∙ h.origin;
      sectors = e.sectors ∙ h.sectors;
      merge = e.merge ∙ h.merge;
      requests = ap (map in_flight) e.requests ∙ refused_in_flight (s.number ∷ []) u.requests ∙ h.requests;
    }

-- of the first snapshots none is asked for
pub saving_none : (c : ℕ) (snaps : List SnapBooks) → AreSaving c 0 snaps
saving_none c snaps = record { each = λ j d lt. absurd (omega (arith, lt)) }

-- the next is spoiled already, or has the chunk or a copy of it
pub saving_here : (c k : ℕ) (s : SnapBooks) (snaps : List SnapBooks) → AreSaving c k snaps → k < length snaps → s ≡ get_or snaps k s → (s.live ≡ true → IsSaving c s) → AreSaving c (k + 1) snaps
saving_here c k s snaps h within is here = record {
  each = λ j d lt live. elim (cases_eq j k) [
    | inl same ↦ (let at : s ≡ get_or snaps j d = is ∙ ap (λ i. get_or snaps i s) (sym same) ∙ get_or_default snaps j s d (omega (arith, within, same)) in
        subst (λ (x : SnapBooks). x.live ≡ true → IsSaving c x) at here live)
    | inr other ↦ h.each j d (omega (arith, lt, other)) live
  ];
}

-- the next becomes another
pub saving_set : (c k : ℕ) (s s' : SnapBooks) (snaps : List SnapBooks) → AreSaving c k snaps → k < length snaps → (s'.live ≡ true → IsSaving c s') → AreSaving c (k + 1) (set snaps k s')
saving_set c k s s' snaps h within here = record {
  each = λ j d lt. elim (cases_eq j k) [
    | inl same ↦ subst (λ (x : SnapBooks). x.live ≡ true → IsSaving c x) (sym (ap (λ i. get_or (set snaps k s') i d) same ∙ get_or-set_same snaps k s' d within)) here
    | inr other ↦ subst (λ (x : SnapBooks). x.live ≡ true → IsSaving c x) (sym (get_or-set_other snaps k j s' d other)) (h.each j d (omega (arith, lt, other)))
  ];
}

-- the same, of the chunk that is wanted of each
pub saving_none_at : (at : SnapBooks → ℕ) (snaps : List SnapBooks) → AreSavingAt at 0 snaps
saving_none_at at snaps = record { each = λ j d lt. absurd (omega (arith, lt)) }

pub saving_here_at : (at : SnapBooks → ℕ) (k : ℕ) (s : SnapBooks) (snaps : List SnapBooks) → AreSavingAt at k snaps → k < length snaps → s ≡ get_or snaps k s → (s.live ≡ true → IsSaving (at s) s) → AreSavingAt at (k + 1) snaps
saving_here_at at k s snaps h within is here = record {
  each = λ j d lt live. elim (cases_eq j k) [
    | inl same ↦ (let one : s ≡ get_or snaps j d = is ∙ ap (λ i. get_or snaps i s) (sym same) ∙ get_or_default snaps j s d (omega (arith, within, same)) in
        subst (λ (x : SnapBooks). x.live ≡ true → IsSaving (at x) x) one here live)
    | inr other ↦ h.each j d (omega (arith, lt, other)) live
  ];
}

pub saving_set_at : (at : SnapBooks → ℕ) (k : ℕ) (s' : SnapBooks) (snaps : List SnapBooks) → AreSavingAt at k snaps → k < length snaps → (s'.live ≡ true → IsSaving (at s') s') → AreSavingAt at (k + 1) (set snaps k s')
saving_set_at at k s' snaps h within here = record {
  each = λ j d lt. elim (cases_eq j k) [
    | inl same ↦ subst (λ (x : SnapBooks). x.live ≡ true → IsSaving (at x) x) (sym (ap (λ i. get_or (set snaps k s') i d) same ∙ get_or-set_same snaps k s' d within)) here
    | inr other ↦ subst (λ (x : SnapBooks). x.live ≡ true → IsSaving (at x) x) (sym (get_or-set_other snaps k j s' d other)) (h.each j d (omega (arith, lt, other)))
  ];
}

-- of all snapshots: they are saving the chunk of a request, or the next one of a pair
pub saving_asked : (f : Flight) (snaps : List SnapBooks) → AreSavingAt (λ s. chunk_of s.chunk f) (length snaps) snaps → All (λ s. s.live ≡ true → IsSaving (chunk_of s.chunk f) s) snaps
saving_asked f snaps h k d lt = h.each k d lt

pub saving_soon : (chunk sectors : ℕ) (snaps : List SnapBooks) (q : Pair) → AreSavingAt (next_over (chunk * q.old) (count_of chunk sectors q.old)) (length snaps) snaps → IsSavedSoon chunk sectors snaps q
saving_soon chunk sectors snaps q h k d lt = h.each k d lt

-- a copy that was started is under way
pub saving_started : (c : ℕ) (p : ChunkCopy) (s s' : SnapBooks) → StartsCopy p s s' → p.pair.old ≡ c → IsSaving c s'
saving_started c p s s' r old = inr (subst (Any (λ (x : ChunkCopy). x.pair.old ≡ c)) (sym r.copies)
    (length s.copies, p, omega (arith, length-append s.copies (p ∷ [])), (let e : length s.copies ≡ length s.copies + 0 = omega arith in ap (λ i. get_or (s.copies ++ p ∷ []) i p) e ∙ get_or-append-add s.copies (p ∷ []) 0 p), old))
