-- Each held request keeps its reason, over each event.
use Rattle.std.proofs.Common.{◌≡◌, ◌≢◌, inl, inr, ℕ, zero, suc, ◌<◌, Bool, true, false, List, [], ◌∷◌, Option, length, get_or, set, refl, sym, ◌∙◌, ap, subst, arith}
use Rattle.std.specs.Prelude.{◌&&◌, ◌||◌, not, AllPairs, Any}
use Rattle.std.specs.List.{All, remove, list_any, list_all}
use Rattle.std.proofs.lemmas.Bool.{cases_eq}
use Rattle.std.proofs.lemmas.List.{get_or-set_same, get_or-set_other, length-set, get_or_default}
use Rattle.std.proofs.lemmas.List.Elements.{All-set, All-weaker, All-push, All-nil}
use Rattle.std.proofs.lemmas.List.Quantifiers.{all_pairs_push, all_pairs_remove}
use Rattle.in_flight.specs.declared.flights.Flight.{Flight}
use Rattle.volume_laws.specs.Books.{SnapBooks, MergeBooks, Books}
use Rattle.volume_laws.specs.Published.{chunk_of, is_saved, is_clear}
use Rattle.volume_laws.specs.Steps.{ChangesSnap, Accepts}
use Rattle.volume_laws.specs.Waits.{IsSaving, IsCopying, WaitsFor, WaitsHolds, Waits}
use Rattle.volume_laws.proofs.Lists.{All-remove}

-- What an event of a live snapshot must keep for the requests that wait: it publishes no chunk, and loses no copy but by
-- committing it.
pub record KeepsWaiting (s s' : SnapBooks) : Type 0 where
  pub number : s'.number ≡ s.number
  pub live : s'.live ≡ s.live
  pub untried : s'.untried ≡ s.untried
  pub chunk : s'.chunk ≡ s.chunk
  pub unsaved : (first : ℕ) → is_saved first s ≡ false → is_saved first s' ≡ false
  pub saving : (c : ℕ) → IsSaving c s → IsSaving c s'
  pub copying : (c : ℕ) → IsCopying c s → IsCopying c s'

and_false : (a b a' b' : Bool) → (a ≡ false → a' ≡ false) → (b ≡ false → b' ≡ false) → (a && b) ≡ false → (a' && b') ≡ false
and_false true b a' b' f g e = rw (g e) (false_right a')
  where
    false_right : (a : Bool) → (a && false) ≡ false
    false_right true = refl
    false_right false = refl
and_false false b a' b' f g e = rw (f refl) refl

-- a test of all that fails still, and a test of some that passes as before
all_unsaved : (first : ℕ) (snaps : List SnapBooks) (k : ℕ) (s s' : SnapBooks) → k < length snaps → s ≡ get_or snaps k s → (is_saved first s ≡ false → is_saved first s' ≡ false) → list_all (is_saved first) snaps ≡ false → list_all (is_saved first) (set snaps k s') ≡ false
all_unsaved first [] k s s' within is keeps e = e
all_unsaved first (x ∷ xs) zero s s' within is keeps e = and_false (is_saved first x) (list_all (is_saved first) xs) (is_saved first s') (list_all (is_saved first) xs) (λ h. keeps (ap (is_saved first) is ∙ h)) (λ h. h) e
all_unsaved first (x ∷ xs) (suc k) s s' within is keeps e =
    and_false (is_saved first x) (list_all (is_saved first) xs) (is_saved first x) (list_all (is_saved first) (set xs k s')) (λ h. h) (all_unsaved first xs k s s' (omega (arith, within)) is keeps) e

same_untried : (snaps : List SnapBooks) (k : ℕ) (s s' : SnapBooks) → k < length snaps → s ≡ get_or snaps k s → s'.untried ≡ s.untried → list_any (λ v. v.untried) (set snaps k s') ≡ list_any (λ v. v.untried) snaps
same_untried [] k s s' within is same = refl
same_untried (x ∷ xs) zero s s' within is same = ap (λ b. b || list_any (λ v. v.untried) xs) (same ∙ ap (λ (y : SnapBooks). y.untried) is)
same_untried (x ∷ xs) (suc k) s s' within is same = ap (λ b. x.untried || b) (same_untried xs k s s' (omega (arith, within)) is same)

unclear_one : (first : ℕ) (snaps : List SnapBooks) (k : ℕ) (s s' : SnapBooks) → k < length snaps → s ≡ get_or snaps k s → KeepsWaiting s s' → is_clear snaps first ≡ false → is_clear (set snaps k s') first ≡ false
unclear_one first snaps k s s' within is keeps e =
    and_false (list_all (is_saved first) snaps) (not (list_any (λ v. v.untried) snaps)) (list_all (is_saved first) (set snaps k s')) (not (list_any (λ v. v.untried) (set snaps k s')))
    (all_unsaved first snaps k s s' within is (keeps.unsaved first)) (λ h. ap not (same_untried snaps k s s' within is keeps.untried) ∙ h) e

-- something that one snapshot has
any_one : (P : SnapBooks → Type 0) (snaps : List SnapBooks) (k : ℕ) (s s' : SnapBooks) → k < length snaps → s ≡ get_or snaps k s → (P s → P s') → Any P snaps → Any P (set snaps k s')
any_one P snaps k s s' within is keeps (j, x, lt, x_is, holds) = elim (cases_eq j k) [
  | inl same ↦ (let at : x ≡ s = sym x_is ∙ ap (λ i. get_or snaps i x) same ∙ get_or_default snaps k x s within ∙ sym is in
      (k, s', omega (arith, within, length-set snaps k s'), get_or-set_same snaps k s' s' within, keeps (subst P at holds)))
  | inr other ↦ (j, x, omega (arith, lt, length-set snaps k s'), get_or-set_other snaps k j s' x other ∙ x_is, holds)
]

waits_one : (merge : Option MergeBooks) (snaps : List SnapBooks) (k : ℕ) (s s' : SnapBooks) (f : Flight) → k < length snaps → s ≡ get_or snaps k s → KeepsWaiting s s' → WaitsHolds merge snaps f → WaitsHolds merge (set snaps k s') f
waits_one merge snaps k s s' f within is keeps h = record {
  origin_read = h.origin_read;
  snap_read = h.snap_read;
  origin_write = λ kind held free. unclear_one f.request.range.first snaps k s s' within is keeps (h.origin_write kind held free);
  saving = λ kind held free. All-set (λ v. v.live ≡ true → IsSaving (chunk_of v.chunk f) v) snaps k s'
      (λ live. (let old : IsSaving (chunk_of s.chunk f) s = subst (λ (v : SnapBooks). v.live ≡ true → IsSaving (chunk_of v.chunk f) v) (sym is) (h.saving kind held free k s within) (sym keeps.live ∙ live) in
      subst (λ c. IsSaving (chunk_of c f) s') (sym keeps.chunk) (keeps.saving (chunk_of s.chunk f) old)))
      (h.saving kind held free);
  snap_write = λ n kind held. any_one (WaitsFor n f) snaps k s s' within is
      (λ w. record { mine = keeps.number ∙ w.mine; live = keeps.live ∙ w.live; copying = subst (λ c. IsCopying (chunk_of c f) s') (sym keeps.chunk) (keeps.copying (chunk_of s.chunk f) w.copying) }) (h.snap_write n kind held);
  read_goes = h.read_goes;
  write_goes = h.write_goes;
  read_attached = λ n kind. any_one (λ v. v.number ≡ n) snaps k s s' within is (λ e. keeps.number ∙ e) (h.read_attached n kind);
  write_attached = λ n kind. any_one (λ v. v.number ≡ n) snaps k s s' within is (λ e. keeps.number ∙ e) (h.write_attached n kind);
  origin_flush = h.origin_flush;
  snap_flush = h.snap_flush;
  flush_goes = h.flush_goes;
  flush_attached = λ n kind. any_one (λ v. v.number ≡ n) snaps k s s' within is (λ e. keeps.number ∙ e) (h.flush_attached n kind);
}

-- of a whole volume, whose other fields stay
pub waits_changed : (k : ℕ) (s s' : SnapBooks) (v w : Books) → Waits v → ChangesSnap k s s' v w → KeepsWaiting s s' → Waits w
waits_changed k s s' v w h e keeps = record {
  numbers = subst (AllPairs (λ (f g : Flight). f.number ≢ g.number)) (sym e.requests) h.numbers;
  held = subst (λ (snaps : List SnapBooks). All (WaitsHolds w.merge snaps) w.requests) (sym e.snaps)
      (subst (λ m. All (WaitsHolds m (set v.snaps k s')) w.requests) (sym e.merge)
      (subst (All (WaitsHolds v.merge (set v.snaps k s'))) (sym e.requests)
      (All-weaker (WaitsHolds v.merge v.snaps) (WaitsHolds v.merge (set v.snaps k s')) (λ f. waits_one v.merge v.snaps k s s' f e.within e.was keeps) v.requests h.held)));
}

-- a request more, under a new number
pub waits_accepted : (f : Flight) (v w : Books) → Waits v → Accepts f v w → All (λ (g : Flight). g.number ≢ f.number) v.requests → WaitsHolds v.merge v.snaps f → Waits w
waits_accepted f v w h e fresh one = record {
  numbers = subst (AllPairs (λ (x y : Flight). x.number ≢ y.number)) (sym e.requests) (all_pairs_push (λ (x y : Flight). x.number ≢ y.number) v.requests f h.numbers fresh);
  held = subst (λ (snaps : List SnapBooks). All (WaitsHolds w.merge snaps) w.requests) (sym e.snaps)
      (subst (λ m. All (WaitsHolds m v.snaps) w.requests) (sym e.merge)
      (subst (All (WaitsHolds v.merge v.snaps)) (sym e.requests) (All-push (WaitsHolds v.merge v.snaps) v.requests f h.held one)));
}

-- a request fewer
pub waits_out : (k : ℕ) (v w : Books) → Waits v → k < length v.requests → w.requests ≡ remove v.requests k → w.snaps ≡ v.snaps → w.merge ≡ v.merge → Waits w
waits_out k v w h within requests snaps merge = record {
  numbers = subst (AllPairs (λ (f g : Flight). f.number ≢ g.number)) (sym requests) (all_pairs_remove (λ (f g : Flight). f.number ≢ g.number) v.requests k within h.numbers);
  held = subst (λ (x : List SnapBooks). All (WaitsHolds w.merge x) w.requests) (sym snaps)
      (subst (λ m. All (WaitsHolds m v.snaps) w.requests) (sym merge)
      (subst (All (WaitsHolds v.merge v.snaps)) (sym requests) (All-remove (WaitsHolds v.merge v.snaps) v.requests k h.held)));
}

-- without a request nothing waits
pub waits_none : (v : Books) → v.requests ≡ [] → Waits v
waits_none v none = record {
  numbers = subst (AllPairs (λ (f g : Flight). f.number ≢ g.number)) (sym none) (λ i j d lt within. absurd (omega (arith, within)));
  held = subst (All (WaitsHolds v.merge v.snaps)) (sym none) (All-nil (WaitsHolds v.merge v.snaps));
}
