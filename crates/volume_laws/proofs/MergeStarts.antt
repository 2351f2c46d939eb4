-- Copies are started for a merge, in one snapshot after another: what is left of a volume in between, and at the end.
use Rattle.std.proofs.Common.{◌≡◌, ℕ, ◌+◌, ◌*◌, ◌<◌, true, List, [], ◌∷◌, ◌++◌, length, get_or, sym, ◌∙◌, subst}
use Rattle.std.proofs.lemmas.Bool.{false≢true}
use Rattle.sector.specs.declared.pair.Pair.{Pair}
use Rattle.in_flight.specs.Copies.{count_of}
use Rattle.in_flight.specs.declared.copies.ChunkCopy.{ChunkCopy}
use Rattle.volume_laws.specs.Books.{SnapBooks, Books}
use Rattle.volume_laws.specs.Whole.{Holds}
use Rattle.volume_laws.specs.Published.{next_over}
use Rattle.volume_laws.specs.Steps.{ChangesSnap, StartsCopy, SpoilsOne}
use Rattle.volume_laws.specs.Waits.{Waits, IsSaving}
use Rattle.volume_laws.specs.MergeDue.{DueMerge}
use Rattle.volume_laws.specs.MergeWaits.{IsSavedSoon, MergeSteady}
use Rattle.volume_laws.specs.Accepting.{IsPrepared, AreSavingAt}
use Rattle.volume_laws.proofs.Preparing.{prepared_none, prepared_start, prepared_spoil, saving_none_at, saving_here_at, saving_set_at, saving_started, saving_soon}
use Rattle.volume_laws.proofs.MergeSaved.{KeepsAll, keeps_all_same, keeps_all_both, keeps_changed, keeps_spoiled, next_still, start_saved, start_next, steady_all}
use Rattle.volume_laws.proofs.MergeSteps.{StartsCopies, starts_by}

-- in the first snapshots the copies of the chunks that are wanted of them are started, and these were spoiled
pub record AreStarting (at : SnapBooks → ℕ) (i : ℕ) (which : List ℕ) (v w : Books) : Type 0 where
  pub prepared : IsPrepared which v w
  pub keeps : KeepsAll v.snaps w.snaps
  pub saving : AreSavingAt at i w.snaps

pub starting_none : (at : SnapBooks → ℕ) (v : Books) → Holds v → Waits v → AreStarting at 0 [] v v
starting_none at v h w = record { prepared = prepared_none v h w; keeps = keeps_all_same v.snaps; saving = saving_none_at at v.snaps }

-- the next snapshot starts a copy, and the same chunk is wanted of it after that
pub starting_start : (at : SnapBooks → ℕ) (k : ℕ) (which : List ℕ) (p : ChunkCopy) (s s' : SnapBooks) (v u w : Books) → AreStarting at k which v u → ChangesSnap k s s' u w → StartsCopy p s s' → s.live ≡ true → p.pair.old ≡ at s → at s' ≡ at s → AreStarting at (k + 1) which v w
starting_start at k which p s s' v u w h e r live old same = record {
  prepared = prepared_start which k p s s' v u w h.prepared e r live;
  keeps = keeps_all_both v.snaps u.snaps w.snaps h.keeps (keeps_changed k s s' u w e (start_saved p s s' r));
  saving = subst (AreSavingAt at (k + 1)) (sym e.snaps) (saving_set_at at k s' u.snaps h.saving e.within (λ _. saving_started (at s') p s s' r (old ∙ sym same)));
}

-- so it is of the first chunk that is not published, and of the chunk at a sector
pub start_next_same : (first count : ℕ) (p : ChunkCopy) (s s' : SnapBooks) → StartsCopy p s s' → s.live ≡ true → next_over first count s' ≡ next_over first count s
start_next_same first count p s s' r live = next_still first count s s' (start_next p s s' r) (r.same.live ∙ live)

-- it is full, and is spoiled
pub starting_spoil : (at : SnapBooks → ℕ) (k : ℕ) (which : List ℕ) (s s' : SnapBooks) (v u w : Books) → AreStarting at k which v u → SpoilsOne k s s' u w → s'.untried ≡ true → s'.loud ≡ s.loud → AreStarting at (k + 1) (which ++ s.number ∷ []) v w
starting_spoil at k which s s' v u w h e untried loud = record {
  prepared = prepared_spoil which k s s' v u w h.prepared e untried loud;
  keeps = keeps_all_both v.snaps u.snaps w.snaps h.keeps (keeps_spoiled k s s' u w e);
  saving = subst (AreSavingAt at (k + 1)) (sym e.snaps) (saving_set_at at k s' u.snaps h.saving e.within (λ live. absurd (false≢true (sym e.spoils.live ∙ live))));
}

-- it is spoiled already, or has the chunk or a copy of it
pub starting_here : (at : SnapBooks → ℕ) (k : ℕ) (which : List ℕ) (s : SnapBooks) (v u : Books) → AreStarting at k which v u → k < length u.snaps → s ≡ get_or u.snaps k s → (s.live ≡ true → IsSaving (at s) s) → AreStarting at (k + 1) which v u
starting_here at k which s v u h within is here = record { prepared = h.prepared; keeps = h.keeps; saving = saving_here_at at k s u.snaps h.saving within is here }

-- in between the merge is steady
pub starting_steady : (at : SnapBooks → ℕ) (i : ℕ) (which : List ℕ) (v w : Books) (d : DueMerge) → AreStarting at i which v w → MergeSteady v.snaps d → MergeSteady w.snaps d
starting_steady at i which v w d h steady = steady_all v.snaps w.snaps d h.keeps steady

-- and at the end each live snapshot saves the first chunk that it has not published, of those that the pair's chunk touches
pub starting_done : (which : List ℕ) (v w : Books) (chunk sectors : ℕ) (q : Pair) → AreStarting (next_over (chunk * q.old) (count_of chunk sectors q.old)) (length w.snaps) which v w → StartsCopies which v w × IsSavedSoon chunk sectors w.snaps q
starting_done which v w chunk sectors q h = (starts_by which v w h.prepared h.keeps, saving_soon chunk sectors w.snaps q h.saving)
