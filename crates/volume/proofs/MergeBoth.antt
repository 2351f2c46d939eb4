-- What each event of a merge leaves of the snapshots and of the origin's array together.
use Rattle.std.proofs.Common.{◌≡◌, ℕ, zero, suc, ◌*◌, ◌<◌, ◌≤◌, Bool, true, false, List, [], ◌∷◌, Option, Some, None, length, take, get_or, map, replicate, refl, sym, ◌∙◌, ap, subst, arith}
use Rattle.std.specs.Prelude.{◌/◌, ◌-◌, ◌⊎◌, ◌||◌, not}
use Rattle.std.specs.List.{list_all, list_any}
use Rattle.std.proofs.lemmas.Bool.{false≢true}
use Rattle.sector.specs.Bytes.{sector_at, with_part}
use Rattle.sector.specs.declared.pair.Pair.{Pair}
use Rattle.device.specs.Layers.{Layer, is_loud}
use Rattle.cow_format.specs.Picture.{place_of}
use Rattle.in_flight.specs.Copies.{count_of}
use Rattle.in_flight.specs.declared.flights.Flight.{Flight}
use Rattle.crash_laws.specs.Firm.{IsFirm}
use Rattle.crash_laws.specs.Clauses.{Given}
use Rattle.volume_laws.specs.Books.{SnapBooks}
use Rattle.volume_laws.specs.MergeDue.{can_write, is_writable}
use Rattle.volume_laws.specs.MergeSteps.{CommitsGroup, FlushesBack}
use Rattle.volume_laws.specs.Published.{IsSavedOver, is_saved_over, is_clear_over}
use Rattle.volume_laws.proofs.Nexts.{over_saved}
use Rattle.volume_laws.specs.Steps.{WritesDisk}
use Rattle.store.specs.Slots.{slot_start}
use Rattle.snapshot.specs.Kept.{Kept, books_of as snap_books}
use Rattle.merge.specs.declared.group.Group.{Group}
use Rattle.merge.specs.declared.group.Progress.{Progress}
use Rattle.merge.specs.declared.group.Progress.TheVariants.{Open, Full, Flushed, Committed}
use Rattle.merge.specs.Due.{can_commit_of, full_of}
use Rattle.merge.specs.InStep.{IsInStep as IsMergingInStep}
use Rattle.merge.specs.Lists.{copied_count, reading_of}
use Rattle.merge.specs.Merging.{Merging, flushed_of, books_of as merging_books, due_of as merging_due}
use Rattle.merge.specs.Steps.{WritesArea}
use Rattle.snapshot_list.specs.MergeStarting.{IsNextSaved, next_for}
use Rattle.volume.specs.MergeLasting.{MergeLasting, StopsOriginOn}
use Rattle.volume.specs.Lasting.{IsLasting}
use Rattle.volume.specs.Volumed.{Volumed}
use Rattle.volume.specs.Whole.{IsWhole}
use Rattle.volume.proofs.LastOne.{IsSameDevice, IsCalled, same_device}
use Rattle.volume.proofs.LastAll.{GoesAll}
use Rattle.volume.proofs.Lefts.{AllLeft, all_same, all_next}
use Rattle.volume.proofs.Shown.{and_left, and_right}
use Rattle.volume.proofs.LastMoves.{all_left_by, all_disk}
use Rattle.volume.proofs.LastBoth.{GoesBoth}
use Rattle.volume.proofs.OriginLasts.{GoesBy, merging_met, merge_still, merge_written, merge_flushed, merge_committed}

all_at : {X Y : Type 0} (p : Y → Bool) (f : X → Y) (xs : List X) (k : ℕ) (d : X) → k < length xs → list_all p (map f xs) ≡ true → p (f (get_or xs k d)) ≡ true
all_at p f [] k d lt e = absurd (omega arith)
all_at p f (x ∷ xs) zero d lt e = and_left (p (f x)) (list_all p (map f xs)) e
all_at p f (x ∷ xs) (suc k) d lt e = all_at p f xs k d (omega arith) (and_right (p (f x)) (list_all p (map f xs)) e)

neither : (a b : Bool) → not (a || b) ≡ true → (a ≡ false) × (not b ≡ true)
neither true b e = absurd (false≢true e)
neither false b e = (refl, e)

none_at : {X Y : Type 0} (p : Y → Bool) (f : X → Y) (xs : List X) (k : ℕ) (d : X) → k < length xs → not (list_any p (map f xs)) ≡ true → p (f (get_or xs k d)) ≡ false
none_at p f [] k d lt e = absurd (omega arith)
none_at p f (x ∷ xs) zero d lt e = (neither (p (f x)) (list_any p (map f xs)) e).0
none_at p f (x ∷ xs) (suc k) d lt e = none_at p f xs k d (omega arith) (neither (p (f x)) (list_any p (map f xs)) e).1

-- the pair whose chunk is in the buffer is the one that is read
pub full_reading : (group : Option Group) (q : Pair) → full_of group ≡ Some q → reading_of group ≡ q ∷ []
full_reading None q e = absurd (cc)
full_reading (Some g) q e = by g.progress e
  where
    by : (p : Progress) → full_of (Some (record g { progress = p })) ≡ Some q → reading_of (Some (record g { progress = p })) ≡ q ∷ []
    by Open e = absurd (cc)
    by Full e = cc
    by Flushed e = absurd (cc)
    by Committed e = absurd (cc)

pub count_few : (chunk sectors old : ℕ) → count_of chunk sectors old ≤ chunk
count_few chunk sectors old = omega arith

-- copies that a merge starts leave all that lasts of snapshots
pub next_left : {B : Type 0} (contents : B → List ℕ) (layers : B → List Layer) (chunk sectors : ℕ) (o : Option Pair) (ss ts : List (Kept B)) (n m : ℕ) (fs gs : List Flight) → IsNextSaved contents layers chunk sectors o ss ts n m fs gs → AllLeft ss ts
next_left contents layers chunk sectors None ss ts n m fs gs saved = all_same ss ts saved.0
next_left contents layers chunk sectors (Some q) ss ts n m fs gs saved = all_next contents layers (next_for chunk sectors q) ss ts n m fs gs saved

module _ {B : Type 0} (holds : B → ℕ → List ℕ → Type 0) (contents : B → List ℕ) (layers : B → List Layer) (size : B → ℕ) (whole : (d : B) → length (contents d) ≡ 512 * size d) (here : (d : B) (s : ℕ) → s < size d → holds d s (sector_at (contents d) s))
    (v : Volumed B) (h : IsWhole contents layers size v) (l : IsLasting holds contents layers size v) (w : Volumed B) (m' : Merging B) (is : w.merge ≡ Some m') where
  both : (given : Option Given) → GoesAll holds contents layers size whole here given v w → GoesBy holds contents layers size whole here given v.origin w.origin v.merge (Some m') → GoesBoth holds contents layers size whole here given v w
  both given a b = record {
    lasts = a.lasts;
    merge = subst (MergeLasting holds contents layers size w.origin) (sym is) b.lasts;
    stops_snaps = a.stops;
    stops_origin = subst (StopsOriginOn holds layers size given v.origin w.origin v.merge) (sym is) b.stops;
  }

  -- the origin's device is as it was
  same_origin : w.origin ≡ v.origin → IsSameDevice holds contents layers size v.origin w.origin
  same_origin o = subst (IsSameDevice holds contents layers size v.origin) (sym o) (same_device holds contents layers size whole here v.origin)

  module _ (m : Merging B) (was : v.merge ≡ Some m) (left : AllLeft v.snaps w.snaps) where
    -- MergeGroup, MergeAreaRead, MergeRead, MergeRelease, and each fault
    pub still_both : IsSameDevice holds contents layers size v.origin w.origin → IsSameDevice holds contents layers size m.device m'.device → m'.state.chunk ≡ m.state.chunk → m'.pairs ≡ m.pairs → flushed_of m'.group ≡ false → GoesBoth holds contents layers size whole here None v w
    still_both disk store chunk pairs unflushed = both None (all_left_by holds contents layers size whole here v h l.snaps None w disk left) (merge_still holds contents layers size whole here v h l.merge m was w.origin m' disk store chunk pairs unflushed)

    -- a fault of the merging store, and one of the origin's device
    pub fault_both : (m1 : Merging B) → w.origin ≡ v.origin → IsSameDevice holds contents layers size m.device m1.device → m1 ≡ record m { device = m1.device } → m' ≡ record m1 { group = None; failed = true } → GoesBoth holds contents layers size whole here None v w
    fault_both m1 o store kept fails = still_both (same_origin o) (subst (IsSameDevice holds contents layers size m.device) (sym (ap (λ x. x.device) fails)) store) (ap (λ x. x.state.chunk) fails ∙ ap (λ x. x.state.chunk) kept) (ap (λ x. x.pairs) fails ∙ ap (λ x. x.pairs) kept)
        (ap (λ x. flushed_of x.group) fails)

    pub disk_fault_both : (m1 : Merging B) → IsSameDevice holds contents layers size v.origin w.origin → m1 ≡ m → m' ≡ record m1 { group = None; failed = true } → GoesBoth holds contents layers size whole here None v w
    disk_fault_both m1 disk kept fails = still_both disk (subst (IsSameDevice holds contents layers size m.device) (sym (ap (λ x. x.device) fails ∙ ap (λ x. x.device) kept)) (same_device holds contents layers size whole here m.device))
        (ap (λ x. x.state.chunk) fails ∙ ap (λ x. x.state.chunk) kept) (ap (λ x. x.pairs) fails ∙ ap (λ x. x.pairs) kept) (ap (λ x. flushed_of x.group) fails)

    -- a request that the merging store answers, or its flush
    pub met_both : (given : Option Given) → w.origin ≡ v.origin → IsSameDevice holds contents layers size m.device m'.device → m' ≡ record m { device = m'.device } → GoesBoth holds contents layers size whole here given v w
    met_both given o store fields = both given (all_left_by holds contents layers size whole here v h l.snaps given w (same_origin o) left)
        (subst (λ z. GoesBy holds contents layers size whole here given v.origin z v.merge (Some m')) (sym o) (merging_met holds contents layers size whole here v h l.merge m was given m' store fields))

    -- and a write at a place of it, by what that leaves of the origin's array
    pub placed_both : (given : Option Given) → w.origin ≡ v.origin → GoesBy holds contents layers size whole here given v.origin v.origin v.merge (Some m') → GoesBoth holds contents layers size whole here given v w
    placed_both given o goes = both given (all_left_by holds contents layers size whole here v h l.snaps given w (same_origin o) left) (subst (λ z. GoesBy holds contents layers size whole here given v.origin z v.merge (Some m')) (sym o) goes)

    -- MergeFlush
    pub flushed_both : IsSameDevice holds contents layers size v.origin w.origin → (is_loud (layers v.origin) ≡ true → IsFirm (holds w.origin) (contents w.origin) (size w.origin)) → m'.device ≡ m.device → FlushesBack (merging_due contents true m) (merging_due contents true m')
        → GoesBoth holds contents layers size whole here None v w
    flushed_both disk firm device step = both None (all_left_by holds contents layers size whole here v h l.snaps None w disk left)
        (merge_flushed holds contents layers size whole here v h l.merge m was w.origin m' disk firm device (ap (λ x. x.chunk) step.books) (ap (λ x. x.pairs) step.books) (ap (λ x. x.copied) step.books) step.flushed)

    -- MergeWrite
    pub written_both : (q : Pair) → IsCalled holds contents layers size v.origin w.origin → reading_of m.group ≡ q ∷ [] → (is_loud (layers v.origin) ≡ true → WritesDisk (m.state.chunk * q.old) (count_of m.state.chunk m.state.origin q.old) (contents v.origin) (contents w.origin))
        → count_of m.state.chunk m.state.origin q.old ≤ m.state.chunk → m'.device ≡ m.device → m'.state.chunk ≡ m.state.chunk → m'.pairs ≡ m.pairs → flushed_of m'.group ≡ false
        → ((k : ℕ) (s : Kept B) → k < length v.snaps → s ≡ get_or v.snaps k s → (s.live ≡ true) ⊎ (s.untried ≡ true) → (x : ℕ) → x < size v.origin → place_of (take s.state.sure s.pairs) (x / s.state.chunk) ≡ None → sector_at (contents w.origin) x ≡ sector_at (contents v.origin) x)
        → GoesBoth holds contents layers size whole here None v w
    written_both q disk reading back few device chunk pairs unflushed beside = both None (all_disk holds contents layers size whole here v h l.snaps None w disk left beside)
        (merge_written holds contents layers size whole here v h l.merge m was q w.origin m' reading disk back few device chunk pairs unflushed)

    -- where that may be written, each live snapshot has published what the chunk touches, and no mark is untried
    pub saved_both : (q : Pair) → reading_of m.group ≡ q ∷ [] → can_write (map (snap_books contents layers) v.snaps) (merging_books contents true m) ≡ true
        → (k : ℕ) (s : Kept B) → k < length v.snaps → s ≡ get_or v.snaps k s → IsSavedOver (m.state.chunk * q.old) (count_of m.state.chunk m.state.origin q.old) (snap_books contents layers s) × (s.untried ≡ false)
    saved_both q reading can k s within at =
        let clear : is_clear_over (map (snap_books contents layers) v.snaps) (m.state.chunk * q.old) (count_of m.state.chunk m.state.origin q.old) ≡ true = sym (ap (is_writable (map (snap_books contents layers) v.snaps) m.state.chunk m.state.origin) reading) ∙ can in
        let all = and_left (list_all (is_saved_over (m.state.chunk * q.old) (count_of m.state.chunk m.state.origin q.old)) (map (snap_books contents layers) v.snaps)) (not (list_any (λ (b : SnapBooks). b.untried) (map (snap_books contents layers) v.snaps))) clear in
        let none = and_right (list_all (is_saved_over (m.state.chunk * q.old) (count_of m.state.chunk m.state.origin q.old)) (map (snap_books contents layers) v.snaps)) (not (list_any (λ (b : SnapBooks). b.untried) (map (snap_books contents layers) v.snaps))) clear in
        let some : 0 < s.state.chunk = subst (λ (x : Kept B). 0 < x.state.chunk) (sym at) (h.snaps k s within).some in
        let one : is_saved_over (m.state.chunk * q.old) (count_of m.state.chunk m.state.origin q.old) (snap_books contents layers s) ≡ true =
        ap (λ x. is_saved_over (m.state.chunk * q.old) (count_of m.state.chunk m.state.origin q.old) (snap_books contents layers x)) at ∙ all_at (is_saved_over (m.state.chunk * q.old) (count_of m.state.chunk m.state.origin q.old)) (snap_books contents layers) v.snaps k s within all in (
          over_saved (m.state.chunk * q.old) (count_of m.state.chunk m.state.origin q.old) (snap_books contents layers s) (λ _. some) one,
          ap (λ (x : Kept B). x.untried) at ∙ none_at (λ (b : SnapBooks). b.untried) (snap_books contents layers) v.snaps k s within none,
        )

    -- MergeCommit
    pub committed_both : w.origin ≡ v.origin → IsCalled holds contents layers size m.device m'.device → can_commit_of m.group ≡ true → IsMergingInStep contents layers size m
        → ((loud : Bool) → (loud ≡ true → is_loud (layers m.device) ≡ true) → CommitsGroup m'.pairs (contents m'.device) (merging_due contents loud m) (merging_due contents loud m') × WritesArea m.state.current (merging_books contents loud m) (merging_books contents loud m'))
        → (is_loud (layers m.device) ≡ true → contents m'.device ≡ with_part (contents m.device) (slot_start m.state.chunk m.state.current (m.state.filled - copied_count m.group)) (replicate (16 * copied_count m.group) 0))
        → GoesBoth holds contents layers size whole here None v w
    committed_both o store can step commits written = both None (all_left_by holds contents layers size whole here v h l.snaps None w (same_origin o) left)
        (subst (λ z. GoesBy holds contents layers size whole here None v.origin z v.merge (Some m')) (sym o) (merge_committed holds contents layers size whole here v h l.merge m was m' store can step commits written))
