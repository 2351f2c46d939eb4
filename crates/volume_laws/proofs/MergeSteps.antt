-- Each event of a merge in a whole volume, in one law: nothing is seen of it, each held request keeps its reason, the merge
-- goes on, and less is left.
use Rattle.std.proofs.Common.{◌≡◌, ℕ, ◌*◌, ◌<◌, ◌≤◌, true, List, [], ◌∷◌, ◌++◌, Some, length, take, refl, sym, ◌∙◌, ap, subst, arith}
use Rattle.std.specs.List.{All}
use Rattle.sector.specs.Bytes.{sectors_at}
use Rattle.sector.specs.declared.pair.Pair.{Pair}
use Rattle.cow_format.specs.Places.{area_place, ChangesOnly}
use Rattle.cow_format.specs.Pairs.{pairs_of}
use Rattle.in_flight.specs.Copies.{count_of}
use Rattle.volume_laws.specs.Books.{SnapBooks, MergeBooks, Books}
use Rattle.volume_laws.specs.Published.{is_clear}
use Rattle.volume_laws.specs.Whole.{Holds, IsLoud}
use Rattle.volume_laws.specs.Steps.{WritesDisk}
use Rattle.volume_laws.specs.Again.{Reroutes}
use Rattle.volume_laws.specs.Accepting.{IsPrepared}
use Rattle.volume_laws.specs.Outcomes.{IsSilent, IsSpoil}
use Rattle.volume_laws.specs.Waits.{Waits}
use Rattle.volume_laws.specs.MergeDue.{DueMerge, left_in_merge, left_beside}
use Rattle.volume_laws.specs.MergeWaits.{next_in, IsSavedSoon, IsSavedIn, MergeGoes}
use Rattle.volume_laws.specs.MergeSteps.{FormsGroup, ReadsBack, WritesBack, FlushesBack, CommitsGroup, ReleasesGroup, ReadsArea, FailsMerge, Resumes, ChangesMerge, without_group}
use Rattle.volume_laws.proofs.Same.{books, same_volume}
use Rattle.volume_laws.proofs.Composing.{silent_is, silent_then, spoil_then, loud_rerouted}
use Rattle.volume_laws.proofs.Rerouting.{reroute}
use Rattle.volume_laws.proofs.MergeEvents.{GoesElsewhere, NoWriteTo}
use Rattle.volume_laws.proofs.WholeMerge.{silent_merge, group_event, read_event, write_event, merge_commit_event, release_event, merge_fault_event}
use Rattle.volume_laws.proofs.MergeLeft.{no_group, group_left, read_left, write_left, flush_left, merge_commit_left, release_left, area_left, fail_left}
use Rattle.volume_laws.proofs.MergeBeside.{beside_same, beside_failed, beside_committed}
use Rattle.volume_laws.proofs.MergeWaiting.{waits_grouped, waits_read, waits_written, waits_flushed, waits_committed, waits_area, waits_released, waits_failed, waits_resumed}
use Rattle.volume_laws.proofs.MergeSaved.{KeepsAll, all_saved_in, goes_steady, steady_all, goes_grouped, goes_written, goes_read, goes_flushed, goes_committed, goes_released, goes_failed, goes_area, goes_resumed}

-- nothing is seen of it, and each held request keeps its reason
pub record IsMergeChange (v w : Books) : Type 0 where
  pub silent : IsSilent v w
  pub waits : Waits w
  pub loud : IsLoud v → IsLoud w

-- and the merge goes on, and less is left
pub record IsMergeStep (v w : Books) (d d' : DueMerge) : Type 0 where
  pub change : IsMergeChange v w
  pub goes : MergeGoes w.snaps d'
  pub less : left_in_merge d' < left_in_merge d
  pub beside : left_beside w.snaps d' ≤ left_beside v.snaps d

-- Copies are started in the other snapshots, and those whose stores are full are spoiled.
pub record StartsCopies (which : List ℕ) (v w : Books) : Type 0 where
  pub spoil : IsSpoil which v w
  pub waits : Waits w
  pub loud : IsLoud v → IsLoud w
  pub keeps : KeepsAll v.snaps w.snaps

-- where they are prepared, and each snapshot keeps what it saves
pub starts_by : (which : List ℕ) (v w : Books) → IsPrepared which v w → KeepsAll v.snaps w.snaps → StartsCopies which v w
starts_by which v w h keeps = record { spoil = record { holds = h.holds; step = h.step }; waits = h.waits; loud = h.loud; keeps = keeps }

-- an event of a merge that starts copies: all that is seen is which snapshots are spoiled
pub record IsMergeStart (which : List ℕ) (v w : Books) (d d' : DueMerge) : Type 0 where
  pub spoil : IsSpoil which v w
  pub waits : Waits w
  pub loud : IsLoud v → IsLoud w
  pub goes : MergeGoes w.snaps d'
  pub less : left_in_merge d' < left_in_merge d
  pub beside : (snaps : List SnapBooks) → left_beside snaps d' ≡ left_beside snaps d

starts_after : (which : List ℕ) (v u w : Books) (d d' : DueMerge) → IsMergeChange v u → StartsCopies which u w → MergeGoes w.snaps d' → left_in_merge d' < left_in_merge d → ((snaps : List SnapBooks) → left_beside snaps d' ≡ left_beside snaps d) → IsMergeStart which v w d d'
starts_after which v u w d d' one starts goes less beside = record {
  spoil = spoil_then [] which v u w (silent_is v u one.silent) starts.spoil one.loud;
  waits = starts.waits;
  loud = λ l. starts.loud (one.loud l);
  goes = goes;
  less = less;
  beside = beside;
}

loud_of : (m m' : MergeBooks) (v w : Books) → ChangesMerge m m' v w → m'.loud ≡ m.loud → IsLoud v → IsLoud w
loud_of m m' v w e same l = record {
  origin = e.loud ∙ l.origin;
  snaps = subst (All (λ (x : SnapBooks). x.loud ≡ true)) (sym e.snaps) l.snaps;
  merge = λ x is. (let at : Some m' ≡ Some x = sym e.merge ∙ is in let one : m' ≡ x = cc in ap (λ (y : MergeBooks). y.loud) (sym one) ∙ same ∙ l.merge m e.was);
}

module _ (v w : Books) (d d' : DueMerge) (h : Holds v) (waiting : Waits v) (goes : MergeGoes v.snaps d) (e : ChangesMerge d.books d'.books v w) where
  abbrev m : MergeBooks
  m = d.books

  -- the volume before, and after, by its parts
  was : v ≡ books v.origin v.sectors v.loud v.snaps (Some d.books) v.requests
  was = same_volume v (books v.origin v.sectors v.loud v.snaps (Some d.books) v.requests) refl refl refl refl e.was refl

  held : Holds (books v.origin v.sectors v.loud v.snaps (Some d.books) v.requests)
  held = subst Holds was h

  silent_as : (o : List ℕ) (n : MergeBooks) → w.origin ≡ o → d'.books ≡ n → IsSilent (books v.origin v.sectors v.loud v.snaps (Some d.books) v.requests) (books o v.sectors v.loud v.snaps (Some n) v.requests) → IsSilent v w
  silent_as o n origin is one =
      let now : w ≡ books o v.sectors v.loud v.snaps (Some n) v.requests = same_volume w (books o v.sectors v.loud v.snaps (Some n) v.requests) origin e.sectors e.loud e.snaps (e.merge ∙ ap Some is) e.requests in
      subst (λ (x : Books). IsSilent x w) (sym was) (subst (IsSilent (books v.origin v.sectors v.loud v.snaps (Some d.books) v.requests)) (sym now) one)

  goes_in : MergeGoes v.snaps d' → MergeGoes w.snaps d'
  goes_in x = subst (λ (y : List SnapBooks). MergeGoes y d') (sym e.snaps) x

  beside_in : left_beside v.snaps d' ≤ left_beside v.snaps d → left_beside w.snaps d' ≤ left_beside v.snaps d
  beside_in le = subst (λ (y : List SnapBooks). left_beside y d' ≤ left_beside v.snaps d) (sym e.snaps) le

  -- where the merge's pairs stay
  beside_stays : (n : MergeBooks) → d'.books ≡ n → n.chunk ≡ d.books.chunk → n.sectors ≡ d.books.sectors → n.pairs ≡ d.books.pairs → d'.failed ≡ d.failed → (snaps : List SnapBooks) → left_beside snaps d' ≡ left_beside snaps d
  beside_stays n is chunk sectors pairs failed snaps = beside_same snaps d d' failed
      (ap (λ (y : MergeBooks). y.chunk) is ∙ chunk) (ap (λ (y : MergeBooks). y.sectors) is ∙ sectors) (ap (λ (y : MergeBooks). y.pairs) is ∙ pairs)

  -- MergeGroup, before the copies of its last chunk are started
  pub group_change : (kept group : List Pair) → FormsGroup kept group d d' → w.origin ≡ v.origin → IsMergeChange v w
  group_change kept group s origin = record {
    silent = silent_as v.origin (record d.books { waiting = group }) origin s.books (group_event v.origin v.sectors v.loud v.snaps d.books v.requests held kept group (no_group d.books s.none) s.ends);
    waits = waits_grouped d d' v w waiting e kept group s;
    loud = loud_of d.books d'.books v w e (ap (λ (x : MergeBooks). x.loud) s.books);
  }

  -- MergeRead
  pub read_step : (rest : List Pair) (q : Pair) (bytes : List ℕ) → ReadsBack rest q bytes d d' → w.origin ≡ v.origin
      → take (512 * count_of m.chunk m.sectors q.old) bytes ≡ sectors_at m.store (m.chunk * q.new) (count_of m.chunk m.sectors q.old) → length bytes ≡ 512 * m.chunk → All (NoWriteTo q.new) v.requests → IsMergeStep v w d d'
  read_step rest q bytes s origin read sized quiet = record {
    change = record {
      silent = silent_as v.origin (record d.books { waiting = rest; reading = q ∷ []; buffer = bytes }) origin s.books
          (read_event v.origin v.sectors v.loud v.snaps d.books v.requests held rest q bytes s.last s.empty read sized quiet);
      waits = waits_read d d' v w waiting e rest q bytes s;
      loud = loud_of d.books d'.books v w e (ap (λ (x : MergeBooks). x.loud) s.books);
    };
    goes = goes_in (goes_read v.snaps rest q bytes d d' s goes);
    less = read_left rest q bytes d d' s;
    beside = beside_in (let same = beside_stays (record d.books { waiting = rest; reading = q ∷ []; buffer = bytes }) s.books refl refl refl (s.failed ∙ sym s.running) v.snaps in omega (arith, same));
  }

  -- MergeWrite, before the copies of the next chunk are started
  pub write_change : (q : Pair) → WritesBack q d d' → WritesDisk (m.chunk * q.old) (count_of m.chunk m.sectors q.old) v.origin w.origin
      → (m.loud ≡ true → sectors_at w.origin (m.chunk * q.old) (count_of m.chunk m.sectors q.old) ≡ take (512 * count_of m.chunk m.sectors q.old) m.buffer)
      → IsSavedIn m.chunk m.sectors v.snaps q → IsMergeChange v w
  write_change q s disk wrote published = record {
    silent = silent_as w.origin (record d.books { reading = []; copied = q ∷ d.books.copied }) refl s.books
        (write_event v.origin v.sectors v.loud v.snaps d.books v.requests held w.origin q s.full disk wrote published);
    waits = waits_written d d' v w waiting e q s;
    loud = loud_of d.books d'.books v w e (ap (λ (x : MergeBooks). x.loud) s.books);
  }

  -- an event that changes none of the merge's books
  same_change : d'.books ≡ d.books → w.origin ≡ v.origin → Waits w → IsMergeChange v w
  same_change same origin waits = record {
    silent = silent_as v.origin d.books origin same (silent_merge v.origin v.sectors v.loud v.snaps d.books d.books v.requests held held.merge refl (λ _. refl));
    waits = waits;
    loud = loud_of d.books d'.books v w e (ap (λ (x : MergeBooks). x.loud) same);
  }

  -- MergeFlush
  pub flush_step : FlushesBack d d' → w.origin ≡ v.origin → IsMergeStep v w d d'
  flush_step s origin = record { change = same_change s.books origin (waits_flushed d d' v w waiting e s); goes = goes_in (goes_flushed v.snaps d d' s goes); less = flush_left d d' s; beside = beside_in (let same = beside_stays d.books s.books refl refl refl (s.failed ∙ sym s.running) v.snaps in omega (arith, same)) }

  -- MergeCommit
  pub commit_step : (kept : List Pair) (a : ℕ) (store : List ℕ) → CommitsGroup kept store d d' → w.origin ≡ v.origin → ChangesOnly m.chunk (area_place m.chunk a) m.store store → (m.loud ≡ true → pairs_of m.chunk store ≡ kept) → IsMergeStep v w d d'
  commit_step kept a store s origin only stored = record {
    change = record {
      silent = silent_as v.origin (record d.books { store = store; pairs = kept; copied = []; released = d.books.copied ++ d.books.released }) origin s.books
          (merge_commit_event v.origin v.sectors v.loud v.snaps d.books v.requests held kept a store s.ends s.all_read s.all_written only stored);
      waits = waits_committed d d' v w waiting e kept store s;
      loud = loud_of d.books d'.books v w e (ap (λ (x : MergeBooks). x.loud) s.books);
    };
    goes = goes_in (goes_committed v.snaps kept store d d' s goes);
    less = merge_commit_left kept store d d' s;
    beside = beside_in (beside_committed v.snaps kept store d d' s);
  }

  -- MergeAreaRead
  pub area_step : ReadsArea d d' → w.origin ≡ v.origin → IsMergeStep v w d d'
  area_step s origin = record { change = same_change s.books origin (waits_area d d' v w waiting e s); goes = goes_in (goes_area v.snaps d d' s goes); less = area_left d d' s; beside = beside_in (let same = beside_stays d.books s.books refl refl refl (s.failed ∙ sym s.running) v.snaps in omega (arith, same)) }

  -- resume_merge
  pub resume_change : Resumes d d' → w.origin ≡ v.origin → IsMergeChange v w × MergeGoes w.snaps d'
  resume_change s origin = (same_change s.books origin (waits_resumed d d' v w waiting s e), goes_in (goes_resumed v.snaps d d' s goes))

  -- what starts copies of the chunk that is copied next, in volume x
  module _ (which : List ℕ) (x : Books) (starts : StartsCopies which w x) (soon : All (IsSavedSoon m.chunk m.sectors x.snaps) (next_in d'.books)) where
    keeps : KeepsAll v.snaps x.snaps
    keeps = subst (λ (y : List SnapBooks). KeepsAll y x.snaps) e.snaps starts.keeps

    -- MergeGroup
    pub group_step : (kept group : List Pair) → FormsGroup kept group d d' → w.origin ≡ v.origin → IsMergeStart which v x d d'
    group_step kept group s origin = starts_after which v w x d d' (group_change kept group s origin) starts
        (goes_grouped x.snaps kept group d d' s (steady_all v.snaps x.snaps d keeps (goes_steady v.snaps d goes)) soon) (group_left kept group d d' s) (beside_stays (record d.books { waiting = group }) s.books refl refl refl (s.failed ∙ sym s.running))

    -- MergeWrite
    pub write_step : (q : Pair) → WritesBack q d d' → WritesDisk (m.chunk * q.old) (count_of m.chunk m.sectors q.old) v.origin w.origin
        → (m.loud ≡ true → sectors_at w.origin (m.chunk * q.old) (count_of m.chunk m.sectors q.old) ≡ take (512 * count_of m.chunk m.sectors q.old) m.buffer)
        → IsSavedIn m.chunk m.sectors v.snaps q → IsMergeStart which v x d d'
    write_step q s disk wrote published = starts_after which v w x d d' (write_change q s disk wrote published) starts
        (goes_written x.snaps q d d' s (steady_all v.snaps x.snaps d keeps (goes_steady v.snaps d goes)) (all_saved_in v.snaps x.snaps d.books.chunk d.books.sectors q keeps published) soon) (write_left q d d' s) (beside_stays (record d.books { reading = []; copied = q ∷ d.books.copied }) s.books refl refl refl (s.failed ∙ sym s.running))

  -- what ends a group: held writes are routed again after it
  module _ (x : Books) (again : Reroutes (is_clear w.snaps) w x) (origin : w.origin ≡ v.origin) where
    ended : IsSilent v w → (IsLoud v → IsLoud w) → Waits x → IsMergeChange v x
    ended one loud waits = record {
      silent = silent_then v w x one (reroute w x one.holds again) loud;
      waits = waits;
      loud = λ l. loud_rerouted (is_clear w.snaps) w x again (loud l);
    }

    goes_after : MergeGoes v.snaps d' → MergeGoes x.snaps d'
    goes_after y = subst (λ (z : List SnapBooks). MergeGoes z d') (sym again.snaps) (goes_in y)

    beside_after : left_beside v.snaps d' ≤ left_beside v.snaps d → left_beside x.snaps d' ≤ left_beside v.snaps d
    beside_after le = subst (λ (y : List SnapBooks). left_beside y d' ≤ left_beside v.snaps d) (sym again.snaps) (beside_in le)

    -- each request begins on the origin
    inside_all : All (λ f. f.request.range.first < d.books.sectors) v.requests
    inside_all k f lt = (let one = h.requests k f lt in let a = h.whole in let b = held.merge.fits in omega (arith, one.some, one.inside, a, b))

    -- MergeRelease
    pub release_step : ReleasesGroup d d' → All (GoesElsewhere m.released) v.requests → IsMergeStep v x d d'
    release_step s elsewhere = record {
      change = ended (silent_as v.origin (without_group d.books) origin s.books (release_event v.origin v.sectors v.loud v.snaps d.books v.requests held elsewhere))
          (loud_of d.books d'.books v w e (ap (λ (y : MergeBooks). y.loud) s.books)) (waits_released d d' v w x waiting goes s e held.merge.text.some inside_all again);
      goes = goes_after (goes_released v.snaps d d' s goes);
      less = release_left d d' goes.staged s;
      beside = beside_after (let same = beside_stays (without_group d.books) s.books refl refl refl (s.failed ∙ sym s.running) v.snaps in omega (arith, same));
    }

    -- a fault
    pub fault_step : FailsMerge d d' → 0 < left_in_merge d → IsMergeStep v x d d'
    fault_step s some = record {
      change = ended (silent_as v.origin (without_group d.books) origin s.books (merge_fault_event v.origin v.sectors v.loud v.snaps d.books v.requests held s.uncommitted))
          (loud_of d.books d'.books v w e (ap (λ (y : MergeBooks). y.loud) s.books)) (waits_failed d d' v w x waiting goes s e again);
      goes = goes_after (goes_failed v.snaps d d' s goes);
      less = fail_left d d' s some;
      beside = beside_after (let none = beside_failed v.snaps d' s.failed in omega (arith, none));
    }
