-- The events of snapshots and requests leave the present group of a merge as it is, and are none of the merge.
use Rattle.std.proofs.Common.{◌≡◌, ℕ, Bool, true, false, List, [], ◌∷◌, ◌++◌, Option, Some, None, refl, sym, ◌∙◌, ap}
use Rattle.std.specs.Prelude.{◌==◌, not, if◌then◌else◌}
use Rattle.std.proofs.lemmas.Bool.{true≢false}
use Rattle.sector.specs.declared.pair.Pair.{Pair}
use Rattle.device.specs.Layers.{Layer}
use Rattle.plain_machine.specs.declared.event.Event.{Event}
use Rattle.plain_machine.specs.declared.event.Event.TheVariants.{Issue, CopyRead, CopyWrite, ZeroNext, WriteArea, Publish, WriteInvalid, FlushStore, MergeGroup, MergeAreaRead, MergeRead, MergeWrite, MergeFlush, MergeCommit, MergeRelease}
use Rattle.plain_machine.specs.declared.request.Dev.{Dev}
use Rattle.plain_machine.specs.declared.request.Dev.TheVariants.{Origin as ToOrigin, Snap as ToSnap}
use Rattle.plain_machine.specs.declared.request.Op.{Op}
use Rattle.plain_machine.specs.declared.request.Op.TheVariants.{Read as ReadOp, Write as WriteOp, Flush as FlushOp}
use Rattle.in_flight.specs.declared.copies.Stage.{Stage}
use Rattle.in_flight.specs.declared.copies.Stage.TheVariants.{Waiting, Read}
use Rattle.in_flight.specs.declared.flights.Route.{Route}
use Rattle.in_flight.specs.declared.flights.Route.TheVariants.{Held as Waits, Origin, Store, Whole, Refused}
use Rattle.volume_laws.specs.MergeDue.{has_group, is_none, next_pair, one_of, due_or}
use Rattle.whole_commands.specs.Devices.{answers, sectors_of}
use Rattle.whole_commands.specs.Saving.{lacks_area}
use Rattle.event_machine.specs.Held.{Copying, SnapHeld, Going, MergeHeld, Moving, group_in}
use Rattle.event_machine.specs.Due.{due, batch_of}
use Rattle.event_machine.specs.MergeDue.{merge_due, due_all, next_of, can_group, can_read_area, can_read, can_write, can_flush, can_commit_group, can_release}
use Rattle.event_machine.specs.MergeSeen.{held_in}
use Rattle.event_machine.specs.MergeStepping.{start_next, start_waiting, stepped_all}
use Rattle.event_machine.specs.Stepping.{for_some, first_that, publishes, zero_next, flush_store, read_copy, write_copy, commit, publish, mark_invalid, on_disk, on_store, on_merging, on_place, on_whole, flush_asked, flush_merging, issue, on_copy, on_snap, stepped}
use Rattle.merge.specs.Due.{has_group_of}
use Rattle.merge.specs.Merging.{Merging, books_of as merging_books}
use Rattle.merge.specs.declared.group.Group.{Group}
use Rattle.volume.specs.EventKinds.{is_of_merge}
use Rattle.volume.specs.Leaving.{has_group_in}
use Rattle.volume.specs.Moved.{merge_seen}
use Rattle.volume.proofs.Quieted.{no_group}
use Rattle.counted_volume.specs.Following.{grouped}

module _ (ps : List Pair) where
  abbrev Keeps : Moving → Type 0
  Keeps v = grouped v.merge ≡ ps

  some_keeps : {X : Type 0} (o : Option X) (f : X → Moving) (v : Moving) → Keeps v → ((x : X) → Keeps (f x)) → Keeps (for_some o f v)
  some_keeps None f v stays does = stays
  some_keeps (Some x) f v stays does = does x

  if_keeps : (b : Bool) (v w : Moving) → Keeps v → Keeps w → Keeps (if b then v else w)
  if_keeps true v w here there = here
  if_keeps false v w here there = there

  merge_keeps : (o : Option MergeHeld) (f : MergeHeld → Moving) (v : Moving) → grouped o ≡ ps → Keeps v → ((m : MergeHeld) → group_in m ≡ ps → Keeps (f m)) → Keeps (for_some o f v)
  merge_keeps None f v is stays does = stays
  merge_keeps (Some m) f v is stays does = does m is

  zero_keeps : (test : SnapHeld → Bool) (h : SnapHeld) (v : Moving) → Keeps v → Keeps (zero_next test h v)
  zero_keeps test h v is = if_keeps (lacks_area _ h.snap) _ _ is (if_keeps (answers h.snap.store _) _ _ is is)

  read_copy_keeps : (test : SnapHeld → Bool) (mine : Copying → Bool) (h : SnapHeld) (p : Copying) (v : Moving) → Keeps v → Keeps (read_copy test mine h p v)
  read_copy_keeps test mine h p v is = if_keeps (answers v.origin _) _ _ is is

  write_copy_keeps : (test : SnapHeld → Bool) (mine : Copying → Bool) (h : SnapHeld) (p : Copying) (v : Moving) → Keeps v → Keeps (write_copy test mine h p v)
  write_copy_keeps test mine h p v is = if_keeps (answers h.snap.store _) _ _ is is

  mark_keeps : (test : SnapHeld → Bool) (h : SnapHeld) (v : Moving) → Keeps v → Keeps (mark_invalid test h v)
  mark_keeps test h v is = if_keeps (answers h.snap.store _) _ _ is is

  flush_keeps : (test : SnapHeld → Bool) (h : SnapHeld) (v : Moving) → Keeps v → Keeps (flush_store test h v)
  flush_keeps test h v is = if_keeps h.marked _ _ is (if_keeps (answers h.snap.store _) _ _ is is)

  commit_keeps : (count : ℕ) (test : SnapHeld → Bool) (h : SnapHeld) (v : Moving) → Keeps v → Keeps (commit count test h v)
  commit_keeps count test h v is = if_keeps (answers h.snap.store _) _ _ is is

  disk_keeps : (op : Op) (first count : ℕ) (mine : Going → Bool) (v : Moving) → Keeps v → Keeps (on_disk op first count mine v)
  disk_keeps ReadOp first count mine v is = is
  disk_keeps (WriteOp bytes) first count mine v is = is
  disk_keeps FlushOp first count mine v is = is

  on_store_keeps : (op : Op) (first count : ℕ) (mine : Going → Bool) (test : SnapHeld → Bool) (h : SnapHeld) (v : Moving) → Keeps v → Keeps (on_store op first count mine test h v)
  on_store_keeps ReadOp first count mine test h v is = is
  on_store_keeps (WriteOp bytes) first count mine test h v is = is
  on_store_keeps FlushOp first count mine test h v is = is

  merging_keeps : (op : Op) (first count : ℕ) (mine : Going → Bool) (m : MergeHeld) (v : Moving) → Keeps v → group_in m ≡ ps → Keeps (on_merging op first count mine m v)
  merging_keeps ReadOp first count mine m v is same = same
  merging_keeps (WriteOp bytes) first count mine m v is same = same
  merging_keeps FlushOp first count mine m v is same = is

  place_keeps : (dev : Dev) (op : Op) (place first count : ℕ) (mine : Going → Bool) (v : Moving) → Keeps v → Keeps (on_place dev op place first count mine v)
  place_keeps ToOrigin op place first count mine v is = merge_keeps v.merge _ v is is (λ m same. merging_keeps op _ count mine m v is same)
  place_keeps (ToSnap n) op place first count mine v is = some_keeps (first_that _ v.snaps) _ v is (λ h. on_store_keeps op _ count mine _ h v is)

  flush_merging_keeps : (mine : Going → Bool) (r : Going) (m : MergeHeld) (v : Moving) → group_in m ≡ ps → Keeps (flush_merging mine r m v)
  flush_merging_keeps mine r m v same = if_keeps (answers m.merge.store _) _ _ same same

  asked_keeps : (mine : Going → Bool) (test : SnapHeld → Bool) (h : SnapHeld) (v : Moving) → Keeps v → Keeps (flush_asked mine test h v)
  asked_keeps mine test h v is = if_keeps (answers h.snap.store _) _ _ is is

  whole_keeps : (dev : Dev) (mine : Going → Bool) (r : Going) (v : Moving) → Keeps v → Keeps (on_whole dev mine r v)
  whole_keeps ToOrigin mine r v is = merge_keeps v.merge _ v is is (λ m same. flush_merging_keeps mine r m v same)
  whole_keeps (ToSnap n) mine r v is = some_keeps (first_that _ v.snaps) _ v is (λ h. asked_keeps mine _ h v is)

  issue_keeps : (route : Route) (mine : Going → Bool) (r : Going) (v : Moving) → Keeps v → Keeps (issue route mine r v)
  issue_keeps Waits mine r v is = is
  issue_keeps Origin mine r v is = disk_keeps r.request.op r.request.range.first r.request.range.count mine v is
  issue_keeps (Store place) mine r v is = place_keeps r.request.dev r.request.op place r.request.range.first r.request.range.count mine v is
  issue_keeps Whole mine r v is = whole_keeps r.request.dev mine r v is
  issue_keeps Refused mine r v is = is

  copy_keeps : (stage : Stage) (n : ℕ) (f : (SnapHeld → Bool) → (Copying → Bool) → SnapHeld → Copying → Moving → Moving) (v : Moving) → Keeps v
      → ((test : SnapHeld → Bool) (mine : Copying → Bool) (h : SnapHeld) (p : Copying) → Keeps (f test mine h p v)) → Keeps (on_copy stage n f v)
  copy_keeps stage n f v is does = some_keeps (first_that _ v.snaps) _ v is (λ h. some_keeps (first_that _ h.copies) _ v is (λ p. does _ _ h p))

  snap_keeps : (test : SnapHeld → Bool) (f : (SnapHeld → Bool) → SnapHeld → Moving → Moving) (v : Moving) → Keeps v → ((h : SnapHeld) → Keeps (f test h v)) → Keeps (on_snap test f v)
  snap_keeps test f v is does = some_keeps (first_that test v.snaps) _ v is does

  pub step_keeps : (event : Event) (v : Moving) → Keeps v → Keeps (stepped event v)
  step_keeps (WriteInvalid n) v is = snap_keeps _ mark_invalid v is (λ h. mark_keeps _ h v is)
  step_keeps (FlushStore n) v is = snap_keeps _ flush_store v is (λ h. flush_keeps _ h v is)
  step_keeps (Publish n) v is = snap_keeps _ (λ test h. publish test (λ m. m.number == n) h) v is (λ h. is)
  step_keeps (WriteArea n) v is = snap_keeps _ (λ test h. commit (batch_of h) test h) v is (λ h. commit_keeps (batch_of h) _ h v is)
  step_keeps (ZeroNext n) v is = snap_keeps _ zero_next v is (λ h. zero_keeps _ h v is)
  step_keeps (CopyWrite n) v is = copy_keeps Read n write_copy v is (λ test mine h p. write_copy_keeps test mine h p v is)
  step_keeps (CopyRead n) v is = copy_keeps Waiting n read_copy v is (λ test mine h p. read_copy_keeps test mine h p v is)
  step_keeps (Issue n) v is = some_keeps (first_that _ v.requests) _ v is (λ r. issue_keeps r.route _ r v is)
  step_keeps MergeGroup v is = is
  step_keeps MergeAreaRead v is = is
  step_keeps MergeRead v is = is
  step_keeps MergeWrite v is = is
  step_keeps MergeFlush v is = is
  step_keeps MergeCommit v is = is
  step_keeps MergeRelease v is = is

-- a merge without a group waits for no copy
none_next : (waiting reading others : List Pair) → waiting ++ (reading ++ others) ≡ [] → next_pair reading waiting ≡ None
none_next [] [] others e = refl
none_next [] (q ∷ reading) others e = absurd (cc)
none_next (p ∷ waiting) reading others e = absurd (cc)

free_waits : (v : Moving) → grouped v.merge ≡ [] → start_waiting v ≡ v
free_waits v = by v.merge
  where
    by : (o : Option MergeHeld) → grouped o ≡ [] → for_some o (λ m. start_next m.merge.chunk (next_of m) v) v ≡ v
    by None free = refl
    by (Some m) free = ap (λ q. start_next m.merge.chunk q v) (none_next m.waiting m.reading (m.copied ++ m.released) free)

publish_steps : (n : ℕ) (v : Moving) → grouped v.merge ≡ [] → stepped_all (Publish n) v ≡ stepped (Publish n) v
publish_steps n v free = by (first_that (publishes v.requests n) v.snaps) refl
  where
    by : (o : Option SnapHeld) → first_that (publishes v.requests n) v.snaps ≡ o → for_some o (λ h. start_waiting (stepped (Publish n) v)) v ≡ stepped (Publish n) v
    by None none = sym (ap (λ (o : Option SnapHeld). for_some o (λ h. publish (publishes v.requests n) (λ m. m.number == n) h v) v) none)
    by (Some h) some = free_waits (stepped (Publish n) v) (step_keeps [] (Publish n) v free)

-- an event that is none of the merge is the smaller machine's, where the merge has no group
pub beside_steps : (event : Event) (v : Moving) → grouped v.merge ≡ [] → is_of_merge event ≡ false → stepped_all event v ≡ stepped event v
beside_steps (Issue n) v free e = refl
beside_steps (CopyRead n) v free e = refl
beside_steps (CopyWrite n) v free e = refl
beside_steps (ZeroNext n) v free e = refl
beside_steps (WriteArea n) v free e = refl
beside_steps (Publish n) v free e = publish_steps n v free
beside_steps (WriteInvalid n) v free e = refl
beside_steps (FlushStore n) v free e = refl
beside_steps MergeGroup v free e = absurd (true≢false e)
beside_steps MergeAreaRead v free e = absurd (true≢false e)
beside_steps MergeRead v free e = absurd (true≢false e)
beside_steps MergeWrite v free e = absurd (true≢false e)
beside_steps MergeFlush v free e = absurd (true≢false e)
beside_steps MergeCommit v free e = absurd (true≢false e)
beside_steps MergeRelease v free e = absurd (true≢false e)

one_merges : (b : Bool) (mine event : Event) (others : Option Event) → is_of_merge mine ≡ true → (others ≡ Some event → is_of_merge event ≡ true) → one_of b mine others ≡ Some event → is_of_merge event ≡ true
one_merges true mine event others is rest e = (let same : mine ≡ event = cc in ap is_of_merge (sym same) ∙ is)
one_merges false mine event others is rest e = rest e

merge_merges : (sectors : ℕ) (snaps : List SnapHeld) (rs : List Going) (m : Option MergeHeld) (event : Event) → merge_due sectors snaps rs m ≡ Some event → is_of_merge event ≡ true
merge_merges sectors snaps rs None event e = absurd (cc)
merge_merges sectors snaps rs (Some m) event e =
    one_merges (can_release rs m) MergeRelease event _ refl
    (one_merges (can_commit_group m) MergeCommit event _ refl
    (one_merges (can_flush m) MergeFlush event _ refl
    (one_merges (can_write sectors snaps m) MergeWrite event _ refl
    (one_merges (can_read rs m) MergeRead event _ refl
    (one_merges (can_read_area m) MergeAreaRead event _ refl
    (one_merges (can_group m) MergeGroup event None refl (λ none. absurd (cc)))))))) e

-- it is due of snapshots and requests
pub beside_due : (event : Event) (v : Moving) → due_all v ≡ Some event → is_of_merge event ≡ false → due v ≡ Some event
beside_due event v e beside = by (due v) e
  where
    by : (o : Option Event) → due_or o (merge_due (sectors_of v.origin) v.snaps v.requests v.merge) ≡ Some event → o ≡ Some event
    by None is = absurd (true≢false (sym (merge_merges (sectors_of v.origin) v.snaps v.requests v.merge event is) ∙ beside))
    by (Some other) is = is

module _ {B : Type 0} (contents : B → List ℕ) (layers : B → List Layer) where
  -- a merge without a group
  pub freed : (m : Option (Merging B)) → has_group_in m ≡ false → grouped (held_in (merge_seen contents layers m)) ≡ []
  freed None e = refl
  freed (Some m) e = ap (λ (g : Option Group). grouped (held_in (merge_seen contents layers (Some (record m { group = g }))))) (no_group m.group e)

  has_none : (xs : List Pair) → xs ≡ [] → not (is_none xs) ≡ false
  has_none xs e = ap (λ (ys : List Pair). not (is_none ys)) e

  pub free_seen : (m : Option (Merging B)) → grouped (held_in (merge_seen contents layers m)) ≡ [] → ((g : Merging B) → m ≡ Some g → has_group_of g.group ≡ has_group (merging_books contents true g)) → has_group_in m ≡ false
  free_seen None e seen = refl
  free_seen (Some m) e seen = seen m refl ∙ has_none _ e
