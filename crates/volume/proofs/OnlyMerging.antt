-- Where no request is in flight and no snapshot is there beside the one that is being merged, the event of the merge that is due
-- is due first: at most one is due, by how far the group is.
use Rattle.std.proofs.Common.{◌≡◌, ℕ, zero, suc, ◌-◌, Bool, true, false, List, [], Option, Some, None, map, refl, sym, ap, ◌∙◌, arith}
use Rattle.std.specs.Prelude.{◌==◌, ◌&&◌, not, nat_lt, if◌then◌else◌}
use Rattle.std.proofs.lemmas.Bool.{false≢true}
use Rattle.sector.specs.declared.pair.Pair.{Pair}
use Rattle.device.specs.Layers.{Layer}
use Rattle.plain_machine.specs.declared.event.Event.{Event}
use Rattle.plain_machine.specs.declared.event.Event.TheVariants.{Issue, CopyRead, CopyWrite, ZeroNext, WriteArea, Publish, WriteInvalid, FlushStore, MergeGroup, MergeAreaRead, MergeRead, MergeWrite, MergeFlush, MergeCommit, MergeRelease}
use Rattle.plain_machine.specs.declared.request.Reply.{Reply}
use Rattle.in_flight.specs.declared.flights.Flight.{Flight}
use Rattle.store.specs.Grouping.{shifted}
use Rattle.volume_laws.specs.Due.{due_of}
use Rattle.volume_laws.specs.MergeDue.{DueMerge, is_none, is_readable, is_writable, can_group, can_read_area, can_read, can_write, can_flush, can_commit_group, can_release, one_of, is_due_with, merge_due as due_of_merge}
use Rattle.event_machine.specs.MergeDue.{due_all}
use Rattle.snapshot.specs.Kept.{Kept, due_of_kept, books_of as snap_books}
use Rattle.merge.specs.declared.group.Group.{Group}
use Rattle.merge.specs.declared.group.Progress.{Progress}
use Rattle.merge.specs.declared.group.Progress.TheVariants.{Open, Full, Flushed, Committed}
use Rattle.merge.specs.Due.{has_group_of, can_group_of, can_read_area_of, last_in, read_at_progress, next_read_of, full_at, full_of, flush_at, can_flush_of, commit_at, can_commit_of, release_at, can_release_of}
use Rattle.merge.specs.Looks.{LooksAgree, option_pairs}
use Rattle.merge.specs.Lists.{released_of}
use Rattle.merge.specs.Merging.{Merging, books_of as merging_books, due_of as merging_due}
use Rattle.volume.specs.EventKinds.{is_of_merge}
use Rattle.volume.specs.Moved.{moving_of}
use Rattle.volume.specs.Volumed.{Volumed, dues_of, is_due_of, next_of}
use Rattle.volume.specs.Whole.{IsWhole}
use Rattle.volume.proofs.MergeDue.{due_all_is, next_merge}
use Rattle.volume.proofs.MergeDues.{due_beside}

-- the first of the seven events that is due, by which of them are
abbrev lead : Bool → Bool → Bool → Bool → Bool → Bool → Bool → Option Event
lead release commit flush write read area group =
    one_of release MergeRelease (one_of commit MergeCommit (one_of flush MergeFlush (one_of write MergeWrite (one_of read MergeRead (one_of area MergeAreaRead (one_of group MergeGroup None))))))

-- one that is due is due first
record IsAlone (release commit flush write read area group : Bool) : Type 0 where
  ends : release ≡ true → lead release commit flush write read area group ≡ Some MergeRelease
  commits : commit ≡ true → lead release commit flush write read area group ≡ Some MergeCommit
  flushes : flush ≡ true → lead release commit flush write read area group ≡ Some MergeFlush
  writes : write ≡ true → lead release commit flush write read area group ≡ Some MergeWrite
  reads : read ≡ true → lead release commit flush write read area group ≡ Some MergeRead
  goes_back : area ≡ true → lead release commit flush write read area group ≡ Some MergeAreaRead
  groups : group ≡ true → lead release commit flush write read area group ≡ Some MergeGroup

never : {A : Type 0} → false ≡ true → A
never x = absurd (false≢true x)

-- a group ends
only_release : (b : Bool) → IsAlone b false false false false false false
only_release b = record { ends = λ x. ap (λ y. lead y false false false false false false) x; commits = never; flushes = never; writes = never; reads = never; goes_back = never; groups = never }

only_commit : (b : Bool) → IsAlone false b false false false false false
only_commit b = record { ends = never; commits = λ x. ap (λ y. lead false y false false false false false) x; flushes = never; writes = never; reads = never; goes_back = never; groups = never }

only_write : (b : Bool) → IsAlone false false false b false false false
only_write b = record { ends = never; commits = never; flushes = never; writes = λ x. ap (λ y. lead false false false y false false false) x; reads = never; goes_back = never; groups = never }

-- a pair waits, or none
flush_or_read : (flush read : Bool) → (read ≡ true → flush ≡ false) → IsAlone false false flush false read false false
flush_or_read flush read apart = record {
  ends = never;
  commits = never;
  flushes = λ x. ap (λ y. lead false false y false read false false) x;
  writes = never;
  reads = λ x. ap (λ y. lead false false y false read false false) (apart x) ∙ ap (λ y. lead false false false false y false false) x;
  goes_back = never;
  groups = never;
}

-- no group is formed: the area has pairs, or none
area_or_group : (area group : Bool) → (group ≡ true → area ≡ false) → IsAlone false false false false false area group
area_or_group area group apart = record {
  ends = never;
  commits = never;
  flushes = never;
  writes = never;
  reads = never;
  goes_back = λ x. ap (λ y. lead false false false false false y group) x;
  groups = λ x. ap (λ y. lead false false false false false y group) (apart x) ∙ ap (λ y. lead false false false false false false y) x;
}

and_false : (b : Bool) → (b && false) ≡ false
and_false true = refl
and_false false = refl

and_true : (b : Bool) → (b && true) ≡ b
and_true true = refl
and_true false = refl

unread_at : (n : ℕ) (q : Pair) → is_readable [] (if nat_lt 0 n then Some q else None) ≡ true → (n == 0) ≡ false
unread_at zero q x = never x
unread_at (suc n) q x = (let e : (suc n == 0) ≡ false = grind arith in e)

full_area : (failed : Bool) (filled current : ℕ) → (not failed && nat_lt 0 filled) ≡ true → (not failed && ((filled == 0) && nat_lt 0 current)) ≡ false
full_area true filled current x = refl
full_area false zero current x = never x
full_area false (suc n) current x = (let e : (suc n == 0) ≡ false = grind arith in ap (λ b. b && nat_lt 0 current) e)

alone_at : (p : Progress) (g : Group) (chunk origin : ℕ) (area group : Bool) → area ≡ false → group ≡ false
    → IsAlone (release_at p) (commit_at p) (flush_at p g) (is_writable [] chunk origin (option_pairs (full_at p g))) (is_readable [] (read_at_progress p g)) area group
alone_at Open g chunk origin area group no_area no_group = rw (no_area, no_group) (flush_or_read (g.waiting == 0) (is_readable [] (last_in g)) (unread_at g.waiting (shifted g.first (g.waiting - 1))))
alone_at Full g chunk origin area group no_area no_group = rw (no_area, no_group) (only_write (is_writable [] chunk origin (option_pairs (full_at Full g))))
alone_at Flushed g chunk origin area group no_area no_group = rw (no_area, no_group) (only_commit true)
alone_at Committed g chunk origin area group no_area no_group = rw (no_area, no_group) (only_release true)

-- by how far the group is
alone_of : (o : Option Group) (failed : Bool) (filled current chunk origin : ℕ)
    → IsAlone (can_release_of o) (can_commit_of o) (can_flush_of o) (is_writable [] chunk origin (option_pairs (full_of o))) (is_readable [] (next_read_of o))
    (not failed && (not (has_group_of o) && ((filled == 0) && nat_lt 0 current))) (not failed && (not (has_group_of o) && nat_lt 0 filled))
alone_of None failed filled current chunk origin = area_or_group (not failed && ((filled == 0) && nat_lt 0 current)) (not failed && nat_lt 0 filled) (full_area failed filled current)
alone_of (Some g) failed filled current chunk origin = alone_at g.progress g chunk origin (not failed && false) (not failed && false) (and_false (not failed)) (and_false (not failed))

moved : (r c f w d a g r2 c2 f2 w2 d2 a2 g2 : Bool) → r ≡ r2 → c ≡ c2 → f ≡ f2 → w ≡ w2 → d ≡ d2 → a ≡ a2 → g ≡ g2 → IsAlone r2 c2 f2 w2 d2 a2 g2 → IsAlone r c f w d a g
moved r c f w d a g r2 c2 f2 w2 d2 a2 g2 er ec ef ew ed ea eg h = rw (er, ec, ef, ew, ed, ea, eg) h

first_of : (d : DueMerge) → IsAlone (can_release [] d.books) (can_commit_group d) (can_flush d) (can_write [] d.books) (can_read [] d.books) (can_read_area d) (can_group d)
    → (event : Event) → is_of_merge event ≡ true → is_due_with [] [] d event ≡ true → due_of_merge [] [] d ≡ Some event
first_of d h MergeRelease is due = h.ends due
first_of d h MergeCommit is due = h.commits due
first_of d h MergeFlush is due = h.flushes due
first_of d h MergeWrite is due = h.writes due
first_of d h MergeRead is due = h.reads due
first_of d h MergeAreaRead is due = h.goes_back due
first_of d h MergeGroup is due = h.groups due
first_of d h (Issue n) is due = never is
first_of d h (CopyRead n) is due = never is
first_of d h (CopyWrite n) is due = never is
first_of d h (ZeroNext n) is due = never is
first_of d h (WriteArea n) is due = never is
first_of d h (Publish n) is due = never is
first_of d h (WriteInvalid n) is due = never is
first_of d h (FlushStore n) is due = never is

module _ {B : Type 0} (contents : B → List ℕ) (layers : B → List Layer) where
  alone_in : (m : Merging B) → LooksAgree contents true m
      → IsAlone (can_release [] (merging_books contents true m)) (can_commit_group (merging_due contents true m)) (can_flush (merging_due contents true m)) (can_write [] (merging_books contents true m)) (can_read [] (merging_books contents true m))
      (can_read_area (merging_due contents true m)) (can_group (merging_due contents true m))
  alone_in m looks =
      moved _ _ _ _ _ _ _ (can_release_of m.group) (can_commit_of m.group) (can_flush_of m.group) (is_writable [] m.state.chunk m.state.origin (option_pairs (full_of m.group))) (is_readable [] (next_read_of m.group)) (can_read_area_of m) (can_group_of m)
      (and_true (not (is_none (released_of m.group))) ∙ sym looks.release) (sym looks.commit) (sym looks.flush) (looks.write []) (looks.read []) (sym looks.area) (sym looks.group)
      (alone_of m.group m.failed m.state.filled m.state.current m.state.chunk m.state.origin)

  module _ (v : Volumed B) (m : Merging B) (was : v.merge ≡ Some m) (looks : LooksAgree contents true m) (alone : v.snaps ≡ []) (none : v.flights ≡ []) where
    pub only_next : (event : Event) → is_of_merge event ≡ true → is_due_of contents layers v event ≡ true → next_of contents layers v ≡ Some event
    only_next event merges due =
        let d : DueMerge = merging_due contents true m in
        let beside : is_due_with [] [] d event ≡ true =
        sym (due_beside contents layers v m was event ∙ ap (λ (ss : List (Kept B)). is_due_with (map (due_of_kept contents layers) ss) v.flights d event) alone ∙ ap (λ (fs : List Flight). is_due_with [] fs d event) none) ∙ due in
        let quiet : due_of (dues_of contents layers v) v.flights ≡ None =
        ap (λ (ss : List (Kept B)). due_of (map (due_of_kept contents layers) ss) v.flights) alone ∙ ap (λ (fs : List Flight). due_of [] fs) none in
        next_merge contents layers v m was quiet
        ∙ ap (λ (ss : List (Kept B)). due_of_merge (map (snap_books contents layers) ss) v.flights d) alone
        ∙ ap (λ (fs : List Flight). due_of_merge [] fs d) none
        ∙ first_of d (alone_in m looks) event merges beside

    pub only_due : (size : B → ℕ) → IsWhole contents layers size v → (event : Event) → is_of_merge event ≡ true → is_due_of contents layers v event ≡ true → (replied : Option Reply) → due_all (moving_of contents layers replied v) ≡ Some event
    only_due size h event merges due replied = due_all_is contents layers size v h replied ∙ only_next event merges due
